use Rattle.dp_actions.proofs.Layers.{run-Chain}
use Rattle.dp_actions.proofs.integers.integer.Goals as goal

pub returns-in-Chain : goal.returns-in-Chain
returns-in-Chain c = rw (c.in-Chain.is, run-Chain) (rw (c.as_ref.ensures, c.as_slice.ensures) at c.joined.ensures)
