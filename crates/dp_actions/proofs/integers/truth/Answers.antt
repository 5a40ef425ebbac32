use Rattle.dp_actions.proofs.AtOnceLaws.{gives, goes_on}
use Rattle.dp_actions.proofs.Layers.{run-Bool, run-Chain}
use Rattle.dp_actions.proofs.integers.truth.Goals as goal

pub returns-in-Bool : goal.returns-in-Bool
returns-in-Bool c = λ setting. rw (c.in-Bool.is, run-Bool) (goes_on _ gives gives)

pub returns-in-Chain : goal.returns-in-Chain
returns-in-Chain c = rw (c.in-Chain.is, run-Chain) (rw (c.as_ref.ensures, c.as_slice.ensures) at c.compared.ensures)
