use Rattle.dp_actions.proofs.AtOnceLaws.{breaks_off, exits, gives, goes_on}
use Rattle.dp_actions.proofs.places.assign_keyed.Goals as goal

pub returns-in_err-write_keyed : goal.returns-in_err-write_keyed
returns-in_err-write_keyed c =
    exits _ _ c.from_residual-in_err-write_keyed.ensures.1 (breaks_off _ c.in_err-write_keyed.ensures)

pub returns : goal.returns
returns c = goes_on _ c.in_ok-write_keyed.ensures (rw c.in_ok-copy.ensures gives)
