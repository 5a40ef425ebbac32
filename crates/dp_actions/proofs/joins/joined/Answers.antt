use Rattle.dp_actions.proofs.joins.joined.Goals as goal

pub returns : goal.returns
returns c = rw (c.as_slice.ensures, c.in_ok-piece.ensures) at c.joined_with.ensures
