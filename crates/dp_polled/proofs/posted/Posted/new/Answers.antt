use Rattle.dp_polled.proofs.Giving.{keeps_none}
use Rattle.dp_polled.proofs.posted.Posted.new.Goals as goal

pub invariant_of-result : goal.invariant_of-result
invariant_of-result g c = (c.requires.post, c.requires.right, keeps_none c.args.seat.taken _ c.new-2.ensures)
