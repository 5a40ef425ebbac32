use Rattle.std.proofs.Common.{rules}
use Rattle.dp_desk.proofs.Keeps.{joins, looks}
use Rattle.dp_desk.proofs.desk.Desk.give_back.Goals as goal

pub join_seat-requires : goal.join_seat-requires
join_seat-requires g c = (search rules, search rules, c.clerk.invariant.0, search rules, joins _ _ _ _ _)

pub load-requires : goal.load-requires
load-requires g c = (search rules, search rules, looks _ _ _ _)
