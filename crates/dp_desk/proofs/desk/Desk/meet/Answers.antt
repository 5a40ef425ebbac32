use Rattle.std.proofs.Common.{rules}
use Rattle.dp_desk.proofs.Keeps.{splits, joins, looks}
use Rattle.dp_desk.proofs.desk.Desk.meet.Goals as goal

pub split_seat-copy-requires : goal.split_seat-copy-requires
split_seat-copy-requires g c = (search rules, search rules, splits _ _ _)

pub join_seat-requires : goal.join_seat-requires
join_seat-requires g c = (search rules, search rules, search rules, search rules, joins _ _ _ _ _)

pub load-requires : goal.load-requires
load-requires g c = (search rules, search rules, looks _ _ _ _)
