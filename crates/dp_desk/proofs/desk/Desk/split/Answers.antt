use Rattle.std.proofs.Common.{rules}
use Rattle.dp_desk.proofs.Keeps.{splits}
use Rattle.dp_desk.proofs.desk.Desk.split.Goals as goal

pub split_seat-requires : goal.split_seat-requires
split_seat-requires g c = (search rules, search rules, splits _ _ _)
