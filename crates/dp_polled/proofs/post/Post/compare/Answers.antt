use Rattle.std.proofs.Common.{rules}
use Rattle.dp_polled.proofs.Keeps.{compares}
use Rattle.dp_polled.proofs.post.Post.compare.Goals as goal

pub load-requires : goal.load-requires
load-requires c = (search rules, search rules, compares _ _ _)
