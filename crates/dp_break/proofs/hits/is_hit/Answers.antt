use Rattle.std.proofs.Common.{sym, ◌∙◌}
use Rattle.dp_break.proofs.Requests.{pure_held}
use Rattle.dp_break.proofs.hits.is_hit.Goals as goal

pub is_true-requires : goal.is_true-requires
is_true-requires c = pure_held c.args.breakpoint.now.expression c.in-Some.e (sym c.requires.tree ∙ c.in-Some.is)
