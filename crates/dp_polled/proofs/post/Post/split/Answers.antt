use Rattle.std.proofs.Common.{rules, ap, ◌∙◌}
use Rattle.dp_polled.specs.Posts.{Known}
use Rattle.dp_polled.proofs.Keeps.{parts}
use Rattle.dp_polled.proofs.post.Post.split.Goals as goal

pub split_seat-requires : goal.split_seat-requires
split_seat-requires c = (
  search rules,
  search rules,
  parts _ _ (ap (λ (k : Known). k.may_put) c.seat.view_is ∙ c.requires.whole.may_put),
)
