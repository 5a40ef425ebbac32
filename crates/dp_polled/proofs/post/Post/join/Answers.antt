use Rattle.std.proofs.Common.{rules, ap, ◌∙◌}
use Rattle.dp_polled.specs.Posts.{Known}
use Rattle.dp_polled.proofs.Keeps.{joins}
use Rattle.dp_polled.proofs.post.Post.join.Goals as goal

pub join_seat-requires : goal.join_seat-requires
join_seat-requires c = (
  search rules,
  search rules,
  c.seat.invariant.0,
  search rules,
  joins _ _ _ _ (ap (λ (k : Known). k.may_put) c.seat.view_is ∙ c.requires.put),
)
