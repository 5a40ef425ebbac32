use Rattle.std.proofs.Common.{rules, ap, sym, ◌∙◌, None, Some, ◌∷◌}
use Rattle.atomic_table.specs.Table.{rest}
use Rattle.dp_polled.specs.Posts.{Known}
use Rattle.dp_polled.proofs.Keeps.{asks_to_take, counts_taken}
use Rattle.dp_polled.proofs.post.Post.take.Goals as goal

pub load-found-requires : goal.load-found-requires
load-found-requires c = (
  search rules,
  search rules,
  asks_to_take _ _ _ c.seat.invariant.0
      (ap (λ (k : Known). k.may_take) c.seat.view_is ∙ c.requires.right) c.seat.invariant.2,
)

pub exchange-piece-requires : goal.exchange-piece-requires
exchange-piece-requires c =
    let asked = c.load-found.ensures.2.0 c.if-found-eq0.false in
    let e = ap (λ m. m.1) asked.1 in
    (search rules, (Some asked.0, e ∙ ap (λ l. (0, Some asked.0) ∷ rest l) (sym e)))

pub store-requires : goal.store-requires
store-requires c =
    let asked = c.load-found.ensures.2.0 c.if-found-eq0.false in
    let x = c.exchange-piece.ensures.3 in
    let same = ap (λ m. m.0) x ∙ ap (λ m. m.0) asked.1 in (
      search rules,
      search rules,
      counts_taken _ _ _ c.self.invariant.1
          (ap (λ m. m.1) x ∙ ap (λ l. (0, None) ∷ rest l) (ap (λ m. m.1) asked.1))
          (ap (λ v. v.may_take) same ∙ ap (λ (k : Known). k.may_take) c.seat.view_is ∙ c.requires.right)
          (ap (λ v. v.taking) same),
    )
