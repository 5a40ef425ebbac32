use Rattle.std.proofs.Common.{rules, ap, sym, ◌∙◌, None, Some, ◌∷◌}
use Rattle.atomic_table.specs.Table.{rest}
use Rattle.dp_polled.specs.Posts.{Known}
use Rattle.dp_polled.proofs.Keeps.{asks_to_put, counts_put}
use Rattle.dp_polled.proofs.post.Post.put.Goals as goal

pub load-found-requires : goal.load-found-requires
load-found-requires c = (
  search rules,
  search rules,
  asks_to_put _ _ _ c.seat.invariant.0
      (ap (λ (k : Known). k.may_put) c.seat.view_is ∙ c.requires.right) c.seat.invariant.1,
)

pub exchange-requires : goal.exchange-requires
exchange-requires c =
    let e = ap (λ m. m.1) (c.load-found.ensures.2.0 c.if-found-eq0.true) in
    (search rules, (None, e ∙ ap (λ l. (0, None) ∷ rest l) (sym e)))

pub store-requires : goal.store-requires
store-requires c =
    let asked = c.load-found.ensures.2.0 c.if-found-eq0.true in
    let x = c.exchange.ensures.3 in
    let same = ap (λ m. m.0) x ∙ ap (λ m. m.0) asked in (
      search rules,
      search rules,
      counts_put _ _ _ c.args.piece c.self.invariant.1
          (ap (λ m. m.1) x ∙ ap (λ l. (0, Some c.args.piece) ∷ rest l) (ap (λ m. m.1) asked))
          (ap (λ v. v.may_put) same ∙ ap (λ (k : Known). k.may_put) c.seat.view_is ∙ c.requires.right)
          (ap (λ v. v.putting) same),
    )
