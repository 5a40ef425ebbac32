use Rattle.std.proofs.Common.{rules, ap, sym, ◌∙◌, Some, ◌∷◌}
use Rattle.atomic_table.specs.Table.{rest}
use Rattle.dp_desk.proofs.Keeps.{takes_turn}
use Rattle.dp_desk.proofs.desk.Desk.take.Goals as goal

pub swap-found-requires : goal.swap-found-requires
swap-found-requires g c = (
  search rules,
  search rules,
  takes_turn _ _ _ _ (ap (λ m. m.1) c.loop.invariant.1 ∙ c.requires.empty),
)

pub exchange-requires : goal.exchange-requires
exchange-requires g c =
    let t = c.swap-found.ensures.2.0 c.if-found-eq0.true in
    let e = ap (λ m. m.1) t.1 in
    (search rules, (Some t.0, e ∙ ap (λ l. (0, Some t.0) ∷ rest l) (sym e)))
