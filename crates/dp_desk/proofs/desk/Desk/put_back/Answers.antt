use Rattle.std.proofs.Common.{rules, ◌∷◌, Some, ap, sym, ◌∙◌}
use Rattle.atomic_table.specs.Table.{rest}
use Rattle.dp_desk.proofs.Keeps.{puts_back}
use Rattle.dp_desk.proofs.desk.Desk.put_back.Goals as goal

pub store-requires : goal.store-requires
store-requires g c =
    let x = c.exchange.ensures.3 in
    let same = ap (λ m. m.0) x in (
      search rules,
      search rules,
      puts_back _ _ _ _ c.args.held c.self.invariant.1
          (ap (λ m. m.1) x ∙ ap (λ l. (0, Some c.args.held) ∷ rest l) c.requires.turn.0)
          (ap (λ v. v.turn) same ∙ c.requires.turn.1) (c.requires.same ∙ ap (λ v. v.seen) (sym same)),
    )
