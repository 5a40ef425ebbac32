use Rattle.std.proofs.Common.{rules, ◌∷◌, ◌++◌, [], Some, ap, sym, ◌∙◌, subst}
use Rattle.atomic_table.specs.Table.{rest}
use Rattle.dp_desk.specs.Turns.{CanHold, carried}
use Rattle.dp_desk.proofs.Keeps.{counts, puts_back}
use Rattle.dp_desk.proofs.desk.Desk.count.Goals as goal

pub fetch_add-requires : goal.fetch_add-requires
fetch_add-requires g c =
    let x = c.exchange.ensures.3 in
    let e = c.requires.longer.0 in
    let same = ap (λ m. m.0) x in (
      search rules,
      search rules,
      counts _ _ _ _ c.args.held e
          (ap (λ m. m.1) x ∙ ap (λ l. (0, Some c.args.held) ∷ rest l) c.requires.turn.0)
          (ap (λ v. v.turn) same ∙ c.requires.turn.1)
          (c.requires.longer.1 ∙ ap (λ v. v.seen ++ e ∷ []) (sym same))
          c.requires.legal
          (subst (λ v. CanHold e v.held) (sym same) c.requires.longer.2),
    )

pub store-requires : goal.store-requires
store-requires g c =
    let x = c.exchange.ensures.3 in
    let before = ap (λ m. m.1) x ∙ ap (λ l. (0, Some c.args.held) ∷ rest l) c.requires.turn.0 in
    let n = c.fetch_add.ensures.2 in (
      search rules,
      search rules,
      puts_back _ _ _ _ c.args.held c.self.invariant.1 (ap (λ m. m.1) n ∙ before) (ap (λ m. m.0.turn) n)
          (sym (ap (λ m. m.0.seen) n ∙ ap (carried _) before)),
    )
