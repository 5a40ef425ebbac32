use Rattle.std.proofs.Common.{◌++◌, ◌∷◌, [], List, sym, ap, subst, ◌∙◌, arith}
use Rattle.dp_registry.specs.declared.entry.Entry.{Entry}
use Rattle.dp_registry.specs.Legal.{IsFit}
use Rattle.dp_registry.specs.Verdicts.{is_full}
use Rattle.dp_registry.specs.inner.Kept.{IsKept}
use Rattle.dp_registry.proofs.JournalLaws.{kept_idle}
use Rattle.dp_registry.proofs.registry.Registry.note.Goals as goal

pub invariant_of-self-2 : goal.invariant_of-self-2
invariant_of-self-2 c =
    let old = c.self.inside in
    let j = old.journal.items in
    let e = c.args.entry in
    let items = c.push_reserved.ensures.items ∙ ap (λ (es : List Entry). es ++ e ∷ []) c.reserve.ensures.items in
    let fit = subst (λ (js : List Entry). IsFit js e) (sym c.self.view_is) c.requires.fit in
    let free = ap is_full c.self.view_is ∙ c.requires.room in
    let kept = kept_idle j old.held old.under old.admissions.items old.living c.self.invariant.0 e fit
    c.requires.idle free in (
      subst (λ (js : List Entry). IsKept js old.held old.under old.admissions.items old.living) (sym items) kept,
      omega (arith, c.push_reserved.ensures.len, c.push_reserved.ensures.capacity, c.in_ok-reserve.ensures.ok),
    )
