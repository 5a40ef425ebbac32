use Rattle.std.proofs.Common.{◌≡◌, ◌++◌, ◌∷◌, [], ℕ, List, length, Some, if◌then◌else◌, rules, sym, ap, subst, ◌∙◌}
use Rattle.std.proofs.Common.{arith}
use Rattle.std.specs.Str.{bytes_eq}
use Rattle.dp_registry.specs.declared.entry.Entry.{Entry}
use Rattle.dp_registry.specs.declared.entry.Entry.TheVariants.{Register}
use Rattle.dp_registry.specs.Legal.{IsFit}
use Rattle.dp_registry.specs.Verdicts.{is_full}
use Rattle.dp_registry.specs.inner.Kept.{IsKept}
use Rattle.dp_registry.specs.inner.Tables.{place_of}
use Rattle.dp_registry.proofs.JournalLaws.{kept_held}
use Rattle.dp_registry.proofs.registry.Registry.hold.Goals as goal

pub invariant_of-self-2 : goal.invariant_of-self-2
invariant_of-self-2 c =
    let old = c.self.inside in
    let j = old.journal.items in
    let k = c.args.key in
    let e : Entry = Register c.args.host c.args.port k c.args.multiple 0 in
    let items = c.push_reserved.ensures.items ∙ ap (λ (es : List Entry). es ++ e ∷ []) c.reserve.ensures.items in
    let fit = subst (λ (js : List Entry). IsFit js e) (sym c.self.view_is) c.requires.fit in
    let free = ap is_full c.self.view_is ∙ c.requires.room in
    let at : c.len-at.result ≡ length j = search rules in
    let moved : (other : List ℕ) → place_of c.set.new.self other ≡ (if bytes_eq k other then Some
    (length j) else place_of old.held other) = λ other.
    c.in_ok-set.ensures.ok other
    ∙ ap (λ (x : List ℕ). if bytes_eq x other then Some c.len-at.result else place_of old.held other)
    c.in_ok-again.ensures
    ∙ ap (λ (n : ℕ). if bytes_eq k other then Some n else place_of old.held other) at in
    let kept = kept_held j old.held old.under old.admissions.items old.living c.self.invariant.0 c.args.host
    c.args.port k c.args.multiple c.set.new.self fit free moved in (
      subst (λ (js : List Entry). IsKept js c.set.new.self old.under old.admissions.items old.living) (sym items) kept,
      omega (arith, c.push_reserved.ensures.len, c.push_reserved.ensures.capacity, c.in_ok-reserve.ensures.ok),
    )
