use Rattle.std.proofs.Common.{◌≡◌, ◌-◌, ◌<◌, ◌≤◌, ℕ, List, length, slice_get, Some, Contains, sym, subst, arith}
use Rattle.dp_registry.specs.declared.entry.Entry.{Entry}
use Rattle.dp_registry.specs.Journal.{live}
use Rattle.dp_registry.specs.inner.Kept.{IsKept, admitted_key}
use Rattle.dp_registry.proofs.JournalLaws.{dismissed_number, dismissed_at, one_live, kept_dismissed}
use Rattle.dp_registry.proofs.registry.Registry.dismiss.Goals as goal

pub place_at-at-requires : goal.place_at-at-requires
place_at-at-requires c =
    let old = c.self.inside in
    let t = c.args.pass.session in
    let is = subst (λ (js : List Entry). Contains (live js) t) (sym c.self.view_is) c.requires in
    subst (λ (ns : List ℕ). (1 ≤ t) × (t - 1 < length ns)) (sym c.as_slice.ensures.value)
    (dismissed_number old.journal.items old.held old.under old.admissions.items old.living c.self.invariant.0 t is)

pub end_session-requires : goal.end_session-requires
end_session-requires c =
    let old = c.self.inside in
    let t = c.args.pass.session in
    let at = c.place_at-at.result in
    let is = subst (λ (js : List Entry). Contains (live js) t) (sym c.self.view_is) c.requires in
    let there = subst (λ (ns : List ℕ). slice_get ns
    (t - 1) ≡ Some at) c.as_slice.ensures.value c.place_at-at.ensures in
    let found = dismissed_at old.journal.items old.held old.under old.admissions.items old.living c.self.invariant.0
    t is at there in
    subst (λ (js : List Entry). at < length js) (sym c.as_slice-2.ensures.value) found.3

pub invariant_of-self : goal.invariant_of-self
invariant_of-self c =
    let old = c.self.inside in
    let j = old.journal.items in
    let t = c.args.pass.session in
    let at = c.place_at-at.result in
    let is = subst (λ (js : List Entry). Contains (live js) t) (sym c.self.view_is) c.requires in
    let there = subst (λ (ns : List ℕ). slice_get ns
    (t - 1) ≡ Some at) c.as_slice.ensures.value c.place_at-at.ensures in
    let found = dismissed_at j old.held old.under old.admissions.items old.living c.self.invariant.0 t is at there in
    let some = one_live j old.held old.under old.admissions.items old.living c.self.invariant.0 t is in
    let gone = c.end_session.ensures found.0 (subst (λ (js : List Entry). admitted_key
    (slice_get js at) ≡ Some found.0) (sym c.as_slice-2.ensures.value) found.2) in
    let kept = kept_dismissed j old.held old.under old.admissions.items old.living c.self.invariant.0 t is found.0
    found.1 c.end_session.new.under (old.living - 1) (omega arith) gone in
    let room = c.self.invariant.1 in (
      subst (λ (js : List Entry). IsKept js old.held c.end_session.new.under old.admissions.items (old.living - 1))
          (sym c.push_reserved.ensures.items) kept,
      omega (arith, c.push_reserved.ensures.len, c.push_reserved.ensures.capacity),
    )
