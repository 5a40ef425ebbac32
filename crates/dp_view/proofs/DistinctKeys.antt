-- The keys of arrays that are shown are distinct.
use Rattle.std.proofs.Common.{◌≡◌, ◌≢◌, ℕ, zero, suc, ◌+◌, ◌-◌, ◌*◌, ◌<◌, ◌≤◌, min, Bool, true, false, List, [], length, Some, None, nat_lt, slice_get, OnOk, below_more, refl, sym, subst, arith}
use Rattle.std.specs.Prelude.{Result, Ok, Err}
use Rattle.std.specs.List.{IsDistinct}
use Rattle.std.proofs.lemmas.Bool.{ltb-false, ltb-true}
use Rattle.std.proofs.lemmas.Option.{slice_get_past, slice_get_within}
use Rattle.dp_value.specs.declared.key.Key.{Key}
use Rattle.dp_value.specs.declared.value.Value.TheVariants.{Array}
use Rattle.dp_value.specs.inner.Codes.{pairs_of-entries_of}
use Rattle.dp_value.specs.Data.{Data, Table}
use Rattle.dp_value.specs.Key.{key_eq}
use Rattle.dp_value.specs.Table.{IsTable, keys_of}
use Rattle.dp_value.specs.Value.{data_of}
use Rattle.dp_state.specs.Variables.{Variables}
use Rattle.dp_view.specs.declared.paging.Paging.{Paging}
use Rattle.dp_view.specs.inner.Keyed.{AreKeyed, HoldsOn, HoldsWithin, IsKeyed, VariableIsKeyed, VariablesAreKeyed, pairs_in}

-- what holds so far, and of one more
pub within_more : (P : Data → Type 0) (pairs : List (Key × Data)) (start at : ℕ) → HoldsWithin P pairs start at
    → HoldsWithin P pairs at (at + 1) → HoldsWithin P pairs start (at + 1)
within_more P pairs start at before here = λ k e low high there.
    by k e low high there (nat_lt k at) refl where
      by : (k : ℕ) (e : Key × Data) → start ≤ k → k < at + 1 → slice_get pairs k ≡ Some e → (b : Bool) → nat_lt k at ≡ b
          → P e.1
      by k e low high there true is = before k e low (ltb-true k at is) there
      by k e low high there false is = here k e (ltb-false k at is) high there

pub within_less : (P : Data → Type 0) (pairs : List (Key × Data)) (start end at : ℕ) → end ≤ at
    → HoldsWithin P pairs start at → HoldsWithin P pairs start end
within_less P pairs start end at le all = λ k e low high there. all k e low (omega arith) there

pub on_page : (size page levels : ℕ) (pairs : List (Key × Data)) (start end : ℕ) → levels ≢ 0
    → start ≡ min (page * size) (length pairs) → end ≡ min (start + size) (length pairs)
    → HoldsWithin (IsKeyed size 0 (levels - 1)) pairs start end → AreKeyed size page levels pairs
on_page size page zero pairs start end some s e all = tt
on_page size page (suc levels) pairs start end some s e all = λ k entry low high there.
    let within : k < length pairs = slice_get_within pairs k entry there in
    let less : suc levels - 1 ≡ levels = omega arith in
    subst (λ n. IsKeyed size 0 n entry.1) less (all k entry (omega arith) (omega arith) there)

distinct_none : IsDistinct key_eq []
unfolding IsDistinct
distinct_none = tt

pub bare_keyed : (size page levels : ℕ) (d : Data) → pairs_in d ≡ [] → IsKeyed size page levels d
bare_keyed size page zero d e = tt
bare_keyed size page (suc levels) d e =
    subst (λ (pairs : List (Key × Data)). IsDistinct key_eq (keys_of pairs)
    × HoldsOn (IsKeyed size 0 levels) pairs page size) (sym e) (
      distinct_none,
      λ k entry low high there. let none : slice_get {X = Key × Data} [] k ≡ None = slice_get_past [] k
          (omega arith) in absurd cc,
    )

pub array_keyed : (size page levels : ℕ) (t : Table) → IsTable t → AreKeyed size page levels t.pairs
    → IsKeyed size page levels (data_of (Array t))
array_keyed size page zero t is all = tt
array_keyed size page (suc levels) t is all =
    subst (λ (pairs : List (Key × Data)). IsDistinct key_eq (keys_of pairs)
    × HoldsOn (IsKeyed size 0 levels) pairs page size) (sym (pairs_of-entries_of t.pairs)) (is.distinct, all)

pub on_ok : {A E : Type 0} (P Q : Type 0) → (P → Q) → (r : Result A E) → OnOk r P → OnOk r Q
on_ok P Q more (Ok x) p = more p
on_ok P Q more (Err e) p = tt

-- ---- variables

pub keyed_more : (p : Paging) (globals variables : Variables) (at : ℕ) → VariablesAreKeyed p globals variables at
    → VariableIsKeyed p globals variables at → VariablesAreKeyed p globals variables (at + 1)
keyed_more p globals variables at before here = below_more (VariableIsKeyed p globals variables) at before here
