-- Variables that are copied one after another.
use Rattle.std.proofs.Common.{◌≡◌, ℕ, zero, suc, ◌+◌, ◌<◌, false, if◌then◌else◌, List, [], ◌∷◌, length, take, Option, Some, None, slice_get, get_or, refl, sym, ap, ◌∙◌, arith}
use Rattle.std.proofs.lemmas.List.{length-map}
use Rattle.std.proofs.lemmas.List.Elements.{All-from_recursion}
use Rattle.std.proofs.lemmas.Map.Keys.{IsDistinct-head, IsDistinct-tail}
use Rattle.std.specs.List.{IsDistinct}
use Rattle.std.specs.Map.{keys_of}
use Rattle.std.specs.Option.{option_map_or}
use Rattle.std.specs.Str.{bytes_eq}
use Rattle.dp_state.specs.declared.vars.Slot.{Slot}
use Rattle.dp_state.specs.Variables.{Variables, with_slot}
use Rattle.dp_state.specs.inner.Parts.{with_pair}
use Rattle.dp_value.specs.declared.key.Key.TheVariants.{Text}
use Rattle.dp_value.proofs.KeyLemmas.{key_eq_equivalence}

name_at : (es : Variables) (n : ℕ) (p : List ℕ × Slot) → slice_get es n ≡ Some p → get_or (keys_of es) n p.0 ≡ p.0
name_at [] n p h = cc
name_at (e ∷ es) zero p h = let same : e ≡ p = cc in ap (λ (x : List ℕ × Slot). x.0) same
name_at (e ∷ es) (suc n) p h = name_at es n p h

-- a name of distinct ones is not the first of them
apart : (e : List ℕ × Slot) (es : Variables) (n : ℕ) (p : List ℕ × Slot) → IsDistinct bytes_eq (keys_of (e ∷ es))
    → n < length es → slice_get es n ≡ Some p → bytes_eq p.0 e.0 ≡ false
apart e es n p is within at =
    let within_names : n < length (keys_of es) = omega (arith, length-map es (λ (x : List ℕ × Slot). x.0)) in
    key_eq_equivalence.symm (Text p.0) (Text e.0)
    ∙ ap (bytes_eq e.0) (sym (name_at es n p at))
    ∙ All-from_recursion (λ name. bytes_eq e.0 name ≡ false) (keys_of es)
    (IsDistinct-head bytes_eq e.0 (keys_of es) is) n p.0 within_names

-- the next of distinct variables goes behind those before it
pub take_next : (es : Variables) (at : ℕ) → IsDistinct bytes_eq (keys_of es) → at < length es
    → with_pair es at (take at es) ≡ take (at + 1) es
take_next [] at is within = absurd (omega arith)
take_next (e ∷ es) zero is within = refl
take_next (e ∷ es) (suc n) is within =
    let below : n < length es = omega arith in
    let next : suc (n + 1) ≡ suc n + 1 = omega arith in
    step (slice_get es n) refl below
    ∙ ap (λ (l : Variables). e ∷ l) (take_next es n (IsDistinct-tail bytes_eq e.0 (keys_of es) is) below)
    ∙ ap (λ k. take k (e ∷ es)) next
  where
    step : (found : Option (List ℕ × Slot)) → slice_get es n ≡ found → n < length es
        → option_map_or (λ p. with_slot (e ∷ take n es) p.0 p.1) found (e ∷ take n es) ≡ e
        ∷ option_map_or (λ p. with_slot (take n es) p.0 p.1) found (take n es)
    step None h below = refl
    step (Some p) h below =
        ap (λ b. if b then (e.0, p.1) ∷ take n es else e ∷ with_slot (take n es) p.0 p.1) (apart e es n p is below h)
