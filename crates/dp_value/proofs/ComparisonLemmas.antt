-- A comparison of two arrays, pair by pair.
use Rattle.std.proofs.Common.{◌≡◌, ◌≢◌, ◌≤◌, ◌+◌, add-one, ℕ, zero, suc, Bool, true, false, ◌&&◌, List, [], ◌∷◌, length, drop, slice_get, Some, refl, ap, ◌∙◌, arith}
use Rattle.std.proofs.lemmas.List.{drop_all}
use Rattle.std.proofs.lemmas.Option.{same_Some}
use Rattle.dp_value.specs.declared.key.Key.{Key}
use Rattle.dp_value.specs.Key.{key_eq}
use Rattle.dp_value.specs.Data.{Data, entries_of}
use Rattle.dp_value.specs.Comparison.{identical, identical_entries}

and_false : (a b : Bool) → (a && (b && false)) ≡ false
and_false true true = refl
and_false true false = refl
and_false false b = refl

-- arrays of two lengths differ
pub identical-lengths : (ps qs : List (Key × Data)) → length ps ≢ length qs
    → identical_entries (entries_of ps) (entries_of qs) ≡ false
identical-lengths [] [] h = absurd (h refl)
identical-lengths [] (q ∷ qs) h = refl
identical-lengths (p ∷ ps) [] h = refl
identical-lengths (p ∷ ps) (q ∷ qs) h =
    rw (identical-lengths ps qs (λ e. h (omega arith))) (and_false (key_eq p.0 q.0) (identical p.1 q.1))

-- the pairs from a position on, by the pair there and those behind it
pub identical-drop : (ps qs : List (Key × Data)) (i : ℕ) (p q : Key × Data) → slice_get ps i ≡ Some p
    → slice_get qs i ≡ Some q →
    identical_entries (entries_of (drop i ps)) (entries_of (drop i qs))
    ≡ (key_eq p.0 q.0 && (identical p.1 q.1
    && identical_entries (entries_of (drop (suc i) ps)) (entries_of (drop (suc i) qs))))
identical-drop [] qs i p q h g = cc
identical-drop (a ∷ ps) [] i p q h g = cc
identical-drop (a ∷ ps) (b ∷ qs) zero p q h g =
    ap (λ (x : Key × Data). key_eq x.0 b.0 && (identical x.1 b.1 && identical_entries (entries_of ps) (entries_of qs)))
    (same_Some a p h)
    ∙ ap (λ (x : Key × Data). key_eq p.0 x.0
    && (identical p.1 x.1 && identical_entries (entries_of ps) (entries_of qs))) (same_Some b q g)
identical-drop (a ∷ ps) (b ∷ qs) (suc i) p q h g = identical-drop ps qs i p q h g

module _ (ps qs : List (Key × Data)) (i : ℕ) (p q : Key × Data) (left : slice_get ps i ≡ Some p)
    (right : slice_get qs i ≡ Some q) where
  pub differ-by_key : false ≡ key_eq p.0 q.0
      → identical_entries (entries_of (drop i ps)) (entries_of (drop i qs)) ≡ false
  differ-by_key h = identical-drop ps qs i p q left right ∙ rw (← h) refl

  pub differ-by_value : true ≡ key_eq p.0 q.0 → false ≡ identical p.1 q.1
      → identical_entries (entries_of (drop i ps)) (entries_of (drop i qs)) ≡ false
  differ-by_value h g = identical-drop ps qs i p q left right ∙ rw (← h, ← g) refl

  pub same-so_far : true ≡ key_eq p.0 q.0 → true ≡ identical p.1 q.1 →
      identical_entries (entries_of (drop i ps)) (entries_of (drop i qs)) ≡ identical_entries
      (entries_of (drop (i + 1) ps)) (entries_of (drop (i + 1) qs))
  same-so_far h g = identical-drop ps qs i p q left right ∙ rw (← h, ← g, add-one) refl

-- at the end nothing is left to compare
pub same-at_end : (ps qs : List (Key × Data)) (i : ℕ) → length ps ≤ i → length qs ≤ i
    → identical_entries (entries_of (drop i ps)) (entries_of (drop i qs)) ≡ true
same-at_end ps qs i h g = rw (drop_all i ps h, drop_all i qs g) refl
