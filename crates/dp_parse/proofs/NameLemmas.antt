-- Names among others.
use Rattle.std.proofs.Common.{◌≡◌, ℕ, Bool, true, false, not, if◌then◌else◌, List, [], ◌∷◌, ◌++◌, refl, sym, ap}
use Rattle.std.specs.List.{list_any}
use Rattle.std.specs.Str.{bytes_eq}
use Rattle.std.proofs.lemmas.Slice.Eq.{bytes_eq-Decides}

-- equality of byte strings has no direction
either_way : (a b : List ℕ) → bytes_eq a b ≡ bytes_eq b a
either_way a b = go (bytes_eq a b) (bytes_eq b a) refl refl where
  back : (c d : List ℕ) → bytes_eq c d ≡ true → bytes_eq d c ≡ true
  back c d is = (bytes_eq-Decides d c).1 (sym ((bytes_eq-Decides c d).0 is))

  go : (x y : Bool) → bytes_eq a b ≡ x → bytes_eq b a ≡ y → x ≡ y
  go true true e f = refl
  go false false e f = refl
  go true false e f = cc (back a b e, f)
  go false true e f = cc (e, back b a f)

pub named : (names : List (List ℕ)) (name : List ℕ)
    → list_any (bytes_eq name) names ≡ list_any (λ other. bytes_eq other name) names
named names name = ap (λ (test : List ℕ → Bool). list_any test names) (λ i other. either_way name other i)

pub added_names : (names new : List (List ℕ)) (name : List ℕ) (added : Bool)
    → added ≡ not (list_any (bytes_eq name) names)
    → new ≡ (if list_any (bytes_eq name) names then names else names ++ name ∷ [])
    → new ≡ (if added then names ++ name ∷ [] else names)
added_names names new name added e f = go (list_any (bytes_eq name) names) added e f where
  go : (found by : Bool) → by ≡ not found → new ≡ (if found then names else names ++ name ∷ [])
      → new ≡ (if by then names ++ name ∷ [] else names)
  go true false e f = f
  go false true e f = f
  go true true e f = cc
  go false false e f = cc
