-- Variables of which so many at the front are taken away already.
use Rattle.std.proofs.Common.{◌≡◌, ℕ, zero, suc, ◌+◌, ◌-◌, ◌≤◌, ◌<◌, Bool, true, false, List, [], ◌∷◌, drop, take, remove, length, position, slice_get, MatchOption, Option, Some, None, refl, sym, ap, ◌∙◌, subst, arith, length-drop}
use Rattle.std.proofs.lemmas.List.{drop-map, length-map}
use Rattle.std.proofs.lemmas.Map.Keys.{IsDistinct-tail}
use Rattle.std.specs.List.{IsDistinct}
use Rattle.std.specs.Map.{keys_of, values_of}
use Rattle.std.specs.Str.{bytes_eq}
use Rattle.indexmap.specs.IndexMap.{set_value_at}
use Rattle.dp_value.specs.declared.key.Key.TheVariants.{Text}
use Rattle.dp_value.specs.Place.{IsAbsent, IsFirst}
use Rattle.dp_value.proofs.KeyLemmas.{key_eq-Decides}
use Rattle.dp_value.proofs.PairLemmas.{placed}
use Rattle.dp_value.proofs.RowLemmas.{absent_left, first-within, first_left, gone-absent_left}
use Rattle.dp_state.specs.declared.vars.Slot.{Slot}
use Rattle.dp_state.specs.Variables.{Variables, with_slot, without}

pub behind : {X : Type 0} (g i : ℕ) (xs : List X) → slice_get xs (g + i) ≡ slice_get (drop g xs) i
behind zero i xs = let e : 0 + i ≡ i = omega arith in rw e refl
behind (suc g) i [] = refl
behind (suc g) i (x ∷ xs) = let e : suc g + i ≡ suc (g + i) = omega arith in rw e (behind g i xs)

pub value-behind : (g i : ℕ) (es : Variables) → slice_get (values_of es) (g + i) ≡ slice_get (values_of (drop g es)) i
value-behind g i es =
    behind g i (values_of es)
    ∙ ap (λ (ss : List Slot). slice_get ss i) (drop-map (λ (e : List ℕ × Slot). e.1) g es)

pub distinct-drop : (g : ℕ) (es : Variables) → IsDistinct bytes_eq (keys_of es)
    → IsDistinct bytes_eq (keys_of (drop g es))
distinct-drop zero es is = is
distinct-drop (suc g) [] is = is
distinct-drop (suc g) (e ∷ es) is = distinct-drop g es (IsDistinct-tail bytes_eq e.0 (keys_of es) is)

-- ---- positions
absent-first : {X : Type 0} (test : X → Bool) (xs : List X) (n : ℕ) → IsAbsent test xs → IsFirst test xs n → ⊥
absent-first test [] n absent first = first
absent-first test (x ∷ xs) zero absent first = let no : false ≡ true = sym absent.0 ∙ first in cc
absent-first test (x ∷ xs) (suc n) absent first = absent-first test xs n absent.1 first.1

first-one : {X : Type 0} (test : X → Bool) (xs : List X) (n m : ℕ) → IsFirst test xs n → IsFirst test xs m → n ≡ m
first-one test [] n m f g = absurd f
first-one test (x ∷ xs) zero zero f g = refl
first-one test (x ∷ xs) zero (suc m) f g = let no : false ≡ true = sym g.0 ∙ f in absurd (cc)
first-one test (x ∷ xs) (suc n) zero f g = let no : false ≡ true = sym f.0 ∙ g in absurd (cc)
first-one test (x ∷ xs) (suc n) (suc m) f g = ap suc (first-one test xs n m f.1 g.1)

module _ {X : Type 0} (test : X → Bool) (xs : List X) where
  abbrev Places : Option ℕ → Type 0
  Places r = MatchOption r (IsAbsent test xs) (IsFirst test xs)

  one-place : (r q : Option ℕ) → Places r → Places q → r ≡ q
  one-place None None a b = refl
  one-place None (Some m) a g = absurd (absent-first test xs m a g)
  one-place (Some n) None f b = absurd (absent-first test xs n b f)
  one-place (Some n) (Some m) f g = ap Some (first-one test xs n m f g)

  -- the position of a name is the one place where it can be
  pub position-is : (r : Option ℕ) → Places r → r ≡ position test xs
  position-is r h = one-place r (position test xs) h (placed test xs)

  pub position-absent : None ≡ position test xs → IsAbsent test xs
  position-absent is = subst (λ (q : Option ℕ). Places q) (sym is) (placed test xs)

  pub position-first : (n : ℕ) → Some n ≡ position test xs → IsFirst test xs n
  position-first n is = subst (λ (q : Option ℕ). Places q) (sym is) (placed test xs)

exact : (x y : List ℕ) → bytes_eq x y ≡ true → x ≡ y
exact x y h = let same : Text x ≡ Text y = (key_eq-Decides (Text x) (Text y)).0 h in cc

-- where a name stands among those that are left
module _ (name : List ℕ) (g : ℕ) (es : Variables) where
  abbrev test : List ℕ → Bool
  test = bytes_eq name

  left-is : (r : Option ℕ) → MatchOption r (IsAbsent test (drop g (keys_of es))) (IsFirst test (drop g (keys_of es)))
      → r ≡ position test (keys_of (drop g es))
  left-is r h =
      position-is test (keys_of (drop g es)) r
      (subst (λ (ks : List (List ℕ)). MatchOption r (IsAbsent test ks) (IsFirst test ks))
      (drop-map (λ (e : List ℕ × Slot). e.0) g es) h)

  pub left-missing : None ≡ position test (keys_of es) → None ≡ position test (keys_of (drop g es))
  left-missing is = left-is None (absent_left test 0 g (keys_of es) (position-absent test (keys_of es) is))

  module _ (n : ℕ) (is : Some n ≡ position test (keys_of es)) where
    first : IsFirst test (keys_of es) n
    first = position-first test (keys_of es) n is

    pub left-gone : IsDistinct bytes_eq (keys_of es) → n < g → None ≡ position test (keys_of (drop g es))
    left-gone distinct before =
        left-is None
        (gone-absent_left bytes_eq exact name 0 g n (keys_of es) distinct first (omega arith) (omega arith))

    pub left-there : g ≤ n → Some (n - g) ≡ position test (keys_of (drop g es))
    left-there past =
        left-is (Some (n - g)) (first_left test 0 g (n - g) n (keys_of es) first (omega arith) (omega arith))

-- the row of a name that is left
pub row-within : (name : List ℕ) (g i : ℕ) (es fs : Variables) → drop g es ≡ fs
    → Some i ≡ position (bytes_eq name) (keys_of fs) → g ≤ length es → g + i < length es
row-within name g i es fs seen is within =
    let first = position-first (bytes_eq name) (keys_of fs) i is in
    omega (
      arith,
      first-within (bytes_eq name) i (keys_of fs) first,
      length-map fs (λ (e : List ℕ × Slot). e.0),
      ap length seen,
      length-drop g es,
    )

-- ---- a name that is among those in front or is not
pub fresh-missing : (name : List ℕ) (g : ℕ) (es : Variables) → IsAbsent (bytes_eq name) (keys_of es)
    → IsAbsent (bytes_eq name) (keys_of (take g es))
fresh-missing name zero es absent = tt
fresh-missing name (suc g) [] absent = tt
fresh-missing name (suc g) (e ∷ es) absent = (absent.0, fresh-missing name g es absent.1)

pub fresh-behind : (name : List ℕ) (g n : ℕ) (es : Variables) → IsFirst (bytes_eq name) (keys_of es) n → g ≤ n
    → IsAbsent (bytes_eq name) (keys_of (take g es))
fresh-behind name zero n es first past = tt
fresh-behind name (suc g) n [] first past = absurd first
fresh-behind name (suc g) zero (e ∷ es) first past = absurd (omega arith)
fresh-behind name (suc g) (suc n) (e ∷ es) first past = (first.0, fresh-behind name g n es first.1 (omega arith))

-- ---- changes of what is left
pub with_slot-drop : (name : List ℕ) (s : Slot) (g : ℕ) (es : Variables)
    → IsAbsent (bytes_eq name) (keys_of (take g es)) → g ≤ length es
    → drop g (with_slot es name s) ≡ with_slot (drop g es) name s
with_slot-drop name s zero es absent within = refl
with_slot-drop name s (suc g) [] absent within = absurd (omega arith)
with_slot-drop name s (suc g) (e ∷ es) absent within = rw absent.0 (with_slot-drop name s g es absent.1 (omega arith))

pub set-drop : (g i : ℕ) (es : Variables) (s : Slot) → drop g (set_value_at es (g + i) s) ≡ set_value_at (drop g es) i s
set-drop zero i es s = let e : 0 + i ≡ i = omega arith in rw e refl
set-drop (suc g) i [] s = refl
set-drop (suc g) i (e ∷ es) s = let f : suc g + i ≡ suc (g + i) = omega arith in rw f (set-drop g i es s)

pub set-past : (g : ℕ) (es : Variables) (s : Slot) → drop (suc g) (set_value_at es g s) ≡ drop (suc g) es
set-past zero [] s = refl
set-past zero (e ∷ es) s = refl
set-past (suc g) [] s = refl
set-past (suc g) (e ∷ es) s = set-past g es s

-- without a name, by its position
pub without-first : (name : List ℕ) (es : Variables) (i : ℕ) → IsFirst (bytes_eq name) (keys_of es) i
    → without es name ≡ remove es i
without-first name [] i first = absurd first
without-first name (e ∷ es) zero first = rw first refl
without-first name (e ∷ es) (suc i) first = rw first.0 (ap (λ fs. e ∷ fs) (without-first name es i first.1))

pub without-absent : (name : List ℕ) (es : Variables) → IsAbsent (bytes_eq name) (keys_of es) → without es name ≡ es
without-absent name [] absent = refl
without-absent name (e ∷ es) absent = rw absent.0 (ap (λ fs. e ∷ fs) (without-absent name es absent.1))
