-- Columns of keys and values, as pairs.
use Rattle.std.proofs.Common.{◌≡◌, ℕ, zero, suc, ◌<◌, Bool, true, false, List, [], ◌∷◌, length, map, slice_get, Some, None, MatchOption, nat_lt, refl, ap, sym, ◌∙◌, inl, inr, ◌⊎◌, arith}
use Rattle.std.proofs.lemmas.Bool.Decides.{nat_tests}
use Rattle.std.proofs.Common.{◌+◌, ◌≤◌, ◌++◌, set, remove, take}
use Rattle.std.proofs.lemmas.Option.{same_Some}
use Rattle.std.specs.List.{zip, position, position_or_len, list_any}
use Rattle.dp_value.specs.declared.key.Key.{Key}
use Rattle.dp_value.specs.Key.{key_eq, key_weight}
use Rattle.dp_value.specs.Data.{Data, weight_of, pairs_weight}
use Rattle.dp_value.specs.Table.{find_value, keys_of, put, swapped, take_away, values_of}
use Rattle.dp_value.specs.Place.{IsAbsent, IsFirst}

-- what holds of no element, of those behind one that passes a test and of those behind one that fails it
module _ {X : Type 0} (test : X → Bool) (P : List X → Type 0) (none : P [])
    (passes : (x : X) (xs : List X) → test x ≡ true → P xs → P (x ∷ xs))
    (fails : (x : X) (xs : List X) → test x ≡ false → P xs → P (x ∷ xs)) where
  by_answer : (x : X) (xs : List X) (b : Bool) → test x ≡ b → P xs → P (x ∷ xs)
  by_answer x xs true h rest = passes x xs h rest
  by_answer x xs false h rest = fails x xs h rest

  pub by_test : (xs : List X) → P xs
  by_test [] = none
  by_test (x ∷ xs) = by_answer x xs (test x) refl (by_test xs)

abbrev pub has : Key → Key × Data → Bool
has key p = key_eq key p.0

-- a pair, by its key and its value
pub pair_some : (ps : List (Key × Data)) (i : ℕ) (k : Key) (d : Data) → slice_get (keys_of ps) i ≡ Some k
    → slice_get (values_of ps) i ≡ Some d → slice_get ps i ≡ Some (k, d)
pair_some [] i k d h g = cc
pair_some (p ∷ ps) zero k d h g =
    let key : p.0 ≡ k = same_Some p.0 k h in
    let value : p.1 ≡ d = same_Some p.1 d g in
    λ i. Some (key i, value i)
pair_some (p ∷ ps) (suc i) k d h g = pair_some ps i k d h g

pub map-read : {X Y : Type 0} (f : X → Y) (xs : List X) (i : ℕ) (x : X) → Some x ≡ slice_get xs i
    → map f (take i xs) ++ f x ∷ [] ≡ map f (take (suc i) xs)
map-read f [] i x h = cc
map-read f (y ∷ xs) zero x h = let same : x ≡ y = same_Some x y h in ap (λ z. f z ∷ []) same
map-read f (y ∷ xs) (suc i) x h = ap (λ zs. f y ∷ zs) (map-read f xs i x h)

-- the first place of an element that passes is within the list, or no element passes
abbrev Places : {X : Type 0} → (X → Bool) → List X → Type 0
Places test xs =
    ((position_or_len test xs ≡ length xs) × IsAbsent test xs)
    ⊎ ((position_or_len test xs < length xs) × IsFirst test xs (position_or_len test xs))

places : {X : Type 0} (test : X → Bool) (xs : List X) → Places test xs
places test =
    by_test test _ (inl (refl, tt))
    (λ x xs h rest. let e : position_or_len test (x ∷ xs) ≡ zero = rw h in rw e (inr (omega arith, h)))
    (λ x xs h rest.
    let e : position_or_len test (x ∷ xs) ≡ suc (position_or_len test xs) = rw h (omega arith) in
    elim rest [ inl r ↦ inl (e ∙ omega arith, (h, r.1)) | inr r ↦ rw e (inr (omega arith, (h, r.1))) ])

-- where the first element that passes stands
pub placed : {X : Type 0} (test : X → Bool) (xs : List X)
    → MatchOption (position test xs) (IsAbsent test xs) (IsFirst test xs)
placed test xs = elim (places test xs) [
  | inl absent ↦ let past : nat_lt (position_or_len test xs) (length xs) ≡ false =
      grind (arith, nat_tests) in rw past absent.1
  | inr first ↦ let within : nat_lt (position_or_len test xs) (length xs) ≡ true =
      grind (arith, nat_tests) in rw within first.1
]

pub absent-find_value : (test : Key → Bool) (ks : List Key) (ds : List Data) → IsAbsent test ks
    → find_value test (zip ks ds) ≡ None
absent-find_value test [] ds h = refl
absent-find_value test (k ∷ ks) [] h = refl
absent-find_value test (k ∷ ks) (d ∷ ds) h = rw h.0 (absent-find_value test ks ds h.1)

pub first-find_value : (test : Key → Bool) (ks : List Key) (ds : List Data) (n : ℕ) → IsFirst test ks n
    → length ds ≡ length ks → find_value test (zip ks ds) ≡ slice_get ds n
first-find_value test [] ds n h same = elim h [ ]
first-find_value test (k ∷ ks) [] n h same = cc
first-find_value test (k ∷ ks) (d ∷ ds) zero h same = rw h
first-find_value test (k ∷ ks) (d ∷ ds) (suc n) h same = rw h.0 (first-find_value test ks ds n h.1 (omega arith))

-- ---- a write
pub put-first : (key : Key) (ks : List Key) (ds : List Data) (n : ℕ) (d : Data) → IsFirst (key_eq key) ks n
    → length ds ≡ length ks → put (zip ks ds) key d ≡ zip ks (set ds n d)
put-first key [] ds n d h same = elim h [ ]
put-first key (k ∷ ks) [] n d h same = cc
put-first key (k ∷ ks) (e ∷ ds) zero d h same = rw h
put-first key (k ∷ ks) (e ∷ ds) (suc n) d h same =
    rw h.0 (ap (λ ps. (k, e) ∷ ps) (put-first key ks ds n d h.1 (omega arith)))

pub put-absent : (key : Key) (ks : List Key) (ds : List Data) (d : Data) → IsAbsent (key_eq key) ks
    → length ds ≡ length ks → put (zip ks ds) key d ≡ zip (ks ++ key ∷ []) (ds ++ d ∷ [])
put-absent key [] [] d h same = refl
put-absent key [] (e ∷ ds) d h same = cc
put-absent key (k ∷ ks) [] d h same = cc
put-absent key (k ∷ ks) (e ∷ ds) d h same = rw h.0 (ap (λ ps. (k, e) ∷ ps) (put-absent key ks ds d h.1 (omega arith)))

pub weight-put-first : (key : Key) (ks : List Key) (ds : List Data) (n : ℕ) (old d : Data) → IsFirst (key_eq key) ks n
    → slice_get ds n ≡ Some old →
    pairs_weight (put (zip ks ds) key d) + weight_of old ≡ pairs_weight (zip ks ds) + weight_of d
weight-put-first key [] ds n old d h at = elim h [ ]
weight-put-first key (k ∷ ks) [] n old d h at = cc
weight-put-first key (k ∷ ks) (e ∷ ds) zero old d h at =
    let s : weight_of e ≡ weight_of old = ap weight_of (same_Some e old at) in rw h (omega (arith, s))
weight-put-first key (k ∷ ks) (e ∷ ds) (suc n) old d h at =
    let rest = weight-put-first key ks ds n old d h.1 at in rw h.0 (omega (arith, rest))

pub weight-put-absent : (key : Key) (ks : List Key) (ds : List Data) (d : Data) → IsAbsent (key_eq key) ks
    → length ds ≡ length ks →
    pairs_weight (put (zip ks ds) key d) ≡ pairs_weight (zip ks ds) + (1 + key_weight key + weight_of d)
weight-put-absent key [] ds d h same = omega arith
weight-put-absent key (k ∷ ks) [] d h same = cc
weight-put-absent key (k ∷ ks) (e ∷ ds) d h same =
    let rest = weight-put-absent key ks ds d h.1 (omega arith) in rw h.0 (omega (arith, rest))

pub weight-at : (ks : List Key) (ds : List Data) (n : ℕ) (d : Data) → length ds ≡ length ks → slice_get ds n ≡ Some d
    → weight_of d ≤ pairs_weight (zip ks ds)
weight-at ks [] n d same at = cc
weight-at [] (e ∷ ds) n d same at = cc
weight-at (k ∷ ks) (e ∷ ds) zero d same at =
    let s : weight_of e ≡ weight_of d = ap weight_of (same_Some e d at) in omega (arith, s)
weight-at (k ∷ ks) (e ∷ ds) (suc n) d same at =
    let rest : weight_of d ≤ pairs_weight (zip ks ds) = weight-at ks ds n d (omega arith) at in omega (arith, rest)

-- ---- a removal
pub take_away-missing : (key : Key) (ps : List (Key × Data)) → find_value (key_eq key) ps ≡ None
    → take_away ps key ≡ ps
take_away-missing key =
    by_test (has key) _ (λ missing. refl)
    (λ p ps h rest missing. let none : Some p.1 ≡ None = rw h at missing in cc)
    (λ p ps h rest missing. rw h (ap (λ qs. p ∷ qs) (rest (rw h at missing))))

pub take_away-first : (key : Key) (ks : List Key) (ds : List Data) (n : ℕ) → IsFirst (key_eq key) ks n
    → length ds ≡ length ks → take_away (zip ks ds) key ≡ zip (remove ks n) (remove ds n)
take_away-first key [] ds n h same = elim h [ ]
take_away-first key (k ∷ ks) [] n h same = cc
take_away-first key (k ∷ ks) (e ∷ ds) zero h same = rw h
take_away-first key (k ∷ ks) (e ∷ ds) (suc n) h same =
    rw h.0 (ap (λ ps. (k, e) ∷ ps) (take_away-first key ks ds n h.1 (omega arith)))

pub weight-remove : (ks : List Key) (ds : List Data) (n : ℕ) (k : Key) (d : Data) → slice_get ks n ≡ Some k
    → slice_get ds n ≡ Some d →
    (1 + key_weight k + weight_of d) + pairs_weight (zip (remove ks n) (remove ds n)) ≡ pairs_weight (zip ks ds)
weight-remove [] ds n k d key at = cc
weight-remove (l ∷ ks) [] n k d key at = cc
weight-remove (l ∷ ks) (e ∷ ds) zero k d key at =
    let s : weight_of e ≡ weight_of d = ap weight_of (same_Some e d at) in
    let t : key_weight l ≡ key_weight k = ap key_weight (same_Some l k key) in
    omega (arith, s, t)
weight-remove (l ∷ ks) (e ∷ ds) (suc n) k d key at = let rest = weight-remove ks ds n k d key at in omega (arith, rest)

pub map-remove : {X Y : Type 0} (f : X → Y) (xs : List X) (n : ℕ) → map f (remove xs n) ≡ remove (map f xs) n
map-remove f [] zero = refl
map-remove f [] (suc n) = refl
map-remove f (x ∷ xs) zero = refl
map-remove f (x ∷ xs) (suc n) = ap (λ ys. f x ∷ ys) (map-remove f xs n)

-- ---- the test of a set
pub absent-list_any : {X : Type 0} (test : X → Bool) (xs : List X) → IsAbsent test xs → list_any test xs ≡ false
absent-list_any test [] h = refl
absent-list_any test (x ∷ xs) h = rw h.0 (absent-list_any test xs h.1)

-- ---- an exchange
pub swapped-first : (key : Key) (ks : List Key) (ds : List Data) (n : ℕ) (d : Data) → IsFirst (key_eq key) ks n
    → length ds ≡ length ks → swapped (zip ks ds) key d ≡ zip ks (set ds n d)
swapped-first key [] ds n d h same = elim h [ ]
swapped-first key (k ∷ ks) [] n d h same = cc
swapped-first key (k ∷ ks) (e ∷ ds) zero d h same = rw h
swapped-first key (k ∷ ks) (e ∷ ds) (suc n) d h same =
    rw h.0 (ap (λ ps. (k, e) ∷ ps) (swapped-first key ks ds n d h.1 (omega arith)))

pub weight-swapped-first : (key : Key) (ks : List Key) (ds : List Data) (n : ℕ) (old d : Data)
    → IsFirst (key_eq key) ks n → length ds ≡ length ks → slice_get ds n ≡ Some old →
    pairs_weight (swapped (zip ks ds) key d) + weight_of old ≡ pairs_weight (zip ks ds) + weight_of d
weight-swapped-first key ks ds n old d h same at =
    ap (λ (ps : List (Key × Data)). pairs_weight ps + weight_of old) (swapped-first key ks ds n d h same
    ∙ sym (put-first key ks ds n d h same))
    ∙ weight-put-first key ks ds n old d h at
