-- Lists: the last element, membership, what a filter keeps, rising numbers.
use Rattle.std.proofs.Common.{◌≡◌, ◌==◌, ℕ, zero, suc, ◌+◌, ◌<◌, min, Bool, true, false, not, ◌&&◌, List, [], ◌∷◌, ◌++◌}
use Rattle.std.proofs.Common.{length, filter, fold, Option, Some, slice_get, get_or, Contains, refl, sym, ap, subst}
use Rattle.std.proofs.Common.{◌∙◌, ◌⊎◌, inl, inr, arith}
use Rattle.std.proofs.lemmas.List.Elements.{Contains-append_left, Contains-append_right, Contains-append_cases}
use Rattle.std.proofs.lemmas.Bool.Decides.{nat_tests}
use Rattle.std.specs.List.{last_or}
use Rattle.dp_registry.specs.Journal.{least}
use Rattle.dp_registry.specs.inner.Kept.{AreAbove, IsRising}

pub last_push : {X : Type 0} (o : Option X) (xs : List X) (x : X) → last_or o (xs ++ x ∷ []) ≡ Some x
last_push o [] x = refl
last_push o (y ∷ xs) x = last_push (Some y) xs x

pub get_push : {X : Type 0} (xs : List X) (x y : X) (i : ℕ) → slice_get xs i ≡ Some y →
    slice_get (xs ++ x ∷ []) i ≡ Some y
get_push [] x y i h = cc
get_push (z ∷ xs) x y zero h = h
get_push (z ∷ xs) x y (suc i) h = get_push xs x y i h

pub get_end : {X : Type 0} (xs : List X) (x : X) → slice_get (xs ++ x ∷ []) (length xs) ≡ Some x
get_end [] x = refl
get_end (y ∷ xs) x = get_end xs x

pub get_before : {X : Type 0} (xs : List X) (x : X) (i : ℕ) → i < length xs →
    slice_get (xs ++ x ∷ []) i ≡ slice_get xs i
get_before [] x i lt = absurd (omega arith)
get_before (y ∷ xs) x zero lt = refl
get_before (y ∷ xs) x (suc i) lt = get_before xs x i (omega arith)

-- ---- membership

pub nowhere : {X : Type 0} (x : X) → Contains [] x → ⊥
nowhere x h = let lt = h.1 in omega arith

pub first_or_rest : {X : Type 0} (y : X) (xs : List X) (x : X) → Contains (y ∷ xs) x → (y ≡ x) ⊎ Contains xs x
first_or_rest y xs x h = by h.0 h.1 h.2
  where
    by : (k : ℕ) → k < length (y ∷ xs) → get_or (y ∷ xs) k x ≡ x → (y ≡ x) ⊎ Contains xs x
    by zero lt e = inl e
    by (suc k) lt e = inr (k, omega arith, e)

pub only_one : {X : Type 0} (y x : X) → Contains (y ∷ []) x → y ≡ x
only_one y x h = elim (first_or_rest y [] x h) [ inl e ↦ e | inr rest ↦ absurd (nowhere x rest) ]

module _ {X : Type 0} (p : X → Bool) where
  into-more : (y : X) (xs : List X) (x : X) (b : Bool) → p y ≡ b → (Contains xs x → Contains (filter p xs) x) →
      Contains (y ∷ xs) x → p x ≡ true → Contains (filter p (y ∷ xs)) x
  into-more y xs x true h rest is passes = rw h (elim (first_or_rest y xs x is) [
    | inl e ↦ Contains-append_left (y ∷ []) (filter p xs) x (0, omega arith, e)
    | inr more ↦ Contains-append_right (y ∷ []) (filter p xs) x (rest more)
  ])
  into-more y xs x false h rest is passes = rw h (elim (first_or_rest y xs x is) [
    | inl e ↦ let t : p y ≡ true = subst (λ z. p z ≡ true) (sym e) passes in absurd (cc)
    | inr more ↦ rest more
  ])

  pub into_filter : (xs : List X) (x : X) → Contains xs x → p x ≡ true → Contains (filter p xs) x
  into_filter [] x is passes = absurd (nowhere x is)
  into_filter (y ∷ xs) x is passes = into-more y xs x (p y) refl (λ more. into_filter xs x more passes) is passes

  from-more : (y : X) (xs : List X) (x : X) (b : Bool) → p y ≡ b → (Contains (filter p xs) x →
      Contains xs x × (p x ≡ true)) → Contains (filter p (y ∷ xs)) x → Contains (y ∷ xs) x × (p x ≡ true)
  from-more y xs x true h rest is = elim (first_or_rest y (filter p xs) x (rw h at is)) [
    | inl e ↦ ((0, omega arith, e), subst (λ z. p z ≡ true) e h)
    | inr more ↦ let r = rest more in (Contains-append_right (y ∷ []) xs x r.0, r.1)
  ]
  from-more y xs x false h rest is = let r = rest (rw h at is) in (Contains-append_right (y ∷ []) xs x r.0, r.1)

  pub from_filter : (xs : List X) (x : X) → Contains (filter p xs) x → Contains xs x × (p x ≡ true)
  from_filter [] x is = absurd (nowhere x is)
  from_filter (y ∷ xs) x is = from-more y xs x (p y) refl (from_filter xs x) is

  twice-more : (q : X → Bool) (y : X) (xs : List X) (b c : Bool) → p y ≡ b → q y ≡ c →
      filter (λ x. p x && q x) xs ≡ filter q (filter p xs) →
      filter (λ x. p x && q x) (y ∷ xs) ≡ filter q (filter p (y ∷ xs))
  twice-more q y xs true true h g rest = rw (h, g) (ap (λ zs. y ∷ zs) rest)
  twice-more q y xs true false h g rest = rw (h, g) rest
  twice-more q y xs false c h g rest = rw h rest

  pub filter_twice : (q : X → Bool) (xs : List X) → filter (λ x. p x && q x) xs ≡ filter q (filter p xs)
  filter_twice q [] = refl
  filter_twice q (y ∷ xs) = twice-more q y xs (p y) (q y) refl refl (filter_twice q xs)

-- ---- rising numbers

pub above_all : (n : ℕ) (ns : List ℕ) (m : ℕ) → AreAbove n ns → Contains ns m → n < m
above_all n [] m h is = absurd (nowhere m is)
above_all n (k ∷ ns) m h is = elim (first_or_rest k ns m is) [
  | inl e ↦ subst
      (λ z. n < z) e h.0
  | inr more ↦ above_all n ns m h.1 more
]

above_from : (n : ℕ) (ns : List ℕ) → ((m : ℕ) → Contains ns m → n < m) → AreAbove n ns
above_from n [] h = tt
above_from n (k ∷ ns) h = (
  h k (0, omega arith, refl),
  above_from n ns (λ m is. h m (Contains-append_right (k ∷ []) ns m is)),
)

pub rising_push : (ns : List ℕ) (n : ℕ) → IsRising ns → ((m : ℕ) → Contains ns m → m < n) → IsRising (ns ++ n ∷ [])
rising_push [] n h below = (tt, tt)
rising_push (k ∷ ns) n h below = (
  above_from k (ns ++ n ∷ []) (λ m is. elim (Contains-append_cases ns (n ∷ []) m is) [
    | inl old ↦ above_all k ns m h.0 old
    | inr new ↦ subst (λ z. k < z) (only_one n m new) (below k (0, omega arith, refl))
  ]),
  rising_push ns n h.1 (λ m is. below m (Contains-append_right (k ∷ []) ns m is)),
)

module _ (p : ℕ → Bool) where
  rising-more : (n : ℕ) (ns : List ℕ) (b : Bool) → p n ≡ b → AreAbove n ns → IsRising (filter p ns) →
      IsRising (filter p (n ∷ ns))
  rising-more n ns true h above rest = rw h (
    above_from n (filter p ns) (λ m is. above_all n ns m above
        (from_filter p ns m is).0),
    rest,
  )
  rising-more n ns false h above rest = rw h rest

  pub rising_filter : (ns : List ℕ) → IsRising ns → IsRising (filter p ns)
  rising_filter [] h = tt
  rising_filter (n ∷ ns) h = rising-more n ns (p n) refl h.0 (rising_filter ns h.1)

min_first : (n : ℕ) (ns : List ℕ) → AreAbove n ns → fold min n ns ≡ n
min_first n [] h = refl
min_first n (m ∷ ns) h = let e : min n m ≡ n = let lt = h.0 in omega arith in ap (λ k. fold min k ns) e
    ∙ min_first n ns h.1

pub first_is_least : (ns : List ℕ) → IsRising ns → slice_get ns 0 ≡ least ns
first_is_least [] h = refl
first_is_least (n ∷ ns) h = ap Some (sym (min_first n ns h.0))

-- ---- without one number

all_others-more : (s n : ℕ) (ns : List ℕ) (b : Bool) → (s == n) ≡ b → (n ≡ s → ⊥) →
    filter (λ t. not (s == t)) ns ≡ ns → filter (λ t. not (s == t)) (n ∷ ns) ≡ n ∷ ns
all_others-more s n ns true e h rest = let same : n ≡ s = grind (arith, nat_tests) in absurd (h same)
all_others-more s n ns false e h rest = rw e (ap (λ ms. n ∷ ms) rest)

pub without : (s : ℕ) (ns : List ℕ) → (Contains ns s → ⊥) → filter (λ t. not (s == t)) ns ≡ ns
without s [] h = refl
without s (n ∷ ns) h =
    all_others-more s n ns (s == n) refl (λ e. h (
      0,
      omega arith,
      e,
    )) (without s ns (λ is. h (Contains-append_right (n ∷ []) ns s is)))

one_less-more : (s n : ℕ) (ns : List ℕ) (b : Bool) → (s == n) ≡ b → AreAbove n ns → (n ≡ s) ⊎ Contains ns s →
    (Contains ns s → length (filter (λ t. not (s == t)) ns) + 1 ≡ length ns) →
    length (filter (λ t. not (s == t)) (n ∷ ns)) + 1 ≡ length (n ∷ ns)
one_less-more s n ns true e above is rest =
    let same : s ≡ n = grind (arith, nat_tests) in
    let stay : filter (λ t. not (s == t)) ns ≡ ns = without s ns (λ more. let lt = above_all n ns s above more in
    omega arith) in
    rw e (let long = ap length stay in omega arith)
one_less-more s n ns false e above is rest =
    let more : Contains ns s = elim is [
      | inl same ↦ let t : (s == n) ≡ true = grind (arith, nat_tests) in
          absurd (cc)
      | inr more ↦ more
    ] in
    let less = rest more in
    rw e (omega arith)

pub one_less : (s : ℕ) (ns : List ℕ) → IsRising ns → Contains ns s →
    length (filter (λ t. not (s == t)) ns) + 1 ≡ length ns
one_less s [] h is = absurd (nowhere s is)
one_less s (n ∷ ns) h is = one_less-more s n ns (s == n) refl h.0 (first_or_rest n ns s is) (one_less s ns h.1)
