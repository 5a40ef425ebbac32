-- How often a number entered in a list.
use Rattle.std.proofs.Common.{◌≡◌, ◌==◌, ℕ, ◌+◌, ◌≤◌, Bool, true, false, not, cond, List, [], ◌∷◌, ◌++◌, filter}
use Rattle.std.proofs.Common.{Contains, refl, sym, ap, subst, inl, inr, arith}
use Rattle.std.proofs.lemmas.List.Elements.{Contains-append_right}
use Rattle.std.proofs.lemmas.Bool.Decides.{nat_tests}
use Rattle.dp_registry.specs.inner.Kept.{AreAbove, IsRising}
use Rattle.dp_registry.proofs.Lists.{first_or_rest, nowhere}
use Rattle.dp_desk.specs.Turns.{times}
use Rattle.dp_desk.specs.Desks.{without}

pub times-append : (k : ℕ) (xs ys : List ℕ) → times k (xs ++ ys) ≡ times k xs + times k ys
times-append k [] ys = omega arith
times-append k (x ∷ xs) ys = let r = times-append k xs ys in omega arith

-- ---- without the first
abbrev one_if : Bool → ℕ
one_if b = cond b 1 0

same_number : (x s k : ℕ) → (x == s) ≡ true → one_if (s == k) ≡ one_if (x == k)
same_number x s k e = let is : x ≡ s = grind (arith, nat_tests) in
    let f : ℕ → ℕ = λ n. one_if (n == k) in ap f (sym is)

without_at : (k s x : ℕ) (xs : List ℕ) (b : Bool) → (x == s) ≡ b → (1 ≤ times s xs →
    times k (without s xs) + cond (s == k) 1 0 ≡ times k xs) → 1 ≤ cond b 1 0 + times s xs →
    times k (cond b xs (x ∷ without s xs)) + cond (s == k) 1 0 ≡ cond (x == k) 1 0 + times k xs
without_at k s x xs true is more some_left = let same = same_number x s k is in omega arith
without_at k s x xs false is more some_left = let r = more (omega arith) in omega arith

pub times_without : (k s : ℕ) (xs : List ℕ) → 1 ≤ times s xs →
    times k (without s xs) + cond (s == k) 1 0 ≡ times k xs
times_without k s [] some_left = absurd (omega arith)
times_without k s (x ∷ xs) some_left = without_at k s x xs (x == s) refl (times_without k s xs) some_left

-- ---- without all
left-more : (k s n : ℕ) (ns : List ℕ) (b c : Bool) → (s == n) ≡ b → (s == k) ≡ c →
    times k (filter (λ m. not (s == m)) ns) + cond c (times s ns) 0 ≡ times k ns →
    times k (filter (λ m. not (s == m)) (n ∷ ns)) + cond c (times s (n ∷ ns)) 0 ≡ times k (n ∷ ns)
left-more k s n ns true true e f rest =
    let g : (n == s) ≡ true = grind (arith, nat_tests) in
    let h : (n == k) ≡ true = grind (arith, nat_tests) in
    rw (e, g, h) (omega arith)
left-more k s n ns true false e f rest =
    let h : (n == k) ≡ false = grind (arith, nat_tests) in
    rw (e, h) (omega arith)
left-more k s n ns false true e f rest =
    let g : (n == s) ≡ false = grind (arith, nat_tests) in
    rw (e, g) (omega arith)
left-more k s n ns false false e f rest = rw e (omega arith)

left : (k s : ℕ) (ns : List ℕ) → times k (filter (λ m. not (s == m)) ns) + cond (s == k) (times s ns) 0 ≡ times k ns
left k s [] = none (s == k)
  where
    none : (c : Bool) → 0 + cond c 0 0 ≡ 0
    none true = refl
    none false = refl
left k s (n ∷ ns) = left-more k s n ns (s == n) (s == k) refl refl (left k s ns)

pub times_left : (k s : ℕ) (ns : List ℕ) → times s ns ≡ 1 →
    times k (filter (λ m. not (s == m)) ns) + cond (s == k) 1 0 ≡ times k ns
times_left k s ns one =
    subst (λ (m : ℕ). times k (filter (λ x. not (s == x)) ns) + cond (s == k) m 0 ≡ times k ns) one (left k s ns)

-- ---- once
none_above : (s : ℕ) (ns : List ℕ) → AreAbove s ns → times s ns ≡ 0
none_above s [] h = refl
none_above s (n ∷ ns) h =
    let above = h.0 in
    let other : (n == s) ≡ false = grind (arith, nat_tests) in
    rw other (omega (arith, none_above s ns h.1))

once-more : (s n : ℕ) (ns : List ℕ) (b : Bool) → (n == s) ≡ b → AreAbove n ns → times s ns ≤ 1 →
    cond b 1 0 + times s ns ≤ 1
once-more s n ns true e above rest =
    let same : n ≡ s = grind (arith, nat_tests) in
    let none : times s ns ≡ 0 = none_above s ns (subst (λ m. AreAbove m ns) same above) in
    omega (arith, none)
once-more s n ns false e above rest = omega (arith, rest)

pub once : (s : ℕ) (ns : List ℕ) → IsRising ns → times s ns ≤ 1
once s [] h = omega arith
once s (n ∷ ns) h = once-more s n ns (n == s) refl h.0 (once s ns h.1)

-- ---- membership
there-more : (s n : ℕ) (ns : List ℕ) (b : Bool) → (n == s) ≡ b → (1 ≤ times s ns → Contains ns s) →
    1 ≤ cond b 1 0 + times s ns → Contains (n ∷ ns) s
there-more s n ns true e rest h = let same : n ≡ s = grind (arith, nat_tests) in (0, omega arith, same)
there-more s n ns false e rest h =
    let fewer : 1 ≤ times s ns = omega (arith, h) in Contains-append_right (n ∷ []) ns s (rest fewer)

pub is_there : (s : ℕ) (ns : List ℕ) → 1 ≤ times s ns → Contains ns s
is_there s [] h = absurd (omega arith)
is_there s (n ∷ ns) h = there-more s n ns (n == s) refl (is_there s ns) h

pub is_counted : (s : ℕ) (ns : List ℕ) → Contains ns s → 1 ≤ times s ns
is_counted s [] h = absurd (nowhere s h)
is_counted s (n ∷ ns) h = elim (first_or_rest n ns s h) [
  | inl same ↦ let e : (n == s) ≡ true = grind (arith, nat_tests) in rw e (omega arith)
  | inr more ↦ let r = is_counted s ns more in omega arith
]
