-- Lists of arrivals as they are given, and a place in them that moves on.
use Rattle.std.proofs.Common.{◌≡◌, ℕ, zero, suc, ◌+◌, ◌-◌, ◌≤◌, ◌<◌, ◌==◌, Bool, true, false, nat_lt}
use Rattle.std.proofs.Common.{List, [], ◌∷◌, ◌++◌, length, take, drop, refl, sym, ap, ◌∙◌, subst, arith}
use Rattle.std.proofs.Common.{append_assoc, append-nil, take-append-drop}
use Rattle.std.specs.Prelude.{if◌then◌else◌, min, ◌^◌, ◌⊎◌}
use Rattle.std.proofs.Common.{inl, inr, ⊎_elim}
use Rattle.std.proofs.lemmas.Bool.{cases_lt}
use Rattle.std.proofs.lemmas.Bool.Decides.{nat_tests}
use Rattle.std.proofs.lemmas.List.{drop-drop, drop_all, take_all, length-drop}
use Rattle.std.proofs.Math.Seq.{take-add}
use Rattle.std.specs.Prelude.{Vec}
use Rattle.std.specs.declared.alloc.Global.{Global}
use Rattle.dp_polled.specs.declared.polled.Look.TheVariants.{NotYet}
use Rattle.dp_polled.specs.Arrivals.{Arrival, Coming, arrivals_of, bytes_of, first_bytes, found, is_there, less, look_at, next}
use Rattle.dp_polled.specs.inner.Places.{coming_at, cut}

-- ---- arrivals that say nothing

-- ---- bytes of the first

-- ---- a place moves on
bytes_last : (over : List Arrival) (a : Arrival) → bytes_of (over ++ a ∷ []) ≡ bytes_of over ++ a.1
bytes_last [] a = append-nil a.1
bytes_last (b ∷ over) a =
    ap (λ (l : List ℕ). b.1 ++ l) (bytes_last over a) ∙ sym (append_assoc b.1 (bytes_of over) a.1)

pub cut_none : (l : List Arrival) → cut 0 l ≡ l
cut_none [] = refl
cut_none (a ∷ more) = refl

-- what a place comes to once so many bytes more of the first were given
abbrev pub further : ℕ → Coming → Coming
further n c = record { left = less n c.left; given = c.given ++ take n (first_bytes c.left) }

pub advances : (over : List Arrival) (a : Arrival) (more : List Arrival) (at n : ℕ) → n < length (drop at a.1) →
    coming_at over (a ∷ more) (at + n) ≡ further n (coming_at over (a ∷ more) at)
advances over a more at n within =
    let test : nat_lt n (length (drop at a.1)) ≡ true = grind (arith, nat_tests) in
    λ i. record {
      left = ((ap (λ (l : List ℕ). (a.0, l) ∷ more) (sym (drop-drop n at a.1)))
          ∙ sym (ap (λ (b : Bool). if b then ((a.0, drop n (drop at a.1)) ∷ more) else more) test)) i;
      given = (ap (λ (l : List ℕ). bytes_of over ++ l) (take-add at n a.1)
          ∙ sym (append_assoc (bytes_of over) (take at a.1) (take n (drop at a.1)))) i;
    }

pub passes : (over : List Arrival) (a : Arrival) (more : List Arrival) (at n : ℕ) → n ≡ length (drop at a.1) →
    coming_at (over ++ a ∷ []) more 0 ≡ further n (coming_at over (a ∷ more) at)
passes over a more at n all =
    let test : nat_lt n (length (drop at a.1)) ≡ false = grind (arith, nat_tests) in
    λ i. record {
      left = (cut_none more
          ∙ sym (ap (λ (b : Bool). if b then ((a.0, drop n (drop at a.1)) ∷ more) else more) test)) i;
      given = (append-nil (bytes_of (over ++ a ∷ [])) ∙ bytes_last over a
          ∙ ap (λ (l : List ℕ). bytes_of over ++ l) (whole at n a.1 all)
          ∙ sym (append_assoc (bytes_of over) (take at a.1) (take n (drop at a.1)))) i;
    }
  where
    whole : (at n : ℕ) (bytes : List ℕ) → n ≡ length (drop at bytes) →
        bytes ≡ take at bytes ++ take n (drop at bytes)
    whole at n bytes all =
        let none : drop n (drop at bytes) ≡ [] = drop_all n (drop at bytes) (omega arith) in
        sym (take-append-drop at bytes) ∙ ap (λ (l : List ℕ). take at bytes ++ l)
        (sym (take-append-drop n (drop at bytes)) ∙ ap (λ (l : List ℕ). take n (drop at bytes) ++ l) none
        ∙ append-nil (take n (drop at bytes)))

-- ---- the place that the code keeps
abbrev pub Given : Type 0
Given = ℕ × Vec ℕ Global

split_at : {X : Type 0} (l : List X) (i : ℕ) → i < length l →
    (x : X) × (drop i l ≡ x ∷ drop (suc i) l) × (take (suc i) l ≡ take i l ++ x ∷ [])
split_at [] i h = absurd (omega arith)
split_at (x ∷ xs) zero h = (x, refl, refl)
split_at {X} (x ∷ xs) (suc i) h =
    let r = split_at xs i (omega arith) in (r.0, r.1, ap (λ (l : List X). x ∷ l) r.2)

arrivals_last : (l : List Given) (x : Given) → arrivals_of (l ++ x ∷ []) ≡ arrivals_of l ++ (x.0, x.1.items) ∷ []
arrivals_last [] x = refl
arrivals_last (y ∷ l) x = ap (λ (r : List Arrival). (y.0, y.1.items) ∷ r) (arrivals_last l x)

abbrev pub place : List Given → ℕ → ℕ → Coming
place all first at = coming_at (arrivals_of (take first all)) (arrivals_of (drop first all)) at

-- fewer bytes were given than the first has
pub moves_within : (all : List Given) (first at n : ℕ) → first < length all →
    n < length (first_bytes (place all first at).left) → place all first (at + n) ≡ further n (place all first at)
moves_within all first at n some within =
    let s = split_at all first some in
    let a : Arrival = (s.0.0, s.0.1.items) in
    let rest : arrivals_of (drop first all) ≡ a ∷ arrivals_of (drop (suc first) all) = ap arrivals_of s.1 in
    let n_in : n < length (drop at a.1) =
    subst (λ (r : List Arrival). n < length (first_bytes (cut at r))) rest within in
    subst (λ (r : List Arrival). coming_at (arrivals_of (take first all)) r (at + n)
    ≡ further n (coming_at (arrivals_of (take first all)) r at)) (sym rest)
    (advances (arrivals_of (take first all)) a (arrivals_of (drop (suc first) all)) at n n_in)

-- all that the first had left were given
pub moves_on : (all : List Given) (first at n : ℕ) → first < length all →
    n ≡ length (first_bytes (place all first at).left) → place all (first + 1) 0 ≡ further n (place all first at)
moves_on all first at n some whole =
    let s = split_at all first some in
    let a : Arrival = (s.0.0, s.0.1.items) in
    let more : List Arrival = arrivals_of (drop (suc first) all) in
    let rest : arrivals_of (drop first all) ≡ a ∷ more = ap arrivals_of s.1 in
    let over : arrivals_of (take (suc first) all) ≡ arrivals_of (take first all) ++ a ∷ [] =
    ap arrivals_of s.2 ∙ arrivals_last (take first all) s.0 in
    let n_is : n ≡ length (drop at a.1) = whole ∙ ap (λ (r : List Arrival). length (first_bytes (cut at r))) rest in
    let next_one : suc first ≡ first + 1 = omega arith in
    subst (λ (k : ℕ). place all k 0 ≡ further n (place all first at)) next_one
    (ap (λ (o : List Arrival). coming_at o more 0) over
    ∙ passes (arrivals_of (take first all)) a more at n n_is
    ∙ sym (ap (λ (r : List Arrival). further n (coming_at (arrivals_of (take first all)) r at)) rest))

-- ---- a slice up to its end is all of it
pub take_rest : (bytes : List ℕ) (at : ℕ) → take (length bytes - at) (drop at bytes) ≡ drop at bytes
take_rest bytes at =
    take_all (length bytes - at) (drop at bytes)
    (let size : length (drop at bytes) ≡ length bytes - at = length-drop at bytes in omega arith)

-- ---- what a look finds
no_bytes : (bytes : List ℕ) → (length bytes == 0) ≡ true → bytes ≡ []
no_bytes [] e = refl
no_bytes (x ∷ xs) e = let bad : suc (length xs) ≡ 0 = grind (arith, nat_tests) in absurd (omega arith)

next_by : (a : Arrival) (l : List Arrival) (b : Bool) → (length a.1 == 0) ≡ b → bytes_of (next l) ≡ bytes_of l →
    bytes_of (if b then next l else (a ∷ l)) ≡ bytes_of (a ∷ l)
next_by a l true e same = same ∙ ap (λ (bytes : List ℕ). bytes ++ bytes_of l) (sym (no_bytes a.1 e))
next_by a l false e same = refl

pub bytes_next : (l : List Arrival) → bytes_of (next l) ≡ bytes_of l
bytes_next [] = refl
bytes_next (a ∷ []) = refl
bytes_next (a ∷ b ∷ more) = next_by a (b ∷ more) (length a.1 == 0) refl (bytes_next (b ∷ more))

-- ---- the number of a look
look_by : (room : ℕ) (l : List Arrival) (b c : Bool) → b ≡ c →
    (if b then found room (first_bytes l) else NotYet) ≡ (if c then found room (first_bytes l) else NotYet)
look_by room l b c e = ap (λ (x : Bool). if x then found room (first_bytes l) else NotYet) e

still_there : (n m : ℕ) (l : List Arrival) → n ≤ m → is_there n l ≡ true → is_there m l ≡ true
still_there n m [] later there = refl
still_there n m (a ∷ more) later there = grind (arith, nat_tests)

pub look_later : (n m room : ℕ) (l : List Arrival) → n ≤ m → is_there n l ≡ true → look_at n room l ≡ look_at m room l
look_later n m room l later there =
    look_by room l (is_there n l) (is_there m l) (there ∙ sym (still_there n m l later there))

-- a number that stands still at the greatest of 64 bits finds what the number itself does
pub look_counted : (n m room : ℕ) (l : List Arrival) → n ≡ min m (2 ^ 64 - 1) →
    (n ≡ 2 ^ 64 - 1 → is_there n l ≡ true) → look_at n room l ≡ look_at m room l
look_counted n m room l is greatest =
    ⊎_elim (λ (e : n ≡ m). ap (λ (k : ℕ). look_at k room l) e)
    (λ (e : (n ≡ 2 ^ 64 - 1) × (n ≤ m)). look_later n m room l e.1 (greatest e.0)) (which n m (2 ^ 64 - 1) is)
  where
    which : (n m top : ℕ) → n ≡ min m top → (n ≡ m) ⊎ ((n ≡ top) × (n ≤ m))
    which n m top is =
        ⊎_elim (λ (e : m < top). inl (omega arith)) (λ (e : top ≤ m). inr (omega arith, omega arith)) (cases_lt m top)
