-- Keys that rise: where they do, and which keys are not among them.
use Rattle.std.proofs.Common.{◌≡◌, Some, None, ℕ, zero, suc, ◌-◌, ◌<◌, ℤ, ◌<ℤ◌, false, true, nat_lt, List, [], ◌∷◌, ◌++◌, length, get_or, take, drop, remove, refl, ap, sym, ◌∙◌, arith}
use Rattle.std.proofs.lemmas.List.Elements.{All-from_recursion}
use Rattle.std.proofs.lemmas.Map.Keys.{IsDistinct-head, IsDistinct-tail}
use Rattle.std.specs.Cmp.{int_chain, int_cmp_is, int_ranks}
use Rattle.std.specs.List.{IsDistinct}
use Rattle.std.specs.Ordering.{MatchOrdering, int_cmp, int_eq, is_eq}
use Rattle.std.specs.declared.cmp.Ordering.{Ordering}
use Rattle.std.specs.declared.cmp.Ordering.TheVariants.{Less, Equal, Greater}
use Rattle.dp_value.specs.declared.key.Key.{Key}
use Rattle.dp_value.specs.declared.key.Key.TheVariants.{Int, Text}
use Rattle.dp_value.specs.Key.{key_eq}
use Rattle.dp_value.specs.Place.{IsAbsent, IsFirst}
use Rattle.dp_value.specs.inner.Rising.{RiseFrom, IsRising, integer_order}
use Rattle.dp_value.proofs.KeyLemmas.{key_eq-Decides, key_eq_equivalence}

-- ---- from below
pub rise-lower : (m n : ℤ) (ks : List Key) → m <ℤ n → RiseFrom n ks → RiseFrom m ks
rise-lower m n [] below rise = tt
rise-lower m n (Int x ∷ ks) below rise = (int_chain m n x below rise.0, rise.1)
rise-lower m n (Text bytes ∷ ks) below rise = rise

rise-rising : (m : ℤ) (ks : List Key) → RiseFrom m ks → IsRising ks
rise-rising m [] rise = tt
rise-rising m (Int n ∷ ks) rise = rise.1
rise-rising m (Text bytes ∷ ks) rise = rise

rising-tail : (k : Key) (ks : List Key) → IsRising (k ∷ ks) → IsRising ks
rising-tail (Int n) ks rise = rise-rising n ks rise
rising-tail (Text bytes) ks rise = absurd rise

-- each is above the number from which they rise
pub rise-above : (p m : ℤ) (ks : List Key) (i : ℕ) (k : Key) → RiseFrom p ks → i < length ks → k ≡ get_or ks i k
    → k ≡ Int m → p <ℤ m
rise-above p m [] i k rise within at is = absurd (omega arith)
rise-above p m (Int x ∷ ks) zero k rise within at is = let same : x ≡ m = cc in rw same at rise.0
rise-above p m (Int x ∷ ks) (suc i) k rise within at is =
    int_chain p x m rise.0 (rise-above x m ks i k rise.1 (omega arith) at is)
rise-above p m (Text bytes ∷ ks) i k rise within at is = absurd rise

-- ---- what is taken away, and what is put behind
rise-remove : (m : ℤ) (ks : List Key) (i : ℕ) → RiseFrom m ks → RiseFrom m (remove ks i)
rise-remove m [] zero rise = tt
rise-remove m [] (suc i) rise = tt
rise-remove m (Int n ∷ ks) zero rise = rise-lower m n ks rise.0 rise.1
rise-remove m (Int n ∷ ks) (suc i) rise = (rise.0, rise-remove n ks i rise.1)
rise-remove m (Text bytes ∷ ks) i rise = absurd rise

pub rising-remove : (ks : List Key) (i : ℕ) → IsRising ks → IsRising (remove ks i)
rising-remove [] zero rise = tt
rising-remove [] (suc i) rise = tt
rising-remove (k ∷ ks) zero rise = rising-tail k ks rise
rising-remove (Int n ∷ ks) (suc i) rise = rise-remove n ks i rise
rising-remove (Text bytes ∷ ks) (suc i) rise = absurd rise

rise-push : (p m n : ℤ) (ks : List Key) (i : ℕ) (k : Key) → RiseFrom p ks → length ks ≡ suc i → k ≡ get_or ks i k
    → k ≡ Int m → m <ℤ n → RiseFrom p (ks ++ Int n ∷ [])
rise-push p m n [] i k rise last at is below = absurd (omega arith)
rise-push p m n (Int x ∷ []) zero k rise last at is below =
    let same : m ≡ x = cc in (rise.0, (rw same at below, tt))
rise-push p m n (Int x ∷ []) (suc i) k rise last at is below = absurd (omega arith)
rise-push p m n (Int x ∷ y ∷ ks) zero k rise last at is below = absurd (omega arith)
rise-push p m n (Int x ∷ y ∷ ks) (suc i) k rise last at is below =
    (rise.0, rise-push x m n (y ∷ ks) i k rise.1 (omega arith) at is below)
rise-push p m n (Text bytes ∷ ks) i k rise last at is below = absurd rise

pub rising-push : (ks : List Key) (m n : ℤ) (k : Key) → IsRising ks → k ≡ Int m → k ≡ get_or ks (length ks - 1) k
    → m <ℤ n → IsRising (ks ++ Int n ∷ [])
rising-push [] m n k rise is at below = tt
rising-push (Int x ∷ []) m n k rise is at below = let same : m ≡ x = cc in (rw same at below, tt)
rising-push (Int x ∷ y ∷ ks) m n k rise is at below =
    let last : length (Int x ∷ y ∷ ks) - 1 ≡ suc (length ks) = omega arith in
    rise-push x m n (y ∷ ks) (length ks) k rise (omega arith) (rw last at at) is below
rising-push (Text bytes ∷ ks) m n k rise is at below = absurd rise

-- ---- which keys are not among them
int_below : (m n : ℤ) → m <ℤ n → int_eq m n ≡ false
int_below m n below = ap is_eq (sym (int_cmp_is m n Less below))

int_above : (m n : ℤ) → n <ℤ m → int_eq m n ≡ false
int_above m n above = ap is_eq (sym (int_cmp_is m n Greater above))

pub rise-absent : (n : ℤ) (ks : List Key) → RiseFrom n ks → IsAbsent (key_eq (Int n)) ks
rise-absent n [] rise = tt
rise-absent n (Int x ∷ ks) rise = (int_below n x rise.0, rise-absent n ks (rise-lower n x ks rise.0 rise.1))
rise-absent n (Text bytes ∷ ks) rise = absurd rise

pub rising-distinct : (ks : List Key) → IsRising ks → IsDistinct key_eq ks
unfolding IsDistinct
rising-distinct [] rise = tt
rising-distinct (Int n ∷ ks) rise =
    (rise-absent n ks rise, rising-distinct ks (rise-rising n ks rise))
rising-distinct (Text bytes ∷ ks) rise = absurd rise

pub rising-text : (bytes : List ℕ) (ks : List Key) → IsRising ks → IsAbsent (key_eq (Text bytes)) ks
rising-text bytes [] rise = tt
rising-text bytes (Int n ∷ ks) rise = (refl, rising-text bytes ks (rise-rising n ks rise))
rising-text bytes (Text other ∷ ks) rise = absurd rise

pub rising-integer : (ks : List Key) (i : ℕ) (bytes : List ℕ) (k : Key) → IsRising ks → i < length ks
    → k ≡ get_or ks i k → k ≡ Text bytes → ⊥
rising-integer [] i bytes k rise within at is = omega arith
rising-integer (Int n ∷ ks) zero bytes k rise within at is = cc
rising-integer (Int n ∷ ks) (suc i) bytes k rise within at is =
    rising-integer ks i bytes k (rise-rising n ks rise) (omega arith) at is
rising-integer (Text other ∷ ks) i bytes k rise within at is = rise

-- a number above the key at a place is not up to there, and one below it is not from there on
pub rising-below : (ks : List Key) (i : ℕ) (k : Key) (m n : ℤ) → IsRising ks → i < length ks → k ≡ get_or ks i k
    → k ≡ Int m → m <ℤ n → IsAbsent (key_eq (Int n)) (take (suc i) ks)
rising-below [] i k m n rise within at is below = tt
rising-below (Int x ∷ ks) zero k m n rise within at is below =
    let same : m ≡ x = cc in (int_above n x (rw same at below), tt)
rising-below (Int x ∷ ks) (suc i) k m n rise within at is below = (
  int_above n x (int_chain x m n (rise-above x m ks i k rise (omega arith) at is) below),
  rising-below ks i k m n (rise-rising x ks rise) (omega arith) at is below,
)
rising-below (Text bytes ∷ ks) i k m n rise within at is below = absurd rise

pub rising-above : (ks : List Key) (i : ℕ) (k : Key) (m n : ℤ) → IsRising ks → i < length ks → k ≡ get_or ks i k
    → k ≡ Int m → n <ℤ m → IsAbsent (key_eq (Int n)) (drop i ks)
rising-above [] i k m n rise within at is above = absurd (omega arith)
rising-above (Int x ∷ ks) zero k m n rise within at is above =
    let same : m ≡ x = cc in rise-absent n (Int x ∷ ks) (rw same at above, rise)
rising-above (x ∷ ks) (suc i) k m n rise within at is above =
    rising-above ks i k m n (rising-tail x ks rise) (omega arith) at is above
rising-above (Text bytes ∷ ks) zero k m n rise within at is above = absurd rise

-- a key of distinct ones is first found in its own place
pub rising-first : (ks : List Key) (i : ℕ) (k key : Key) → IsDistinct key_eq ks → i < length ks → k ≡ get_or ks i k
    → key ≡ k → IsFirst (key_eq key) ks i
rising-first [] i k key is within at same = omega arith
rising-first (x ∷ ks) zero k key is within at same = (key_eq-Decides key x).1 (same ∙ at)
rising-first (x ∷ ks) (suc i) k key is within at same =
    let apart : key_eq x (get_or ks i k) ≡ false =
    All-from_recursion (λ y. key_eq x y ≡ false) ks (IsDistinct-head key_eq x ks is) i k (omega arith) in
    let other : key_eq key x ≡ false = key_eq_equivalence.symm key x ∙ ap (key_eq x) (same ∙ at) ∙ apart in
    (other, rising-first ks i k key (IsDistinct-tail key_eq x ks is) (omega arith) at same)

-- ---- what the order of the key at a place and another tells
ordered : (m n : ℤ) (r : Ordering) → Some (int_cmp m n) ≡ Some r → MatchOrdering r (m <ℤ n) (m ≡ n) (n <ℤ m)
ordered m n r is = let same : int_cmp m n ≡ r = cc in rw same at (int_ranks m n)

pub order-equal : (k key : Key) → integer_order k key ≡ Some Equal → key ≡ k
order-equal (Int m) (Int n) is = ap Int (sym (ordered m n Equal is))
order-equal (Int m) (Text bytes) is = absurd (cc)
order-equal (Text bytes) key is = absurd (cc)

pub order-push : (ks : List Key) (k key : Key) → IsRising ks → k ≡ get_or ks (length ks - 1) k
    → integer_order k key ≡ Some Less → IsRising (ks ++ key ∷ [])
order-push ks (Int m) (Int n) rise at is = rising-push ks m n (Int m) rise refl at (ordered m n Less is)
order-push ks (Int m) (Text bytes) rise at is = absurd (cc)
order-push ks (Text bytes) key rise at is = absurd (cc)

rise-last : (p : ℤ) (ks : List Key) (i : ℕ) (k key : Key) → RiseFrom p (ks ++ key ∷ []) → length ks ≡ suc i
    → k ≡ get_or ks i k → integer_order k key ≡ Some Less
rise-last p [] i k key rise last at = absurd (omega arith)
rise-last p (Int x ∷ []) zero k (Int n) rise last at =
    ap (λ (k : Key). integer_order k (Int n)) at ∙ sym (ap Some (int_cmp_is x n Less rise.1.0))
rise-last p (Int x ∷ []) zero k (Text bytes) rise last at = absurd rise.1
rise-last p (Int x ∷ []) (suc i) k key rise last at = absurd (omega arith)
rise-last p (Int x ∷ y ∷ ks) zero k key rise last at = absurd (omega arith)
rise-last p (Int x ∷ y ∷ ks) (suc i) k key rise last at = rise-last x (y ∷ ks) i k key rise.1 (omega arith) at
rise-last p (Text bytes ∷ ks) i k key rise last at = absurd rise

-- the last key of those that rise is smaller than one that stands behind it, where they still rise
pub order-last : (ks : List Key) (k key : Key) → IsRising (ks ++ key ∷ []) → true ≡ nat_lt 0 (length ks)
    → k ≡ get_or ks (length ks - 1) k → integer_order k key ≡ Some Less
order-last [] k key rise some at = absurd (cc)
order-last (Int x ∷ []) k (Int n) rise some at =
    ap (λ (k : Key). integer_order k (Int n)) at ∙ sym (ap Some (int_cmp_is x n Less rise.0))
order-last (Int x ∷ []) k (Text bytes) rise some at = absurd rise
order-last (Int x ∷ y ∷ ks) k key rise some at =
    let last : length (Int x ∷ y ∷ ks) - 1 ≡ suc (length ks) = omega arith in
    rise-last x (y ∷ ks) (length ks) k key rise (omega arith) (rw last at at)
order-last (Text bytes ∷ ks) k key rise some at = absurd rise

module _ (ks : List Key) (i : ℕ) (rise : IsRising ks) (within : i < length ks) where
  pub order-none : (k key : Key) → k ≡ get_or ks i k → integer_order k key ≡ None → IsAbsent (key_eq key) ks
  order-none (Int m) (Int n) at is = absurd (cc)
  order-none (Int m) (Text bytes) at is = rising-text bytes ks rise
  order-none (Text bytes) key at is = absurd (rising-integer ks i bytes (Text bytes) rise within at refl)

  pub order-less : (k key : Key) → k ≡ get_or ks i k → integer_order k key ≡ Some Less
      → IsAbsent (key_eq key) (take (suc i) ks)
  order-less (Int m) (Int n) at is = rising-below ks i (Int m) m n rise within at refl (ordered m n Less is)
  order-less (Int m) (Text bytes) at is = absurd (cc)
  order-less (Text bytes) key at is = absurd (cc)

  pub order-greater : (k key : Key) → k ≡ get_or ks i k → integer_order k key ≡ Some Greater
      → IsAbsent (key_eq key) (drop i ks)
  order-greater (Int m) (Int n) at is = rising-above ks i (Int m) m n rise within at refl (ordered m n Greater is)
  order-greater (Int m) (Text bytes) at is = absurd (cc)
  order-greater (Text bytes) key at is = absurd (cc)
