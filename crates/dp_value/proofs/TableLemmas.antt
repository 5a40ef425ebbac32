-- What holds of every array stays true through a write and a removal.
use Rattle.std.proofs.Common.{◌≡◌, ℤ, ◌≤ℤ◌, ◌≤◌, Bool, true, false, List, [], ◌∷◌, ◌++◌, All, Option, Some, None, refl, ap, sym, subst, arith}
use Rattle.std.proofs.lemmas.Int.{ints, int_max_is}
use Rattle.std.proofs.lemmas.List.Elements.{All-nil, All-push, All-weaker, All-from_recursion, recursion_from_All}
use Rattle.std.proofs.lemmas.Map.Keys.{IsDistinct-push, IsDistinct-head, IsDistinct-tail, IsDistinct-cons}
use Rattle.std.specs.Int.{int_max}
use Rattle.std.specs.List.{IsDistinct, AllByRecursion, list_any}
use Rattle.dp_value.specs.declared.key.Key.{Key}
use Rattle.dp_value.specs.declared.key.Key.TheVariants.{Int, Text}
use Rattle.dp_value.specs.Key.{key_eq}
use Rattle.dp_value.specs.Data.{Data, Table, pairs_weight}
use Rattle.dp_value.specs.Table.{empty, keys_of, put, take_away, swapped, raised, table_set, table_exchange, table_remove, weight_limit, IsUpTo, IsTable}
use Rattle.dp_value.proofs.KeyLemmas.{key_eq_equivalence}
use Rattle.dp_value.proofs.PairLemmas.{by_test, has}

pub keys_of-put_present : (key : Key) (d : Data) (ps : List (Key × Data)) → list_any (key_eq key) (keys_of ps) ≡ true
    → keys_of (put ps key d) ≡ keys_of ps
keys_of-put_present key d =
    by_test (has key) _ (λ any. cc) (λ p ps h rest any. rw h)
    (λ p ps h rest any. rw h (ap (λ ks. p.0 ∷ ks) (rest (rw h at any))))

pub keys_of-put_absent : (key : Key) (d : Data) (ps : List (Key × Data)) → list_any (key_eq key) (keys_of ps) ≡ false
    → keys_of (put ps key d) ≡ keys_of ps ++ key ∷ []
keys_of-put_absent key d =
    by_test (has key) _ (λ any. refl) (λ p ps h rest any. let never : true ≡ false = rw h at any in cc)
    (λ p ps h rest any. rw h (ap (λ ks. p.0 ∷ ks) (rest (rw h at any))))

le_int_max : (m n : ℤ) → (m ≤ℤ int_max m n) × (n ≤ℤ int_max m n)
le_int_max m n = (omega (arith, ints, int_max_is m n), omega (arith, ints, int_max_is m n))

pub IsUpTo-raised : (largest : Option ℤ) (key k : Key) → IsUpTo largest k → IsUpTo (raised largest key) k
IsUpTo-raised largest key (Text bytes) h = tt
IsUpTo-raised None (Text other) (Int n) h = h
IsUpTo-raised None (Int m) (Int n) h = absurd h
IsUpTo-raised (Some m) (Text other) (Int n) h = h
IsUpTo-raised (Some m) (Int p) (Int n) h = let above = le_int_max m p in omega (arith, ints, above.0)

pub IsUpTo-new : (largest : Option ℤ) (key : Key) → IsUpTo (raised largest key) key
IsUpTo-new largest (Text bytes) = tt
IsUpTo-new None (Int n) = omega (arith, ints)
IsUpTo-new (Some m) (Int n) = (le_int_max m n).1

IsTable-set-by : (t : Table) (key : Key) (d : Data) → IsTable t → pairs_weight (put t.pairs key d) ≤ weight_limit →
    (b : Bool) → list_any (key_eq key) (keys_of t.pairs) ≡ b → IsTable (table_set t key d)
IsTable-set-by t key d is light true any =
    let same = sym (keys_of-put_present key d t.pairs any) in
    record {
      distinct = subst (λ (ks : List Key). IsDistinct key_eq ks) same is.distinct;
      up_to = subst (λ (ks : List Key). All (IsUpTo (raised t.largest key)) ks) same
          (All-weaker (IsUpTo t.largest) (IsUpTo (raised t.largest key)) (IsUpTo-raised t.largest key)
          (keys_of t.pairs) is.up_to);
      light = light;
    }
IsTable-set-by t key d is light false any =
    let same = sym (keys_of-put_absent key d t.pairs any) in
    record {
      distinct =
          subst (λ (ks : List Key). IsDistinct key_eq ks) same
          (IsDistinct-push key_eq_equivalence (keys_of t.pairs) key is.distinct any);
      up_to = subst (λ (ks : List Key). All (IsUpTo (raised t.largest key)) ks) same
          (All-push (IsUpTo (raised t.largest key)) (keys_of t.pairs) key
          (All-weaker (IsUpTo t.largest) (IsUpTo (raised t.largest key)) (IsUpTo-raised t.largest key)
          (keys_of t.pairs) is.up_to)
          (IsUpTo-new t.largest key));
      light = light;
    }

pub IsTable-set : (t : Table) (key : Key) (d : Data) → IsTable t → pairs_weight (put t.pairs key d) ≤ weight_limit
    → IsTable (table_set t key d)
IsTable-set t key d is light = IsTable-set-by t key d is light (list_any (key_eq key) (keys_of t.pairs)) refl

pub IsTable-empty : IsTable empty
unfolding IsDistinct
IsTable-empty = record { distinct = tt; up_to = All-nil (IsUpTo None); light = omega arith }

-- ---- a removal
pub all_take_away : (P : Key → Type 0) (key : Key) (ps : List (Key × Data)) → AllByRecursion P (keys_of ps)
    → AllByRecursion P (keys_of (take_away ps key))
all_take_away P key =
    by_test (has key) _ (λ all. tt) (λ p ps h rest all. rw h all.1) (λ p ps h rest all. rw h (all.0, rest all.1))

pub distinct_take_away : (key : Key) (ps : List (Key × Data)) → IsDistinct key_eq (keys_of ps)
    → IsDistinct key_eq (keys_of (take_away ps key))
distinct_take_away key =
    by_test (has key) _ (λ is. is) (λ p ps h rest is. rw h (IsDistinct-tail key_eq p.0 (keys_of ps) is))
    (λ p ps h rest is. rw h (IsDistinct-cons key_eq p.0 (keys_of (take_away ps key))
    (all_take_away (λ k. key_eq p.0 k ≡ false) key ps (IsDistinct-head key_eq p.0 (keys_of ps) is))
    (rest (IsDistinct-tail key_eq p.0 (keys_of ps) is))))

pub light_take_away : (key : Key) (ps : List (Key × Data)) → pairs_weight (take_away ps key) ≤ pairs_weight ps
light_take_away key =
    by_test (has key) _ (omega arith) (λ p ps h rest. rw h (omega arith)) (λ p ps h rest. rw h (omega (arith, rest)))

pub IsTable-remove : (t : Table) (key : Key) → IsTable t → IsTable (table_remove t key)
IsTable-remove t key is = record {
  distinct = distinct_take_away key t.pairs is.distinct;
  up_to = All-from_recursion (IsUpTo t.largest) (keys_of (take_away t.pairs key))
      (all_take_away (IsUpTo t.largest) key t.pairs (recursion_from_All (IsUpTo t.largest) (keys_of t.pairs) is.up_to));
  light = omega (arith, light_take_away key t.pairs, is.light);
}

-- ---- an exchange
keys_of-swapped : (key : Key) (d : Data) (ps : List (Key × Data)) → keys_of (swapped ps key d) ≡ keys_of ps
keys_of-swapped key d =
    by_test (has key) _ refl (λ p ps h rest. rw h) (λ p ps h rest. rw h (ap (λ ks. p.0 ∷ ks) rest))

pub IsTable-exchange : (t : Table) (key : Key) (d : Data) → IsTable t
    → pairs_weight (swapped t.pairs key d) ≤ weight_limit → IsTable (table_exchange t key d)
IsTable-exchange t key d is light =
    let same = sym (keys_of-swapped key d t.pairs) in
    record {
      distinct = subst (λ (ks : List Key). IsDistinct key_eq ks) same is.distinct;
      up_to = subst (λ (ks : List Key). All (IsUpTo t.largest) ks) same is.up_to;
      light = light;
    }
