-- A write to an entry that was written before, and that of a lighter value.
use Rattle.std.proofs.Common.{◌≡◌, ℕ, ℤ, ◌+◌, ◌≤◌, Bool, true, false, cond, nat_le, List, [], ◌∷◌, Option, Some, None, unwrap_or, Result, Ok, Err, is_ok, IsOk, OnErr, refl, ap, sym, ◌∙◌, arith}
use Rattle.std.proofs.lemmas.Bool.Decides.{nat_tests}
use Rattle.std.proofs.lemmas.Int.{ints, int_max_is}
use Rattle.std.specs.Int.{int_max}
use Rattle.dp_value.specs.declared.errors.WriteError.{WriteError}
use Rattle.dp_value.specs.declared.errors.WriteError.TheVariants.{TooHeavy}
use Rattle.dp_value.specs.declared.key.Key.{Key}
use Rattle.dp_value.specs.declared.key.Key.TheVariants.{Int, Text}
use Rattle.dp_value.specs.Key.{key_eq}
use Rattle.dp_value.specs.Data.{Data, Table, null, weight_of, pairs_weight, data_of_table}
use Rattle.dp_value.specs.Table.{find_value, put, raised, table_set, weight_limit}
use Rattle.dp_value.specs.Entry.{entry_at, holder_of, light, then_data, then_table, within, write_result, written}
use Rattle.dp_value.specs.inner.Writes.{written_in}
use Rattle.dp_value.proofs.KeyLemmas.{key_eq_equivalence}
use Rattle.dp_value.proofs.PairLemmas.{by_test, has}
use Rattle.dp_value.proofs.WriteLemmas.{holder_of-table, light-true, light_was, within_nothing, within_set}

-- ---- a lighter value
is_ok-then : (r : Result Data WriteError) (f : Data → Data) → is_ok (then_data r f) ≡ is_ok r
is_ok-then (Ok d) f = refl
is_ok-then (Err e) f = refl

module _ (new lesser : Data) (less : weight_of lesser ≤ weight_of new) where
  lighter-whole : (beside : ℕ) → IsOk (within beside (Ok new)) → IsOk (within beside (Ok lesser))
  lighter-whole beside h =
      let fits : nat_le (beside + weight_of new) weight_limit ≡ true =
      light-true (nat_le (beside + weight_of new) weight_limit) new h in
      let test : nat_le (beside + weight_of lesser) weight_limit ≡ true = grind (arith, nat_tests) in
      ap (λ (b : Bool). let r : Result Data WriteError = cond b (Ok lesser) (Err TooHeavy) in is_ok r) test

  -- the value under a first key, beside all else in its array
  lighter-under : (keys : List (Option Key)) (key : Option Key) (beside : ℕ) (r : Result Table WriteError)
      → ((inner : ℕ) (child : Data) → IsOk (within inner (written keys false new child))
      → IsOk (within inner (written keys false lesser child)))
      → IsOk (within beside (then_table r (written_in (key ∷ keys) false new)))
      → IsOk (within beside (then_table r (written_in (key ∷ keys) false lesser)))
  lighter-under keys (Some k) beside (Ok t) rest h =
      let inner : ℕ = beside + pairs_weight (put t.pairs k null) in
      let asked : (d : Data) → is_ok (within beside (written_in (Some k ∷ keys) false d t))
      ≡ is_ok (within inner (written keys false d (entry_at t k))) =
      λ d. ap is_ok (within_set beside t k (written keys false d (entry_at t k)))
      ∙ is_ok-then (within inner (written keys false d (entry_at t k))) (λ e. data_of_table (table_set t k e)) in
      asked lesser ∙ rest inner (entry_at t k) (sym (asked new) ∙ h)
  lighter-under keys None beside (Ok t) rest h = h
  lighter-under keys key beside (Err e) rest h = h

  lighter : (keys : List (Option Key)) (beside : ℕ) (old : Data) → IsOk (within beside (written keys false new old))
      → IsOk (within beside (written keys false lesser old))
  lighter [] beside old h = lighter-whole beside h
  lighter (key ∷ keys) beside old h = lighter-under keys key beside (holder_of old) (lighter keys) h

-- where a value can be written, so can a lighter one
pub lighter-asked : (keys : List (Option Key)) (new lesser old : Data) → weight_of lesser ≤ weight_of new
    → IsOk (write_result keys false new old) → IsOk (write_result keys false lesser old)
lighter-asked keys new lesser old less h =
    sym (ap is_ok (within_nothing (written keys false lesser old)))
    ∙ lighter new lesser less keys 0 old (ap is_ok (within_nothing (written keys false new old)) ∙ h)

-- ---- a write over a write
module _ (k : Key) (d : Data) where
  itself : key_eq k k ≡ true
  itself = key_eq_equivalence.refl k

  found-put : (ps : List (Key × Data)) → find_value (key_eq k) (put ps k d) ≡ Some d
  found-put =
      by_test (has k) _ (rw itself refl) (λ p ps h rest. rw (h, h) refl) (λ p ps h rest. rw (h, h) rest)

  put-put : (e : Data) (ps : List (Key × Data)) → put (put ps k d) k e ≡ put ps k e
  put-put e =
      by_test (has k) _ (rw itself refl) (λ p ps h rest. rw (h, h) refl)
      (λ p ps h rest. rw (h, h) (ap (λ qs. p ∷ qs) rest))

raised-raised : (largest : Option ℤ) (k : Key) → raised (raised largest k) k ≡ raised largest k
raised-raised largest (Text bytes) = refl
raised-raised None (Int n) = let top : int_max n n ≡ n = omega (arith, ints, int_max_is n n) in ap Some top
raised-raised (Some m) (Int n) =
    let top : int_max (int_max m n) n ≡ int_max m n =
    omega (arith, ints, int_max_is m n, int_max_is (int_max m n) n) in
    ap Some top

set-set : (t : Table) (k : Key) (d e : Data) → table_set (table_set t k d) k e ≡ table_set t k e
set-set t k d e =
    let pairs = put-put k d e t.pairs in
    let largest = raised-raised t.largest k in
    λ i. record { pairs = pairs i; largest = largest i }

entry-set : (t : Table) (k : Key) (d : Data) → entry_at (table_set t k d) k ≡ d
entry-set t k d = ap (λ (o : Option Data). unwrap_or o null) (found-put k d t.pairs)

module _ (keys : List (Option Key)) (new first : Data) where
  abbrev IsAgain : Type 0
  IsAgain = (child x : Data) → written keys false first child ≡ Ok x
      → written keys false new x ≡ written keys false new child

  again-entry : (t : Table) (k : Key) (r : Result Data WriteError) (mid : Data) → IsAgain
      → written keys false first (entry_at t k) ≡ r → then_data r (λ d. data_of_table (table_set t k d)) ≡ Ok mid
      → written (Some k ∷ keys) false new mid ≡ written_in (Some k ∷ keys) false new t
  again-entry t k (Ok x) mid rest is h =
      let same : data_of_table (table_set t k x) ≡ mid = cc in
      let entry = entry-set t k x in
      let set : (y : Data) → table_set (table_set t k x) k y ≡ table_set t k y = set-set t k x in
      let inside : written_in (Some k ∷ keys) false new (table_set t k x)
      ≡ then_data (written keys false new x) (λ y. data_of_table (table_set t k y)) =
      λ i. then_data (written keys false new (entry i)) (λ y. data_of_table (set y i)) in
      ap (written (Some k ∷ keys) false new) (sym same)
      ∙ ap (λ (r : Result Table WriteError). then_table r (written_in (Some k ∷ keys) false new))
      (holder_of-table (table_set t k x))
      ∙ inside
      ∙ ap (λ (r : Result Data WriteError). then_data r (λ y. data_of_table (table_set t k y)))
      (rest (entry_at t k) x is)
  again-entry t k (Err e) mid rest is h = absurd (cc)

  again-holder : (key : Option Key) (r : Result Table WriteError) (mid : Data) → IsAgain
      → then_table r (written_in (key ∷ keys) false first) ≡ Ok mid
      → written (key ∷ keys) false new mid ≡ then_table r (written_in (key ∷ keys) false new)
  again-holder (Some k) (Ok t) mid rest h =
      again-entry t k (written keys false first (entry_at t k)) mid rest refl h
  again-holder None (Ok t) mid rest h = absurd (cc)
  again-holder key (Err e) mid rest h = absurd (cc)

written-again : (keys : List (Option Key)) (new first old mid : Data) → written keys false first old ≡ Ok mid
    → written keys false new mid ≡ written keys false new old
written-again [] new first old mid h = refl
written-again (key ∷ keys) new first old mid h =
    again-holder keys new first key (holder_of old) mid
    (λ child x. written-again keys new first child x) h

-- a write after another one to the same entry leaves what it would leave without that one
pub result-again : (keys : List (Option Key)) (new first old mid : Data) → write_result keys false first old ≡ Ok mid
    → write_result keys false new mid ≡ write_result keys false new old
result-again keys new first old mid h =
    ap light (written-again keys new first old mid (light_was (written keys false first old) mid h))

-- ---- what stands after an exit
pub on_err_is : {X E : Type 0} (r : Result X E) (P : Type 0) → P → OnErr r P
on_err_is (Ok x) P p = tt
on_err_is (Err e) P p = p
