-- What the removal of an entry leaves, and that it adds no weight.
use Rattle.std.proofs.Common.{◌≡◌, ℤ, ◌≤◌, ◌<◌, ◌==◌, Bool, true, false, if◌then◌else◌, List, [], ◌∷◌, Option, Some, None, Result, Ok, Err, IfErr, IsOk, OnOk, OnErr, length, inl, inr, refl, ap, sym, subst, ◌∙◌, arith}
use Rattle.std.proofs.lemmas.Bool.{false≢true}
use Rattle.std.proofs.lemmas.Option.{same_Some}
use Rattle.dp_value.specs.declared.errors.WriteError.{WriteError}
use Rattle.dp_value.specs.declared.key.Key.{Key}
use Rattle.dp_value.specs.inner.Codes.{table_from-data_of_table}
use Rattle.dp_value.specs.Key.{key_eq}
use Rattle.dp_value.specs.Data.{Data, Entries, Table, null, boolean, integer, text, array, no_entries, entry, pairs_of, weight_of, entries_weight, pairs_weight, data_of_table}
use Rattle.dp_value.specs.Table.{find_value, swapped, table_exchange, table_remove, take_away, value_at, weight_limit, IsTable}
use Rattle.dp_value.proofs.PairLemmas.{by_test, has, take_away-missing}
use Rattle.dp_value.proofs.TableLemmas.{light_take_away}
use Rattle.dp_value.proofs.WriteLemmas.{exchange-same, swapped-swapped}
use Rattle.dp_value.specs.Entry.{in_array, removed, then_data, then_key, with_entry, IsCause}
use Rattle.dp_value.specs.inner.Removals.{removed_in, IsAnswer}

-- ---- weights
-- a lighter value in the place of another
weight-swapped : (key : Key) (d e : Data) → weight_of e ≤ weight_of d → (ps : List (Key × Data))
    → find_value (key_eq key) ps ≡ Some d → pairs_weight (swapped ps key e) ≤ pairs_weight ps
weight-swapped key d e lighter =
    by_test (has key) _ (λ found. cc)
    (λ p ps h rest found. let same : weight_of p.1 ≡ weight_of d = ap weight_of (same_Some p.1 d (rw h at found)) in
    rw h (omega (arith, lighter, same)))
    (λ p ps h rest found. rw h (omega (arith, rest (rw h at found))))

weight-pairs_of : (es : Entries) → pairs_weight (pairs_of es) ≡ entries_weight es
weight-pairs_of no_entries = refl
weight-pairs_of (entry k d es) = omega (arith, weight-pairs_of es)

-- a removal adds no weight to the value
abbrev IsLighter : List (Option Key) → Data → Type 0
IsLighter keys d = (e : Data) → removed keys d ≡ Ok e → weight_of e ≤ weight_of d

module _ (keys : List (Option Key)) (k : Key) (es : Entries) (largest : Option ℤ) (e : Data)
    (lighter : (c : Data) → IsLighter keys c) where
  abbrev t : Table
  t = record { pairs = pairs_of es; largest = largest }

  at_child : (c : Data) (r : Result Data WriteError) → value_at t k ≡ Some c → removed keys c ≡ r
      → then_data r (λ x. data_of_table (table_exchange t k x)) ≡ Ok e →
      weight_of e ≤ entries_weight es
  at_child c (Ok x) there is g =
      let same : data_of_table (table_exchange t k x) ≡ e = cc in
      let weighs : pairs_weight (swapped (pairs_of es) k x) ≡ weight_of e = ap weight_of same in
      omega (arith, weighs, weight-swapped k c x (lighter c x is) t.pairs there, weight-pairs_of es)
  at_child c (Err why) there is g = cc

  at_entry : (found : Option Data) → value_at t k ≡ found → with_entry t k (removed keys) found ≡ Ok e
      → weight_of e ≤ entries_weight es
  at_entry None missing g =
      let same : data_of_table t ≡ e = cc in
      let weighs : pairs_weight (pairs_of es) ≡ weight_of e = ap weight_of same in
      omega (arith, weighs, weight-pairs_of es)
  at_entry (Some c) there g = at_child c (removed keys c) there refl g

  at_test : (b : Bool)
      → (if b then Ok (data_of_table (table_remove t k)) else with_entry t k (removed keys) (value_at t k)) ≡ Ok e
      → weight_of e ≤ entries_weight es
  at_test true g =
      let same : data_of_table (table_remove t k) ≡ e = cc in
      let weighs : pairs_weight (take_away (pairs_of es) k) ≡ weight_of e = ap weight_of same in
      omega (arith, weighs, light_take_away k t.pairs, weight-pairs_of es)
  at_test false g = at_entry (value_at t k) refl g

pub removed-lighter : (keys : List (Option Key)) (d e : Data) → removed keys d ≡ Ok e → weight_of e ≤ weight_of d
removed-lighter [] d e h = let same : d ≡ e = cc in omega (arith, ap weight_of same)
removed-lighter (key ∷ keys) null e h = let same : null ≡ e = cc in omega (arith, ap weight_of same)
removed-lighter (key ∷ keys) (boolean true) e h = cc
removed-lighter (key ∷ keys) (boolean false) e h =
    let D : Data = boolean false in let same : D ≡ e = cc in omega (arith, ap weight_of same)
removed-lighter (key ∷ keys) (integer n) e h = cc
removed-lighter (key ∷ keys) (text bytes) e h = cc
removed-lighter (None ∷ keys) (array es largest) e h = cc
removed-lighter (Some k ∷ keys) (array es largest) e h =
    at_test keys k es largest e (removed-lighter keys) (length keys == 0) h

-- ---- a removal from an array
in-table : (t : Table) (f : Table → Result Data WriteError) → in_array (data_of_table t) f ≡ f t
in-table t f = ap f (table_from-data_of_table t)

pub removed-under : (key : Option Key) (k : Key) (rest : List (Option Key)) (t : Table) → key ≡ Some k
    → removed (key ∷ rest) (data_of_table t) ≡ removed_in k rest t
removed-under key k rest t is =
    in-table t (λ u. then_key key (λ x. removed_in x rest u)) ∙ ap (λ (o : Option Key). then_key o
    (λ x. removed_in x rest t)) is

-- nothing is removed where the key is not there
pub nothing-removed : (t : Table) (k : Key) → value_at t k ≡ None → t ≡ table_remove t k
nothing-removed t k missing =
    λ i. record { pairs = sym (take_away-missing k t.pairs missing) i; largest = t.largest }

some-pairs : (ps : List (Key × Data)) (k : Key) (d : Data) → Some d ≡ find_value (key_eq k) ps → 0 < length ps
some-pairs [] k d there = cc
some-pairs (p ∷ ps) k d there = omega arith

-- an array that has a key has an entry
pub some-entry : (t : Table) (k : Key) (d : Data) → Some d ≡ value_at t k → 0 < length t.pairs
some-entry t k d there = some-pairs t.pairs k d there

module _ (k : Key) (rest : List (Option Key)) (t : Table) where
  abbrev by : Bool → Result Data WriteError
  by b = if b then Ok (data_of_table (table_remove t k)) else with_entry t k (removed rest) (value_at t k)

  pub removed-here : (length rest == 0) ≡ true → removed_in k rest t ≡ Ok (data_of_table (table_remove t k))
  removed-here last = ap by last

  removed-further : (length rest == 0) ≡ false → removed_in k rest t ≡ with_entry t k (removed rest) (value_at t k)
  removed-further more = ap by more

  pub removed-missing : (length rest == 0) ≡ false → value_at t k ≡ None
      → removed_in k rest t ≡ Ok (data_of_table t)
  removed-missing more missing = removed-further more ∙ ap (with_entry t k (removed rest)) missing

  pub removed-behind : (length rest == 0) ≡ false → (child : Data) → value_at t k ≡ Some child →
      removed_in k rest t ≡ then_data (removed rest child) (λ e. data_of_table (table_exchange t k e))
  removed-behind more child there = removed-further more ∙ ap (with_entry t k (removed rest)) there

  absent-by : (b : Bool) → (length rest == 0) ≡ b → value_at t k ≡ None → removed_in k rest t ≡ Ok (data_of_table t)
  absent-by true last missing =
      removed-here last
      ∙ ap (λ (u : Table). let r : Result Data WriteError = Ok (data_of_table u) in r) (sym
      (nothing-removed t k missing))
  absent-by false more missing = removed-missing more missing

  -- nothing is removed where the key is not there
  pub removed-absent : value_at t k ≡ None → removed_in k rest t ≡ Ok (data_of_table t)
  removed-absent missing = absent-by (length rest == 0) refl missing

  ok-behind : (r : Result Data WriteError) → IsOk r → IsOk (then_data r (λ e. data_of_table (table_exchange t k e)))
  ok-behind (Ok d) h = refl
  ok-behind (Err e) h = h

  -- what is answered at once of an entry, is answered of its array
  module _ {X : Type 0} (child : Data) (more : (length rest == 0) ≡ false) (there : value_at t k ≡ Some child) where
    pub answer-behind : (r : Option (Result X WriteError)) → IsAnswer (removed rest child) child r
        → IsAnswer (removed_in k rest t) (data_of_table t) r
    answer-behind None h =
        subst (λ (r : Result Data WriteError). IsOk r) (sym (removed-behind more child there))
        (ok-behind (removed rest child) h)
    answer-behind (Some (Ok x)) h =
        removed-behind more child there
        ∙ ap (λ (r : Result Data WriteError). then_data r (λ e. data_of_table (table_exchange t k e))) h
        ∙ ap (λ (u : Table). let r : Result Data WriteError = Ok (data_of_table u) in r) (exchange-same t k child there)
    answer-behind (Some (Err why)) h =
        removed-behind more child there
        ∙ ap (λ (r : Result Data WriteError). then_data r (λ e. data_of_table (table_exchange t k e))) h

  -- the value under the key is taken out, changed, and put back
  module _ (child : Data) (more : (length rest == 0) ≡ false) (there : value_at t k ≡ Some child)
      (table : IsTable t) where
    back-weight : (d : Data) → weight_of d ≤ weight_of child
        → pairs_weight (swapped (swapped t.pairs k null) k d) ≤ weight_limit
    back-weight d lighter =
        omega (
          arith,
          ap pairs_weight (swapped-swapped k null d t.pairs),
          weight-swapped k child d lighter t.pairs there,
          table.light,
        )

    pub back-light : {X : Type 0} (r : Result X WriteError) (d : Data) → OnOk r (removed rest child ≡ Ok d)
        → OnErr r (d ≡ child) →
        pairs_weight (swapped (swapped t.pairs k null) k d) ≤ weight_limit
    back-light (Ok x) d done err = back-weight d (removed-lighter rest child d done)
    back-light (Err e) d done err = back-weight d (omega (arith, ap weight_of err))

    pub back-ok : {X : Type 0} (r : Result X WriteError) (d : Data) (after : Table) → after ≡ table_exchange t k d
        → OnOk r (removed rest child ≡ Ok d) → OnOk r (removed_in k rest t ≡ Ok (data_of_table after))
    back-ok (Ok x) d after h done =
        removed-behind more child there
        ∙ ap (λ (r : Result Data WriteError). then_data r (λ e. data_of_table (table_exchange t k e))) done
        ∙ ap (λ (u : Table). let r : Result Data WriteError = Ok (data_of_table u) in r) (sym h)
    back-ok (Err e) d after h done = tt

    cause-behind : (e : WriteError) → IsCause (removed rest child) e → IsCause (removed_in k rest t) e
    cause-behind e (inl memory) = inl memory
    cause-behind e (inr h) =
        inr (removed-behind more child there
        ∙ ap (λ (r : Result Data WriteError). then_data r (λ x. data_of_table (table_exchange t k x))) h)

    pub back-refused : {X : Type 0} (r : Result X WriteError) → IfErr r (IsCause (removed rest child))
        → IfErr r (IsCause (removed_in k rest t))
    back-refused (Ok x) h = tt
    back-refused (Err e) h = cause-behind e h

    pub back-err : {X : Type 0} (r : Result X WriteError) (d : Data) (after : Table) → after ≡ table_exchange t k d
        → OnErr r (d ≡ child) → OnErr r (after ≡ t)
    back-err (Ok x) d after h err = tt
    back-err (Err e) d after h err = h ∙ ap (table_exchange t k) err ∙ exchange-same t k child there

-- ---- what is answered at once
module _ {X : Type 0} (asked : Result Data WriteError) (d : Data) where
  pub answered-ok : (r : Result X WriteError) → IsAnswer asked d (Some r) → OnOk r (asked ≡ Ok d)
  answered-ok (Ok x) h = h
  answered-ok (Err e) h = tt

  pub answered-refused : (r : Result X WriteError) → IsAnswer asked d (Some r) → IfErr r (IsCause asked)
  answered-refused (Ok x) h = tt
  answered-refused (Err e) h = inr h

  pub answered-sure : (r : Result X WriteError) → IsAnswer asked d (Some r) → (why : WriteError) → asked ≡ Err why
      → r ≡ Err why
  answered-sure (Ok x) h why refused = cc
  answered-sure (Err e) h why refused = cc

-- what is sure to be done is not refused
pub asked-ok : (asked : Result Data WriteError) → IsOk asked → (why : WriteError) → asked ≡ Err why → ⊥
asked-ok (Ok d) h why refused = cc
asked-ok (Err e) h why refused = false≢true h
