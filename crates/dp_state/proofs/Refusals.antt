-- A write and a removal that are refused are refused whatever memory there is.
use Rattle.std.proofs.Common.{◌≡◌, ◌≢◌, ◌⊎◌, inl, inr, ◌==◌, Bool, true, false, cond, nat_le, if◌then◌else◌, List, [], ◌∷◌, ℕ, length, Option, Some, None, Result, Ok, Err, refl, ap, subst, ◌∙◌}
use Rattle.dp_value.specs.declared.errors.WriteError.{WriteError}
use Rattle.dp_value.specs.declared.errors.WriteError.TheVariants as write
use Rattle.dp_value.specs.declared.key.Key.{Key}
use Rattle.dp_value.specs.Data.{Data, Table, data_of_table, boolean, array, pairs_of, weight_of}
use Rattle.dp_value.specs.Entry.{entry_at, holder_of, in_array, is_full, light, pushed, removed, then_data, then_key, then_table, with_entry, write_result, written}
use Rattle.dp_value.specs.Table.{table_exchange, table_push, table_remove, table_set, value_at, weight_limit}
use Rattle.dp_state.specs.declared.moments.FatalKind.{FatalKind}
use Rattle.dp_state.specs.declared.state.Fault.{Fault}
use Rattle.dp_state.specs.declared.state.Fault.TheVariants as fault
use Rattle.dp_state.specs.Faults.{fault_of_write, kind_of_write}
use Rattle.dp_state.specs.inner.Parts.{then_variables, IsSureIn}
use Rattle.dp_state.specs.States.{IsFatal}
use Rattle.dp_state.specs.Variables.{Variables}

-- a result that no memory is wanted for
abbrev IsFree : Result Data WriteError → Type 0
IsFree r = r ≢ Err write.Memory

free-then : (r : Result Data WriteError) (f : Data → Data) → IsFree r → IsFree (then_data r f)
free-then (Ok d) f free e = cc
free-then (Err why) f free e = free e

free-entry : (t : Table) (key : Key) (f : Data → Result Data WriteError) (o : Option Data) → ((d : Data) → IsFree (f d))
    → IsFree (with_entry t key f o)
free-entry t key f None free e = cc
free-entry t key f (Some d) free e = free-then (f d) (λ x. data_of_table (table_exchange t key x)) (free d) e

free-key : (key : Option Key) (f : Key → Result Data WriteError) → ((k : Key) → IsFree (f k)) → IsFree (then_key key f)
free-key None f free e = cc
free-key (Some k) f free e = free k e

free-if : (b : Bool) (d : Data) (r : Result Data WriteError) → IsFree r → IsFree (if b then Ok d else r)
free-if true d r free e = cc
free-if false d r free e = free e

free-array : (d : Data) (f : Table → Result Data WriteError) → ((t : Table) → IsFree (f t)) → IsFree (in_array d f)
free-array (array es largest) f free e = free (record { pairs = pairs_of es; largest = largest }) e
free-array (boolean true) f free e = cc
free-array d f free e = cc

removed-free : (keys : List (Option Key)) (d : Data) → IsFree (removed keys d)
removed-free [] d e = cc
removed-free (key ∷ keys) d e =
    free-array d _ (λ t. free-key key _ (λ k. free-if (length keys == 0) (data_of_table (table_remove t k))
    (with_entry t k (removed keys) (value_at t k))
    (free-entry t k (removed keys) (value_at t k) (removed-free keys)))) e

free-table : (r : Result Table WriteError) (f : Table → Result Data WriteError) → r ≢ Err write.Memory
    → ((t : Table) → IsFree (f t)) → IsFree (then_table r f)
free-table (Ok t) f holds free e = free t e
free-table (Err why) f holds free e =
    let same : why ≡ write.Memory = cc in
    holds (ap (λ (w : WriteError). let r : Result Table WriteError = Err w in r) same)

holder-free : (d : Data) → holder_of d ≢ Err write.Memory
holder-free (boolean true) e = cc
holder-free d e = cc

free-cond : (b : Bool) (why : WriteError) (d : Data) → why ≢ write.Memory → IsFree (cond b (Err why) (Ok d))
free-cond true why d free e = let same : why ≡ write.Memory = cc in free same
free-cond false why d free e = cc

free-limit : (b : Bool) (d : Data) → IsFree (cond b (Ok d) (Err write.TooHeavy))
free-limit true d e = cc
free-limit false d e = cc

written-free : (keys : List (Option Key)) (push : Bool) (new d : Data) → IsFree (written keys push new d)
written-free [] false new d e = cc
written-free [] true new d e =
    free-table (holder_of d) (pushed new) (holder-free d)
    (λ t. free-cond (is_full t) write.NextIndex (data_of_table (table_push t new)) (λ same. cc)) e
written-free (key ∷ keys) push new d e =
    free-table (holder_of d) _ (holder-free d)
    (λ t. free-key key _ (λ k. free-then (written keys push new (entry_at t k)) (λ x. data_of_table (table_set t k x))
    (written-free keys push new (entry_at t k)))) e

free-light : (r : Result Data WriteError) → IsFree r → IsFree (light r)
free-light (Ok d) free e = free-limit (nat_le (weight_of d) weight_limit) d e
free-light (Err why) free e = free e

-- what a write or a removal is for a step
abbrev pub step_of : {X : Type 0} → Result X WriteError → Result X Fault
step_of (Ok x) = Ok x
step_of (Err why) = Err (fault_of_write why)

fatal : {X : Type 0} (asked : Result Data WriteError) (why : WriteError) → IsFree asked → asked ≡ Err why
    → step_of {X = X} (Err why) ≡ Err (fault.Fatal (kind_of_write why))
fatal asked write.Memory free is = absurd (free is)
fatal asked why free is = refl

module _ {X : Type 0} (name : List ℕ) (es : Variables) (r : Result X WriteError) where
  sure-by : (asked result : Result Data WriteError) → ((why : WriteError) → asked ≡ Err why → r ≡ Err why)
      → IsFree asked → asked ≡ result → IsSureIn (then_variables name es result) (step_of r)
  sure-by asked (Ok e) sure free is kind refused = absurd (cc)
  sure-by asked (Err why) sure free is kind refused =
      let same : kind_of_write why ≡ kind = cc in
      ap step_of (sure why is) ∙ fatal asked why free is
      ∙ ap (λ (k : FatalKind). let r : Result X Fault = Err (fault.Fatal k) in r) same

  pub removal-sure : (keys : List (Option Key)) (d : Data)
      → ((why : WriteError) → removed keys d ≡ Err why → r ≡ Err why)
      → IsSureIn (then_variables name es (removed keys d)) (step_of r)
  removal-sure keys d sure = sure-by (removed keys d) (removed keys d) sure (removed-free keys d) refl

  pub write-sure : (keys : List (Option Key)) (push : Bool) (new d : Data)
      → ((why : WriteError) → write_result keys push new d ≡ Err why → r ≡ Err why)
      → IsSureIn (then_variables name es (write_result keys push new d)) (step_of r)
  write-sure keys push new d sure =
      sure-by (write_result keys push new d) (write_result keys push new d) sure
      (free-light (written keys push new d) (written-free keys push new d)) refl

-- what is done is not refused
pub not_refused : (name : List ℕ) (es : Variables) (asked : Result Data WriteError) (d : Data) (kind : FatalKind)
    → asked ≡ Ok d → then_variables name es asked ≡ Err kind → ⊥
not_refused name es (Ok e) d kind is refused = cc
not_refused name es (Err why) d kind is refused = cc

-- ---- a text that grows: what is left is as before, or null where memory ran out
module _ (why : WriteError) (f : Fault) (is : f ≡ fault_of_write why) {P Q : Type 0} where
  pub kept-fatal : (X : Type 0) → P ⊎ ((why ≡ write.Memory) × Q) → IsFatal {A = X} (Err f) → P
  kept-fatal X (inl p) h = p
  kept-fatal X (inr q) h =
      absurd (subst (λ (x : Fault). IsFatal {A = X} (Err x)) (is ∙ ap fault_of_write q.0) h)
