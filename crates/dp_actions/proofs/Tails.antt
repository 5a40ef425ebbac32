-- What operations and steps give, as a call answers it.
use Rattle.std.proofs.Common.{◌≡◌, ◌⊎◌, inl, inr, Bool, true, false, Option, Some, None, Result, Ok, Err, refl, sym, ap, ◌∙◌, subst}
use Rattle.dp_value.specs.declared.errors.CallError.{CallError}
use Rattle.dp_value.specs.declared.errors.ValueError.{ValueError}
use Rattle.dp_value.specs.declared.errors.ValueError.TheVariants as value
use Rattle.dp_value.specs.declared.errors.WriteError.{WriteError}
use Rattle.dp_value.specs.declared.value.Value.{Value}
use Rattle.dp_value.specs.Data.{Data, null, boolean, integer, text, array}
use Rattle.dp_value.specs.Value.{data_of, value_of}
use Rattle.dp_operations.specs.Builtins.{is_null}
use Rattle.dp_state.proofs.ValueLemmas.{value_of-data_of}
use Rattle.dp_operations.specs.Answers.{Answers, Gives}
use Rattle.dp_state.specs.declared.moments.FatalKind.{FatalKind}
use Rattle.dp_state.specs.declared.state.Fault.{Fault}
use Rattle.dp_state.specs.declared.state.Fault.TheVariants as fault
use Rattle.dp_state.specs.declared.state.State.{State}
use Rattle.dp_state.specs.Faults.{fault_of_value}
use Rattle.dp_state.specs.States.{IsCause}
use Rattle.std.specs.Prelude.{if◌then◌else◌, option_map, OnOk, OnErr, IfErr}
use Rattle.dp_tree.specs.declared.tree.Binding.{Binding}
use Rattle.dp_value.specs.declared.key.Key.{Key}
use Rattle.dp_actions.specs.declared.halt.Halt.{Halt}
use Rattle.dp_actions.specs.Loops.{bind, bind_key, bind_name}
use Rattle.dp_actions.specs.AtOnce.{AtOnce, halt_of, settled_of}
use Rattle.dp_actions.specs.inner.Missing.{missing_in}
use Rattle.dp_actions.specs.Run.{Done, and_then, fatal, taken}
use Rattle.dp_actions.specs.Values.{builtin_run, holds, is_missing, value_run, write_run, kept_of, present_of}
use Rattle.dp_actions.proofs.AtOnceLaws.{gives, ends, wants_memory, breaks_off, goes_on}

module _ (s : State) where
  pub value-ok : (table : Result Data ValueError) (v : Value) → table ≡ Ok (data_of v)
      → AtOnce (value_run table s) (Ok v) s
  value-ok table v e = rw (e, value_of-data_of) gives

  pub value-err : (table : Result Data ValueError) (why : ValueError) → (why ≡ value.Memory) ⊎ (table ≡ Err why)
      → AtOnce (value_run table s) (Err (halt_of (fault_of_value why) s)) s
  value-err table why (inl e) = rw e wants_memory
  value-err table value.Memory (inr e) = wants_memory
  value-err table why (inr e) = rw e ends

  missing-is : (d : Data) → is_missing (value_of d) ≡ is_null d
  missing-is null = refl
  missing-is (boolean b) = refl
  missing-is (integer n) = refl
  missing-is (text bytes) = refl
  missing-is (array es largest) = refl

  pub missing-ok : (table : Result Data ValueError) (missing : Bool) → missing_in table ≡ Ok missing
      → AtOnce (and_then (value_run table s) (λ v t. Done (is_missing v) t)) (Ok missing) s
  unfolding and_then
  missing-ok (Ok d) missing e =
      let same : is_null d ≡ missing = cc in
      subst (λ (b : Bool). AtOnce (Done b s) (Ok missing) s) (sym (missing-is d ∙ same)) gives
  missing-ok (Err why) missing e = absurd cc

  pub missing-err : (table : Result Data ValueError) (why : ValueError)
      → (why ≡ value.Memory) ⊎ (missing_in table ≡ Err why)
      → AtOnce (and_then (value_run table s) (λ v t. Done (is_missing v) t)) (Err (halt_of (fault_of_value why) s)) s
  missing-err table why (inl e) = rw e wants_memory
  missing-err (Ok d) why (inr e) = absurd cc
  missing-err (Err other) why (inr e) =
      let same : other ≡ why = cc in breaks_off _ (value-err (Err other) why (inr (ap Err same)))

  pub builtin-ok : (table : Result Data CallError) (v : Value) → table ≡ Ok (data_of v)
      → AtOnce (builtin_run table s) (Ok v) s
  builtin-ok table v e = rw (e, value_of-data_of) gives

  pub write-ok : (table : Result Data WriteError) (v : Value) → table ≡ Ok (data_of v)
      → AtOnce (write_run table s) (Ok v) s
  write-ok table v e = rw (e, value_of-data_of) gives

  pub step-ok : (r : Result State FatalKind) (t : State) → r ≡ Ok t → AtOnce (taken r s) (Ok tt) t
  step-ok r t e = rw e gives

  pub step-err : (r : Result State FatalKind) (why : Fault) → IsCause r why → AtOnce (taken r s) (Err (halt_of why s)) s
  step-err r (fault.Fatal kind) e = rw e ends
  step-err r fault.Memory e = wants_memory

  -- a step, whatever it answers
  pub settles : (r : Result State FatalKind) (step : Result Unit Fault) (t : State) → OnOk step (r ≡ Ok t)
      → IfErr step (IsCause r)
      → OnErr step (t ≡ s) → AtOnce (taken r s) (settled_of step t) t
  settles r (Ok done) t ok refused same = step-ok r t ok
  settles r (Err why) t ok refused same = rw same (step-err r why refused)

-- what is given is answered
pub gives-answers : (r : Result Value ValueError) (table : Result Data ValueError) → Gives r table → Answers r table
gives-answers (Ok v) table h = h
gives-answers (Err e) table h = inr h

-- ---- the binding of an entry

pub entry-is : {X Y : Type 0} (f : X → Y) (r : Option X) (o : Option Y) (x : X) (y : Y) → option_map f r ≡ o
    → r ≡ Some x → o ≡ Some y → f x ≡ y
entry-is f r o x y h is found = let e : Some (f x) ≡ Some y = sym (ap (option_map f) is) ∙ h ∙ found in cc

pub entry-past : {X Y : Type 0} (f : X → Y) (r : Option X) (o : Option Y) (x : X) → option_map f r ≡ o → r ≡ Some x
    → o ≡ None → ⊥
entry-past f r o x h is none = let e : Some (f x) ≡ None = sym (ap (option_map f) is) ∙ h ∙ none in absurd (cc)

module _ (binding : Binding) (key : Key) (v : Value) (entry : Key × Data) (same : (key, data_of v) ≡ entry)
    (s t : State) where
  bind-is : bind binding entry s ≡ and_then (bind_name binding.value v s) (λ _ u. bind_key binding.key key u)
  bind-is = sym (ap (λ (entry : Key × Data). bind binding entry s) same)
      ∙ ap (λ w. and_then (bind_name binding.value w s) (λ _ u. bind_key binding.key key u)) (value_of-data_of v)

  pub bind-breaks-off : (h : Halt) → AtOnce (bind_name binding.value v s) (Err h) t
      → AtOnce (bind binding entry s) (Err h) t
  bind-breaks-off h e = subst (λ r. AtOnce r (Err h) t) (sym bind-is) (breaks_off _ e)

  pub bind-goes-on : (x : Result Unit Halt) (u : State) → AtOnce (bind_name binding.value v s) (Ok tt) t
      → AtOnce (bind_key binding.key key t) x u
      → AtOnce (bind binding entry s) x u
  bind-goes-on x u e f = subst (λ r. AtOnce r x u) (sym bind-is) (goes_on _ e f)

-- ---- tests of values

some-else : {A : Type 0} (b : Bool) (v w : A) → (if b then None else Some v) ≡ Some w → (b ≡ false) × (v ≡ w)
some-else true v w e = absurd (cc)
some-else false v w e = (refl, cc)

some-then : {A : Type 0} (b : Bool) (v w : A) → (if b then Some v else None) ≡ Some w → (b ≡ true) × (v ≡ w)
some-then true v w e = (refl, cc)
some-then false v w e = absurd (cc)

none-else : {A : Type 0} (b : Bool) (v : A) → (if b then None else Some v) ≡ None → b ≡ true
none-else true v e = refl
none-else false v e = absurd (cc)

none-then : {A : Type 0} (b : Bool) (v : A) → (if b then Some v else None) ≡ None → b ≡ false
none-then true v e = absurd (cc)
none-then false v e = refl

-- a value that is not null is given
pub present-some : (v w : Value) → present_of v ≡ Some w → (is_missing v ≡ false) × (v ≡ w)
present-some v w e = some-else (is_missing v) v w e

pub present-none : (v : Value) → present_of v ≡ None → is_missing v ≡ true
present-none v e = none-else (is_missing v) v e

-- a value that holds is kept
pub kept-some : (v w : Value) → kept_of v ≡ Some w → (holds v ≡ true) × (v ≡ w)
kept-some v w e = some-then (holds v) v w e

pub kept-none : (v : Value) → kept_of v ≡ None → holds v ≡ false
kept-none v e = none-then (holds v) v e

-- a write gives the value that is written
pub assign-is : (r : Result State FatalKind) (v w : Value) (s t : State)
    → AtOnce (and_then (taken r s) (λ _ u. Done v u)) (Ok w) t → v ≡ w
unfolding and_then
assign-is (Ok u) v w s t e = let is : Done v u ≡ Done w t = e.leaves in cc
assign-is (Err kind) v w s t e = let is : fatal {A = Value} kind s ≡ Done w t = e.leaves in absurd (cc)
