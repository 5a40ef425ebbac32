-- What isset does, by whether it finds its places.
use Rattle.std.proofs.Common.{◌≡◌, ℕ, Bool, false, List, ◌∷◌, Result, Ok, Err, sym, ◌∙◌, subst}
use Rattle.std.specs.Prelude.{if◌then◌else◌}
use Rattle.dp_value.specs.declared.value.Value.{Value}
use Rattle.dp_value.specs.declared.value.Value.TheVariants.{Bool as Truth}
use Rattle.dp_state.specs.declared.state.State.{State}
use Rattle.dp_actions.specs.declared.halt.Halt.{Halt}
use Rattle.dp_actions.specs.AtOnce.{AtOnce}
use Rattle.dp_actions.specs.Places.{PlaceRun, found_run, isset_run, missing_at, missing_run}
use Rattle.dp_actions.specs.Run.{Run, Done, and_then}
use Rattle.dp_actions.specs.Setting.{Setting}
use Rattle.dp_actions.specs.Values.{is_missing}
use Rattle.dp_actions.proofs.ObservedValues.{joined_off, joined_on, joined_to}
use Rattle.dp_actions.proofs.Runs.{and_then-assoc}

-- what comes next, by whether a place is missing
pub missing-then : {A : Type 0} (name : List ℕ) (indices : List Value) (next : Bool → State → Run A) (s : State)
    → and_then (missing_run name indices s) next ≡ and_then (found_run name indices s) (λ v t. next (is_missing v) t)
unfolding and_then
missing-then name indices next s = and_then-assoc (found_run name indices s) (λ v t. Done (is_missing v) t) next

module _ (place : PlaceRun) (places : List PlaceRun) (setting : Setting) where
  -- what is left once it is known whether the first place is missing
  abbrev pub isset-on : Bool → State → Run Value
  isset-on missing t = if missing then Done (Truth false) t else isset_run places setting t

  pub isset-place : (s : State) → isset_run (place ∷ places) setting s
      ≡ and_then (place.indices setting s) (λ indices t. and_then (missing_run place.name indices t) isset-on)
  isset-place s = λ i. and_then (place.indices setting s) (λ indices t. sym
      (missing-then place.name indices isset-on t) i)

  pub place_off : {h : Halt} {s : State} → AtOnce (missing_at place setting s) (Err h) s
      → AtOnce (isset_run (place ∷ places) setting s) (Err h) s
  place_off {h} {s} e = subst (λ z. AtOnce z (Err h) s) (sym (isset-place s)) (joined_off (place.indices setting s)
      (λ indices t. missing_run place.name indices t) isset-on e)

  pub place_on : {missing : Bool} {s : State} {x : Result Value Halt}
      → AtOnce (missing_at place setting s) (Ok missing) s
      → AtOnce (isset-on missing s) x s → AtOnce (isset_run (place ∷ places) setting s) x s
  place_on {missing} {s} {x} e k = subst (λ z. AtOnce z x s) (sym (isset-place s)) (joined_on
      (place.indices setting s) (λ indices t. missing_run place.name indices t) isset-on e k)

  pub place_to : {missing : Bool} {s : State} {q : Run Value} → AtOnce (missing_at place setting s) (Ok missing) s
      → isset-on missing s ≡ q → isset_run (place ∷ places) setting s ≡ q
  place_to {missing} {s} {q} e same = isset-place s ∙ joined_to (place.indices setting s)
      (λ indices t. missing_run place.name indices t) isset-on e same
