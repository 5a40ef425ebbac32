-- Values of which only a test is left, or nothing.
use Rattle.std.proofs.Common.{◌≡◌, ℕ, suc, ◌-◌, Bool, true, false, List, [], ◌∷◌, length, slice_get, arith, Result, Ok, Err, refl, sym, ◌∙◌, subst}
use Rattle.std.specs.Option.{option_map_or}
use Rattle.dp_state.specs.declared.state.State.{State}
use Rattle.dp_tree.specs.declared.operators.UnaryOp.{UnaryOp}
use Rattle.dp_tree.specs.declared.tree.Expression.{Expression}
use Rattle.dp_tree.specs.declared.tree.Order.{Order}
use Rattle.dp_value.specs.declared.value.Value.{Value}
use Rattle.dp_actions.specs.declared.halt.Halt.{Halt}
use Rattle.dp_actions.specs.Expressions.{evaluation, evaluations}
use Rattle.dp_actions.specs.Loops.{bind_name, last_holds}
use Rattle.dp_actions.specs.Places.{PlaceRun, assign_run, assigned_under, assignment, step, step_under}
use Rattle.dp_actions.specs.Run.{Run, Done, and_then, given_up}
use Rattle.dp_actions.specs.Setting.{Part, Setting}
use Rattle.dp_actions.specs.Values.{holds}
use Rattle.dp_actions.proofs.GivenUp.{assign-given_up}
use Rattle.dp_actions.proofs.Runs.{and_then-assoc, and_then-same}
use Rattle.dp_meaning.specs.inner.Drive.{Evaluates, Rules}
use Rattle.dp_meaning.proofs.Drives.{gives, tested_off, tested_on}

-- whether the last of some values holds, or this where there is none
abbrev pub last_or : Bool → List Value → Bool
last_or otherwise [] = otherwise
last_or otherwise (v ∷ vs) = last_or (holds v) vs

last-is : (b : Bool) (vs : List Value) → last_or b vs ≡ option_map_or holds (slice_get vs (length vs - 1)) b
last-is b [] = refl
last-is b (v ∷ []) = refl
last-is b (v ∷ w ∷ ws) =
    let e : length (v ∷ w ∷ ws) - 1 ≡ suc (length (w ∷ ws) - 1) = omega arith in rw e (last-is b (w ∷ ws))

module _ (setting : Setting) where
  -- the rest of a test, by what the last value before it was
  abbrev pub test_from : Bool → List Expression → State → Run Bool
  test_from b es s = and_then (evaluations es setting s) (λ values t. Done (last_or b values) t)

  abbrev pub without_values : List Expression → State → Run Unit
  without_values es s = and_then (evaluations es setting s) given_up

module _ (rules : Rules) (setting : Setting) where
  pub test-first : (es : List Expression) (s : State) (x : Result Bool Halt) (t : State)
      → Evaluates rules (test_from setting true es s) x t
      → Evaluates rules (and_then (evaluations es setting s) (λ values u. Done (last_holds values) u)) x t
  test-first es s x t e =
      subst (λ r. Evaluates rules r x t) (and_then-same (evaluations es setting s)
      (λ values u. Done (last_or true values) u) (λ values u. Done (last_holds values) u)
      (λ values u i. Done (last-is true values i) u)) e

  pub test-all : (b : Bool) (s : State) → Evaluates rules (test_from setting b [] s) (Ok b) s
  unfolding and_then
  test-all b s = gives

  pub without-all : (s : State) → Evaluates rules (without_values setting [] s) (Ok tt) s
  unfolding and_then
  without-all s = gives

  module _ (e : Expression) (es : List Expression) (s : State) where
    by-first : {B : Type 0} (f : List Value → State → Run B)
        → and_then (evaluations (e ∷ es) setting s) f
        ≡ and_then (evaluation e setting s) (λ v t. and_then (evaluations es setting t) (λ vs u. f (v ∷ vs) u))
    unfolding and_then
    by-first f =
        and_then-assoc (evaluation e setting s)
        (λ v t. and_then (evaluations es setting t) (λ vs u. Done (v ∷ vs) u)) f
        ∙ and_then-same (evaluation e setting s) _ _
        (λ v t. and_then-assoc (evaluations es setting t) (λ vs u. Done (v ∷ vs) u) f)

    module _ (b : Bool) {t : State} where
      pub test-break : {h : Halt} → Evaluates rules (and_then (evaluation e setting s) (λ v u. Done (holds v) u))
          (Err h) t
          → Evaluates rules (test_from setting b (e ∷ es) s) (Err h) t
      test-break {h} ev =
          subst (λ r. Evaluates rules r (Err h) t) (sym (by-first (λ vs u. Done (last_or b vs) u)))
          (tested_off holds (evaluation e setting s) (λ on u. test_from setting on es u) ev)

      pub test-more : {on : Bool} {x : Result Bool Halt} {u : State}
          → Evaluates rules (and_then (evaluation e setting s) (λ v u. Done (holds v) u)) (Ok on) t
          → Evaluates rules (test_from setting on es t) x u → Evaluates rules (test_from setting b (e ∷ es) s) x u
      test-more {on} {x} {u} ev more =
          subst (λ r. Evaluates rules r x u) (sym (by-first (λ vs u. Done (last_or b vs) u)))
          (tested_on holds (evaluation e setting s) (λ on u. test_from setting on es u) ev more)

    pub without-break : {h : Halt} {t : State}
        → Evaluates rules (and_then (evaluation e setting s) given_up) (Err h) t
        → Evaluates rules (without_values setting (e ∷ es) s) (Err h) t
    without-break {h} {t} ev =
        subst (λ r. Evaluates rules r (Err h) t) (sym (by-first given_up))
        (tested_off (λ _. tt) (evaluation e setting s) (λ _ u. without_values setting es u) ev)

    pub without-more : {x : Result Unit Halt} {t u : State}
        → Evaluates rules (and_then (evaluation e setting s) given_up) (Ok tt) t
        → Evaluates rules (without_values setting es t) x u
        → Evaluates rules (without_values setting (e ∷ es) s) x u
    without-more {x} {t} {u} ev more =
        subst (λ r. Evaluates rules r x u) (sym (by-first given_up))
        (tested_on (λ _. tt) (evaluation e setting s) (λ _ u. without_values setting es u) ev more)

-- ---- writes whose values are given up, by their indices

pub entry-given_up : (push : Bool) (name : List ℕ) (indices : Part (List Value)) (right : Part Value)
    (setting : Setting) (s : State)
    → and_then (and_then (indices setting s) (λ indices t. assigned_under push name right indices setting t)) given_up
    ≡ and_then (indices setting s) (λ indices t. and_then (right setting t)
    (λ v u. and_then (assign_run name indices push v u) given_up))
entry-given_up push name indices right setting s =
    and_then-assoc (indices setting s) (λ indices t. assigned_under push name right indices setting t) given_up
    ∙ and_then-same (indices setting s) _ _ (λ indices t. and_then-assoc (right setting t)
    (λ v u. assign_run name indices push v u) given_up)

pub assignment-given_up : (push : Bool) (place : PlaceRun) (right : Part Value) (setting : Setting) (s : State)
    → and_then (assignment push place right setting s) given_up
    ≡ and_then (place.indices setting s) (λ indices t. and_then (right setting t)
    (λ v u. and_then (assign_run place.name indices push v u) given_up))
assignment-given_up push place right setting s = entry-given_up push place.name place.indices right setting s

pub variable-given_up : (name : List ℕ) (right : Part Value) (setting : Setting) (s : State)
    → and_then (assigned_under false name right [] setting s) given_up ≡ and_then (right setting s) (bind_name name)
variable-given_up name right setting s =
    and_then-assoc (right setting s) (λ v t. assign_run name [] false v t) given_up
    ∙ and_then-same (right setting s) _ (bind_name name) (λ v t. assign-given_up name [] false v t)

pub step-given_up : (op : UnaryOp) (order : Order) (place : PlaceRun) (setting : Setting) (s : State)
    → and_then (step op order place setting s) given_up
    ≡ and_then (place.indices setting s)
    (λ indices t. and_then (step_under op order place.name indices t) given_up)
step-given_up op order place setting s =
    and_then-assoc (place.indices setting s) (λ indices t. step_under op order place.name indices t) given_up
