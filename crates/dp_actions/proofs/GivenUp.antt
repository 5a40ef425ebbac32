-- What writes do whose values are given up.
use Rattle.std.proofs.Common.{◌≡◌, ℕ, Bool, false, List, Result, Ok, Err, refl, ◌∙◌}
use Rattle.dp_operations.specs.Unary.{unary_of}
use Rattle.dp_state.specs.declared.moments.FatalKind.{FatalKind}
use Rattle.dp_state.specs.declared.state.State.{State}
use Rattle.dp_state.specs.Places.{assigned, keys_of_indices}
use Rattle.dp_tree.specs.declared.operators.UnaryOp.{UnaryOp}
use Rattle.dp_tree.specs.declared.tree.Order.{Order}
use Rattle.dp_value.specs.declared.value.Value.{Value}
use Rattle.dp_value.specs.Value.{data_of}
use Rattle.dp_actions.specs.Places.{assign_run, read_run, step_from, step_under, step_written, stepped}
use Rattle.dp_actions.specs.Run.{Done, and_then, given_up, taken}
use Rattle.dp_actions.specs.Values.{value_run}
use Rattle.dp_actions.proofs.Runs.{and_then-assoc, and_then-same}

taken-given_up : (r : Result State FatalKind) (v : Value) (s : State)
    → and_then (and_then (taken r s) (λ _ t. Done v t)) given_up ≡ taken r s
unfolding and_then
taken-given_up (Ok t) v s = refl
taken-given_up (Err kind) v s = refl

pub assign-given_up : (name : List ℕ) (indices : List Value) (push : Bool) (v : Value) (s : State)
    → and_then (assign_run name indices push v s) given_up
    ≡ taken (assigned 0 name (keys_of_indices indices) push v s) s
assign-given_up name indices push v s = taken-given_up (assigned 0 name (keys_of_indices indices) push v s) v s

pub step-given_up : (op : UnaryOp) (order : Order) (name : List ℕ) (indices : List Value) (s : State)
    → and_then (step_under op order name indices s) given_up
    ≡ and_then (read_run name indices s) (λ old t. and_then (value_run (unary_of op (data_of old)) t)
    (λ new u. and_then (assign_run name indices false new u) given_up))
unfolding and_then
step-given_up op order name indices s =
    and_then-assoc (read_run name indices s) (λ old t. step_from op order name indices old t) given_up
    ∙ and_then-same (read_run name indices s) _ _ (λ old t.
    and_then-assoc (value_run (unary_of op (data_of old)) t) (λ new u. step_written order name indices old new u)
    given_up
    ∙ and_then-same (value_run (unary_of op (data_of old)) t) _ _ (λ new u.
    and_then-assoc (assign_run name indices false new u) (λ _ w. Done (stepped order old new) w) given_up))
