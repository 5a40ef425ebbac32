-- What is done with places: variables, and entries of them under indices.
use Rattle.std.specs.Prelude.{ℕ, Bool, true, false, if◌then◌else◌, List, [], ◌∷◌, map, unwrap_or}
use Rattle.dp_tree.specs.declared.operators.BinaryOp.{BinaryOp}
use Rattle.dp_tree.specs.declared.operators.UnaryOp.{UnaryOp}
use Rattle.dp_value.specs.declared.value.Value.{Value}
use Rattle.dp_value.specs.declared.value.Value.TheVariants.{Null, Bool as Truth}
use Rattle.dp_value.specs.Value.{data_of}
use Rattle.dp_operations.specs.Binary.{binary_of}
use Rattle.dp_operations.specs.Indices.{found_by, indexed_by}
use Rattle.dp_operations.specs.Unary.{unary_of}
use Rattle.dp_tree.specs.declared.tree.Order.{Order}
use Rattle.dp_tree.specs.declared.tree.Order.TheVariants.{StepFirst, ValueFirst}
use Rattle.dp_state.specs.declared.state.State.{State}
use Rattle.dp_state.specs.Places.{assigned, keys_of_indices, unset}
use Rattle.dp_state.specs.States.{read}
use Rattle.dp_actions.specs.Run.{Run, Done, taken, ◌>>=◌}
use Rattle.dp_actions.specs.Setting.{Part}
use Rattle.dp_actions.specs.Values.{value_run, is_missing}

-- a place: the name of its variable, and its indices, which are evaluated one after another before
-- anything else is done with it
pub record PlaceRun : Type 0 where
  pub name : List ℕ
  pub indices : Part (List Value)

-- the value of a variable of the top frame, null where it is missing
abbrev pub variable : List ℕ → State → Value
variable name s = unwrap_or (read s name) Null

-- the value of a place under these indices
abbrev pub read_run : List ℕ → List Value → State → Run Value
read_run name indices s = value_run (indexed_by (map data_of indices) (data_of (variable name s))) s

-- its value as isset finds it
abbrev pub found_run : List ℕ → List Value → State → Run Value
found_run name indices s = value_run (found_by (map data_of indices) (data_of (variable name s))) s

-- a write of a value, or of one more entry
abbrev pub assign_run : List ℕ → List Value → Bool → Value → State → Run Value
assign_run name indices push value s =
    taken (assigned 0 name (keys_of_indices indices) push value s) s >>= λ _ t. Done value t

-- an assignment under indices that are evaluated
abbrev pub assigned_under : Bool → List ℕ → Part Value → List Value → Part Value
assigned_under push name right indices setting s =
    right setting s >>= λ v t. assign_run name indices push v t

-- `=` and `[] =`: the write comes after the right side
abbrev pub assignment : Bool → PlaceRun → Part Value → Part Value
assignment push place right setting s =
    place.indices setting s >>= λ indices t. assigned_under push place.name right indices setting t

-- a place gets what an operator makes of its old value and another one
abbrev pub combined : BinaryOp → List ℕ → List Value → Value → Value → State → Run Value
combined op name indices old v s =
    value_run (binary_of op (data_of old) (data_of v)) s
    >>= λ new t. assign_run name indices false new t

-- a compound assignment whose old value is read
abbrev pub compound_from : BinaryOp → List ℕ → Part Value → List Value → Value → Part Value
compound_from op name right indices old setting s =
    right setting s >>= λ v t. combined op name indices old v t

-- A compound assignment under indices that are evaluated: the old value is read as any value of a
-- place is, and the write comes after the right side, into what the variable holds by then.
abbrev pub compound_under : BinaryOp → List ℕ → Part Value → List Value → Part Value
compound_under op name right indices setting s =
    read_run name indices s >>= λ old t. compound_from op name right indices old setting t

-- `+=` and its like
abbrev pub compound : BinaryOp → PlaceRun → Part Value → Part Value
compound op place right setting s =
    place.indices setting s >>= λ indices t. compound_under op place.name right indices setting t

-- `??=` under indices that are evaluated: the right side is evaluated only where the place is
-- missing or null
abbrev pub coalescing_under : List ℕ → Part Value → List Value → Part Value
coalescing_under name right indices setting s =
    found_run name indices s >>= λ old t.
    if is_missing old then assigned_under false name right indices setting t else Done old t

-- `??=`
abbrev pub coalescing : PlaceRun → Part Value → Part Value
coalescing place right setting s =
    place.indices setting s >>= λ indices t. coalescing_under place.name right indices setting t

-- the value of a `++` or `--`
abbrev pub stepped : Order → Value → Value → Value
stepped StepFirst old new = new
stepped ValueFirst old new = old

-- a `++` or `--` whose new value is made
abbrev pub step_written : Order → List ℕ → List Value → Value → Value → State → Run Value
step_written order name indices old new s =
    assign_run name indices false new s >>= λ _ t. Done (stepped order old new) t

-- a `++` or `--` whose old value is read
abbrev pub step_from : UnaryOp → Order → List ℕ → List Value → Value → State → Run Value
step_from op order name indices old s =
    value_run (unary_of op (data_of old)) s >>= λ new t. step_written order name indices old new t

-- `++` and `--` under indices that are evaluated: the old value is read as any value of a place is
abbrev pub step_under : UnaryOp → Order → List ℕ → List Value → State → Run Value
step_under op order name indices s =
    read_run name indices s >>= λ old t. step_from op order name indices old t

-- `++` and `--`
abbrev pub step : UnaryOp → Order → PlaceRun → Part Value
step op order place setting s =
    place.indices setting s >>= λ indices t. step_under op order place.name indices t

-- whether isset finds nothing under these indices, or null
abbrev pub missing_run : List ℕ → List Value → State → Run Bool
missing_run name indices s = found_run name indices s >>= λ v t. Done (is_missing v) t

-- the same of a place
abbrev pub missing_at : PlaceRun → Part Bool
missing_at place setting s =
    place.indices setting s >>= λ indices t. missing_run place.name indices t

-- `isset`: each place in order, up to the first that is missing or null
abbrev pub isset_run : List PlaceRun → Part Value
isset_run [] setting s = Done (Truth true) s
isset_run (place ∷ places) setting s =
    place.indices setting s >>= λ indices t. found_run place.name indices t >>= λ v u.
    if is_missing v then Done (Truth false) u else isset_run places setting u

-- `unset`: each place in order
abbrev pub unset_run : List PlaceRun → Part Unit
unset_run [] setting s = Done tt s
unset_run (place ∷ places) setting s =
    place.indices setting s >>= λ indices t. taken (unset place.name (keys_of_indices indices) t) t
    >>= λ _ u. unset_run places setting u
