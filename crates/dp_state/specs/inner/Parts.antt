-- Variables and states with one part changed, as the functions inside the crate change it.
use Rattle.dp_state.specs.Faults.{kind_of_write}
use Rattle.dp_state.specs.Places.{is_bound}
use Rattle.dp_state.specs.States.{owner_at, variables_at}
use Rattle.dp_state.specs.Variables.{Variables, slot_of, value_held, with_slot}
use Rattle.dp_state.specs.declared.moments.FatalKind.{FatalKind}
use Rattle.dp_state.specs.declared.state.Fault.TheVariants as fault
use Rattle.dp_state.specs.declared.state.Fault.{Fault}
use Rattle.dp_state.specs.declared.state.Frame.{Frame}
use Rattle.dp_state.specs.declared.state.State.{State}
use Rattle.dp_state.specs.declared.vars.Slot.TheVariants.{Held}
use Rattle.dp_value.specs.Data.{Data}
use Rattle.dp_value.specs.Entry.{write_result, removed}
use Rattle.dp_value.specs.Value.{data_of, value_of}
use Rattle.dp_value.specs.declared.errors.WriteError.{WriteError}
use Rattle.dp_value.specs.declared.key.Key.{Key}
use Rattle.dp_value.specs.declared.value.Value.TheVariants.{Int, Null}
use Rattle.dp_value.specs.declared.value.Value.{Value}
use Rattle.std.specs.Option.{option_map_or}
use Rattle.std.specs.Prelude.{◌≡◌, ⊤, ℕ, ℤ, Bool, if◌then◌else◌, List, [], Option, is_some, slice_get, unwrap_or, Result, Ok, Err}

-- with the variable at a position of others
abbrev pub with_pair : Variables → ℕ → Variables → Variables
with_pair from at to =
    option_map_or (λ variable. with_slot to variable.0 variable.1) (slice_get from at) to

-- variables with a value in the place of the one that a name holds
abbrev pub with_replaced : List ℕ → Value → Variables → Variables
with_replaced name value variables =
    if is_some (value_held (slot_of variables name)) then with_slot variables name (Held value)
    else variables

-- variables with a sum, where there is one, for a name
abbrev pub with_sum : List ℕ → Option ℤ → Variables → Variables
with_sum name sum variables =
    option_map_or (λ n. with_slot variables name (Held (Int n))) sum variables

-- the own variables of the frame at this position
abbrev pub vars_in : List Frame → ℕ → Variables
vars_in frames at = option_map_or (λ frame. frame.vars) (slice_get frames at) []

-- the position of the frame among whose own variables the variable of this name at a level stands
abbrev pub home : State → ℕ → List ℕ → ℕ
home s level name = if is_bound (slot_of (variables_at s level) name) then 0 else owner_at s level

-- variables with what a write or a removal gives for one of them, or its fault
abbrev pub then_variables :
    List ℕ → Variables → Result Data WriteError → Result Variables FatalKind
then_variables name variables (Ok d) = Ok (with_slot variables name (Held (value_of d)))
then_variables name variables (Err e) = Err (kind_of_write e)

-- what the variable of this name has among variables, or null
abbrev pub data_in : Variables → List ℕ → Data
data_in variables name = data_of (unwrap_or (value_held (slot_of variables name)) Null)

-- variables with a value for one of them, or for its entry under keys, or pushed there
abbrev pub assigned_in :
    List ℕ → List (Option Key) → Bool → Value → Variables → Result Variables FatalKind
assigned_in name keys push value variables =
    then_variables name variables (write_result keys push (data_of value) (data_in variables name))

-- variables without the entry of one of them under keys
abbrev pub removed_in : List ℕ → List (Option Key) → Variables → Result Variables FatalKind
removed_in name keys variables =
    option_map_or (λ value. then_variables name variables (removed keys (data_of value)))
    (value_held (slot_of variables name)) (Ok variables)

-- why variables are not changed: as it is asked, or out of memory
abbrev pub IsCauseIn : Result Variables FatalKind → Fault → Type 0
IsCauseIn asked fault.Memory = ⊤
IsCauseIn asked (fault.Fatal kind) = asked ≡ Err kind

-- what is refused by what is asked is refused so, whatever memory there is
abbrev pub IsSureIn : {A : Type 0} → Result Variables FatalKind → Result A Fault → Type 0
IsSureIn asked result = (kind : FatalKind) → asked ≡ Err kind → result ≡ Err (fault.Fatal kind)
