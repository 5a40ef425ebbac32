-- Places: variables and what stands under keys in them. What a write, an unset and a `global`
-- leave. Source: the PHP manual, "Variable scope", "Arrays", "unset".
use Rattle.std.specs.Prelude.{ℕ, zero, suc, ◌==◌, Bool, true, false, if◌then◌else◌, List, [], ◌∷◌, map, Option, Some, None, is_some, unwrap_or, Result, Ok, Err}
use Rattle.std.specs.Option.{option_map_or}
use Rattle.dp_value.specs.declared.errors.WriteError.{WriteError}
use Rattle.dp_value.specs.declared.key.Key.{Key}
use Rattle.dp_value.specs.declared.value.Value.{Value}
use Rattle.dp_value.specs.declared.value.Value.TheVariants.{Null}
use Rattle.dp_value.specs.Data.{Data}
use Rattle.dp_value.specs.KeyOf.{key_of_data}
use Rattle.dp_value.specs.Value.{data_of, value_of}
use Rattle.dp_value.specs.Entry.{write_result, removed}
use Rattle.dp_state.specs.declared.moments.FatalKind.{FatalKind}
use Rattle.dp_state.specs.declared.state.Frame.{Frame}
use Rattle.dp_state.specs.declared.state.State.{State}
use Rattle.dp_state.specs.declared.vars.Slot.{Slot}
use Rattle.dp_state.specs.declared.vars.Slot.TheVariants.{Held, Bound}
use Rattle.dp_state.specs.Faults.{kind_of_write}
use Rattle.dp_state.specs.States.{owner_at, read_at, variables_at}
use Rattle.dp_state.specs.Variables.{Variables, slot_of, with_slot, without}

-- ---- keys

-- the keys that indices become; one that is an array becomes none
abbrev pub keys_of_indices : List Value → List (Option Key)
keys_of_indices indices = map (λ index. key_of_data (data_of index)) indices

-- keys that are there
abbrev pub given_keys : List Key → List (Option Key)
given_keys keys = map Some keys

-- ---- variables of a frame

-- frames of which the one at this position has these variables
abbrev pub with_vars : ℕ → Variables → List Frame → List Frame
with_vars at variables [] = []
with_vars zero variables (f ∷ fs) = (record f { vars = variables }) ∷ fs
with_vars (suc at) variables (f ∷ fs) = f ∷ with_vars at variables fs

-- with these variables for the frame at this position; those of the lowest are the global ones
abbrev pub with_own : ℕ → Variables → State → State
with_own at variables s =
    if at == 0 then record s { globals = variables }
    else record s { frames = with_vars at variables s.frames }

-- with these variables for the frame at this level, or for the one whose variables it uses
abbrev pub with_variables : ℕ → Variables → State → State
with_variables level variables s = with_own (owner_at s level) variables s

abbrev pub is_bound : Option Slot → Bool
is_bound None = false
is_bound (Some Bound) = true
is_bound (Some (Held value)) = false

-- with a value for a variable at a level, or for the global variable of its name where it is bound
abbrev pub with_value : ℕ → List ℕ → Value → State → State
with_value level name value s =
    if is_bound (slot_of (variables_at s level) name)
    then record s { globals = with_slot s.globals name (Held value) }
    else with_variables level (with_slot (variables_at s level) name (Held value)) s

-- ---- writes

-- a state with what a write or a removal gives, or its fault
abbrev pub then_state : Result Data WriteError → (Data → State) → Result State FatalKind
then_state (Ok d) f = Ok (f d)
then_state (Err e) f = Err (kind_of_write e)

-- With a value for the variable of this name at a level, or for its entry under keys, or pushed
-- there. What is missing is created.
abbrev pub assigned : ℕ → List ℕ → List (Option Key) → Bool → Value → State → Result State FatalKind
assigned level name keys push value s =
    then_state (write_result keys push (data_of value)
    (data_of (unwrap_or (read_at s level name) Null)))
    (λ d. with_value level name (value_of d) s)

-- ---- unset

-- without a variable of the top frame; one that is bound is bound no more, and the global variable
-- stays
abbrev pub without_variable : List ℕ → State → State
without_variable name s = with_variables 0 (without (variables_at s 0) name) s

-- without the entry of a variable of the top frame under keys; a variable that is missing stays so
abbrev pub without_entry : List ℕ → List (Option Key) → State → Result State FatalKind
without_entry name keys s =
    option_map_or (λ value. then_state (removed keys (data_of value))
    (λ d. with_value 0 name (value_of d) s)) (read_at s 0 name) (Ok s)

-- without a variable, or without its entry under keys
abbrev pub unset : List ℕ → List (Option Key) → State → Result State FatalKind
unset name [] s = Ok (without_variable name s)
unset name (key ∷ keys) s = without_entry name (key ∷ keys) s

-- ---- global

-- with null for a name that is missing
abbrev pub with_null : List ℕ → Variables → Variables
with_null name variables =
    if is_some (slot_of variables name) then variables else with_slot variables name (Held Null)

-- with a global variable of this name, to which the name is bound in the top frame, unless its
-- variables are the global ones
abbrev pub with_global : List ℕ → State → State
with_global name s =
    if owner_at s 0 == 0 then record s { globals = with_null name s.globals }
    else with_variables 0 (with_slot (variables_at s 0) name Bound)
    (record s { globals = with_null name s.globals })
