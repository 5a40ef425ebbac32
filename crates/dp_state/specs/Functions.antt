-- The functions of a program that are declared, the frames of their calls, and the frames of files
-- that are included.
use Rattle.std.specs.Prelude.{ℕ, ◌+◌, Bool, true, false, if◌then◌else◌, nat_le, List, [], ◌∷◌, ◌++◌, length, Option, Some, None, is_some, Result, Err}
use Rattle.std.specs.List.{list_any}
use Rattle.std.specs.Option.{option_map_or}
use Rattle.std.specs.Str.{str_eq_ignore_ascii_case}
use Rattle.dp_tree.specs.declared.tree.Function.{Function}
use Rattle.dp_tree.specs.declared.bundle.Bundle.{Bundle}
use Rattle.dp_tree.specs.Files.{function_at, functions_of}
use Rattle.dp_state.specs.declared.moments.FatalKind.{FatalKind}
use Rattle.dp_state.specs.declared.moments.FatalKind.TheVariants.{Arguments, Redeclared, TooDeep}
use Rattle.dp_state.specs.declared.state.Frame.{Frame}
use Rattle.dp_state.specs.declared.state.FrameKind.TheVariants.{Called, Included}
use Rattle.dp_tree.specs.declared.bundle.FunctionRef.{FunctionRef}
use Rattle.dp_state.specs.declared.state.State.{State}
use Rattle.dp_state.specs.declared.vars.Slot.TheVariants.{Held}
use Rattle.dp_state.specs.States.{entered, frame_limit}
use Rattle.dp_state.specs.Variables.{Variables, with_slot}
use Rattle.dp_value.specs.declared.value.Value.{Value}

-- whether the function that a reference names has this name, in any case of letters
abbrev pub is_named : Bundle → List ℕ → FunctionRef → Bool
is_named bundle name reference =
    option_map_or (λ f. str_eq_ignore_ascii_case name f.name) (function_at bundle reference) false

-- the first of these functions with this name
abbrev pub declared_function : Bundle → List ℕ → List FunctionRef → Option FunctionRef
declared_function bundle name [] = None
declared_function bundle name (f ∷ fs) =
    if is_named bundle name f then Some f else declared_function bundle name fs

-- ---- calls

-- with the values of parameters, one after another; values beyond the parameters are left out
abbrev pub with_parameters : List (List ℕ) → List Value → Variables → Variables
with_parameters [] values variables = variables
with_parameters (name ∷ names) [] variables = variables
with_parameters (name ∷ names) (value ∷ values) variables =
    with_parameters names values (with_slot variables name (Held value))

-- the frame of a function of this file: on the function's line, with its parameters set
abbrev pub called_frame : ℕ → Function → List Value → Frame
called_frame file function values = record {
  kind = Called function.name;
  file = file;
  line = function.line;
  shares = false;
  vars = with_parameters function.parameters values [];
}

-- with a frame for a call of this function of a file, with these values
abbrev pub called : ℕ → Function → List Value → State → Result State FatalKind
called file function values s =
    if nat_le (length function.parameters) (length values)
    then entered (called_frame file function values) s else Err Arguments

-- ---- included files

-- whether this function has the name of one that is declared
abbrev pub is_declared : Bundle → List FunctionRef → FunctionRef → Bool
is_declared bundle declared reference =
    option_map_or (λ f. is_some (declared_function bundle f.name declared))
    (function_at bundle reference) false

-- whether one of these functions has the name of one that is declared
abbrev pub any_declared : Bundle → List FunctionRef → List FunctionRef → Bool
any_declared bundle declared references = list_any (is_declared bundle declared) references

-- the frame of an included file, on line 1; it shares the variables of the frame below it
abbrev pub included_frame : ℕ → Frame
included_frame file = record { kind = Included; file = file; line = 1; shares = true; vars = [] }

-- with a frame for this file, whose functions are declared in order
abbrev pub included : Bundle → ℕ → State → Result State FatalKind
included bundle file s =
    if nat_le (length s.frames + 1) frame_limit
    then (
    if any_declared bundle s.declared (functions_of bundle file) then Err Redeclared
    else entered (included_frame file) (record s {
      declared = s.declared ++ functions_of bundle file;
    })
    )
    else Err TooDeep
