-- What stands where in a state: the variables of the contexts at a level, and the values in them.
-- DBGp 1.0, "Contexts".
use Rattle.std.specs.Prelude.{ℕ, ◌==◌, nat_lt, if◌then◌else◌, List, [], ◌∷◌, length, codes, Option, Some, None, ok_or, option_and_then, Result, Err}
use Rattle.dp_state.specs.declared.moments.Path.{Path}
use Rattle.dp_state.specs.declared.state.State.{State}
use Rattle.dp_state.specs.States.{variables_at}
use Rattle.dp_state.specs.Variables.{Variables, value_in}
use Rattle.dp_value.specs.declared.key.Key.{Key}
use Rattle.dp_value.specs.Data.{Data, array, pairs_of}
use Rattle.dp_value.specs.Key.{key_eq}
use Rattle.dp_value.specs.Table.{find_value}
use Rattle.dp_value.specs.Value.{data_of}
use Rattle.dp_packet.specs.declared.error_codes.ErrorCode.{ErrorCode}
use Rattle.dp_packet.specs.declared.error_codes.ErrorCode.TheVariants.{CannotGetProperty, StackDepthInvalid, ContextInvalid}
use Rattle.dp_view.specs.Answers.{and_then}

-- the contexts, by their names and ids
abbrev pub contexts : List (List ℕ × ℕ)
contexts = (codes "Locals", 0) ∷ (codes "Globals", 1) ∷ (codes "User defined constants", 2) ∷ []

-- the variables of a context at a level: those that the frame uses, or the global ones; the
-- constants that the program has defined are the same at every level
abbrev pub variables_of : State → ℕ → ℕ → Option Variables
variables_of s level id =
    if id == 0 then Some (variables_at s level) else if id == 1 then Some s.globals
    else if id == 2 then Some s.constants else None

-- The same, or the code of a refusal: 301 where the level is not below the number of frames, else
-- 302 where there is no such context.
abbrev pub shown_variables : State → ℕ → ℕ → Result Variables ErrorCode
shown_variables s level id =
    if nat_lt level (length s.frames) then ok_or (variables_of s level id) ContextInvalid
    else Err StackDepthInvalid

-- what stands under a key in a value, which must be an array
abbrev pub entry_of : Key → Data → Option Data
entry_of key (array es largest) = find_value (key_eq key) (pairs_of es)
entry_of key d = None

-- what stands under keys in a value, one after another
abbrev pub value_under : List Key → Data → Option Data
value_under [] d = Some d
value_under (key ∷ keys) d = option_and_then (value_under keys) (entry_of key d)

-- what stands at a path among variables; one that is bound has the value of the global variable of
-- its name
abbrev pub value_among : Variables → Path → Variables → Option Data
value_among globals path variables =
    option_and_then (λ value. value_under path.keys (data_of value))
    (value_in globals variables path.name)

-- what stands at a path in a context at a level, or the code of a refusal: 301, 302, and 300 where
-- nothing stands there
abbrev pub value_at : State → ℕ → ℕ → Path → Result Data ErrorCode
value_at s level id path =
    and_then (λ variables. ok_or (value_among s.globals path variables) CannotGetProperty)
    (shown_variables s level id)
