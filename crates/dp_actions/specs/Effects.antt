-- What `echo`, `global` and `exit` do, once their values are known.
use Rattle.std.specs.Prelude.{ℕ, ℤ, pos, negsuc, nat_le, if◌then◌else◌, List, [], ◌∷◌, Option, Some, None}
use Rattle.dp_value.specs.declared.value.Value.{Value}
use Rattle.dp_value.specs.declared.value.Value.TheVariants.{Null, Bool, Int, Text, Array}
use Rattle.dp_value.specs.Value.{data_of}
use Rattle.dp_operations.specs.Text.{text_of}
use Rattle.dp_state.specs.declared.moments.FatalKind.TheVariants.{Unsupported}
use Rattle.dp_state.specs.declared.moments.Outcome.TheVariants.{Exit}
use Rattle.dp_state.specs.declared.state.State.{State}
use Rattle.dp_state.specs.Places.{with_global}
use Rattle.dp_state.specs.States.{printed}
use Rattle.dp_actions.specs.declared.signal.Signal.{Signal}
use Rattle.dp_actions.specs.Run.{Run, Over, fatal, taken, ◌>>=◌}

-- the text of a value is written
abbrev pub print_run : Value → State → Run Unit
print_run v s = taken (printed (text_of (data_of v)) s) s

-- names of the top frame are bound to the global variables
abbrev pub with_globals : List (List ℕ) → State → State
with_globals [] s = s
with_globals (name ∷ names) s = with_globals names (with_global name s)

-- the status that an integer is: one from 0 to 199
abbrev pub status_of : ℤ → Option ℕ
status_of (pos n) = if nat_le n 199 then Some n else None
status_of (negsuc n) = None

abbrev pub exit_with : Option ℕ → State → Run Signal
exit_with None s = fatal Unsupported s
exit_with (Some status) s = Over (Exit status) s

-- `exit` with a value: an integer is the status; a text is written, and the status is 0
abbrev pub exit_run : Value → State → Run Signal
exit_run Null s = fatal Unsupported s
exit_run (Bool b) s = fatal Unsupported s
exit_run (Int n) s = exit_with (status_of n) s
exit_run (Text bytes) s = taken (printed bytes s) s >>= λ _ t. Over (Exit 0) t
exit_run (Array t) s = fatal Unsupported s
