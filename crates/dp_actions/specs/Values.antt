-- What tables of values leave of a run: a value, or a fatal fault.
use Rattle.std.specs.Prelude.{Bool, if◌then◌else◌, Option, Some, None, Result, Ok, Err}
use Rattle.dp_value.specs.declared.errors.CallError.{CallError}
use Rattle.dp_value.specs.declared.errors.ValueError.{ValueError}
use Rattle.dp_value.specs.declared.errors.WriteError.{WriteError}
use Rattle.dp_value.specs.declared.value.Value.{Value}
use Rattle.dp_value.specs.Data.{Data}
use Rattle.dp_value.specs.Truth.{is_true}
use Rattle.dp_value.specs.Value.{data_of, value_of}
use Rattle.dp_operations.specs.Builtins.{is_null}
use Rattle.dp_state.specs.declared.state.State.{State}
use Rattle.dp_state.specs.Faults.{kind_of_call, kind_of_value, kind_of_write}
use Rattle.dp_actions.specs.Run.{Run, Done, fatal}

-- the value of an operation
abbrev pub value_run : Result Data ValueError → State → Run Value
value_run (Ok d) s = Done (value_of d) s
value_run (Err e) s = fatal (kind_of_value e) s

-- the value of a built-in function
abbrev pub builtin_run : Result Data CallError → State → Run Value
builtin_run (Ok d) s = Done (value_of d) s
builtin_run (Err e) s = fatal (kind_of_call e) s

-- the value that a write of an entry gives
abbrev pub write_run : Result Data WriteError → State → Run Value
write_run (Ok d) s = Done (value_of d) s
write_run (Err e) s = fatal (kind_of_write e) s

abbrev pub holds : Value → Bool
holds v = is_true (data_of v)

abbrev pub is_missing : Value → Bool
is_missing v = is_null (data_of v)

-- a value that is not null
abbrev pub present_of : Value → Option Value
present_of v = if is_missing v then None else Some v

-- a value that holds
abbrev pub kept_of : Value → Option Value
kept_of v = if holds v then Some v else None
