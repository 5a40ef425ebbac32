-- What a name calls, and what includes a file.
use Rattle.std.specs.Prelude.{ℕ, false, List, map, Option, Some, None}
use Rattle.std.specs.Option.{option_map_or}
use Rattle.dp_tree.specs.declared.operators.Native.{Native}
use Rattle.dp_tree.specs.declared.operators.Native.TheVariants.{Table, Define, Defined}
use Rattle.dp_value.specs.declared.value.Value.{Value}
use Rattle.dp_value.specs.declared.value.Value.TheVariants.{Bool}
use Rattle.dp_value.specs.Value.{data_of}
use Rattle.dp_operations.specs.Builtins.{builtin_of}
use Rattle.dp_operations.specs.Text.{text_of}
use Rattle.dp_tree.specs.declared.tree.Function.{Function}
use Rattle.dp_tree.specs.declared.tree.Inclusion.{Inclusion}
use Rattle.dp_tree.specs.declared.tree.Inclusion.TheVariants.{Include, Require}
use Rattle.dp_tree.specs.Builtins.{builtin_of as builtin_named}
use Rattle.dp_tree.specs.declared.bundle.Bundle.{Bundle}
use Rattle.dp_state.specs.declared.moments.FatalKind.TheVariants.{NoFile, NoFunction}
use Rattle.dp_tree.specs.declared.bundle.FunctionRef.{FunctionRef}
use Rattle.dp_state.specs.declared.state.State.{State}
use Rattle.dp_tree.specs.Files.{file_named, function_at}
use Rattle.dp_state.specs.Functions.{declared_function}
use Rattle.dp_actions.specs.declared.callees.Callee.{Callee as Called}
use Rattle.dp_actions.specs.declared.callees.Callee.TheVariants as called
use Rattle.dp_actions.specs.Constants.{define_run, defined_run}
use Rattle.dp_actions.specs.Run.{Run, Done, fatal, ◌>>=◌}
use Rattle.dp_actions.specs.Setting.{Part}
use Rattle.dp_actions.specs.Values.{builtin_run}

-- what a name calls: a built-in function, or one of the file of this number
pub data Callee : Type 0 where
  BuiltIn : Native → Callee
  Declared : ℕ → Function → Callee

-- what a call finds under a name
abbrev pub callee_of : Called → Callee
callee_of (called.BuiltIn b) = BuiltIn b
callee_of (called.Declared file f) = Declared file f.now

abbrev pub declared_callee : Bundle → FunctionRef → Option Callee
declared_callee bundle reference =
    option_map_or (λ f. Some (Declared reference.file f)) (function_at bundle reference) None

-- a built-in function has its name alone, and another one has it where it is declared
abbrev pub callee : Bundle → List ℕ → State → Option Callee
callee bundle name s =
    option_map_or (λ b. Some (BuiltIn b)) (builtin_named name)
    (option_map_or (declared_callee bundle) (declared_function bundle name s.declared) None)

-- a built-in function of these values
abbrev pub native_run : Native → List Value → State → Run Value
native_run (Table b) values s = builtin_run (builtin_of b (map data_of values)) s
native_run Define values s = define_run values s
native_run Defined values s = defined_run values s

abbrev pub callee_run : Callee → List Value → Part Value
callee_run (BuiltIn b) values setting s = native_run b values s
callee_run (Declared file f) values setting s = setting.call file f values s

-- a call: the name is looked up, then the arguments are evaluated
abbrev pub call_run : Option Callee → Part (List Value) → Part Value
call_run None arguments setting s = fatal NoFunction s
call_run (Some c) arguments setting s =
    arguments setting s >>= λ values t. callee_run c values setting t

-- the file of this number, if there is one
abbrev pub inclusion_run : Inclusion → Option ℕ → Part Value
inclusion_run Include None setting s = Done (Bool false) s
inclusion_run Require None setting s = fatal NoFile s
inclusion_run how (Some file) setting s = setting.include file s

-- `include` and `require` of the file whose name is the text of a value
abbrev pub include_run : Inclusion → Value → Part Value
include_run how v setting s =
    inclusion_run how (file_named setting.bundle (text_of (data_of v))) setting s
