-- What is done with constants. Source: the PHP manual, "Constants", "define", "defined".
use Rattle.std.specs.Prelude.{ℕ, Bool, not, ◌||◌, if◌then◌else◌, List, [], ◌∷◌, codes, Option, Some, None, is_some}
use Rattle.std.specs.Str.{str_eq_ignore_ascii_case}
use Rattle.dp_lexer.specs.Names.{is_given}
use Rattle.dp_value.specs.declared.value.Value.{Value}
use Rattle.dp_value.specs.declared.value.Value.TheVariants.{Null, Bool as Truth, Int, Text, Array}
use Rattle.dp_state.specs.declared.moments.FatalKind.TheVariants.{Arguments, NoConstant, Unsupported}
use Rattle.dp_state.specs.declared.state.State.{State}
use Rattle.dp_state.specs.Constants.{constant, with_constant}
use Rattle.dp_actions.specs.Run.{Run, Done, fatal}

-- a constant that is read has to be there
abbrev pub read_constant : Option Value → State → Run Value
read_constant None s = fatal NoConstant s
read_constant (Some v) s = Done v s

abbrev pub constant_run : List ℕ → State → Run Value
constant_run name s = read_constant (constant name s) s

-- `true`, `false` and `null`, in any case of letters
abbrev pub is_literal : List ℕ → Bool
is_literal name =
    str_eq_ignore_ascii_case name (codes "true")
    || (str_eq_ignore_ascii_case name (codes "false")
    || str_eq_ignore_ascii_case name (codes "null"))

-- a constant of this name gets a value, unless there is one: whether it was defined
abbrev pub defining : List ℕ → Value → State → Run Value
defining name v s =
    if is_given name
    then Done (Truth (not (is_some (constant name s)))) (with_constant name v s)
    else fatal Unsupported s

-- the name of a constant is a text
abbrev pub define_as : Value → Value → State → Run Value
define_as Null v s = fatal Unsupported s
define_as (Truth b) v s = fatal Unsupported s
define_as (Int n) v s = fatal Unsupported s
define_as (Text name) v s = defining name v s
define_as (Array t) v s = fatal Unsupported s

-- `define` takes a name and a value
abbrev pub define_run : List Value → State → Run Value
define_run (name ∷ v ∷ []) s = define_as name v s
define_run other s = fatal Arguments s

abbrev pub defined_as : Value → State → Run Value
defined_as Null s = fatal Unsupported s
defined_as (Truth b) s = fatal Unsupported s
defined_as (Int n) s = fatal Unsupported s
defined_as (Text name) s = Done (Truth (is_literal name || is_some (constant name s))) s
defined_as (Array t) s = fatal Unsupported s

-- `defined` takes a name
abbrev pub defined_run : List Value → State → Run Value
defined_run (name ∷ []) s = defined_as name s
defined_run other s = fatal Arguments s
