-- What a built-in function does: at once it gives a value, or is fatal, and at most defines a constant.
use Rattle.std.proofs.Common.{◌≡◌, ℕ, Bool, true, false, if◌then◌else◌, List, [], ◌∷◌, map, Option, Some, None, Result, Ok, Err, refl}
use Rattle.dp_value.specs.declared.errors.CallError.{CallError}
use Rattle.dp_value.specs.declared.value.Value.{Value}
use Rattle.dp_value.specs.declared.value.Value.TheVariants as value
use Rattle.dp_value.specs.Data.{Data}
use Rattle.dp_value.specs.Value.{data_of}
use Rattle.dp_operations.specs.Builtins.{builtin_of}
use Rattle.dp_tree.specs.declared.operators.Native.{Native}
use Rattle.dp_tree.specs.declared.operators.Native.TheVariants.{Table, Define, Defined}
use Rattle.dp_state.specs.declared.moments.FatalKind.{FatalKind}
use Rattle.dp_state.specs.declared.moments.FatalKind.TheVariants.{Arguments, NoConstant, Unsupported}
use Rattle.dp_state.specs.declared.state.State.{State}
use Rattle.dp_state.specs.Constants.{with_constant}
use Rattle.dp_actions.specs.Calls.{native_run}
use Rattle.dp_actions.specs.Constants.{define_as, define_run, defined_as, defined_run, read_constant}
use Rattle.dp_actions.specs.Run.{Run, Done, fatal}
use Rattle.dp_actions.specs.Values.{builtin_run}

-- a run that gives a value at once, with a constant defined or none, or is fatal
pub data IsNative (s : State) (r : Run Value) : Type 0 where
  WithValue : (v : Value) → r ≡ Done v s → IsNative s r
  WithConstant : (name : List ℕ) (v given : Value) → r ≡ Done given (with_constant name v s) → IsNative s r
  WithFault : (kind : FatalKind) → r ≡ fatal kind s → IsNative s r

pub read-is : (o : Option Value) (s : State) → IsNative s (read_constant o s)
read-is None s = WithFault NoConstant refl
read-is (Some v) s = WithValue v refl

table-is : (r : Result Data CallError) (s : State) → IsNative s (builtin_run r s)
table-is (Ok d) s = WithValue _ refl
table-is (Err e) s = WithFault _ refl

defining-is : (b : Bool) (name : List ℕ) (v given : Value) (s : State)
    → IsNative s (if b then Done given (with_constant name v s) else fatal Unsupported s)
defining-is true name v given s = WithConstant name v given refl
defining-is false name v given s = WithFault Unsupported refl

define_as-is : (name v : Value) (s : State) → IsNative s (define_as name v s)
define_as-is value.Null v s = WithFault Unsupported refl
define_as-is (value.Bool b) v s = WithFault Unsupported refl
define_as-is (value.Int n) v s = WithFault Unsupported refl
define_as-is (value.Text name) v s = defining-is _ name v _ s
define_as-is (value.Array t) v s = WithFault Unsupported refl

define-is : (values : List Value) (s : State) → IsNative s (define_run values s)
define-is [] s = WithFault Arguments refl
define-is (name ∷ []) s = WithFault Arguments refl
define-is (name ∷ v ∷ []) s = define_as-is name v s
define-is (name ∷ v ∷ w ∷ more) s = WithFault Arguments refl

defined_as-is : (name : Value) (s : State) → IsNative s (defined_as name s)
defined_as-is value.Null s = WithFault Unsupported refl
defined_as-is (value.Bool b) s = WithFault Unsupported refl
defined_as-is (value.Int n) s = WithFault Unsupported refl
defined_as-is (value.Text name) s = WithValue _ refl
defined_as-is (value.Array t) s = WithFault Unsupported refl

defined-is : (values : List Value) (s : State) → IsNative s (defined_run values s)
defined-is [] s = WithFault Arguments refl
defined-is (name ∷ []) s = defined_as-is name s
defined-is (name ∷ v ∷ more) s = WithFault Arguments refl

pub native-is : (b : Native) (values : List Value) (s : State) → IsNative s (native_run b values s)
native-is (Table b) values s = table-is (builtin_of b (map data_of values)) s
native-is Define values s = define-is values s
native-is Defined values s = defined-is values s
