-- What calls of functions and included files do, and whole programs.
use Rattle.std.specs.Prelude.{ℕ, zero, suc, List}
use Rattle.dp_tree.specs.declared.tree.Function.{Function}
use Rattle.dp_tree.specs.declared.bundle.Bundle.{Bundle}
use Rattle.dp_state.specs.declared.moments.FatalKind.TheVariants.{TooDeep}
use Rattle.dp_state.specs.declared.moments.MomentKind.TheVariants.{Enter}
use Rattle.dp_state.specs.Functions.{called, included}
use Rattle.dp_state.specs.States.{frame_limit, opening}
use Rattle.dp_value.specs.declared.value.Value.{Value}
use Rattle.dp_actions.specs.declared.signal.Signal.{Signal}
use Rattle.dp_actions.specs.Bodies.{leaving, left_file, statements_of}
use Rattle.dp_actions.specs.Run.{Run, At, fatal, taken, ◌>>=◌}
use Rattle.dp_actions.specs.Setting.{Setting, Part}
use Rattle.dp_actions.specs.Statements.{body_run}

-- A call: its parameters are set, then it enters, on the line of `function`.
abbrev pub function_run : ℕ → Function → List Value → Part Value
function_run file f values setting s =
    taken (called file f values s) s
    >>= λ _ t. At Enter f.line t (λ u. body_run f.body setting u >>= leaving)

-- an included file: its functions are declared, then it runs
abbrev pub file_run : ℕ → Part Value
file_run file setting s =
    taken (included setting.bundle file s) s
    >>= λ _ t. body_run (statements_of setting.bundle file) setting t >>= left_file

-- what parts go by, where so many frames more can be on the stack
unfoldable pub setting_of : Bundle → ℕ → ℕ → Setting
setting_of bundle bound zero = record {
  bundle = bundle;
  bound = bound;
  call = λ file f values s. fatal TooDeep s;
  include = λ file s. fatal TooDeep s;
}
setting_of bundle bound (suc depth) = record {
  bundle = bundle;
  bound = bound;
  call = λ file f values s. function_run file f values (setting_of bundle bound depth) s;
  include = λ file s. file_run file (setting_of bundle bound depth) s;
}

-- the whole program: its main file, from the opening state
unfoldable pub program_run : Bundle → ℕ → Run Signal
program_run bundle bound =
    body_run (statements_of bundle 0) (setting_of bundle bound frame_limit) (opening bundle)
