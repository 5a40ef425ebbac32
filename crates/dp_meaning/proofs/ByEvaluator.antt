-- What is known of calls, files and loops, by the evaluator that runs them.
use Rattle.std.proofs.Common.{◌≡◌, ℕ, Bool, List, [], map, Option, Result}
use Rattle.std.specs.Prelude.{if◌then◌else◌, option_map}
use Rattle.dp_tree.specs.declared.tree.Arm.{Arm}
use Rattle.dp_tree.specs.declared.tree.Expression.{Expression}
use Rattle.dp_tree.specs.declared.tree.Statement.{Statement}
use Rattle.dp_value.specs.declared.value.Value.{Value}
use Rattle.dp_state.specs.declared.state.State.{State}
use Rattle.dp_state.specs.Functions.{included}
use Rattle.dp_actions.specs.declared.halt.Halt.{Halt}
use Rattle.dp_actions.specs.declared.signal.Signal.{Signal}
use Rattle.dp_actions.specs.Bodies.{left_file, statements_of}
use Rattle.dp_actions.specs.Calls.{call_run, callee}
use Rattle.dp_actions.specs.Expressions.{evaluation, evaluations}
use Rattle.dp_actions.specs.Loops.{do_turns, turns}
use Rattle.dp_actions.specs.Run.{Run, and_then, taken}
use Rattle.dp_actions.specs.Setting.{Part}
use Rattle.dp_actions.specs.Statements.{arm_run, arms_run, body_run, for_turns, statement_run}
use Rattle.dp_meaning.specs.declared.evaluator.Evaluator.{Evaluator}
use Rattle.dp_meaning.specs.inner.Drive.{Rules, Evaluates}
use Rattle.dp_meaning.specs.inner.Evaluation.{goes_by}
use Rattle.dp_meaning.specs.Programs.{file_run}
use Rattle.dp_meaning.proofs.CallLaws.{bounded-do, bounded-turns, call-is, file-is, runs-for, setting-bundle}

module _ {O : Type 0} (by : Evaluator O) where
  pub by-bundle : (goes_by by).bundle ≡ by.bundle.now
  by-bundle = setting-bundle by.bundle.now by.bound by.depth

  pub by-call : (name : List ℕ) (arguments : Part (List Value)) (s : State)
      → call_run (callee (goes_by by).bundle name s) arguments (goes_by by) s
      ≡ call_run (callee by.bundle.now name s) arguments (goes_by by) s
  by-call name arguments s = call-is by.bundle.now by.bound by.depth name arguments s

  pub by-file : (file : ℕ) (s : State) → file_run file (goes_by by) s
      ≡ and_then (taken (included by.bundle.now file s) s) (λ _ t.
      and_then (body_run (statements_of by.bundle.now file) (goes_by by) t) left_file)
  by-file file s = file-is by.bundle.now by.bound by.depth file s

  -- loops, whose turns are bounded by what the evaluator has
  pub by-turns : (line : ℕ) (body : Statement) (s : State) (tests after : List Expression)
      → turns (goes_by by).bound line (evaluations tests (goes_by by)) (evaluations after (goes_by by))
      (statement_run body (goes_by by)) s
      ≡ turns by.bound line (evaluations tests (goes_by by)) (evaluations after (goes_by by))
      (statement_run body (goes_by by)) s
  by-turns line body s tests after =
      bounded-turns by.bundle.now by.bound by.depth line (statement_run body (goes_by by)) s
      (evaluations tests (goes_by by)) (evaluations after (goes_by by))

  pub by-do : (line : ℕ) (body : Statement) (s : State) (test : Expression)
      → do_turns (goes_by by).bound line (evaluation test (goes_by by)) (statement_run body (goes_by by)) s
      ≡ do_turns by.bound line (evaluation test (goes_by by)) (statement_run body (goes_by by)) s
  by-do line body s test =
      bounded-do by.bundle.now by.bound by.depth line (statement_run body (goes_by by)) s
      (evaluation test (goes_by by))

  pub by-for : {rules : Rules} {x : Result Signal Halt} {t : State} (line : ℕ) (body : Statement) (s : State)
      (tests after : List Expression)
      → Evaluates rules (turns by.bound line (evaluations tests (goes_by by)) (evaluations after (goes_by by))
      (statement_run body (goes_by by)) s) x t
      → Evaluates rules (for_turns line tests after (statement_run body) (goes_by by) [] s) x t
  by-for line body s tests after e =
      runs-for by.bundle.now by.bound by.depth line (statement_run body (goes_by by)) s tests after
      (statement_run body) [] e

  -- an arm, by whether its test holds, and the arms behind it
  abbrev pub by-arm : Arm → List Arm → Option Statement → Bool → State → Run Signal
  by-arm arm arms otherwise holds s =
      if holds then statement_run arm.body (goes_by by) s else arms_run (map arm_run arms)
      (option_map statement_run otherwise) (goes_by by) s
