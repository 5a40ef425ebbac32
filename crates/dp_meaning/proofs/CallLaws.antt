-- Calls and included files by how many frames more can be on the stack, and names that are bound.
use Rattle.std.proofs.Common.{◌≡◌, ℕ, zero, suc, ◌-◌, List, Result, refl, sym, ap, subst, arith}
use Rattle.dp_tree.specs.declared.bundle.Bundle.{Bundle}
use Rattle.dp_state.specs.declared.moments.FatalKind.TheVariants.{TooDeep}
use Rattle.dp_state.specs.declared.state.State.{State}
use Rattle.dp_tree.specs.declared.tree.Expression.{Expression}
use Rattle.dp_tree.specs.declared.tree.Function.{Function}
use Rattle.dp_value.specs.declared.value.Value.{Value}
use Rattle.dp_state.specs.Functions.{included}
use Rattle.dp_actions.specs.declared.halt.Halt.{Halt}
use Rattle.dp_actions.specs.declared.signal.Signal.{Signal}
use Rattle.dp_actions.specs.declared.signal.Signal.TheVariants.{Next}
use Rattle.dp_meaning.specs.inner.Drive.{Rules, Evaluates}
use Rattle.dp_actions.specs.Calls.{call_run, callee}
use Rattle.dp_actions.specs.Expressions.{evaluations}
use Rattle.dp_actions.specs.Loops.{do_turns, turns}
use Rattle.dp_meaning.specs.Programs.{file_run, function_run, setting_of}
use Rattle.dp_actions.specs.Bodies.{left_file}
use Rattle.dp_actions.specs.Bodies.{statements_of}
use Rattle.dp_actions.specs.Run.{Run, Done, and_then, fatal, taken}
use Rattle.dp_actions.specs.Setting.{Part}
use Rattle.dp_actions.specs.Statements.{body_run, for_turns}

module _ (bundle : Bundle) (bound depth : ℕ) where
  pub setting-bundle : (setting_of bundle bound depth).bundle ≡ bundle
  unfolding setting_of
  setting-bundle = go depth
    where
      go : (depth : ℕ) → (setting_of bundle bound depth).bundle ≡ bundle
      go zero = refl
      go (suc depth) = refl

  pub setting-bound : (setting_of bundle bound depth).bound ≡ bound
  unfolding setting_of
  setting-bound = go depth
    where
      go : (depth : ℕ) → (setting_of bundle bound depth).bound ≡ bound
      go zero = refl
      go (suc depth) = refl

  -- a call in the bundle
  pub call-is : (name : List ℕ) (arguments : Part (List Value)) (s : State)
      → call_run (callee (setting_of bundle bound depth).bundle name s) arguments (setting_of bundle bound depth) s
      ≡ call_run (callee bundle name s) arguments (setting_of bundle bound depth) s
  call-is name arguments s =
      ap (λ (b : Bundle). call_run (callee b name s) arguments (setting_of bundle bound depth) s) setting-bundle

  -- loops whose turns are bounded by what parts go by
  module _ (line : ℕ) (body : State → Run Signal) (s : State) where
    pub bounded-turns : (test next : State → Run (List Value))
        → turns (setting_of bundle bound depth).bound line test next body s ≡ turns bound line test next body s
    bounded-turns test next = ap (λ (n : ℕ). turns n line test next body s) setting-bound

    pub bounded-do : (test : State → Run Value)
        → do_turns (setting_of bundle bound depth).bound line test body s ≡ do_turns bound line test body s
    bounded-do test = ap (λ (n : ℕ). do_turns n line test body s) setting-bound

    -- the turns of a `for`
    pub runs-for : {rules : Rules} {x : Result Signal Halt} {t : State} (tests after : List Expression)
        (part : Part Signal) (before : List Value)
        → Evaluates rules (turns bound line (evaluations tests (setting_of bundle bound depth))
        (evaluations after (setting_of bundle bound depth))
        (part (setting_of bundle bound depth)) s) x t
        → Evaluates rules (for_turns line tests after part (setting_of bundle bound depth) before s) x t
    runs-for {rules} {x} {t} tests after part before e =
        subst (λ (n : ℕ). Evaluates rules (turns n line (evaluations tests (setting_of bundle bound depth))
        (evaluations after
        (setting_of bundle bound depth)) (part (setting_of bundle bound depth)) s) x t) (sym setting-bound) e

  -- the run of a file of the bundle
  pub file-is : (file : ℕ) (s : State) → file_run file (setting_of bundle bound depth) s
      ≡ and_then (taken (included bundle file s) s) (λ _ t.
      and_then (body_run (statements_of bundle file) (setting_of bundle bound depth) t) left_file)
  file-is file s =
      ap (λ (b : Bundle). and_then (taken (included b file s) s) (λ _ t.
      and_then (body_run (statements_of b file) (setting_of bundle bound depth) t) left_file))
      setting-bundle

  pub zero-call : depth ≡ 0 → (file : ℕ) (f : Function) (values : List Value) (s : State)
      → (setting_of bundle bound depth).call file f values s ≡ fatal TooDeep s
  unfolding setting_of
  zero-call e file f values s = rw e refl

  pub zero-include : depth ≡ 0 → (file : ℕ) (s : State)
      → (setting_of bundle bound depth).include file s ≡ fatal TooDeep s
  unfolding setting_of
  zero-include e file s = rw e refl

  pub suc-call : (depth ≡ 0 → ⊥) → (file : ℕ) (f : Function) (values : List Value) (s : State)
      → (setting_of bundle bound depth).call file f values s ≡ function_run file f values
      (setting_of bundle bound (depth - 1)) s
  unfolding setting_of
  suc-call differs file f values s = go depth differs
    where
      go : (depth : ℕ) → (depth ≡ 0 → ⊥) → (setting_of bundle bound depth).call file f values s
          ≡ function_run file f values (setting_of bundle bound (depth - 1)) s
      go zero differs = absurd (differs refl)
      go (suc depth) differs = let e : suc depth - 1 ≡ depth = omega arith in rw e refl

  pub suc-include : (depth ≡ 0 → ⊥) → (file : ℕ) (s : State) → (setting_of bundle bound depth).include file s
      ≡ file_run file (setting_of bundle bound (depth - 1)) s
  unfolding setting_of
  suc-include differs file s = go depth differs
    where
      go : (depth : ℕ) → (depth ≡ 0 → ⊥)
          → (setting_of bundle bound depth).include file s ≡ file_run file (setting_of bundle bound (depth - 1)) s
      go zero differs = absurd (differs refl)
      go (suc depth) differs = let e : suc depth - 1 ≡ depth = omega arith in rw e refl

-- a step that gives nothing, and the next statement
pub next-done : {rules : Rules} {s t : State} {x : Result Signal Halt}
    → Evaluates rules (and_then {A = Unit {0}} (Done tt s) (λ _ u. Done Next u)) x t
    → Evaluates rules (Done Next s) x t
unfolding and_then
next-done e = e
