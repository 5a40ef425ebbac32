-- More turns of loops and more frames change nothing of a program, of its parts and of its evaluations.
use Rattle.std.proofs.Common.{◌≡◌, ℕ, ◌+◌, ◌<◌, ◌≤◌, List, [], length, Option, Some, None, refl, sym, ap, ◌∙◌, arith}
use Rattle.std.specs.Option.{option_map_or}
use Rattle.std.specs.Prelude.{slice_get}
use Rattle.dp_tree.specs.CodeLines.{body_lines, lines_of}
use Rattle.dp_tree.specs.declared.bundle.Bundle.{Bundle}
use Rattle.dp_tree.specs.declared.bundle.BundleFile.{BundleFile}
use Rattle.dp_tree.specs.declared.tree.Expression.{Expression}
use Rattle.dp_tree.specs.declared.tree.Statement.{Statement}
use Rattle.dp_state.specs.declared.state.State.{State}
use Rattle.dp_state.specs.States.{frame_limit, opening}
use Rattle.dp_meaning.specs.declared.writes.NumberedWrite.{NumberedWrite}
use Rattle.dp_actions.specs.Expressions.{evaluation, evaluations}
use Rattle.dp_meaning_laws.specs.Limits.{CanStand, IsAmple, SameTraces, trace_by}
use Rattle.dp_actions.specs.Loops.{do_turns, turns}
use Rattle.dp_meaning.specs.Programs.{program_run, setting_of}
use Rattle.dp_actions.specs.Bodies.{statements_of}
use Rattle.dp_actions.specs.Run.{Run, Done}
use Rattle.dp_actions.specs.Setting.{Setting}
use Rattle.dp_actions.specs.Statements.{body_run, statement_run}
use Rattle.dp_meaning.specs.Trace.{program_trace, trace}
use Rattle.dp_meaning.specs.Writes.{Writes, evaluation_limit, writes_of}
use Rattle.dp_meaning.proofs.Alike.{Alike, AreAlike}
use Rattle.dp_meaning.proofs.AlikeCalls.{within-found}
use Rattle.dp_meaning.proofs.AlikeExpressions.{Keeps-evaluations, Keeps-expression}
use Rattle.dp_meaning.proofs.AlikeLoops.{Alike-do, Alike-turns}
use Rattle.dp_meaning.proofs.AlikeStatements.{Keeps-body, Keeps-statement, Still-statement}
use Rattle.dp_meaning_laws.proofs.Ample.{ample, ample-written, anywhere, counting, kept-counting, same-traces, there-is}
use Rattle.dp_meaning.proofs.OfBundle.{IsThere, Stack, main_file, there-opening}
use Rattle.dp_actions.proofs.Runs.{and_then-Done}

-- ---- in the midst of a run

module _ (bundle : Bundle) (bound m a k b : ℕ) (s : State) (can : CanStand bundle s) (few : IsAmple bound s m a)
    (less : IsAmple bound s k b) where
  abbrev x : Setting
  x = setting_of bundle m a

  abbrev y : Setting
  y = setting_of bundle k b

  d : Stack
  d = (there-is bundle s can.0 can.1).0

  there : IsThere bundle d s.moments s
  unfolding d
  there = (there-is bundle s can.0 can.1).1

  good : AreAlike (counting bundle bound) bundle d x y
  unfolding d
  good =
      let long = (there-is bundle s can.0 can.1).2 in
      ample bundle bound m k few.0 less.0 a b d (omega (arith, few.1, long)) (omega (arith, less.1, long))

  same : {A : Type 0} (r q : Run A) → Alike (counting bundle bound) d s.moments r q → SameTraces bundle bound r q
  same r q h = λ writes next.
      same-traces bundle bound (writes_of bundle writes) writes (λ d n k s p. refl) r q next (λ v s. refl) d s.moments h

  pub same-evaluation : (e : Expression) → SameTraces bundle bound (evaluation e x s) (evaluation e y s)
  same-evaluation e =
      same _ _ ((Keeps-expression (counting bundle bound) bundle (kept-counting bundle bound) d x y good e).0 s.moments
      s there)

  pub same-statement : (statement : Statement)
      → SameTraces bundle bound (statement_run statement x s) (statement_run statement y s)
  same-statement statement =
      same _ _ (Keeps-statement (counting bundle bound) bundle (kept-counting bundle bound) d x y good statement
      (anywhere bundle bound d (lines_of statement)) s.moments s there)

  pub same-body : (statements : List Statement)
      → SameTraces bundle bound (body_run statements x s) (body_run statements y s)
  same-body statements =
      same _ _ (Keeps-body (counting bundle bound) bundle (kept-counting bundle bound) d x y good statements
      (anywhere bundle bound d (body_lines statements)) s.moments s there)

  module _ (n l : ℕ) (more : bound ≤ s.moments + n) (most : bound ≤ s.moments + l) (line : ℕ) (body : Statement) where
    pub same-turns : (tests after : List Expression)
        → SameTraces bundle bound (turns n line (evaluations tests x) (evaluations after x) (statement_run body x) s)
        (turns l line (evaluations tests y) (evaluations after y) (statement_run body y) s)
    same-turns tests after =
        same _ _ (Alike-turns (counting bundle bound) d line tt _ _ _ _ _ _
        (Keeps-evaluations (counting bundle bound) bundle (kept-counting bundle bound) d x y good tests)
        (Keeps-evaluations (counting bundle bound) bundle (kept-counting bundle bound) d x y good after)
        (Keeps-statement (counting bundle bound) bundle (kept-counting bundle bound) d x y good body
        (anywhere bundle bound d (lines_of body)))
        n l s.moments s more most there)

    pub same-do : (test : Expression)
        → SameTraces bundle bound (do_turns n line (evaluation test x) (statement_run body x) s)
        (do_turns l line (evaluation test y) (statement_run body y) s)
    same-do test =
        same _ _ (Alike-do (counting bundle bound) d line tt _ _ _ _
        (Keeps-expression (counting bundle bound) bundle (kept-counting bundle bound) d x y good test).0
        (Keeps-statement (counting bundle bound) bundle (kept-counting bundle bound) d x y good body
        (anywhere bundle bound d (lines_of body)))
        (Still-statement (counting bundle bound) bundle (kept-counting bundle bound) d x y good body x)
        (Still-statement (counting bundle bound) bundle (kept-counting bundle bound) d x y good body y) n l s.moments s
        more most there)

-- ---- whole programs

module _ (bundle : Bundle) (bound : ℕ) (ws : List NumberedWrite) (m a k b : ℕ) (few : bound ≤ m)
    (deep : frame_limit ≤ a)
    (more : evaluation_limit ≤ k) (low : frame_limit ≤ b) where
  abbrev v : Writes
  v = record { setting = setting_of bundle k b; list = ws }

  abbrev wide : Setting
  wide = setting_of bundle m a

  abbrev narrow : Setting
  narrow = setting_of bundle bound frame_limit

  with-files : 0 < length bundle.files
      → trace_by bundle bound wide v ≡ trace_by bundle bound narrow (writes_of bundle ws)
  with-files some =
      ap (trace bound v) (sym (and_then-Done (body_run (statements_of bundle 0) wide (opening bundle))))
      ∙ same-traces bundle bound v ws (λ d n i s p. ample-written bundle k b more low ws d n i s p)
      (body_run (statements_of bundle 0) wide (opening bundle))
      (body_run (statements_of bundle 0) narrow (opening bundle)) (λ g s. Done g s) (λ g s. refl)
      main_file 0
      (Keeps-body (counting bundle bound) bundle (kept-counting bundle bound) main_file wide narrow
      (ample bundle bound m bound few (omega arith) a frame_limit main_file (omega (arith, deep)) (omega arith))
      (statements_of bundle 0)
      (anywhere bundle bound main_file (body_lines (statements_of bundle 0))) 0 (opening bundle)
      (there-opening bundle some))
      ∙ ap (trace bound (writes_of bundle ws)) (and_then-Done
      (body_run (statements_of bundle 0) narrow (opening bundle)))

  pub same-program : trace_by bundle bound wide v ≡ program_trace bundle bound ws
  unfolding program_trace program_run
  same-program = go (slice_get bundle.files 0) refl
    where
      go : (o : Option BundleFile) → slice_get bundle.files 0 ≡ o
          → trace_by bundle bound wide v ≡ trace_by bundle bound narrow (writes_of bundle ws)
      go None e =
          ap (λ (o : Option BundleFile). trace bound v (body_run (option_map_or (λ f. f.tree.body) o []) wide
          (opening bundle))) e
          ∙ ap (λ (o : Option BundleFile). trace bound (writes_of bundle ws)
          (body_run (option_map_or (λ f. f.tree.body) o []) narrow
          (opening bundle))) (sym e)
      go (Some f) e = with-files (within-found bundle.files 0 f e)
