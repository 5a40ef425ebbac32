-- What is kept by each step of a program is kept by statements.
use Rattle.std.proofs.Common.{◌≡◌, ℕ, zero, suc, ◌+◌, ◌≤◌, Bool, true, false, if◌then◌else◌, List, [], ◌∷◌, map, Option, Some, None, ℤ, pos, negsuc, refl, sym, subst, arith}
use Rattle.std.proofs.lemmas.Bool.Decides.{nat_tests}
use Rattle.std.specs.List.{flat_map}
use Rattle.std.specs.Prelude.{nat_le}
use Rattle.dp_tree.specs.CodeLines as lines
use Rattle.dp_tree.specs.CodeLines.{Lines, LinesFrom, lines_of, body_lines}
use Rattle.dp_tree.specs.inner.Parts.{kind_lines, arm_lines}
use Rattle.dp_tree.specs.declared.bundle.Bundle.{Bundle}
use Rattle.dp_value.specs.declared.value.Value.{Value}
use Rattle.dp_value.specs.declared.value.Value.TheVariants as value
use Rattle.dp_value.specs.Value.{data_of}
use Rattle.dp_operations.specs.Text.{text_of}
use Rattle.dp_state.specs.declared.moments.MomentKind.TheVariants.{Place}
use Rattle.dp_state.specs.declared.state.State.{State}
use Rattle.dp_state.specs.Constants.{with_constant}
use Rattle.dp_state.specs.Places.{with_global}
use Rattle.dp_state.specs.States.{printed}
use Rattle.dp_tree.specs.declared.tree.Arm.{Arm, map-Arm, roll-Arm}
use Rattle.dp_tree.specs.declared.tree.Definition.{Definition}
use Rattle.dp_tree.specs.declared.tree.Expression.{Expression}
use Rattle.dp_tree.specs.declared.tree.Place.{Place as TreePlace}
use Rattle.dp_tree.specs.declared.tree.Statement.{Statement, map-Statement, roll-Statement, ind-Statement}
use Rattle.dp_tree.specs.declared.tree.StatementKind.{StatementKind, map-StatementKind, roll-StatementKind}
use Rattle.dp_tree.specs.declared.tree.StatementKind.TheFolds.{fold-roll-Statement, fold-roll-StatementKind, fold-roll-Arm}
use Rattle.dp_tree.specs.declared.tree.StatementKind.TheOpen.{Statement-F, StatementKind-F, Arm-F}
use Rattle.dp_actions.specs.declared.signal.Signal.{Signal}
use Rattle.dp_actions.specs.declared.signal.Signal.TheVariants.{Next, Break, Continue, Return}
use Rattle.dp_actions.specs.Expressions.{expression_run, evaluation, evaluations, place_run}
use Rattle.dp_actions.specs.Loops.{do_turns, entries, after_body, turns}
use Rattle.dp_actions.specs.Run.{Run, Done, Over, At, and_then, taken}
use Rattle.dp_actions.specs.Setting.{Setting, Part}
use Rattle.dp_actions.specs.Statements.{KindRun, ArmRun, go_on, placed, sequence, constants_run, echoes, arms_run, return_run, end_run, kind_layer, arm_layer, statement_layer, statement_run, body_run}
use Rattle.dp_actions.specs.Effects.{with_globals, status_of, exit_with, exit_run}
use Rattle.dp_actions.specs.inner.StatementParts.{kind_run}
use Rattle.dp_actions.specs.Statements.{arm_run}
use Rattle.dp_actions.specs.Values.{holds}
use Rattle.dp_meaning.proofs.Alike.{Alike, AreAlike, Facts, IsKept, Keeps, KeepsPart, Keeps-and_then, Alike-if, Alike-taken}
use Rattle.dp_meaning.proofs.Each.{Each, each-left, each-right}
use Rattle.dp_meaning.proofs.AlikeExpressions.{Keeps-expression, Keeps-evaluations, Keeps-place}
use Rattle.dp_meaning.proofs.AlikeLoops.{Alike-do, Alike-turns, IsStill, Keeps-each}
use Rattle.dp_meaning.proofs.AlikePlaces.{KeepsPlace, Keeps-unset}

module _ {D : Type 0} (F : Facts D) (bundle : Bundle) (kept : IsKept F bundle) (d : D) (x y : Setting)
    (good : AreAlike F bundle d x y) where
  Keeps-go_on : (f h : State → Run Signal) → Keeps F d f h → (g : Signal) → Keeps F d (go_on g f) (go_on g h)
  Keeps-go_on f h keep Next n s p = keep n s p
  Keeps-go_on f h keep (Break loops) n s p = (p, refl, refl)
  Keeps-go_on f h keep (Continue loop) n s p = (p, refl, refl)
  Keeps-go_on f h keep (Return v) n s p = (p, refl, refl)

  Keeps-sequence : (all : List (Part Signal)) → Each (KeepsPart F d x y) all → KeepsPart F d x y (sequence all)
  Keeps-sequence [] each n s p = (p, refl, refl)
  Keeps-sequence (first ∷ rest) each n s p =
      Keeps-and_then F d n _ _ _ _ (each.0 n s p) (Keeps-go_on _ _ (Keeps-sequence rest each.1))

  Keeps-prints : (piece : List ℕ) → Keeps F d (λ s. taken (printed piece s) s) (λ s. taken (printed piece s) s)
  Keeps-prints piece n s p = Alike-taken F _ d d n s p (λ t is. kept.prints d n piece s t is p)

  keeps : (e : Expression) → KeepsPart F d x y (evaluation e)
  keeps e = (Keeps-expression F bundle kept d x y good e).0

  Keeps-echoes : (es : List Expression) → KeepsPart F d x y (echoes (map expression_run es))
  Keeps-echoes [] n s p = (p, refl, refl)
  Keeps-echoes (e ∷ es) n s p =
      Keeps-and_then F d n _ _ _ _ (keeps e n s p) (λ v n t p.
      Keeps-and_then F d n _ _ _ _ (Keeps-prints (text_of (data_of v)) n t p) (λ _. Keeps-echoes es))

  Keeps-constants : (all : List Definition) → KeepsPart F d x y (constants_run all)
  Keeps-constants [] n s p = (p, refl, refl)
  Keeps-constants (first ∷ rest) n s p =
      Keeps-and_then F d n _ _ _ _ (keeps first.value n s p) (λ v n t p.
      Keeps-constants rest n (with_constant first.name v t) (kept.defines d n first.name v t p))

  Keeps-globals : (names : List (List ℕ)) (n : ℕ) (s : State) → F.state d n s → F.state d n (with_globals names s)
  Keeps-globals [] n s p = p
  Keeps-globals (name ∷ names) n s p = Keeps-globals names n (with_global name s) (kept.binds d n name s p)

  keeps-status : (m : ℤ) → Keeps F d (exit_with (status_of m)) (exit_with (status_of m))
  keeps-status (pos m) n s p = go (nat_le m 199) refl
    where
      go : (b : Bool) → nat_le m 199 ≡ b
          → Alike F d n (exit_with (if b then Some m else None) s) (exit_with (if b then Some m else None) s)
      go true is = let few : m ≤ 199 = grind (arith, nat_tests) in (d, p, few, refl, refl)
      go false is = (d, p, tt, refl, refl)
  keeps-status (negsuc m) n s p = (d, p, tt, refl, refl)

  Keeps-exit : (v : Value) → Keeps F d (exit_run v) (exit_run v)
  Keeps-exit value.Null n s p = (d, p, tt, refl, refl)
  Keeps-exit (value.Bool b) n s p = (d, p, tt, refl, refl)
  Keeps-exit (value.Int m) n s p = keeps-status m n s p
  Keeps-exit (value.Text bytes) n s p =
      Keeps-and_then F d n _ _ _ _ (Keeps-prints bytes n s p) (λ _ n t p. (d, p, omega arith, refl, refl))
  Keeps-exit (value.Array t) n s p = (d, p, tt, refl, refl)

  keeps-return : (value : Option Expression) → KeepsPart F d x y (return_run value)
  keeps-return None n s p = (p, refl, refl)
  keeps-return (Some e) n s p = Keeps-and_then F d n _ _ _ _ (keeps e n s p) (λ v n u p. (p, refl, refl))

  keeps-end : (value : Option Expression) → KeepsPart F d x y (end_run value)
  keeps-end None n s p = (d, p, omega arith, refl, refl)
  keeps-end (Some e) n s p = Keeps-and_then F d n _ _ _ _ (keeps e n s p) Keeps-exit

  all-places : (places : List TreePlace) → Each (KeepsPlace F bundle kept d x y) (map place_run places)
  all-places [] = tt
  all-places (place ∷ places) = (Keeps-place F bundle kept d x y good place, all-places places)

  -- ---- each layer, where the parts of a tree keep it and begin with a moment

  -- where its moments stand on lines that have it
  record GoodOn (lines : Lines) (part : Part Signal) : Type 0 where
    keeps : Each (F.line d) lines → KeepsPart F d x y part
    still : (setting : Setting) (s : State) → IsStill s (part setting s)

  -- with what is done where its test does not hold
  record GoodArm (lines : Lines) (arm : ArmRun) : Type 0 where
    keeps : (otherwise : Part Signal) → KeepsPart F d x y otherwise → Each (F.line d) lines
        → KeepsPart F d x y (arm otherwise)
    still : (otherwise : Part Signal) (setting : Setting) (s : State) → IsStill s (arm otherwise setting s)

  abbrev Good : Statement → Type 0
  Good statement = GoodOn (lines_of statement) (statement_run statement)

  abbrev OfKind : LinesFrom → KindRun → Type 0
  OfKind lines run = (line : ℕ) → GoodOn (lines line) (run line)

  abbrev WithKind : Type 0
  WithKind = (e : StatementKind) × OfKind (kind_lines e) (kind_run e)

  abbrev WithArm : Type 0
  WithArm = (e : Arm) × GoodArm (arm_lines e) (arm_run e)

  abbrev WithStatement : Type 0
  WithStatement = (e : Statement) × Good e

  abbrev WithGood : Type 0
  WithGood = StatementKind-F WithKind WithArm WithStatement

  abbrev Whole : Type 0
  Whole = StatementKind-F StatementKind Arm Statement

  abbrev parts : WithGood → Whole
  parts y =
      map-StatementKind WithKind WithArm WithStatement StatementKind Arm Statement (λ e. e.0) (λ e. e.0) (λ e. e.0) y

  abbrev runs : Whole → StatementKind-F KindRun ArmRun (Part Signal)
  runs z = map-StatementKind StatementKind Arm Statement KindRun ArmRun (Part Signal) kind_run arm_run statement_run z

  abbrev linings : Whole → StatementKind-F LinesFrom Lines Lines
  linings z = map-StatementKind StatementKind Arm Statement LinesFrom Lines Lines kind_lines arm_lines lines_of z

  -- a statement that begins with a moment
  placed-on : (lines : Lines) (line : ℕ) (go : Part Signal) → (Each (F.line d) lines → KeepsPart F d x y go)
      → GoodOn (line ∷ lines) (λ setting s. placed line s (go setting))
  placed-on lines line go keep = record {
    keeps = λ stands n s p. (d, p, λ t p. keep stands.1 (n + 1) t p, stands.0, refl, refl, refl);
    still = λ setting s. refl;
  }

  -- ---- blocks

  all-keep : (all : List WithStatement)
      → Each (F.line d) (flat_map (λ lines. lines) (map lines_of (map (λ e. e.0) all)))
      → Each (KeepsPart F d x y) (map statement_run (map (λ e. e.0) all))
  all-keep [] stand = tt
  all-keep (e ∷ all) stand =
      (e.1.keeps (each-left _ (lines_of e.0) _ stand), all-keep all (each-right _ (lines_of e.0) _ stand))

  still-next : (r : Run Signal) (next : State → Run Signal) (s : State) → IsStill s r → IsStill s (next s)
      → IsStill s (and_then r (λ g t. go_on g next t))
  unfolding and_then
  still-next (Done g t) next s h k =
      subst (λ t. IsStill s (go_on g next t)) h.1 (subst (λ g. IsStill s (go_on g next s)) (sym h.0) k)
  still-next (Over o t) next s h k = h
  still-next (At kind line t go) next s h k = h

  all-still : (all : List WithStatement) (setting : Setting) (s : State)
      → IsStill s (sequence (map statement_run (map (λ e. e.0) all)) setting s)
  all-still [] setting s = (refl, refl)
  all-still (e ∷ all) setting s = still-next _ _ s (e.1.still setting s) (all-still all setting s)

  -- ---- `if`

  arms-keep : (arms : List WithArm) (o : Option (Part Signal)) → KeepsPart F d x y (arms_run [] o)
      → Each (F.line d) (flat_map (λ lines. lines) (map arm_lines (map (λ e. e.0) arms)))
      → KeepsPart F d x y (arms_run (map arm_run (map (λ e. e.0) arms)) o)
  arms-keep [] o keep stand = keep
  arms-keep (e ∷ arms) o keep stand =
      e.1.keeps (arms_run (map arm_run (map (λ e. e.0) arms)) o)
      (arms-keep arms o keep (each-right _ (arm_lines e.0) _ stand))
      (each-left _ (arm_lines e.0) _ stand)

  arms-still : (arms : List WithArm) (o : Option (Part Signal))
      → ((setting : Setting) (s : State) → IsStill s (arms_run [] o setting s))
      → (setting : Setting) (s : State) → IsStill s (arms_run (map arm_run (map (λ e. e.0) arms)) o setting s)
  arms-still [] o still setting s = still setting s
  arms-still (e ∷ arms) o still setting s = e.1.still (arms_run (map arm_run (map (λ e. e.0) arms)) o) setting s

  -- ---- loops

  still-turns : (k line : ℕ) (test next : State → Run (List Value)) (body : State → Run Signal) (s : State)
      → IsStill s (turns k line test next body s)
  still-turns zero line test next body s = (refl, refl)
  still-turns (suc k) line test next body s = refl

  still-over : (r : Run Signal) (line : ℕ) (go : State → State → Run Signal) (s : State) → IsStill s r
      → IsStill s (and_then r (λ g t. after_body g (λ u. At Place line u (go u)) t))
  unfolding and_then
  still-over (Done g t) line go s h =
      subst (λ g. IsStill s (after_body g (λ u. At Place line u (go u)) t)) (sym h.0) h.1
  still-over (Over o t) line go s h = h
  still-over (At kind there t on) line go s h = h

  still-do : (k line : ℕ) (test : State → Run Value) (body : State → Run Signal) (s : State) → IsStill s (body s)
      → IsStill s (do_turns k line test body s)
  still-do zero line test body s h = (refl, refl)
  still-do (suc k) line test body s h = still-over (body s) line _ s h

  keeps-all : (es : List Expression) → KeepsPart F d x y (evaluations es)
  keeps-all es = Keeps-evaluations F bundle kept d x y good es

  keeps-turns : (line : ℕ) (test next : List Expression) (body : WithStatement) → F.line d line
      → Each (F.line d) (lines_of body.0)
      → KeepsPart F d x y (λ setting s. turns setting.bound line (evaluations test setting) (evaluations next setting)
      (statement_run body.0 setting) s)
  keeps-turns line test next body stands stand n s p =
      Alike-turns F d line stands _ _ _ _ _ _ (keeps-all test) (keeps-all next) (body.1.keeps stand) x.bound y.bound n s
      (omega (arith, good.turns_left)) (omega (arith, good.turns_right)) p

  keeps-do : (end : ℕ) (test : Expression) (body : WithStatement) → F.line d end → Each (F.line d) (lines_of body.0)
      → KeepsPart F d x y (λ setting s. do_turns setting.bound end (evaluation test setting)
      (statement_run body.0 setting) s)
  keeps-do end test body stands stand n s p =
      Alike-do F d end stands _ _ _ _ (keeps test) (body.1.keeps stand) (body.1.still x)
      (body.1.still y) x.bound y.bound n s
      (omega (arith, good.turns_left)) (omega (arith, good.turns_right)) p

  -- ---- all kinds

  keeps-layer : (z : WithGood) → OfKind (lines.kind_layer (linings (parts z))) (kind_layer (runs (parts z)))
  keeps-layer (StatementKind-F.Expression e) line =
      placed-on [] line _ (λ _ n s p. Keeps-and_then F d n _ _ _ _ (keeps e n s p)
      (λ _ n u p. (p, refl, refl)))
  keeps-layer (StatementKind-F.Echo operands) line = placed-on [] line _ (λ _. Keeps-echoes operands)
  keeps-layer (StatementKind-F.Block all) line = record {
    keeps = λ stand. Keeps-sequence _ (all-keep all stand);
    still = all-still all;
  }
  keeps-layer StatementKind-F.Empty line =
      record { keeps = λ stand n s p. (p, refl, refl); still = λ setting s. (refl, refl) }
  keeps-layer (StatementKind-F.If arms None) line = record {
    keeps = λ stand. arms-keep arms None (λ n s p. (p, refl, refl)) (each-left _ _ [] stand);
    still = arms-still arms None (λ setting s. (refl, refl));
  }
  keeps-layer (StatementKind-F.If arms (Some otherwise)) line = record {
    keeps =
        λ stand. arms-keep arms (Some (statement_run otherwise.0))
        (otherwise.1.keeps (each-right _ _ (lines_of otherwise.0) stand))
        (each-left _ _ (lines_of otherwise.0) stand);
    still = arms-still arms (Some (statement_run otherwise.0)) otherwise.1.still;
  }
  keeps-layer (StatementKind-F.While test body) line = record {
    keeps = λ stand. keeps-turns line (test ∷ []) [] body stand.0 stand.1;
    still = λ setting s. still-turns setting.bound line _ _ _ s;
  }
  keeps-layer (StatementKind-F.DoWhile body end test) line = record {
    keeps =
        λ stand. keeps-do end test body (each-right _ (lines_of body.0) (end ∷ []) stand).0
        (each-left _ (lines_of body.0) (end ∷ []) stand);
    still = λ setting s. still-do setting.bound end _ _ s (body.1.still setting s);
  }
  keeps-layer (StatementKind-F.For before tests after body) line = record {
    keeps = λ stand n s p. (
      d,
      p,
      λ t p. Keeps-and_then F d (n + 1) _ _ _ _ (keeps-all before (n + 1) t p)
          (λ _. keeps-turns line tests after body stand.0 stand.1),
      stand.0,
      refl,
      refl,
      refl,
    );
    still = λ setting s. refl;
  }
  keeps-layer (StatementKind-F.Foreach subject binding body) line = record {
    keeps = λ stand n s p. (
      d,
      p,
      λ t p. Keeps-and_then F d (n + 1) _ _ _ _ (keeps subject (n + 1) t p)
          (λ v. Keeps-each F d bundle kept line stand.0 binding
          (entries v) _ _ (body.1.keeps stand.1)),
      stand.0,
      refl,
      refl,
      refl,
    );
    still = λ setting s. refl;
  }
  keeps-layer (StatementKind-F.Break loops) line = placed-on [] line _ (λ _ n s p. (p, refl, refl))
  keeps-layer (StatementKind-F.Continue loop) line = placed-on [] line _ (λ _ n s p. (p, refl, refl))
  keeps-layer (StatementKind-F.Return value) line = placed-on [] line _ (λ _. keeps-return value)
  keeps-layer (StatementKind-F.Global names) line =
      placed-on [] line _ (λ _ n s p. (Keeps-globals names n s p, refl, refl))
  keeps-layer (StatementKind-F.Unset places) line = placed-on [] line _ (λ _ n s p.
      Keeps-and_then F d n _ _ _ _ (Keeps-unset F bundle kept d x y (map place_run places) (all-places places) n s p)
      (λ _ n u p. (p, refl, refl)))
  keeps-layer (StatementKind-F.Constants all) line = placed-on [] line _ (λ _. Keeps-constants all)
  keeps-layer (StatementKind-F.Exit value) line = placed-on [] line _ (λ _. keeps-end value)

  step-kind : (x : Whole) (z : WithGood) → parts z ≡ x
      → OfKind (kind_lines (roll-StatementKind x)) (kind_run (roll-StatementKind x))
  unfolding kind_run arm_run statement_run
  step-kind x z is = subst (λ w. OfKind (kind_lines (roll-StatementKind w)) (kind_run (roll-StatementKind w))) is
      (subst (λ lines. OfKind lines (kind_run (roll-StatementKind (parts z)))) (sym
      (fold-roll-StatementKind LinesFrom Lines Lines lines.kind_layer lines.arm_layer lines.statement_layer (parts z)))
      (subst (λ run. OfKind (lines.kind_layer (linings (parts z))) run) (sym
      (fold-roll-StatementKind KindRun ArmRun (Part Signal) kind_layer arm_layer statement_layer (parts z)))
      (keeps-layer z)))

  abbrev parts-arm : Arm-F WithKind WithArm WithStatement → Arm-F StatementKind Arm Statement
  parts-arm z = map-Arm WithKind WithArm WithStatement StatementKind Arm Statement (λ e. e.0) (λ e. e.0) (λ e. e.0) z

  keeps-arm : (z : Arm-F WithKind WithArm WithStatement)
      → GoodArm (z.line
      ∷ lines_of z.body.0) (arm_layer (record { line = z.line; test = z.test; body = statement_run z.body.0 }))
  keeps-arm z = record {
    keeps = λ otherwise keep stand n s p. (
      d,
      p,
      λ t p.
          Keeps-and_then F d (n + 1) _ _ _ _ (keeps z.test (n + 1) t p) (λ v n u p.
          Alike-if F (holds v) d n _ _ _ _ (z.body.1.keeps stand.1 n u p) (keep n u p)),
      stand.0,
      refl,
      refl,
      refl,
    );
    still = λ otherwise setting s. refl;
  }

  step-arm : (x : Arm-F StatementKind Arm Statement) (z : Arm-F WithKind WithArm WithStatement) → parts-arm z ≡ x
      → GoodArm (arm_lines (roll-Arm x)) (arm_run (roll-Arm x))
  unfolding kind_run arm_run statement_run
  step-arm x z is = subst (λ w. GoodArm (arm_lines (roll-Arm w)) (arm_run (roll-Arm w))) is
      (subst (λ lines. GoodArm lines (arm_run (roll-Arm (parts-arm z)))) (sym
      (fold-roll-Arm LinesFrom Lines Lines lines.kind_layer lines.arm_layer lines.statement_layer (parts-arm z)))
      (subst (λ run. GoodArm (z.line ∷ lines_of z.body.0) run) (sym
      (fold-roll-Arm KindRun ArmRun (Part Signal) kind_layer arm_layer statement_layer (parts-arm z))) (keeps-arm z)))

  abbrev parts-statement : Statement-F WithKind WithArm WithStatement → Statement-F StatementKind Arm Statement
  parts-statement z =
      map-Statement WithKind WithArm WithStatement StatementKind Arm Statement (λ e. e.0) (λ e. e.0) (λ e. e.0) z

  step-statement : (x : Statement-F StatementKind Arm Statement) (z : Statement-F WithKind WithArm WithStatement)
      → parts-statement z ≡ x
      → Good (roll-Statement x)
  unfolding kind_run arm_run statement_run
  step-statement x z is = subst (λ w. Good (roll-Statement w)) is
      (subst (λ lines. GoodOn lines (statement_run (roll-Statement (parts-statement z)))) (sym
      (fold-roll-Statement LinesFrom Lines Lines lines.kind_layer lines.arm_layer lines.statement_layer
      (parts-statement z)))
      (subst (λ run. GoodOn (kind_lines z.kind.0 z.line) run) (sym
      (fold-roll-Statement KindRun ArmRun (Part Signal) kind_layer arm_layer statement_layer (parts-statement z)))
      (z.kind.1 z.line)))

  -- ---- whole trees

  good-statement : (statement : Statement) → Good statement
  good-statement statement =
      ind-Statement (λ e. OfKind (kind_lines e) (kind_run e))
      (λ e. GoodArm (arm_lines e) (arm_run e)) Good step-kind step-arm step-statement
      statement

  pub Keeps-statement : (statement : Statement) → Each (F.line d) (lines_of statement)
      → KeepsPart F d x y (statement_run statement)
  Keeps-statement statement stand = (good-statement statement).keeps stand

  pub Still-statement : (statement : Statement) (setting : Setting) (s : State)
      → IsStill s (statement_run statement setting s)
  Still-statement statement setting s = (good-statement statement).still setting s

  pub Keeps-body : (statements : List Statement) → Each (F.line d) (body_lines statements)
      → KeepsPart F d x y (body_run statements)
  Keeps-body statements stand = Keeps-sequence (map statement_run statements) (all statements stand)
    where
      all : (statements : List Statement) → Each (F.line d) (body_lines statements)
          → Each (KeepsPart F d x y) (map statement_run statements)
      all [] stand = tt
      all (e ∷ es) stand =
          (Keeps-statement e (each-left _ (lines_of e) _ stand), all es (each-right _ (lines_of e) _ stand))
