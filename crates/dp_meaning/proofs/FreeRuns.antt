-- No moment of a statement that is quiet is watched.
use Rattle.std.proofs.Common.{◌≡◌, ℕ, zero, suc, ◌-◌, Bool, true, ◌&&◌, List, [], ◌∷◌, map, Option, Some, None, refl, sym, ap, ◌∙◌, subst}
use Rattle.std.specs.Prelude.{nat_le}
use Rattle.std.specs.List.{list_all}
use Rattle.std.specs.Option.{option_map_or}
use Rattle.dp_value.specs.declared.key.Key.{Key}
use Rattle.dp_value.specs.declared.value.Value.{Value}
use Rattle.dp_value.specs.declared.value.Value.TheVariants as value
use Rattle.dp_value.specs.Data.{Data}
use Rattle.dp_state.specs.Constants.{with_constant}
use Rattle.dp_state.specs.declared.moments.MomentKind.{MomentKind}
use Rattle.dp_state.specs.declared.state.State.{State}
use Rattle.dp_tree.specs.Purity.{all_pure}
use Rattle.dp_tree.specs.declared.tree.Arm.{Arm, map-Arm, roll-Arm}
use Rattle.dp_tree.specs.declared.tree.Binding.{Binding}
use Rattle.dp_tree.specs.declared.tree.Definition.{Definition}
use Rattle.dp_tree.specs.declared.tree.Expression.{Expression}
use Rattle.dp_tree.specs.declared.tree.Place.{Place}
use Rattle.dp_tree.specs.declared.tree.Statement.{Statement, map-Statement, roll-Statement, ind-Statement}
use Rattle.dp_tree.specs.declared.tree.StatementKind.{StatementKind, map-StatementKind, roll-StatementKind}
use Rattle.dp_tree.specs.declared.tree.StatementKind.TheFolds.{fold-roll-Statement, fold-roll-StatementKind, fold-roll-Arm}
use Rattle.dp_tree.specs.declared.tree.StatementKind.TheOpen.{Statement-F, StatementKind-F, Arm-F}
use Rattle.dp_actions.specs.declared.signal.Signal.{Signal}
use Rattle.dp_actions.specs.declared.signal.Signal.TheVariants.{Next, Break, Continue, Return}
use Rattle.dp_actions.specs.Effects.{exit_run, exit_with, status_of}
use Rattle.dp_actions.specs.Expressions.{expression_run, evaluation, evaluations, place_run}
use Rattle.dp_actions.proofs.Layers.{run-place}
use Rattle.dp_actions.specs.Places.{PlaceRun, unset_run}
use Rattle.dp_actions.specs.Loops.{after_body, last_holds, turns, do_turns, bind_key, bind, each_run, entries}
use Rattle.dp_actions.specs.Run.{Run, Done}
use Rattle.dp_actions.specs.Setting.{Setting, Part}
use Rattle.dp_actions.specs.Values.{holds}
use Rattle.dp_actions.specs.Statements.{KindRun, ArmRun, go_on, sequence, constants_run, echoes, arms_run, return_run, statement_run, arm_run, body_run, end_run}
use Rattle.dp_actions.specs.Statements as runs_of
use Rattle.dp_actions.specs.inner.StatementParts.{kind_run}
use Rattle.dp_meaning.proofs.Each.{Each}
use Rattle.dp_meaning.proofs.PureLaws.{both-true, each-pure}
use Rattle.dp_analysis.specs.Quiet.{is_free, is_quiet}
use Rattle.dp_analysis.specs.Still.{is_still, place_is_still}
use Rattle.dp_analysis.proofs.TreeStill.{place_is}
use Rattle.dp_analysis.specs.Quiet as quiet
use Rattle.dp_meaning.specs.Unwatched.{EachMoment, IsUnwatched}
use Rattle.dp_tree.specs.declared.bundle.Bundle.{Bundle}
use Rattle.dp_analysis.specs.inner.Parts.{kind_is_quiet, arm_is_quiet}
use Rattle.dp_meaning.proofs.FreeExpressions.{Fits, free-all, free-expression, free-if, free-taken, free-then}

-- where the calls that are not loud have no moment that is watched, no statement that is quiet has one
module _ (lines : List ℕ) (calls : Bool) (bundle : Bundle) (loud : List ℕ → Bool) (setting : Setting)
    (fits : Fits (IsUnwatched lines calls) bundle loud setting) where
  abbrev Such : MomentKind → ℕ → Type 0
  Such kind line = IsUnwatched lines calls kind line

  abbrev still : Expression → Bool
  still = is_still loud

  abbrev OnFree : {A : Type 0} → Run A → Type 0
  OnFree r = EachMoment Such r

  abbrev pub FreePart : {A : Type 0} → Part A → Type 0
  FreePart part = (s : State) → OnFree (part setting s)

  abbrev FreeStep : {A : Type 0} → (State → Run A) → Type 0
  FreeStep f = (s : State) → OnFree (f s)

  keeps : (e : Expression) → still e ≡ true → FreePart (evaluation e)
  keeps e h s = free-expression Such bundle loud setting fits e h s

  keeps-all : (es : List Expression) → list_all still es ≡ true → FreePart (evaluations es)
  keeps-all es h s = free-all Such bundle loud setting fits es h s

  -- ---- loops

  free-after_body : (next : State → Run Signal) → FreeStep next → (g : Signal) → FreeStep (after_body g next)
  free-after_body next keep Next s = keep s
  free-after_body next keep (Break loops) s =
      free-if Such (nat_le loops 1) (Done Next s) (Done (Break (loops - 1)) s) tt tt
  free-after_body next keep (Continue loop) s =
      free-if Such (nat_le loop 1) (next s) (Done (Continue (loop - 1)) s) (keep s) tt
  free-after_body next keep (Return v) s = tt

  free-turns : (k line : ℕ) (test next : State → Run (List Value)) (body : State → Run Signal)
      → is_free lines line ≡ true → FreeStep test → FreeStep next → FreeStep body
      → FreeStep (turns k line test next body)
  free-turns zero line test next body free tests nexts bodies s = tt
  free-turns (suc k) line test next body free tests nexts bodies s = (
    free,
    λ t.
        free-then Such _ _ (tests t) (λ values u.
        free-if Such (last_holds values) _ (Done Next u)
        (free-then Such _ _ (bodies u) (free-after_body _ (λ w.
        free-then Such _ _ (nexts w) (λ _. free-turns k line test next body free tests nexts bodies))))
        tt),
  )

  free-do_turns : (k line : ℕ) (test : State → Run Value) (body : State → Run Signal) → is_free lines line ≡ true
      → FreeStep test → FreeStep body → FreeStep (do_turns k line test body)
  free-do_turns zero line test body free tests bodies s = tt
  free-do_turns (suc k) line test body free tests bodies s =
      free-then Such _ _ (bodies s) (free-after_body _ (λ u. (
        free,
        λ v.
            free-then Such _ _ (tests v) (λ tested w.
            free-if Such (holds tested) (do_turns k line test body w) (Done Next w)
            (free-do_turns k line test body free tests bodies w) tt),
      )))

  free-bind_key : (name : Option (List ℕ)) (key : Key) → FreeStep (bind_key name key)
  free-bind_key None key s = tt
  free-bind_key (Some name) key s = free-taken Such _ s

  free-bind : (binding : Binding) (entry : Key × Data) → FreeStep (bind binding entry)
  free-bind binding entry s = free-then Such _ _ (free-taken Such _ s)
      (λ _. free-bind_key binding.key entry.0)

  free-each : (line : ℕ) (binding : Binding) (all : List (Key × Data)) (body : State → Run Signal)
      → is_free lines line ≡ true → FreeStep body → FreeStep (each_run line binding all body)
  free-each line binding [] body free bodies s = tt
  free-each line binding (entry ∷ more) body free bodies s = (
    free,
    λ t.
        free-then Such _ _ (free-bind binding entry t) (λ _ u.
        free-then Such _ _ (bodies u) (free-after_body _ (free-each line binding more body free bodies))),
  )

  -- ---- statements

  free-go_on : (next : State → Run Signal) → FreeStep next → (g : Signal) → FreeStep (go_on g next)
  free-go_on next keep Next s = keep s
  free-go_on next keep (Break loops) s = tt
  free-go_on next keep (Continue loop) s = tt
  free-go_on next keep (Return v) s = tt

  free-sequence : (all : List (Part Signal)) → Each FreePart all → FreePart (sequence all)
  free-sequence [] each s = tt
  free-sequence (first ∷ rest) each s =
      free-then Such _ _ (each.0 s) (free-go_on _ (free-sequence rest each.1))

  free-echoes : (es : List Expression) → list_all still es ≡ true → FreePart (echoes (map expression_run es))
  free-echoes [] h s = tt
  free-echoes (e ∷ es) h s =
      let both = both-true (still e) (list_all still es) h in
      free-then Such _ _ (keeps e both.0 s) (λ v t.
      free-then Such _ _ (free-taken Such _ t) (λ _. free-echoes es both.1))

  free-constants : (all : List Definition) → list_all (λ (d : Definition). still d.value) all ≡ true
      → FreePart (constants_run all)
  free-constants [] h s = tt
  free-constants (first ∷ rest) h s =
      let both = both-true (still first.value) (list_all (λ (d : Definition). still d.value) rest) h in
      free-then Such _ _ (keeps first.value both.0 s)
      (λ v t. free-constants rest both.1 (with_constant first.name v t))

  abbrev FreeArm : ArmRun → Type 0
  FreeArm arm = (otherwise : Part Signal) → FreePart otherwise → FreePart (arm otherwise)

  free-otherwise : (o : Option (Part Signal)) → ((part : Part Signal) → o ≡ Some part → FreePart part)
      → FreePart (arms_run [] o)
  free-otherwise None keep s = tt
  free-otherwise (Some part) keep s = keep part refl s

  free-arms : (arms : List ArmRun) (o : Option (Part Signal)) → Each FreeArm arms
      → ((part : Part Signal) → o ≡ Some part → FreePart part) → FreePart (arms_run arms o)
  free-arms [] o each keep s = free-otherwise o keep s
  free-arms (arm ∷ arms) o each keep s =
      each.0 (arms_run arms o) (free-arms arms o each.1 keep) s

  free-return : (value : Option Expression) → option_map_or still value true ≡ true
      → FreePart (return_run value)
  free-return None h s = tt
  free-return (Some e) h s = free-then Such _ _ (keeps e h s) (λ v u. tt)

  free-unset : (places : List Place) → list_all (place_is_still loud) places ≡ true
      → FreePart (unset_run (map place_run places))
  free-unset [] h s = tt
  free-unset (place ∷ places) h s =
      let both = both-true (place_is_still loud place) (list_all (place_is_still loud) places) h in
      subst (λ (run : PlaceRun). OnFree (unset_run (run ∷ map place_run places) setting s)) (sym (run-place place))
      (free-then Such _ _ (keeps-all place.indices (sym (place_is loud place) ∙ both.0) s) (λ indices t.
      free-then Such _ _ (free-taken Such _ t) (λ _. free-unset places both.1)))

  free-exit_with : (status : Option ℕ) (s : State) → OnFree (exit_with status s)
  free-exit_with None s = tt
  free-exit_with (Some status) s = tt

  free-exit_run : (v : Value) (s : State) → OnFree (exit_run v s)
  free-exit_run value.Null s = tt
  free-exit_run (value.Bool b) s = tt
  free-exit_run (value.Int n) s = free-exit_with (status_of n) s
  free-exit_run (value.Text bytes) s = free-then Such _ _ (free-taken Such _ s) (λ _ t. tt)
  free-exit_run (value.Array t) s = tt

  free-exit : (value : Option Expression) → option_map_or still value true ≡ true → FreePart (end_run value)
  free-exit None h s = tt
  free-exit (Some e) h s = free-then Such _ _ (keeps e h s) free-exit_run

  -- ---- each layer, where the parts of a tree are so

  abbrev Good : Statement → Type 0
  Good statement = is_quiet lines loud statement ≡ true → FreePart (statement_run statement)

  abbrev GoodKind : StatementKind → Type 0
  GoodKind kind = (line : ℕ) → kind_is_quiet lines loud kind line ≡ true → FreePart (kind_run kind line)

  abbrev GoodArm : Arm → Type 0
  GoodArm arm = arm_is_quiet lines loud arm ≡ true → FreeArm (arm_run arm)

  abbrev WithKind : Type 0
  WithKind = (e : StatementKind) × GoodKind e

  abbrev WithArm : Type 0
  WithArm = (e : Arm) × GoodArm e

  abbrev WithStatement : Type 0
  WithStatement = (e : Statement) × Good e

  abbrev WithGood : Type 0
  WithGood = StatementKind-F WithKind WithArm WithStatement

  abbrev Whole : Type 0
  Whole = StatementKind-F StatementKind Arm Statement

  abbrev parts : WithGood → Whole
  parts y =
      map-StatementKind WithKind WithArm WithStatement StatementKind Arm Statement (λ e. e.0) (λ e. e.0) (λ e. e.0) y

  abbrev runs : Whole → StatementKind-F KindRun ArmRun (Part Signal)
  runs x = map-StatementKind StatementKind Arm Statement KindRun ArmRun (Part Signal) kind_run arm_run statement_run x

  abbrev tests : Whole → StatementKind-F (ℕ → Bool) Bool Bool
  tests x =
      map-StatementKind StatementKind Arm Statement (ℕ
      → Bool) Bool Bool (kind_is_quiet lines loud) (arm_is_quiet lines loud)
      (is_quiet lines loud) x

  abbrev is_layer : WithGood → ℕ → Bool
  is_layer y line = quiet.kind_layer lines loud (tests (parts y)) line

  free-if-kind : (arms : List WithArm) (o : Option (Part Signal))
      → all_pure (map (arm_is_quiet lines loud) (map (λ e. e.0) arms)) ≡ true
      → ((part : Part Signal) → o ≡ Some part → FreePart part)
      → FreePart (arms_run (map arm_run (map (λ e. e.0) arms)) o)
  free-if-kind arms o all keep = free-arms (map arm_run (map (λ e. e.0) arms)) o
      (each-pure (arm_is_quiet lines loud) arm_run FreeArm arms all) keep

  free-layer : (y : WithGood) (line : ℕ) → is_layer y line ≡ true → FreePart (runs_of.kind_layer (runs (parts y)) line)
  free-layer StatementKind-F.Empty line h = λ s. tt
  free-layer (StatementKind-F.Expression e) line h =
      let both = both-true (is_free lines line) (still e) h in
      λ s. (both.0, λ t. free-then Such _ _ (keeps e both.1 t) (λ v u. tt))
  free-layer (StatementKind-F.Echo operands) line h =
      let both = both-true (is_free lines line) (list_all still operands) h in
      λ s. (both.0, λ t. free-echoes operands both.1 t)
  free-layer (StatementKind-F.Block statements) line h =
      free-sequence (map statement_run (map (λ e. e.0) statements))
      (each-pure (is_quiet lines loud) statement_run FreePart statements h)
  free-layer (StatementKind-F.If arms None) line h =
      let both = both-true (all_pure (map (arm_is_quiet lines loud) (map (λ e. e.0) arms))) true h in
      free-if-kind arms None both.0 (λ part is. absurd (cc))
  free-layer (StatementKind-F.If arms (Some otherwise)) line h =
      let both = both-true (all_pure (map (arm_is_quiet lines loud) (map (λ e. e.0) arms)))
      (is_quiet lines loud otherwise.0) h in
      free-if-kind arms (Some (statement_run otherwise.0)) both.0
      (λ part is. let same : statement_run otherwise.0 ≡ part = cc in subst FreePart same (otherwise.1 both.1))
  free-layer (StatementKind-F.While test body) line h =
      let both = both-true (is_free lines line) (still test && is_quiet lines loud body.0) h in
      let more = both-true (still test) (is_quiet lines loud body.0) both.1 in
      let one : list_all still (test ∷ []) ≡ true = ap (λ b. b && true) more.0 in
      free-turns setting.bound line _ _ _ both.0 (keeps-all (test ∷ []) one)
      (keeps-all [] refl) (body.1 more.1)
  free-layer (StatementKind-F.DoWhile body end test) line h =
      let both = both-true (is_free lines end) (still test && is_quiet lines loud body.0) h in
      let more = both-true (still test) (is_quiet lines loud body.0) both.1 in
      free-do_turns setting.bound end _ _ both.0 (keeps test more.0) (body.1 more.1)
  free-layer (StatementKind-F.For before until after body) line h =
      let one = both-true (is_free lines line) (list_all still before && (list_all still until
      && (list_all still after && is_quiet lines loud body.0))) h in
      let two = both-true (list_all still before) (list_all still until
      && (list_all still after && is_quiet lines loud body.0)) one.1 in
      let three = both-true (list_all still until) (list_all still after && is_quiet lines loud body.0) two.1
      in
      let four = both-true (list_all still after) (is_quiet lines loud body.0) three.1 in
      λ s. (
        one.0,
        λ t.
            free-then Such _ _ (keeps-all before two.0 t) (λ _.
            free-turns setting.bound line _ _ _ one.0 (keeps-all until three.0) (keeps-all after four.0)
            (body.1 four.1)),
      )
  free-layer (StatementKind-F.Foreach subject binding body) line h =
      let both = both-true (is_free lines line) (still subject && is_quiet lines loud body.0) h in
      let more = both-true (still subject) (is_quiet lines loud body.0) both.1 in
      λ s. (
        both.0,
        λ t.
            free-then Such _ _ (keeps subject more.0 t)
            (λ v. free-each line binding (entries v) _ both.0 (body.1 more.1)),
      )
  free-layer (StatementKind-F.Break loops) line h = λ s. (h, λ t. tt)
  free-layer (StatementKind-F.Continue loop) line h = λ s. (h, λ t. tt)
  free-layer (StatementKind-F.Return value) line h =
      let both = both-true (is_free lines line) (option_map_or still value true) h in
      λ s. (both.0, λ t. free-return value both.1 t)
  free-layer (StatementKind-F.Global names) line h = λ s. (h, λ t. tt)
  free-layer (StatementKind-F.Unset places) line h =
      let both = both-true (is_free lines line) (list_all (place_is_still loud) places) h in
      λ s. (both.0, λ t. free-then Such _ _ (free-unset places both.1 t) (λ _ u. tt))
  free-layer (StatementKind-F.Constants all) line h =
      let both = both-true (is_free lines line) (list_all (λ (d : Definition). still d.value) all) h in
      λ s. (both.0, λ t. free-constants all both.1 t)
  free-layer (StatementKind-F.Exit value) line h =
      let both = both-true (is_free lines line) (option_map_or still value true) h in
      λ s. (both.0, λ t. free-exit value both.1 t)

  step-kind : (x : Whole) (y : WithGood) → parts y ≡ x → GoodKind (roll-StatementKind x)
  unfolding kind_run arm_run statement_run
  step-kind x y is = subst (λ z. GoodKind (roll-StatementKind z)) is (λ line h.
      subst FreePart (sym (ap (λ f. f line) (fold-roll-StatementKind KindRun ArmRun (Part Signal) runs_of.kind_layer
      runs_of.arm_layer runs_of.statement_layer (parts y))))
      (free-layer y line (sym (ap (λ f. f line) (fold-roll-StatementKind (ℕ
      → Bool) Bool Bool (quiet.kind_layer lines loud)
      (quiet.arm_layer lines loud) (quiet.statement_layer lines loud) (parts y))) ∙ h)))

  step-arm : (x : Arm-F StatementKind Arm Statement) (y : Arm-F WithKind WithArm WithStatement)
      → map-Arm WithKind WithArm WithStatement StatementKind Arm Statement (λ e. e.0) (λ e. e.0) (λ e. e.0) y ≡ x
      → GoodArm (roll-Arm x)
  unfolding kind_run arm_run statement_run
  step-arm x y is = subst (λ z. GoodArm (roll-Arm z)) is (λ h.
      let all : (is_free lines y.line && (still y.test && is_quiet lines loud y.body.0)) ≡ true =
      sym (fold-roll-Arm (ℕ → Bool) Bool Bool (quiet.kind_layer lines loud) (quiet.arm_layer lines loud)
      (quiet.statement_layer lines loud) _) ∙ h in
      let both = both-true (is_free lines y.line) (still y.test && is_quiet lines loud y.body.0) all in
      let more = both-true (still y.test) (is_quiet lines loud y.body.0) both.1 in
      subst FreeArm (sym (fold-roll-Arm KindRun ArmRun (Part Signal) runs_of.kind_layer runs_of.arm_layer
      runs_of.statement_layer _))
      (λ otherwise keep s. (
        both.0,
        λ t. free-then Such _ _ (keeps y.test more.0 t) (λ v u.
            free-if Such (holds v) _ _ (y.body.1 more.1 u) (keep u)),
      )))

  step-statement : (x : Statement-F StatementKind Arm Statement) (y : Statement-F WithKind WithArm WithStatement)
      → map-Statement WithKind WithArm WithStatement StatementKind Arm Statement (λ e. e.0) (λ e. e.0) (λ e. e.0) y ≡ x
      → Good (roll-Statement x)
  unfolding kind_run arm_run statement_run
  step-statement x y is = subst (λ z. Good (roll-Statement z)) is (λ h.
      subst FreePart (sym (fold-roll-Statement KindRun ArmRun (Part Signal) runs_of.kind_layer runs_of.arm_layer
      runs_of.statement_layer _))
      (y.kind.1 y.line (sym (fold-roll-Statement (ℕ
      → Bool) Bool Bool (quiet.kind_layer lines loud) (quiet.arm_layer lines loud)
      (quiet.statement_layer lines loud) _) ∙ h)))

  -- ---- whole trees

  pub free-statement : (statement : Statement) → is_quiet lines loud statement ≡ true
      → FreePart (statement_run statement)
  free-statement statement = ind-Statement GoodKind GoodArm Good step-kind step-arm step-statement statement

  pub free-body : (all : List Statement) → list_all (is_quiet lines loud) all ≡ true
      → FreePart (body_run all)
  free-body [] h s = tt
  free-body (first ∷ rest) h s =
      let both = both-true (is_quiet lines loud first) (list_all (is_quiet lines loud) rest) h in
      free-then Such _ _ (free-statement first both.0 s) (free-go_on _ (free-body rest both.1))
