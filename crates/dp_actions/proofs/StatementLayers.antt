-- The run of a statement by the runs of its parts, variant by variant.
use Rattle.std.proofs.Common.{◌≡◌, ℕ, List, map, Option, Some, None, sym, ap, ◌∙◌}
use Rattle.std.specs.Prelude.{option_map}
use Rattle.dp_tree.specs.declared.tree.Arm.{Arm}
use Rattle.dp_tree.specs.declared.tree.Binding.{Binding}
use Rattle.dp_tree.specs.declared.tree.Definition.{Definition}
use Rattle.dp_tree.specs.declared.tree.Expression.{Expression}
use Rattle.dp_tree.specs.declared.tree.Place.{Place}
use Rattle.dp_tree.specs.declared.tree.Statement.{Statement}
use Rattle.dp_tree.specs.declared.tree.StatementKind.TheFolds.{fold-roll-StatementKind, fold_out-Arm, fold_out-Statement}
use Rattle.dp_tree.specs.declared.tree.StatementKind.TheOpen.{StatementKind-F}
use Rattle.dp_tree.specs.declared.tree.StatementKind.TheVariants as kind
use Rattle.dp_actions.specs.Setting.{Part}
use Rattle.dp_actions.specs.Statements.{KindRun, ArmRun, arms_run, kind_layer, arm_layer, statement_layer, statement_run}
use Rattle.dp_actions.specs.inner.StatementParts.{kind_run}
use Rattle.dp_actions.specs.Statements.{arm_run}
use Rattle.dp_actions.specs.declared.signal.Signal.{Signal}

-- ---- statements

pub kind-Expression : (e : Expression) → kind_run (kind.Expression e) ≡ kind_layer (StatementKind-F.Expression e)
unfolding kind_run arm_run statement_run
kind-Expression e = ap kind_run (sym (kind.rolls-Expression e))
    ∙ fold-roll-StatementKind KindRun ArmRun (Part Signal) kind_layer arm_layer statement_layer
    (StatementKind-F.Expression e)

pub kind-Echo : (operands : List Expression)
    → kind_run (kind.Echo operands) ≡ kind_layer (StatementKind-F.Echo operands)
unfolding kind_run arm_run statement_run
kind-Echo operands = ap kind_run (sym (kind.rolls-Echo operands))
    ∙ fold-roll-StatementKind KindRun ArmRun (Part Signal) kind_layer arm_layer statement_layer
    (StatementKind-F.Echo operands)

pub kind-Block : (statements : List Statement)
    → kind_run (kind.Block statements) ≡ kind_layer (StatementKind-F.Block (map statement_run statements))
unfolding kind_run arm_run statement_run
kind-Block statements = ap kind_run (sym (kind.rolls-Block statements))
    ∙ fold-roll-StatementKind KindRun ArmRun (Part Signal) kind_layer arm_layer statement_layer
    (StatementKind-F.Block statements)

pub kind-Empty : kind_run kind.Empty ≡ kind_layer StatementKind-F.Empty
unfolding kind_run arm_run statement_run
kind-Empty = ap kind_run (sym kind.rolls-Empty) ∙ fold-roll-StatementKind KindRun ArmRun
    (Part Signal) kind_layer arm_layer statement_layer StatementKind-F.Empty

pub kind-While : (test : Expression) (body : Statement) → kind_run (kind.While test body)
    ≡ kind_layer (StatementKind-F.While test (statement_run body))
unfolding kind_run arm_run statement_run
kind-While test body = ap kind_run (sym (kind.rolls-While test body))
    ∙ fold-roll-StatementKind KindRun ArmRun (Part Signal) kind_layer arm_layer statement_layer
    (StatementKind-F.While test body)

pub kind-DoWhile : (body : Statement) (end : ℕ) (test : Expression)
    → kind_run (kind.DoWhile body end test) ≡ kind_layer (StatementKind-F.DoWhile (statement_run body) end test)
unfolding kind_run arm_run statement_run
kind-DoWhile body end test = ap kind_run (sym (kind.rolls-DoWhile body end test))
    ∙ fold-roll-StatementKind KindRun ArmRun (Part Signal) kind_layer arm_layer statement_layer
    (StatementKind-F.DoWhile body end test)

pub kind-For : (before tests after : List Expression) (body : Statement)
    → kind_run (kind.For before tests after body) ≡ kind_layer
    (StatementKind-F.For before tests after (statement_run body))
unfolding kind_run arm_run statement_run
kind-For before tests after body = ap kind_run (sym (kind.rolls-For before tests after body))
    ∙ fold-roll-StatementKind KindRun ArmRun (Part Signal) kind_layer arm_layer statement_layer
    (StatementKind-F.For before tests after body)

pub kind-Foreach : (subject : Expression) (binding : Binding) (body : Statement)
    → kind_run (kind.Foreach subject binding body) ≡ kind_layer
    (StatementKind-F.Foreach subject binding (statement_run body))
unfolding kind_run arm_run statement_run
kind-Foreach subject binding body = ap kind_run (sym (kind.rolls-Foreach subject binding body))
    ∙ fold-roll-StatementKind KindRun ArmRun (Part Signal) kind_layer arm_layer statement_layer
    (StatementKind-F.Foreach subject binding body)

pub kind-Break : (loops : ℕ) → kind_run (kind.Break loops) ≡ kind_layer (StatementKind-F.Break loops)
unfolding kind_run arm_run statement_run
kind-Break loops = ap kind_run (sym (kind.rolls-Break loops))
    ∙ fold-roll-StatementKind KindRun ArmRun (Part Signal) kind_layer arm_layer statement_layer
    (StatementKind-F.Break loops)

pub kind-Continue : (loop : ℕ) → kind_run (kind.Continue loop) ≡ kind_layer (StatementKind-F.Continue loop)
unfolding kind_run arm_run statement_run
kind-Continue loop = ap kind_run (sym (kind.rolls-Continue loop))
    ∙ fold-roll-StatementKind KindRun ArmRun (Part Signal) kind_layer arm_layer statement_layer
    (StatementKind-F.Continue loop)

pub kind-Return : (value : Option Expression) → kind_run (kind.Return value) ≡ kind_layer (StatementKind-F.Return value)
unfolding kind_run arm_run statement_run
kind-Return value = ap kind_run (sym (kind.rolls-Return value))
    ∙ fold-roll-StatementKind KindRun ArmRun (Part Signal) kind_layer arm_layer statement_layer
    (StatementKind-F.Return value)

pub kind-Global : (names : List (List ℕ)) → kind_run (kind.Global names) ≡ kind_layer (StatementKind-F.Global names)
unfolding kind_run arm_run statement_run
kind-Global names = ap kind_run (sym (kind.rolls-Global names))
    ∙ fold-roll-StatementKind KindRun ArmRun (Part Signal) kind_layer arm_layer statement_layer
    (StatementKind-F.Global names)

pub kind-Unset : (places : List Place) → kind_run (kind.Unset places) ≡ kind_layer (StatementKind-F.Unset places)
unfolding kind_run arm_run statement_run
kind-Unset places = ap kind_run (sym (kind.rolls-Unset places))
    ∙ fold-roll-StatementKind KindRun ArmRun (Part Signal) kind_layer arm_layer statement_layer
    (StatementKind-F.Unset places)

pub kind-Constants : (all : List Definition)
    → kind_run (kind.Constants all) ≡ kind_layer (StatementKind-F.Constants all)
unfolding kind_run arm_run statement_run
kind-Constants all = ap kind_run (sym (kind.rolls-Constants all))
    ∙ fold-roll-StatementKind KindRun ArmRun (Part Signal) kind_layer arm_layer statement_layer
    (StatementKind-F.Constants all)

pub kind-Exit : (value : Option Expression) → kind_run (kind.Exit value) ≡ kind_layer (StatementKind-F.Exit value)
unfolding kind_run arm_run statement_run
kind-Exit value = ap kind_run (sym (kind.rolls-Exit value)) ∙ fold-roll-StatementKind KindRun ArmRun
    (Part Signal) kind_layer arm_layer statement_layer (StatementKind-F.Exit value)

pub kind-If-None : (arms : List Arm)
    → kind_run (kind.If arms None) ≡ kind_layer (StatementKind-F.If (map arm_run arms) None)
unfolding kind_run arm_run statement_run
kind-If-None arms = ap kind_run (sym (kind.rolls-If arms None))
    ∙ fold-roll-StatementKind KindRun ArmRun (Part Signal) kind_layer arm_layer statement_layer
    (StatementKind-F.If arms None)

pub kind-If-Some : (arms : List Arm) (otherwise : Statement) → kind_run (kind.If arms (Some otherwise))
    ≡ kind_layer (StatementKind-F.If (map arm_run arms) (Some (statement_run otherwise)))
unfolding kind_run arm_run statement_run
kind-If-Some arms otherwise = ap kind_run (sym (kind.rolls-If arms (Some otherwise)))
    ∙ fold-roll-StatementKind KindRun ArmRun (Part Signal) kind_layer arm_layer statement_layer
    (StatementKind-F.If arms (Some otherwise))

pub kind-If : (arms : List Arm) (otherwise : Option Statement) (line : ℕ)
    → kind_run (kind.If arms otherwise) line ≡ arms_run (map arm_run arms) (option_map statement_run otherwise)
kind-If arms None line = ap (λ (k : KindRun). k line) (kind-If-None arms)
kind-If arms (Some otherwise) line = ap (λ (k : KindRun). k line) (kind-If-Some arms otherwise)

pub run-statement : (statement : Statement) → statement_run statement ≡ kind_run statement.kind statement.line
unfolding kind_run arm_run statement_run
run-statement statement = fold_out-Statement KindRun ArmRun (Part Signal) kind_layer arm_layer statement_layer statement

pub run-arm : (arm : Arm)
    → arm_run arm ≡ arm_layer (record { line = arm.line; test = arm.test; body = statement_run arm.body })
unfolding kind_run arm_run statement_run
run-arm arm = fold_out-Arm KindRun ArmRun (Part Signal) kind_layer arm_layer statement_layer arm
