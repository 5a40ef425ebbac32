-- What the kinds of statements do.
use Rattle.dp_tree.specs.declared.tree.StatementKind.{StatementKind, fold-StatementKind}
use Rattle.dp_actions.specs.declared.signal.Signal.{Signal}
use Rattle.dp_actions.specs.Setting.{Part}
use Rattle.dp_actions.specs.Statements.{ArmRun, KindRun, arm_layer, kind_layer, statement_layer}

unfoldable pub kind_run : StatementKind → KindRun
kind_run = fold-StatementKind KindRun ArmRun (Part Signal) kind_layer arm_layer statement_layer
