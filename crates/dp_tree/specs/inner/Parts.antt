-- The lines of a part of a statement, and whether a part of an expression is pure.
use Rattle.std.specs.Prelude.{Bool}
use Rattle.dp_tree.specs.declared.tree.Arm.{Arm, fold-Arm}
use Rattle.dp_tree.specs.declared.tree.Item.{Item, fold-Item}
use Rattle.dp_tree.specs.declared.tree.Link.{Link, fold-Link}
use Rattle.dp_tree.specs.declared.tree.Place.{Place, fold-Place}
use Rattle.dp_tree.specs.declared.tree.StatementKind.{StatementKind, fold-StatementKind}
use Rattle.dp_tree.specs.CodeLines.{Lines, LinesFrom, kind_layer, arm_layer, statement_layer}
use Rattle.dp_tree.specs.Purity.{expression_layer, item_layer, link_layer, place_layer}

abbrev pub kind_lines : StatementKind → LinesFrom
kind_lines = fold-StatementKind LinesFrom Lines Lines kind_layer arm_layer statement_layer

abbrev pub arm_lines : Arm → Lines
arm_lines = fold-Arm LinesFrom Lines Lines kind_layer arm_layer statement_layer

abbrev pub place_is_pure : Place → Bool
place_is_pure = fold-Place Bool Bool Bool Bool expression_layer item_layer link_layer place_layer

abbrev pub item_is_pure : Item → Bool
item_is_pure = fold-Item Bool Bool Bool Bool expression_layer item_layer link_layer place_layer

abbrev pub link_is_pure : Link → Bool
link_is_pure = fold-Link Bool Bool Bool Bool expression_layer item_layer link_layer place_layer
