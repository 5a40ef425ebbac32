-- Parts of expressions and statements, and the names that a walk keeps.
use Rattle.std.specs.Prelude.{ℕ, Bool, true, not, List, Option, Some, None}
use Rattle.std.specs.List.{list_all}
use Rattle.dp_tree.specs.Purity.{item_layer, link_layer, place_layer}
use Rattle.dp_tree.specs.declared.tree.Arm.{Arm, fold-Arm}
use Rattle.dp_tree.specs.declared.tree.Function.{Function}
use Rattle.dp_tree.specs.declared.tree.Item.{Item, fold-Item}
use Rattle.dp_tree.specs.declared.tree.Link.{Link, fold-Link}
use Rattle.dp_tree.specs.declared.tree.StatementKind.{StatementKind, fold-StatementKind}
use Rattle.dp_analysis.specs.Quiet.{arm_layer, is_quiet, kind_layer, statement_layer}
use Rattle.dp_analysis.specs.Still.{is_named, still_layer}

module _ (loud : List ℕ → Bool) where
  abbrev pub item_is_still : Item → Bool
  item_is_still =
      fold-Item Bool Bool Bool Bool (still_layer loud) item_layer link_layer place_layer

  abbrev pub link_is_still : Link → Bool
  link_is_still =
      fold-Link Bool Bool Bool Bool (still_layer loud) item_layer link_layer place_layer

module _ (lines : List ℕ) (loud : List ℕ → Bool) where
  abbrev pub kind_is_quiet : StatementKind → ℕ → Bool
  kind_is_quiet =
      fold-StatementKind (ℕ → Bool) Bool Bool (kind_layer lines loud) (arm_layer lines loud)
      (statement_layer lines loud)

  abbrev pub arm_is_quiet : Arm → Bool
  arm_is_quiet =
      fold-Arm (ℕ → Bool) Bool Bool (kind_layer lines loud) (arm_layer lines loud)
      (statement_layer lines loud)

-- the first walk keeps each function, and each further one those that are not quiet by the names
-- before
abbrev pub stays : List ℕ → Option (List (List ℕ)) → Function → Bool
stays lines None f = true
stays lines (Some names) f = not (list_all (is_quiet lines (is_named names)) f.body)
