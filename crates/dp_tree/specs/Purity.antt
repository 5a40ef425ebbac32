-- Which expressions change nothing: no call, assignment, `++`, `--` or include stands in them,
-- however deep.
use Rattle.std.specs.Prelude.{Bool, true, false, ◌&&◌, List}
use Rattle.std.specs.Option.{option_map_or}
use Rattle.std.specs.List.{list_all}
use Rattle.dp_tree.specs.declared.tree.Expression.TheOpen.{Place-F, Item-F, Link-F, Expression-F}
use Rattle.dp_tree.specs.declared.tree.Expression.{Expression, fold-Expression}

-- each layer of a tree, where it is known of the parts whether they are pure

abbrev pub all_pure : List Bool → Bool
all_pure parts = list_all (λ part. part) parts

abbrev pub place_layer : Place-F Bool Bool Bool Bool → Bool
place_layer place = all_pure place.indices

abbrev pub item_layer : Item-F Bool Bool Bool Bool → Bool
item_layer item = option_map_or (λ key. key) item.key true && item.value

abbrev pub link_layer : Link-F Bool Bool Bool Bool → Bool
link_layer link = link.operand

abbrev pub expression_layer : Expression-F Bool Bool Bool Bool → Bool
expression_layer Expression-F.Null = true
expression_layer (Expression-F.Bool _) = true
expression_layer (Expression-F.Number _) = true
expression_layer (Expression-F.Text _) = true
expression_layer (Expression-F.Variable _) = true
expression_layer (Expression-F.Constant _) = true
expression_layer (Expression-F.Array items) = all_pure items
expression_layer (Expression-F.Call name arguments) = false
expression_layer (Expression-F.Isset places) = all_pure places
expression_layer (Expression-F.Index base indices) = base && all_pure indices
expression_layer (Expression-F.Unary by of) = of
expression_layer (Expression-F.Step by order place) = false
expression_layer (Expression-F.Chain first links) = first && all_pure links
expression_layer (Expression-F.Coalesce left right) = left && right
expression_layer (Expression-F.Conditional test middle otherwise) =
    test && (option_map_or (λ between. between) middle true && otherwise)
expression_layer (Expression-F.Include how of) = false
expression_layer (Expression-F.Assign to from) = false
expression_layer (Expression-F.Compound by to from) = false
expression_layer (Expression-F.CoalesceAssign to from) = false
expression_layer (Expression-F.Push to from) = false

abbrev pub is_pure : Expression → Bool
is_pure = fold-Expression Bool Bool Bool Bool expression_layer item_layer link_layer place_layer
