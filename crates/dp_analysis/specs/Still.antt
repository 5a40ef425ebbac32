-- Expressions with no moment that is watched: calls that are loud and includes have some, and no
-- other part of an expression has.
use Rattle.std.specs.Prelude.{ℕ, Bool, true, false, not, ◌&&◌, List, Option, Some, None, is_some}
use Rattle.std.specs.Option.{option_map_or}
use Rattle.std.specs.List.{list_any}
use Rattle.std.specs.Str.{str_eq_ignore_ascii_case}
use Rattle.dp_tree.specs.Builtins.{builtin_of}
use Rattle.dp_tree.specs.Purity.{all_pure as all_hold, place_layer, item_layer, link_layer}
use Rattle.dp_tree.specs.declared.tree.Expression.TheOpen.{Expression-F}
use Rattle.dp_tree.specs.declared.tree.Expression.{Expression, fold-Expression}
use Rattle.dp_tree.specs.declared.tree.Place.{Place, fold-Place}

-- `loud` tells of a name whether its calls are loud
module _ (loud : List ℕ → Bool) where
  -- a layer of a tree, where it is known of its parts; a place, an item and an operand are as those
  -- in them are
  abbrev pub still_layer : Expression-F Bool Bool Bool Bool → Bool
  still_layer Expression-F.Null = true
  still_layer (Expression-F.Bool _) = true
  still_layer (Expression-F.Number _) = true
  still_layer (Expression-F.Text _) = true
  still_layer (Expression-F.Variable _) = true
  still_layer (Expression-F.Constant _) = true
  still_layer (Expression-F.Array items) = all_hold items
  still_layer (Expression-F.Call name arguments) = not (loud name) && all_hold arguments
  still_layer (Expression-F.Isset places) = all_hold places
  still_layer (Expression-F.Index base indices) = base && all_hold indices
  still_layer (Expression-F.Unary by of) = of
  still_layer (Expression-F.Step by order place) = place
  still_layer (Expression-F.Chain first links) = first && all_hold links
  still_layer (Expression-F.Coalesce left right) = left && right
  still_layer (Expression-F.Conditional test middle otherwise) =
      test && (option_map_or (λ between. between) middle true && otherwise)
  still_layer (Expression-F.Include how of) = false
  still_layer (Expression-F.Assign to from) = to && from
  still_layer (Expression-F.Compound by to from) = to && from
  still_layer (Expression-F.CoalesceAssign to from) = to && from
  still_layer (Expression-F.Push to from) = to && from

  -- no include and no loud call stands in it, however deep
  abbrev pub is_still : Expression → Bool
  is_still = fold-Expression Bool Bool Bool Bool still_layer item_layer link_layer place_layer

  abbrev pub place_is_still : Place → Bool
  place_is_still = fold-Place Bool Bool Bool Bool still_layer item_layer link_layer place_layer

-- a function of the program: a built-in one has its name alone, so what has that name is none
abbrev pub is_declared : List ℕ → Bool
is_declared name = not (is_some (builtin_of name))

-- no moment can come in an expression
abbrev pub is_momentless : Expression → Bool
is_momentless = is_still is_declared

-- ---- names of functions

-- one of these names is this one, in any case of letters
unfoldable pub is_named : List (List ℕ) → List ℕ → Bool
is_named names name = list_any (str_eq_ignore_ascii_case name) names

-- calls of these names, or if there are none, of each function of the program
abbrev pub calls_of : Option (List (List ℕ)) → List ℕ → Bool
calls_of None = is_declared
calls_of (Some names) = is_named names
