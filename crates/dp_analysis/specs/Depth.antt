-- What may come to a deep call: to more than 8 calls of functions of the program, each within the
-- one before, or to an include.
use Rattle.std.specs.Prelude.{ℕ, Bool, not, List, []}
use Rattle.std.specs.List.{list_any}
use Rattle.dp_tree.specs.declared.bundle.Bundle.{Bundle}
use Rattle.dp_tree.specs.declared.tree.Expression.{Expression}
use Rattle.dp_tree.specs.declared.tree.Statement.{Statement}
use Rattle.dp_analysis.specs.Quiet.{is_loud, is_quiet}
use Rattle.dp_analysis.specs.Still.{is_still}

-- `deep` tells of a name whether its calls are deep
module _ (deep : List ℕ → Bool) where
  abbrev pub is_deep : Expression → Bool
  is_deep e = not (is_still deep e)

  abbrev pub any_deep : List Expression → Bool
  any_deep all = list_any is_deep all

  -- a statement, where no line is watched
  abbrev pub statement_is_deep : Statement → Bool
  statement_is_deep statement = not (is_quiet [] deep statement)

-- a call of this name may come to more than so many calls, or to an include
abbrev pub may_nest : ℕ → Bundle → List ℕ → Bool
may_nest n bundle = is_loud [] bundle n
