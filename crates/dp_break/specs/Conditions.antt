-- The expressions of breakpoints. That they change nothing, and how long they may be, is this
-- engine's own.
use Rattle.std.specs.Prelude.{ℕ, nat_le, nat_lt, Bool, false, if◌then◌else◌, List, length, Option, Some, None, is_none, option_and_then}
use Rattle.std.specs.Option.{option_map_or}
use Rattle.dp_parse.specs.ExpressionIn.{expression_in}
use Rattle.dp_tree.specs.declared.tree.Expression.{Expression}
use Rattle.dp_tree.specs.Purity.{is_pure}

-- the most bytes of an expression
abbrev pub expression_limit : ℕ
expression_limit = 4096

-- an expression, if it changes nothing
abbrev pub if_pure : Expression → Option Expression
if_pure e = if is_pure e then Some e else None

-- the tree of a text that is an expression, is not too long and changes nothing
unfoldable pub condition_of : List ℕ → Option Expression
condition_of text =
    if nat_le (length text) expression_limit then option_and_then if_pure (expression_in text)
    else None

-- the tree of an expression, if one is given
abbrev pub tree_of : Option (List ℕ) → Option Expression
tree_of expression = option_and_then condition_of expression

-- one is given, but it has no tree
abbrev pub has_no_tree : Option (List ℕ) → Bool
has_no_tree expression = option_map_or (λ text. is_none (condition_of text)) expression false

-- one is given, but it is too long
abbrev pub is_too_long : Option (List ℕ) → Bool
is_too_long expression =
    option_map_or (λ text. nat_lt expression_limit (length text)) expression false
