-- The names that were found, each with nothing beside it.
use Rattle.std.specs.Prelude.{ℕ, Bool, not, List}
use Rattle.std.specs.List.{list_any}
use Rattle.dp_markup.specs.Grammar.{same_text}

-- none of them is this one
abbrev pub is_unseen : List (List ℕ × Unit {0}) → List ℕ → Bool
is_unseen names name = not (list_any (λ a. same_text a.0 name) names)
