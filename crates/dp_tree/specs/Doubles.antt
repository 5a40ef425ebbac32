-- Functions that have a name which is taken.
use Rattle.std.specs.Prelude.{◌≡◌, ℕ, Bool, true, false, ◌||◌, List, ◌∷◌, ◌++◌, is_some}
use Rattle.std.specs.List.{list_any}
use Rattle.std.specs.Str.{str_eq_ignore_ascii_case}
use Rattle.dp_tree.specs.declared.tree.Function.{Function}
use Rattle.dp_tree.specs.Builtins.{builtin_of}

-- The name is that of a built-in or of one of these functions, in any case of letters.
abbrev pub is_taken : List Function → List ℕ → Bool
is_taken before name =
    is_some (builtin_of name) || list_any (λ f. str_eq_ignore_ascii_case name f.name) before

-- no function has a name that is taken
pub record HasNoDouble (functions : List Function) : Type 0 where
  pub free : (before : List Function) (f : Function) (after : List Function)
      → functions ≡ before ++ f ∷ after → is_taken before f.name ≡ false

-- the first function whose name is taken by a built-in or by a function before it has this name
pub record IsDouble (functions : List Function) (name : List ℕ) : Type 0 where
  pub before : List Function
  pub double : Function
  pub after : List Function
  pub split : functions ≡ before ++ double ∷ after
  pub taken : is_taken before double.name ≡ true
  pub first : HasNoDouble before
  pub named : name ≡ double.name
