-- Which statements have no moment that is watched. Moments before statements, tests and bindings
-- are watched by their lines, and those at which functions are entered and left all or none.
use Rattle.std.specs.Prelude.{◌≡◌, ℕ, zero, suc, nat_eq, Bool, true, not, ◌&&◌, List, Option, Some, None}
use Rattle.std.specs.Option.{option_map_or}
use Rattle.std.specs.List.{list_all, list_any}
use Rattle.std.specs.Str.{str_eq_ignore_ascii_case}
use Rattle.dp_tree.specs.Purity.{all_pure as all_hold}
use Rattle.dp_tree.specs.declared.bundle.Bundle.{Bundle}
use Rattle.dp_tree.specs.declared.tree.Function.{Function}
use Rattle.dp_tree.specs.declared.tree.Statement.{Statement, fold-Statement}
use Rattle.dp_tree.specs.declared.tree.StatementKind.TheOpen.{Statement-F, StatementKind-F, Arm-F}
use Rattle.dp_analysis.specs.Still.{is_named, is_still, place_is_still}

-- a line that is none of those that are watched
abbrev pub is_free : List ℕ → ℕ → Bool
is_free lines line = list_all (λ other. not (nat_eq other line)) lines

-- ---- statements

-- each layer of a tree, where it is known of its parts; a statement's kind is told its line.
-- `loud` tells of a name whether its calls are loud
module _ (lines : List ℕ) (loud : List ℕ → Bool) where
  abbrev pub statement_layer : Statement-F (ℕ → Bool) Bool Bool → Bool
  statement_layer statement = statement.kind statement.line

  abbrev pub arm_layer : Arm-F (ℕ → Bool) Bool Bool → Bool
  arm_layer arm = is_free lines arm.line && (is_still loud arm.test && arm.body)

  abbrev pub kind_layer : StatementKind-F (ℕ → Bool) Bool Bool → ℕ → Bool
  kind_layer StatementKind-F.Empty line = true
  kind_layer (StatementKind-F.Expression e) line = is_free lines line && is_still loud e
  kind_layer (StatementKind-F.Echo all) line = is_free lines line && list_all (is_still loud) all
  kind_layer (StatementKind-F.Block all) line = all_hold all
  kind_layer (StatementKind-F.If arms otherwise) line =
      all_hold arms && option_map_or (λ part. part) otherwise true
  kind_layer (StatementKind-F.While test body) line =
      is_free lines line && (is_still loud test && body)
  kind_layer (StatementKind-F.DoWhile body end test) line =
      is_free lines end && (is_still loud test && body)
  kind_layer (StatementKind-F.For before tests after body) line =
      is_free lines line && (list_all (is_still loud) before
      && (list_all (is_still loud) tests && (list_all (is_still loud) after && body)))
  kind_layer (StatementKind-F.Foreach subject bound body) line =
      is_free lines line && (is_still loud subject && body)
  kind_layer (StatementKind-F.Break loops) line = is_free lines line
  kind_layer (StatementKind-F.Continue loop) line = is_free lines line
  kind_layer (StatementKind-F.Return value) line =
      is_free lines line && option_map_or (is_still loud) value true
  kind_layer (StatementKind-F.Global names) line = is_free lines line
  kind_layer (StatementKind-F.Unset places) line =
      is_free lines line && list_all (place_is_still loud) places
  kind_layer (StatementKind-F.Constants all) line =
      is_free lines line && list_all (λ d. is_still loud d.value) all
  kind_layer (StatementKind-F.Exit value) line =
      is_free lines line && option_map_or (is_still loud) value true

  abbrev pub is_quiet : Statement → Bool
  is_quiet = fold-Statement (ℕ → Bool) Bool Bool kind_layer arm_layer statement_layer

-- ---- calls

-- some function of the program that passes a test has this name, in any case of letters
abbrev pub any_function : (Function → Bool) → Bundle → List ℕ → Bool
any_function test bundle name =
    list_any
    (λ file. list_any (λ f. test f && str_eq_ignore_ascii_case f.name name) file.tree.functions)
    bundle.files

-- A call of this name may come to a moment on a watched line, to an include, or to more than so
-- many calls, each within the one before. Which function of the name is called is known only at the
-- run, so any of them counts, in whatever file.
unfoldable pub is_loud : List ℕ → Bundle → ℕ → List ℕ → Bool
is_loud lines bundle zero = any_function (λ f. true) bundle
is_loud lines bundle (suc n) =
    any_function (λ f. not (list_all (is_quiet lines (is_loud lines bundle n)) f.body)) bundle

-- so many calls, each within the one before, are at most run whole
abbrev pub most_calls : ℕ
most_calls = 8

-- these names are those of the loud calls of a program, if there are any
abbrev pub AreLoud : List ℕ → Bundle → Option (List (List ℕ)) → Type 0
AreLoud lines bundle None = Unit {0}
AreLoud lines bundle (Some names) =
    (name : List ℕ) → is_named names name ≡ is_loud lines bundle most_calls name
