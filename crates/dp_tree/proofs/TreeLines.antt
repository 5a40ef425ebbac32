-- The lines of a statement by its kind.
use Rattle.std.proofs.Common.{◌≡◌, ℕ, ◌||◌, List, [], ◌∷◌, ◌++◌, map, Option, Some, None, nat_eq, sym, ap, ◌∙◌}
use Rattle.std.proofs.lemmas.List.Folds.{flat_map-map, list_any-append}
use Rattle.std.specs.List.{flat_map}
use Rattle.std.specs.Option.{option_map_or}
use Rattle.dp_tree.specs.declared.tree.Arm.{Arm}
use Rattle.dp_tree.specs.declared.tree.Expression.{Expression}
use Rattle.dp_tree.specs.declared.tree.Statement.{Statement}
use Rattle.dp_tree.specs.declared.tree.StatementKind.TheFolds.{fold-roll-StatementKind}
use Rattle.dp_tree.specs.declared.tree.StatementKind.TheOpen.{StatementKind-F}
use Rattle.dp_tree.specs.declared.tree.StatementKind.TheVariants as tree
use Rattle.dp_tree.specs.CodeLines.{Lines, LinesFrom, statement_layer, kind_layer, arm_layer, lines_of, body_lines, has_line}
use Rattle.dp_tree.specs.inner.Parts.{arm_lines, kind_lines}

-- a line stands in two lists together
pub has_both : (a b : Lines) (line : ℕ) → has_line (a ++ b) line ≡ (has_line a line || has_line b line)
has_both a b line = list_any-append (λ other. nat_eq other line) a b

joined : {A : Type 0} (f : A → Lines) (all : List A) → flat_map (λ lines. lines) (map f all) ≡ flat_map f all
joined f all = flat_map-map (λ lines. lines) f all

pub block_lines : (all : List Statement) (first : ℕ) → kind_lines (tree.Block all) first ≡ body_lines all
block_lines all first =
    ap (λ k. kind_lines k first) (sym (tree.rolls-Block all))
    ∙ ap (λ lines. lines first) (fold-roll-StatementKind LinesFrom Lines Lines kind_layer arm_layer statement_layer
    (StatementKind-F.Block all))
    ∙ joined lines_of all

pub if_lines : (arms : List Arm) (otherwise : Option Statement) (first : ℕ)
    → kind_lines (tree.If arms otherwise) first ≡ flat_map arm_lines arms ++ option_map_or lines_of otherwise []
if_lines arms None first =
    ap (λ k. kind_lines k first) (sym (tree.rolls-If arms None))
    ∙ ap (λ lines. lines first) (fold-roll-StatementKind LinesFrom Lines Lines kind_layer arm_layer statement_layer
    (StatementKind-F.If arms None))
    ∙ ap (λ lines. lines ++ []) (joined arm_lines arms)
if_lines arms (Some s) first =
    ap (λ k. kind_lines k first) (sym (tree.rolls-If arms (Some s)))
    ∙ ap (λ lines. lines first) (fold-roll-StatementKind LinesFrom Lines Lines kind_layer arm_layer statement_layer
    (StatementKind-F.If arms (Some s)))
    ∙ ap (λ lines. lines ++ lines_of s) (joined arm_lines arms)

pub do_lines : (body : Statement) (end : ℕ) (test : Expression) (first : ℕ)
    → kind_lines (tree.DoWhile body end test) first ≡ lines_of body ++ end ∷ []
do_lines body end test first =
    ap (λ k. kind_lines k first) (sym (tree.rolls-DoWhile body end test))
    ∙ ap (λ lines. lines first) (fold-roll-StatementKind LinesFrom Lines Lines kind_layer arm_layer statement_layer
    (StatementKind-F.DoWhile body end test))
