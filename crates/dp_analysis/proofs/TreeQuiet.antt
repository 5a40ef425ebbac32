-- Whether a part is quiet, where it has lists of parts.
use Rattle.std.proofs.Common.{◌≡◌, ℕ, Bool, true, ◌&&◌, List, Option, Some, None, sym, ap, ◌∙◌}
use Rattle.std.specs.List.{list_all}
use Rattle.std.specs.Option.{option_map_or}
use Rattle.dp_tree.specs.declared.tree.Arm.{Arm}
use Rattle.dp_tree.specs.declared.tree.Statement.{Statement}
use Rattle.dp_tree.specs.declared.tree.StatementKind.TheFolds.{fold-roll-StatementKind}
use Rattle.dp_tree.specs.declared.tree.StatementKind.TheOpen.{StatementKind-F}
use Rattle.dp_tree.specs.declared.tree.StatementKind.TheVariants as kind
use Rattle.dp_analysis.proofs.TreeStill.{parts}
use Rattle.dp_analysis.specs.Quiet.{arm_layer, is_quiet, kind_layer, statement_layer}
use Rattle.dp_analysis.specs.inner.Parts.{kind_is_quiet, arm_is_quiet}

module _ (lines : List ℕ) (loud : List ℕ → Bool) where
  at-line : {x y : ℕ → Bool} (line : ℕ) → x ≡ y → x line ≡ y line
  at-line line e = ap (λ f. f line) e

  pub block_quiet : (all : List Statement) (line : ℕ) → kind_is_quiet lines loud (kind.Block all) line
      ≡ list_all (is_quiet lines loud) all
  block_quiet all line =
      ap (λ k. kind_is_quiet lines loud k line) (sym (kind.rolls-Block all))
      ∙ at-line line (fold-roll-StatementKind (ℕ → Bool) Bool Bool (kind_layer lines loud) (arm_layer lines loud)
      (statement_layer lines loud) (StatementKind-F.Block all))
      ∙ parts (is_quiet lines loud) all

  pub if_quiet : (arms : List Arm) (otherwise : Option Statement) (line : ℕ)
      → kind_is_quiet lines loud (kind.If arms otherwise) line
      ≡ (list_all (arm_is_quiet lines loud) arms && option_map_or (is_quiet lines loud) otherwise true)
  if_quiet arms None line =
      ap (λ k. kind_is_quiet lines loud k line) (sym (kind.rolls-If arms None))
      ∙ at-line line (fold-roll-StatementKind (ℕ → Bool) Bool Bool (kind_layer lines loud) (arm_layer lines loud)
      (statement_layer lines loud) (StatementKind-F.If arms None))
      ∙ ap (λ b. b && true) (parts (arm_is_quiet lines loud) arms)
  if_quiet arms (Some s) line =
      ap (λ k. kind_is_quiet lines loud k line) (sym (kind.rolls-If arms (Some s)))
      ∙ at-line line (fold-roll-StatementKind (ℕ → Bool) Bool Bool (kind_layer lines loud) (arm_layer lines loud)
      (statement_layer lines loud) (StatementKind-F.If arms (Some s)))
      ∙ ap (λ b. b && is_quiet lines loud s) (parts (arm_is_quiet lines loud) arms)
