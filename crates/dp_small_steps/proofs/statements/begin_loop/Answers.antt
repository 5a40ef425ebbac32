use Rattle.std.proofs.Common.{refl, sym, ◌∙◌}
use Rattle.dp_actions.proofs.Runs.{and_then-assoc}
use Rattle.dp_actions.proofs.StatementLayers.{kind-DoWhile, kind-For, kind-Foreach, kind-While}
use Rattle.dp_small_steps.proofs.FirstStatements.{placed-is, statement-is}
use Rattle.dp_small_steps.proofs.statements.begin_loop.Goals as goal

pub returns-in-While : goal.returns-in-While
returns-in-While c = λ setting same k s.
    rw (c.unplaced.ensures, c.alone.ensures)
    (rw (sym same) (sym (statement-is setting k s c.args.statement.now _ c.in-While.is _ (kind-While _ _))))

pub returns-in-DoWhile : goal.returns-in-DoWhile
returns-in-DoWhile c = λ setting same k s.
    rw (c.unplaced-in-DoWhile.ensures, c.alone-in-DoWhile.ensures)
    (rw (sym same) (sym (statement-is setting k s c.args.statement.now _ c.in-DoWhile.is _ (kind-DoWhile _ _ _))))

pub returns-in-For : goal.returns-in-For
returns-in-For c = λ setting same k s.
    rw c.placed.ensures
    (placed-is setting k s _ _ _ (λ t.
    (rw (sym same) at (c.values_first.ensures setting k t)) ∙ sym (and_then-assoc _ _ _))
    ∙ sym (statement-is setting k s c.args.statement.now _ c.in-For.is _ (kind-For _ _ _ _)))

pub returns-in-Foreach : goal.returns-in-Foreach
returns-in-Foreach c = λ setting same k s.
    rw (c.placed-in-Foreach.ensures, c.evaluated.ensures)
    (placed-is setting k s _ _ _ (λ t. sym (and_then-assoc _ _ _))
    ∙ sym (statement-is setting k s c.args.statement.now _ c.in-Foreach.is _ (kind-Foreach _ _ _)))

pub returns-in_default : goal.returns-in_default
returns-in_default c = λ setting same k s. rw (c.unplaced-in_default.ensures, c.alone-in_default.ensures) refl
