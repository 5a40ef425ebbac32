use Rattle.std.proofs.Common.{map, sym, ◌∙◌}
use Rattle.dp_actions.specs.declared.signal.Signal.TheVariants.{Next}
use Rattle.dp_actions.specs.Expressions.{place_run}
use Rattle.dp_actions.specs.Places.{unset_run}
use Rattle.dp_actions.specs.Run.{Done, and_then}
use Rattle.dp_actions.proofs.Runs.{and_then-assoc}
use Rattle.dp_actions.proofs.StatementLayers.{kind-Constants, kind-Exit, kind-Global, kind-Unset}
use Rattle.dp_small_steps.specs.Parts.{to_signal}
use Rattle.dp_small_steps.proofs.FirstStatements.{placed-is, statement-is}
use Rattle.dp_small_steps.proofs.statements.begin.Goals as goal

pub returns-in-Global : goal.returns-in-Global
unfolding and_then
returns-in-Global c = λ setting same k s.
    rw (c.placed.ensures, c.alone.ensures, c.as_slice.ensures)
    (sym (statement-is setting k s c.args.statement.now _ c.in-Global.is _ (kind-Global _)))

pub returns-in-Unset : goal.returns-in-Unset
unfolding and_then
returns-in-Unset c = λ setting same k s.
    rw (c.placed-in-Unset.ensures, c.alone-in-Unset.ensures, c.as_slice-in-Unset.ensures)
    (placed-is setting k s _ _ _ (λ t.
    sym (and_then-assoc (unset_run (map place_run c.in-Unset.places) setting t) (λ v u. Done Next u) (to_signal k)))
    ∙ sym (statement-is setting k s c.args.statement.now _ c.in-Unset.is _ (kind-Unset _)))

pub returns-in-Constants : goal.returns-in-Constants
unfolding and_then
returns-in-Constants c = λ setting same k s.
    rw (c.placed-in-Constants.ensures, c.alone-in-Constants.ensures)
    (sym (statement-is setting k s c.args.statement.now _ c.in-Constants.is _ (kind-Constants _)))

pub returns-in-Exit : goal.returns-in-Exit
returns-in-Exit c = λ setting same k s.
    rw c.placed-in-Exit.ensures
    (placed-is setting k s _ _ _ (λ t. c.exit.ensures setting k t)
    ∙ sym (statement-is setting k s c.args.statement.now _ c.in-Exit.is _ (kind-Exit _)))

pub returns-in_default : goal.returns-in_default
returns-in_default c = λ setting same k s. c.begin_loop.ensures setting same k s
