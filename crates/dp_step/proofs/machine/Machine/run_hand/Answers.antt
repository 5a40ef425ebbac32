use Rattle.std.proofs.Common.{refl, sym, ◌∙◌}
use Rattle.std.proofs.lemmas.Result.{IfOk-weaker}
use Rattle.dp_actions.specs.Statements.{statement_run}
use Rattle.dp_step.proofs.LeapLaws.{leaps_hand}
use Rattle.dp_step.proofs.machine.Machine.run_hand.Goals as goal

pub returns-in-Run : goal.returns-in-Run
returns-in-Run c =
    let m = c.args.self.now in
    IfOk-weaker c.gave.result _ _ (λ end leaps. leaps_hand m _ c.gave.new.self _ end (sym c.replace.ensures.value
    ∙ c.in-Run.is) refl leaps)
    (c.gave.ensures (statement_run c.in-Run.statement.now) m.state (record {
      by = rw c.whole.ensures at c.statement-done.ensures;
    }))

pub returns-in-Turn : goal.returns-in-Turn
returns-in-Turn c =
    IfOk-weaker c.turns.result _ _ (λ end leaps. leaps_hand c.args.self.now _ c.turns.new.self _ end
    (sym c.replace.ensures.value ∙ c.in-Turn.is) refl leaps)
    c.turns.ensures

pub returns-in-DoTurn : goal.returns-in-DoTurn
returns-in-DoTurn c =
    IfOk-weaker c.do_turns.result _ _ (λ end leaps. leaps_hand c.args.self.now _ c.do_turns.new.self _ end
    (sym c.replace.ensures.value ∙ c.in-DoTurn.is) refl leaps)
    c.do_turns.ensures

pub returns-in-EachTurn : goal.returns-in-EachTurn
returns-in-EachTurn c =
    IfOk-weaker c.entries.result _ _ (λ end leaps. leaps_hand c.args.self.now _ c.entries.new.self _ end
    (sym c.replace.ensures.value ∙ c.in-EachTurn.is) refl leaps)
    c.entries.ensures

pub returns-in_default : goal.returns-in_default
returns-in_default c =
    IfOk-weaker c.other.result _ _ (λ end leaps. leaps_hand c.args.self.now _ c.other.new.self _ end
    (sym c.replace.ensures.value) refl leaps)
    c.other.ensures
