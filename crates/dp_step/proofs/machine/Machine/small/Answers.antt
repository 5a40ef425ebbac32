use Rattle.std.proofs.Common.{refl, sym, ◌∙◌}
use Rattle.dp_actions.specs.Run.{and_then}
use Rattle.dp_step.proofs.Smalls.{moves_hand}
use Rattle.dp_step.proofs.machine.Machine.small.Goals as goal

pub returns-in-Give : goal.returns-in-Give
returns-in-Give c =
    moves_hand c.args.self.now _ _ _ _ (sym c.replace.ensures.value ∙ c.in-Give.is) refl refl c.take.ensures

pub returns-in-Values : goal.returns-in-Values
returns-in-Values c =
    moves_hand c.args.self.now _ _ _ _ (sym c.replace.ensures.value ∙ c.in-Values.is) refl refl c.values_whole.ensures

pub returns-in-Call : goal.returns-in-Call
returns-in-Call c =
    moves_hand c.args.self.now _ _ _ _ (sym c.replace.ensures.value ∙ c.in-Call.is) refl refl c.call.ensures

pub returns-in-Include : goal.returns-in-Include
returns-in-Include c =
    moves_hand c.args.self.now _ _ _ _ (sym c.replace.ensures.value ∙ c.in-Include.is) refl refl c.include.ensures

pub returns-in-Left : goal.returns-in-Left
unfolding and_then
returns-in-Left c =
    moves_hand c.args.self.now _ _ _ _ (sym c.replace.ensures.value ∙ c.in-Left.is) refl refl c.left.ensures

pub returns-in-LeftFile : goal.returns-in-LeftFile
unfolding and_then
returns-in-LeftFile c =
    moves_hand c.args.self.now _ _ _ _ (sym c.replace.ensures.value ∙ c.in-LeftFile.is) refl refl
    c.left-in-LeftFile.ensures

pub returns-in_default : goal.returns-in_default
returns-in_default c = moves_hand c.args.self.now _ _ _ _ (sym c.replace.ensures.value) refl refl c.first.ensures
