use Rattle.std.proofs.Common.{false, refl, arith}
use Rattle.dp_step.proofs.Smalls.{moves_as}
use Rattle.dp_step.proofs.TurnSteps.{turns-come, turns-none}
use Rattle.dp_step.proofs.machine.Machine.turn.Goals as goal

pub returns-then-left-eq0 : goal.returns-then-left-eq0
returns-then-left-eq0 c = λ below e.
    let m = c.args.self.now in record {
      by = turns-none m below m.state c.args.turns c.args.left c.if-left-eq0.true;
      same_bundle = refl;
      same_bound = refl;
    }

pub returns-else-left-eq0 : goal.returns-else-left-eq0
returns-else-left-eq0 c = λ below e.
    let m = c.args.self.now in
    moves_as m _ _ _ _ _ (turns-come m below m.state c.args.turns c.args.left (omega (arith, c.if-left-eq0.false)) _
    (c.put_last.ensures below _ e)) refl refl c.placed.ensures
