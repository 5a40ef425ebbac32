use Rattle.std.proofs.Common.{◌-◌, false, true, refl, sym, ◌∙◌, arith}
use Rattle.dp_small_steps.specs.declared.work.ForSignal.TheVariants as signal_work
use Rattle.dp_small_steps.specs.declared.work.Hand.TheVariants as hand
use Rattle.dp_step.proofs.Smalls.{moves_as}
use Rattle.dp_step.proofs.TurnSteps.{do-next, do-none, with-is}
use Rattle.dp_step.proofs.machine.Machine.do_turn.Goals as goal

pub returns-then-left-eq0 : goal.returns-then-left-eq0
returns-then-left-eq0 c = λ below e.
    let m = c.args.self.now in record {
      by = do-none m below m.state c.args.turns c.args.left c.if-left-eq0.true;
      same_bundle = refl;
      same_bound = refl;
    }

pub returns-else-left-eq0 : goal.returns-else-left-eq0
returns-else-left-eq0 c = λ below e.
    let m = c.args.self.now in
    moves_as m _ _ _ _ _ (do-next m below m.state c.args.turns c.args.left (omega (arith, c.if-left-eq0.false))
    ∙ rw c.as_ref.ensures refl
    ∙ sym (with-is m below m.state _ (signal_work.DoBody c.args.turns (c.args.left - 1) false)
    (c.put_last.ensures below _ e)
    (hand.Run c.as_ref.result))) refl refl c.put.ensures
