use Rattle.std.proofs.Common.{refl, ◌∙◌}
use Rattle.dp_step.specs.inner.Moves.{body_with}
use Rattle.dp_small_steps.proofs.AtOnce.{then_done}
use Rattle.dp_step.proofs.Smalls.{call-first, moves_as, taken-moves, too_deep-call}
use Rattle.dp_step.proofs.machine.Machine.call.Goals as goal

pub returns-then-self-eq0 : goal.returns-then-self-eq0
returns-then-self-eq0 c =
    let m = c.args.self.now in record {
      by = rw (c.halted.ensures, c.fatal.ensures) (too_deep-call m m.state c.if-self-eq0.true c.args.file
          c.args.function.now c.args.values);
      same_bundle = refl;
      same_bound = refl;
    }

pub returns-in-Ok : goal.returns-in-Ok
returns-in-Ok c =
    let m = c.args.self.now in
    moves_as m _ _ _ _ _ (call-first m m.state c.if-self-eq0.false c.args.file c.args.function.now c.args.values
    ∙ then_done _ (tt {0}) c.enter_call.new.state (λ _ t. body_with m c.args.function.now t) c.in-Ok.ensures) refl refl
    c.begin_body.ensures

pub returns-in-Err : goal.returns-in-Err
returns-in-Err c =
    let m = c.args.self.now in
    taken-moves m _ _ _ (λ _ t. body_with m c.args.function.now t) c.in-Err.why c.enter_call.new.state
    _ c.halted-in-Err.ensures (call-first m m.state c.if-self-eq0.false c.args.file c.args.function.now c.args.values)
    refl refl refl
    c.in-Err.ensures
