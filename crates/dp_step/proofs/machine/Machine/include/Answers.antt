use Rattle.std.proofs.Common.{refl, ◌∙◌}
use Rattle.dp_step.specs.inner.Moves.{file_with}
use Rattle.dp_small_steps.proofs.AtOnce.{then_done}
use Rattle.dp_step.proofs.Smalls.{file-first, moves_as, taken-moves, too_deep-file}
use Rattle.dp_step.proofs.machine.Machine.include.Goals as goal

pub returns-then-self-eq0 : goal.returns-then-self-eq0
returns-then-self-eq0 c =
    let m = c.args.self.now in record {
      by = rw (c.halted.ensures, c.fatal.ensures) (too_deep-file m m.state c.if-self-eq0.true c.args.file);
      same_bundle = refl;
      same_bound = refl;
    }

pub returns-in-Ok : goal.returns-in-Ok
returns-in-Ok c =
    let m = c.args.self.now in
    moves_as m _ _ _ _ _ (file-first m m.state c.if-self-eq0.false c.args.file
    ∙ then_done _ (tt {0}) c.enter_file.new.state (λ _ t. file_with m c.args.file t) c.in-Ok.ensures) refl refl
    c.begin_file.ensures

pub returns-in-Err : goal.returns-in-Err
returns-in-Err c =
    let m = c.args.self.now in
    taken-moves m _ _ _ (λ _ t. file_with m c.args.file t) c.in-Err.why c.enter_file.new.state
    _ c.halted-in-Err.ensures (file-first m m.state c.if-self-eq0.false c.args.file) refl refl refl c.in-Err.ensures
