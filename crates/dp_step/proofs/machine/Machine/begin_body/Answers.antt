use Rattle.std.proofs.Common.{◌-◌, ap, refl}
use Rattle.dp_small_steps.specs.declared.work.Hand.{Hand}
use Rattle.dp_small_steps.specs.Rest.{hand_rest}
use Rattle.dp_step.proofs.Smalls.{body-held}
use Rattle.dp_step.proofs.machine.Machine.begin_body.Goals as goal

pub returns-in-Ok : goal.returns-in-Ok
returns-in-Ok c =
    let m = c.args.self.now in
    let kept = c.hold_both.ensures.kept in record {
      by = body-held m m.state _ c.args.function.now.body kept.0 kept.1 (ap (λ n. n - 1) kept.2) kept.3
          (λ setting k t. ap (λ (h : Hand). hand_rest setting h k t) c.in-Ok.ensures.held.0) c.args.function.now refl
          c.in-Ok.ensures.held.1;
      same_bundle = kept.0;
      same_bound = kept.1;
    }

pub returns-in-Err : goal.returns-in-Err
returns-in-Err c = record { by = tt; same_bundle = c.hold_both.ensures.kept.0; same_bound = c.hold_both.ensures.kept.1 }
