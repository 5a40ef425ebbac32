use Rattle.std.proofs.Common.{◌-◌, ap, refl, ◌∙◌}
use Rattle.dp_actions.specs.Bodies.{statements_of}
use Rattle.dp_small_steps.specs.declared.work.Hand.{Hand}
use Rattle.dp_small_steps.specs.Rest.{hand_rest}
use Rattle.dp_step.proofs.Smalls.{file-held}
use Rattle.dp_step.proofs.machine.Machine.begin_file.Goals as goal

pub returns-in-Ok : goal.returns-in-Ok
returns-in-Ok c =
    let m = c.args.self.now in
    let kept = c.hold_both.ensures.kept in record {
      by = file-held m m.state _ (statements_of m.bundle.now c.args.file) kept.0 kept.1 (ap (λ n. n - 1) kept.2) kept.3
          (λ setting k t. ap (λ (h : Hand). hand_rest setting h k t) c.in-Ok.ensures.held.0
          ∙ c.file_hand.ensures.rest setting k t) c.args.file refl c.in-Ok.ensures.held.1;
      same_bundle = kept.0;
      same_bound = kept.1;
    }

pub returns-in-Err : goal.returns-in-Err
returns-in-Err c = record { by = tt; same_bundle = c.hold_both.ensures.kept.0; same_bound = c.hold_both.ensures.kept.1 }
