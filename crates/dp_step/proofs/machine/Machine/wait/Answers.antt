use Rattle.std.proofs.Common.{refl, sym, ap, ◌∙◌}
use Rattle.dp_step.specs.Stands.{rest_of}
use Rattle.dp_step.proofs.Smalls.{beside, rest-by}
use Rattle.dp_step.proofs.machine.Machine.wait.Goals as goal

pub returns-in-Ok : goal.returns-in-Ok
returns-in-Ok c =
    let m = c.args.self.now in
    let new = c.hold_both.new.self in
    let held = c.in-Ok.ensures.held in
    let kept = c.hold_both.ensures.kept in record {
      by = sym (rest-by new m.bundle.now m.bound m.depth _ _ kept.0 kept.1 kept.2 held.0 held.1 m.state
          ∙ beside m.bundle.now m.bound m.depth m.pending.items _ _ refl _ m.state)
          ∙ ap (rest_of new) (sym kept.3);
      same_bundle = kept.0;
      same_bound = kept.1;
    }

pub returns-in-Err : goal.returns-in-Err
returns-in-Err c = record { by = tt; same_bundle = c.hold_both.ensures.kept.0; same_bound = c.hold_both.ensures.kept.1 }
