use Rattle.std.proofs.Common.{refl, ◌∙◌}
use Rattle.std.proofs.lemmas.Result.{on_ok_weaker}
use Rattle.dp_step.proofs.Smalls.{beside, rest-by}
use Rattle.dp_step.proofs.machine.Machine.hold.Goals as goal

pub returns-in-None-clause-rest : goal.returns-in-None-clause-rest
returns-in-None-clause-rest c = λ s.
    let m = c.args.self.now in
    rest-by _ m.bundle.now m.bound m.depth _ m.pending.items refl refl refl c.put_hand.ensures refl s
    ∙ rw c.in-None.is refl

pub returns-in-Some-clause-rest : goal.returns-in-Some-clause-rest
returns-in-Some-clause-rest c =
    let m = c.args.self.now in
    let kept = c.hold_both.ensures.kept in
    on_ok_weaker c.hold_both.result (λ held s. rest-by c.hold_both.new.self m.bundle.now m.bound m.depth _ _ kept.0
    kept.1 kept.2 held.0 held.1 s
    ∙ beside m.bundle.now m.bound m.depth m.pending.items _ _ refl _ s ∙ rw c.in-Some.is refl) c.hold_both.ensures.held
