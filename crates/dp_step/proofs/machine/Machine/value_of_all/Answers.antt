use Rattle.std.proofs.Common.{refl}
use Rattle.std.proofs.lemmas.Result.{IfOk-weaker}
use Rattle.dp_step.proofs.ApartLaws.{value-comes}
use Rattle.dp_step.proofs.machine.Machine.value_of_all.Goals as goal

pub returns : goal.returns
returns c =
    let m = c.args.self.now in
    let held = c.in_ok-hold_both.ensures in
    IfOk-weaker c.give_back.result _ _ (λ answer h. value-comes m c.hold_both.new.self c.give_back.new.self
    c.args.e.now c.requires _ (λ setting k s. refl) held.kept.0 held.kept.1 held.kept.2 held.held.0 held.held.1
    held.kept.3 answer h) c.give_back.ensures
