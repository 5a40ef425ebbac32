use Rattle.std.proofs.Common.{sym}
use Rattle.dp_small_steps.proofs.CallLaws.{included-as}
use Rattle.dp_small_steps.proofs.AtOnce.{leads_as}
use Rattle.dp_small_steps.proofs.calls.include.Goals as goal

pub returns-in-Ok : goal.returns-in-Ok
returns-in-Ok c = λ setting same.
    leads_as _ _ _ _ (λ k. included-as setting c.args.bundle.now same c.args.how c.args.name c.args.state.now
    c.in-Ok.file (sym c.in-Ok.ensures) k)
    (c.included.ensures setting)

pub returns-in-Err : goal.returns-in-Err
returns-in-Err c = λ setting same. record { by = tt }
