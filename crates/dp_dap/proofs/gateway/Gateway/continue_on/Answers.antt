use Rattle.std.proofs.Common.{◌≡◌, None, Ok, refl, ap, sym, ◌∙◌}
use Rattle.std.proofs.lemmas.Result.{IfOk-weaker}
use Rattle.dp_command.specs.declared.command.Continuation.{Continuation}
use Rattle.dp_command.specs.declared.command.Continuation.TheVariants as going
use Rattle.dp_dap_messages.specs.declared.effects.StopReason.TheVariants as reason
use Rattle.dp_dap.specs.Answers as spec
use Rattle.dp_dap.specs.Known.{Known}
use Rattle.dp_dap.proofs.gateway.Gateway.continue_on.Goals as goal

-- where it goes on by a step
stepped : (mode into : Continuation) (known : Known) → mode ≡ into
    → spec.continued into known ≡ spec.gone_on into reason.Step None known
    → spec.continued mode known ≡ spec.gone_on mode reason.Step None known
stepped mode into known is there =
    ap (λ (m : Continuation). spec.continued m known) is
    ∙ (there ∙ ap (λ (m : Continuation). spec.gone_on m reason.Step None known) (sym is))

pub returns-in-StepInto : goal.returns-in-StepInto
returns-in-StepInto g c =
    let same = stepped c.args.mode going.StepInto c.args.self.now c.in-StepInto.is refl in
    IfOk-weaker c.go_on-in-StepInto.result _ _ (λ effect is. ap Ok same ∙ is) c.go_on-in-StepInto.ensures

pub returns-in-StepOver : goal.returns-in-StepOver
returns-in-StepOver g c =
    let same = stepped c.args.mode going.StepOver c.args.self.now c.in-StepOver.is refl in
    IfOk-weaker c.go_on-in-StepOver.result _ _ (λ effect is. ap Ok same ∙ is) c.go_on-in-StepOver.ensures

pub returns-in-StepOut : goal.returns-in-StepOut
returns-in-StepOut g c =
    let same = stepped c.args.mode going.StepOut c.args.self.now c.in-StepOut.is refl in
    IfOk-weaker c.go_on-in-StepOut.result _ _ (λ effect is. ap Ok same ∙ is) c.go_on-in-StepOut.ensures
