use Rattle.std.proofs.Common.{subst, ◌∙◌}
use Rattle.std.proofs.lemmas.Result.{IfErr-weaker, IfOk-weaker}
use Rattle.dp_command.specs.Canonical.{canonical}
use Rattle.dp_dap.specs.declared.effects.Unanswered.{Unanswered}
use Rattle.dp_dap_messages.specs.Lines.{contexts_line, frame_line}
use Rattle.dp_dap.specs.inner.Effects.{IsNotReplied}
use Rattle.dp_dap.proofs.AskLaws.{not_replied_at, replied_at}
use Rattle.dp_dap.proofs.EffectLaws.{frame_looks, frame_refused, no_frame}
use Rattle.dp_dap.proofs.gateway.Gateway.ask_contexts.Goals as goal

pub returns-in-Err-Refused-clause-refused : goal.returns-in-Err-Refused-clause-refused
returns-in-Err-Refused-clause-refused g c =
    let old = c.args.self.now in
    let new = c.ask.new.self in
    no_frame c.args.level c.in-Err-Refused.field-0-0 old new
    (subst (λ (u : Unanswered). IsNotReplied (canonical (frame_line c.args.level)) u old new)
    c.in-Err-Refused.field-0-is
    (not_replied_at (frame_line c.args.level) c.as_slice.result.now c.in-Err-Refused.field-0 old new
    (c.as_slice.ensures ∙ c.in_ok-line.ensures.text) c.in-Err-Refused.ensures.refused))

pub returns-clause-ok : goal.returns-clause-ok
returns-clause-ok g c =
    let there = replied_at (frame_line c.args.level) _ c.in-Ok.field-0 c.args.self.now c.ask.new.self
    (c.as_slice.ensures ∙ c.in_ok-line.ensures.text) c.in-Ok.ensures.ok in
    IfOk-weaker c.ask-2.result _ _ (λ report h.
    frame_looks c.args.level c.in-Ok.field-0 report c.args.self.now c.ask.new.self c.ask-2.new.self there
    (replied_at contexts_line _ report c.ask.new.self c.ask-2.new.self
    (c.as_slice-2.ensures ∙ c.in_ok-line-2.ensures.text) h)) c.ask-2.ensures.ok

pub returns-clause-refused : goal.returns-clause-refused
returns-clause-refused g c =
    let there = replied_at (frame_line c.args.level) _ c.in-Ok.field-0 c.args.self.now c.ask.new.self
    (c.as_slice.ensures ∙ c.in_ok-line.ensures.text) c.in-Ok.ensures.ok in
    IfErr-weaker c.ask-2.result _ _ (λ why h.
    frame_refused c.args.level c.in-Ok.field-0 why c.args.self.now c.ask.new.self c.ask-2.new.self there
    (not_replied_at contexts_line _ why c.ask.new.self c.ask-2.new.self
    (c.as_slice-2.ensures ∙ c.in_ok-line-2.ensures.text) h)) c.ask-2.ensures.refused
