use Rattle.std.proofs.Common.{ℕ, List, length, map, ap, ◌∙◌}
use Rattle.std.proofs.lemmas.Result.{err_from_is_err_and}
use Rattle.serde_json.specs.Data.{Data}
use Rattle.dp_engine.specs.Answers.{Turn}
use Rattle.dp_packet.specs.declared.packet.StackLine.{StackLine}
use Rattle.dp_dap.specs.Answers as spec
use Rattle.dp_dap_messages.specs.Lines.{stack_line}
use Rattle.dp_dap_messages.specs.Messages.{frames_body}
use Rattle.dp_dap_messages.specs.Values.{frame, some_of}
use Rattle.dp_dap.proofs.AskLaws.{behind_refused, not_replied, not_replied_at, replied_at}
use Rattle.dp_dap.proofs.EffectLaws.{looked}
use Rattle.dp_dap.proofs.TurnLaws.{stack_stays}
use Rattle.dp_dap.proofs.gateway.Gateway.show_stack.Goals as goal

-- what is shown of the stack
abbrev shown : ℕ → ℕ → List StackLine → Data
shown first most lines = frames_body (map frame (some_of first most lines)) (length lines)

pub returns-clause-ok : goal.returns-clause-ok
returns-clause-ok g c =
    let is = replied_at stack_line _ c.in_ok-report.report c.args.self.now c.ask.new.self
    (c.as_slice.ensures ∙ c.in_ok-line.ensures.text) c.in_ok-report.ensures.ok in
    looked stack_line (λ taken. shown c.args.first c.args.most (spec.stacks_in taken.response.body))
    c.in_ok-report.report c.args.self.now c.ask.new.self c.bare.result c.in_ok-body.body stack_stays is c.bare.ensures
    (c.in_ok-body.ensures
    ∙ (λ i. frames_body (c.in_ok-frames.ensures i) (length c.stacks_in-all.result.now))
    ∙ ap (shown c.args.first c.args.most) (c.stacks_in-all.ensures
    ∙ ap (λ (t : Turn). spec.stacks_in t.response.body) is.reports.turned))

pub returns-in_err-report-clause-refused : goal.returns-in_err-report-clause-refused
returns-in_err-report-clause-refused g c =
    let p = err_from_is_err_and c.from_residual-in_err-report.result c.from_residual-in_err-report.ensures.1 in
    rw (p.1, p.2)
    (behind_refused _ _ _ c.args.self.now c.ask.new.self
    (not_replied stack_line _ c.args.self.now c.ask.new.self
    (not_replied_at stack_line _ _ c.args.self.now c.ask.new.self (c.as_slice.ensures ∙ c.in_ok-line.ensures.text)
    c.in_err-report.ensures.refused)))
