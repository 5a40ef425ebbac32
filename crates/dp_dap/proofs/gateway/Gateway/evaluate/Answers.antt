use Rattle.std.proofs.Common.{refl, ap, ◌∙◌}
use Rattle.std.proofs.lemmas.Result.{err_from_is_err_and}
use Rattle.dp_command.specs.Canonical.{canonical}
use Rattle.dp_dap.specs.Answers as spec
use Rattle.dp_dap_messages.specs.Lines.{eval_line}
use Rattle.dp_dap_messages.specs.Messages.{result_body}
use Rattle.dp_dap.proofs.AskLaws.{behind_refused, not_replied, not_replied_at, replied_at}
use Rattle.dp_dap.proofs.EffectLaws.{evaluated_is}
use Rattle.dp_dap.proofs.gateway.Gateway.evaluate.Goals as goal

pub returns-clause-ok : goal.returns-clause-ok
returns-clause-ok g c =
    let is = replied_at (eval_line c.args.expression) _ c.in_ok-report.report c.args.self.now c.ask.new.self
    (c.as_slice-2.ensures ∙ c.in_ok-line.ensures.text ∙ ap (λ l. canonical (eval_line l)) c.as_slice.ensures)
    c.in_ok-report.ensures.ok in
    evaluated_is c.args.expression c.in_ok-report.report c.args.self.now c.ask.new.self _ c.in_ok-body.body is
    c.bare-effect.ensures.is_body
    (c.in_ok-body.ensures ∙ ap result_body (c.as_slice-3.ensures ∙ c.in_ok-text.ensures
    ∙ ap spec.result_in c.shown_in.ensures)) refl c.bare-effect.ensures.is_news c.bare-effect.ensures.goes_on

pub returns-in_err-report-clause-refused : goal.returns-in_err-report-clause-refused
returns-in_err-report-clause-refused g c =
    let p = err_from_is_err_and c.from_residual-in_err-report.result c.from_residual-in_err-report.ensures.1 in
    rw (p.1, p.2)
    (behind_refused _ _ _ c.args.self.now c.ask.new.self
    (not_replied (eval_line c.args.expression) _ c.args.self.now c.ask.new.self
    (not_replied_at (eval_line c.args.expression) _ _ c.args.self.now c.ask.new.self
    (c.as_slice-2.ensures ∙ c.in_ok-line.ensures.text ∙ ap (λ l. canonical (eval_line l)) c.as_slice.ensures)
    c.in_err-report.ensures.refused)))
