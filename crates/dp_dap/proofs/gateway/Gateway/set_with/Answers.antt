use Rattle.std.proofs.Common.{◌∙◌}
use Rattle.std.proofs.lemmas.Result.{IfOk-weaker}
use Rattle.dp_dap_messages.specs.Lines.{set_line}
use Rattle.dp_dap.proofs.SetLaws.{both_ok, set_done, set_refused}
use Rattle.dp_dap.proofs.gateway.Gateway.set_with.Goals as goal

pub returns-in-Ok : goal.returns-in-Ok
returns-in-Ok g c =
    let path = c.args.path.now in
    let asked = c.args.asked.now in
    let is = rw (c.as_slice.ensures, c.in_ok-line.ensures.text) at c.in-Ok.ensures.ok in
    both_ok c.keep.result _ _ _
    (λ value seen kept. set_done path asked.line (set_line path asked.line c.args.hits asked.condition) c.in-Ok.report
    c.args.self.now c.ask.new.self c.keep.new.self value is seen kept)
    c.keep.ensures.value c.keep.ensures.kept

pub returns-in-Err-Refused : goal.returns-in-Err-Refused
returns-in-Err-Refused g c =
    let path = c.args.path.now in
    let asked = c.args.asked.now in
    IfOk-weaker c.unverified.result _ _
    (λ value seen. set_refused path asked.line (set_line path asked.line c.args.hits asked.condition)
    c.as_slice.result.now c.in-Err-Refused.field-0 c.in-Err-Refused.why c.args.self.now c.ask.new.self value
    (c.as_slice.ensures ∙ c.in_ok-line.ensures.text) c.in-Err-Refused.field-0-is c.in-Err-Refused.ensures.refused seen)
    c.unverified.ensures
