use Rattle.std.proofs.Common.{◌++◌, false, Err, Result, ap, sym, ◌∙◌}
use Rattle.dp_value.specs.Data.{Data, null, text}
use Rattle.dp_value.specs.Entry.{write_result}
use Rattle.dp_state.specs.declared.state.Fault.{Fault}
use Rattle.dp_state.specs.inner.Parts.{then_variables}
use Rattle.dp_state.proofs.Refusals.{write-sure}
use Rattle.dp_state.proofs.Slots.{data_missing, then_new}
use Rattle.dp_state.proofs.entries.append_new.Goals as goal

pub returns-in_ok-set-in-Ok-clause-ok : goal.returns-in_ok-set-in-Ok-clause-ok
returns-in_ok-set-in-Ok-clause-ok c =
    then_new c.args.name.now c.args.vars.now c.requires c.append_at.new.value c.set.new.self
    (write_result c.args.keys.now false (text (c.args.text ++ c.args.piece.now))) c.in_ok-set-in-Ok.ensures.ok
    c.in-Ok.ensures.ok

pub returns-in-Err-clause-sure : goal.returns-in-Err-clause-sure
returns-in-Err-clause-sure c = λ kind refused.
    ap (λ (f : Fault). let r : Result _ Fault = Err f in r) c.from.ensures
    ∙ write-sure c.args.name.now c.args.vars.now (Err c.in-Err.why) c.args.keys.now false
    (text (c.args.text ++ c.args.piece.now)) null c.in-Err.ensures.sure kind
    (ap (λ (d : Data). then_variables c.args.name.now c.args.vars.now
    (write_result c.args.keys.now false (text (c.args.text ++ c.args.piece.now)) d))
    (sym (data_missing c.args.name.now c.args.vars.now c.requires)) ∙ refused)
