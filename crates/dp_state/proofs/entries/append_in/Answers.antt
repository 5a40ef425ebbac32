use Rattle.std.proofs.Common.{◌++◌, false, inl, inr, Err, Result, ap, sym, ◌∙◌, List, ℕ}
use Rattle.dp_value.specs.Data.{Data, text, null}
use Rattle.dp_value.specs.Entry.{write_result}
use Rattle.dp_value.specs.Value.{data_of}
use Rattle.dp_state.specs.declared.state.Fault.{Fault}
use Rattle.dp_state.specs.inner.Parts.{then_variables}
use Rattle.dp_state.proofs.Refusals.{kept-fatal, not_refused, write-sure}
use Rattle.dp_state.proofs.Slots.{data_there, held_same, then_held}
use Rattle.dp_state.proofs.entries.append_in.Goals as goal

pub returns-in-Ok-clause-ok : goal.returns-in-Ok-clause-ok
returns-in-Ok-clause-ok c =
    ap (λ (d : Data). then_variables c.args.name.now c.args.vars.now
    (write_result c.args.keys.now false (text (c.args.text ++ c.args.piece.now)) d))
    (data_there c.args.name.now c.args.vars.now c.in-Some.held.now c.in-Some.ensures.value)
    ∙ then_held c.args.name.now c.args.vars.now c.append_at.new.value _ c.in-Ok.ensures.ok

pub returns-in-Ok-clause-sure : goal.returns-in-Ok-clause-sure
returns-in-Ok-clause-sure c = λ kind refused.
    absurd (not_refused c.args.name.now c.args.vars.now
    (write_result c.args.keys.now false (text (c.args.text ++ c.args.piece.now)) (data_of c.in-Some.held.now))
    (data_of c.append_at.new.value) kind c.in-Ok.ensures.ok
    (ap (λ (d : Data). then_variables c.args.name.now c.args.vars.now
    (write_result c.args.keys.now false (text (c.args.text ++ c.args.piece.now)) d))
    (sym (data_there c.args.name.now c.args.vars.now c.in-Some.held.now c.in-Some.ensures.value)) ∙ refused))

pub returns-in-Err-clause-err : goal.returns-in-Err-clause-err
returns-in-Err-clause-err c = λ fatal.
    held_same c.args.name.now c.args.vars.now c.in-Some.held.now c.in-Some.ensures.value c.append_at.new.value
    (kept-fatal c.in-Err.why c.from.result c.from.ensures (List ℕ) c.in-Err.ensures.err fatal)

pub returns-in-Err-clause-memory : goal.returns-in-Err-clause-memory
returns-in-Err-clause-memory c = λ want. elim c.in-Err.ensures.err [
  | inl same ↦ inl (held_same c.args.name.now c.args.vars.now c.in-Some.held.now c.in-Some.ensures.value
      c.append_at.new.value same)
  | inr left ↦ inr (ap (λ (d : Data). then_variables c.args.name.now c.args.vars.now
      (write_result c.args.keys.now false null d))
      (data_there c.args.name.now c.args.vars.now c.in-Some.held.now c.in-Some.ensures.value)
      ∙ then_held c.args.name.now c.args.vars.now c.append_at.new.value _ left.1)
]

pub returns-in-Err-clause-sure : goal.returns-in-Err-clause-sure
returns-in-Err-clause-sure c = λ kind refused.
    ap (λ (f : Fault). let r : Result _ Fault = Err f in r) c.from.ensures
    ∙ write-sure c.args.name.now c.args.vars.now (Err c.in-Err.why) c.args.keys.now false
    (text (c.args.text ++ c.args.piece.now)) (data_of c.in-Some.held.now) c.in-Err.ensures.sure kind
    (ap (λ (d : Data). then_variables c.args.name.now c.args.vars.now
    (write_result c.args.keys.now false (text (c.args.text ++ c.args.piece.now)) d))
    (sym (data_there c.args.name.now c.args.vars.now c.in-Some.held.now c.in-Some.ensures.value)) ∙ refused)
