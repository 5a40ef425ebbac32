use Rattle.std.proofs.Common.{Ok, Err, Result, Option, ap, sym, ◌∙◌}
use Rattle.std.specs.Option.{option_map_or}
use Rattle.dp_value.specs.declared.value.Value.{Value}
use Rattle.dp_value.specs.Entry.{removed}
use Rattle.dp_value.specs.Value.{data_of}
use Rattle.dp_state.specs.inner.Parts.{then_variables}
use Rattle.dp_state.specs.declared.state.Fault.{Fault}
use Rattle.dp_state.proofs.Refusals.{removal-sure}
use Rattle.dp_state.proofs.Slots.{held_same, then_held}
use Rattle.dp_state.proofs.entries.remove_in.Goals as goal

pub returns-in-Ok-clause-ok : goal.returns-in-Ok-clause-ok
returns-in-Ok-clause-ok c =
    ap (λ (o : Option Value). option_map_or (λ value. then_variables c.args.name.now c.args.vars.now
    (removed c.args.keys.now (data_of value))) o (Ok c.args.vars.now)) (sym c.in-Some.ensures.value)
    ∙ then_held c.args.name.now c.args.vars.now c.remove_at.new.value _ c.in-Ok.ensures.ok

pub returns-in-Err-clause-err : goal.returns-in-Err-clause-err
returns-in-Err-clause-err c =
    held_same c.args.name.now c.args.vars.now c.in-Some.held.now c.in-Some.ensures.value c.remove_at.new.value
    c.in-Err.ensures.err

pub returns-in-Err-clause-sure : goal.returns-in-Err-clause-sure
returns-in-Err-clause-sure c = λ kind refused.
    ap (λ (f : Fault). let r : Result Unit Fault = Err f in r) c.from.ensures
    ∙ removal-sure {X = Unit} c.args.name.now c.args.vars.now (Err c.in-Err.why) c.args.keys.now
    (data_of c.in-Some.held.now) c.in-Err.ensures.sure kind
    (ap (λ (o : Option Value). option_map_or (λ value. then_variables c.args.name.now c.args.vars.now
    (removed c.args.keys.now (data_of value))) o (Ok c.args.vars.now)) c.in-Some.ensures.value ∙ refused)
