use Rattle.std.proofs.Common.{sym, ap, ◌∙◌}
use Rattle.std.specs.Prelude.{option_map}
use Rattle.dp_actions.specs.Run.{and_then}
use Rattle.dp_actions.proofs.Runs.{and_then-assoc}
use Rattle.dp_actions.specs.Calls.{callee_of}
use Rattle.dp_small_steps.proofs.CallLaws.{called-as}
use Rattle.dp_small_steps.proofs.calls.begin_call.Goals as goal

pub returns-in-None : goal.returns-in-None
unfolding and_then
returns-in-None c = λ setting same.
    let found = sym c.look_up.ensures ∙ ap (option_map callee_of) c.in-None.is in
    rw c.fatal.ensures (record {
      by = λ k. called-as setting k c.args.state.now c.args.bundle.now same c.args.name.now _ found
          c.args.arguments.now;
    })

pub returns-in-Some-BuiltIn : goal.returns-in-Some-BuiltIn
returns-in-Some-BuiltIn c = λ setting same.
    let found = rw c.in-Some-BuiltIn.field-0-is at (sym c.look_up.ensures
    ∙ ap (option_map callee_of) c.in-Some-BuiltIn.is) in
    record {
      by = λ k. called-as setting k c.args.state.now c.args.bundle.now same c.args.name.now _ found c.args.arguments.now
          ∙ and_then-assoc _ _ _ ∙ sym (c.values_first.ensures setting k c.args.state.now);
    }

pub returns-in-Some-Declared : goal.returns-in-Some-Declared
returns-in-Some-Declared c = λ setting same.
    let found = rw c.in-Some-Declared.field-0-is at (sym c.look_up.ensures
    ∙ ap (option_map callee_of) c.in-Some-Declared.is) in
    record {
      by = λ k. called-as setting k c.args.state.now c.args.bundle.now same c.args.name.now _ found c.args.arguments.now
          ∙ and_then-assoc _ _ _ ∙ sym (c.values_first-in-Some-Declared.ensures setting k c.args.state.now);
    }
