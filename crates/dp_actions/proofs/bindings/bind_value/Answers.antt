use Rattle.dp_actions.proofs.bindings.bind_value.Goals as goal

pub returns : goal.returns
returns c = rw c.in_ok-try_clone.ensures at c.assign_variable.ensures
