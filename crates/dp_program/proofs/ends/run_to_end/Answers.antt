use Rattle.std.proofs.Common.{[], ◌∙◌}
use Rattle.dp_program.proofs.ends.run_to_end.Goals as goal

pub returns-in-Ok-clause-outcome : goal.returns-in-Ok-clause-outcome
returns-in-Ok-clause-outcome g c =
    (c.in-Ok.ensures.end c.args.program.now c.args.bound [] 0 c.in_ok-machine.ensures.starts).0

pub returns-in-Ok-clause-state : goal.returns-in-Ok-clause-state
returns-in-Ok-clause-state g c =
    c.into_state-state.ensures
    ∙ (c.in-Ok.ensures.end c.args.program.now c.args.bound [] 0 c.in_ok-machine.ensures.starts).1
