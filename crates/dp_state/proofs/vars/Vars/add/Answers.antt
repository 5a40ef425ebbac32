use Rattle.dp_state.proofs.Slots.{summed}
use Rattle.dp_state.proofs.vars.Vars.add.Goals as goal

pub returns-in-Some-clause-added : goal.returns-in-Some-clause-added
returns-in-Some-clause-added c =
    summed c.args.name.now c.args.self.now c.in-Some.slot.now c.add.new.self c.in-Some.ensures.value c.add.result
    c.add.ensures.added
