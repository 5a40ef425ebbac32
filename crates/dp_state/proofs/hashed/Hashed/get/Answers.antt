use Rattle.std.proofs.Common.{◌∙◌}
use Rattle.dp_state.proofs.Positions.{missing, there}
use Rattle.dp_state.proofs.hashed.Hashed.get.Goals as goal

pub returns-in-Some : goal.returns-in-Some
returns-in-Some c =
    c.slot_at.ensures ∙ there c.args.name.now c.args.self.now c.in-Some.at c.in-Some.ensures

pub returns-in-None : goal.returns-in-None
returns-in-None c = missing c.args.name.now c.args.self.now c.in-None.ensures
