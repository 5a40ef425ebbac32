use Rattle.std.proofs.Common.{w64}
use Rattle.std.proofs.lemmas.Int.{to_z-of_z}
use Rattle.dp_value.specs.declared.value.Value.TheVariants.{Int}
use Rattle.dp_state.proofs.Slots.{held_replaced}
use Rattle.dp_state.proofs.vars.Vars.put_integer.Goals as goal

pub returns-in-Some-clause-exchanged : goal.returns-in-Some-clause-exchanged
returns-in-Some-clause-exchanged c =
    rw (to_z-of_z w64 c.args.n c.ranges.n)
    (held_replaced c.args.name.now c.args.self.now c.in-Some.held.now c.in-Some.ensures.value (Int c.args.n))
