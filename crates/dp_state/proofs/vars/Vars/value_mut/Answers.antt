use Rattle.std.proofs.Common.{refl, sym, ap, ◌∙◌}
use Rattle.dp_state.specs.Variables.{value_held}
use Rattle.dp_state.proofs.Slots.{with_slot-same}
use Rattle.dp_state.proofs.vars.Vars.value_mut.Goals as goal

pub returns-in-Some : goal.returns-in-Some
returns-in-Some c = (
  rw (with_slot-same c.args.name.now c.in-Some.slot.now c.args.self.now (sym c.in-Some.ensures.value)) refl,
  record { writes_back = tt; value = c.value_mut.ensures.value ∙ ap value_held c.in-Some.ensures.value },
)
