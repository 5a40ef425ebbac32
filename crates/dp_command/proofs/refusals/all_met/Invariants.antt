use Rattle.std.proofs.Common.{◌≡◌, drop}
use Rattle.std.specs.List.{list_all}
use Rattle.dp_command.specs.Refusals as spec
use Rattle.dp_command.proofs.refusals.all_met.Given as goal

abbrev pub invariant-loop-slot : goal.invariant-loop-slot
invariant-loop-slot l =
    list_all (spec.is_met l.options) (drop l.slot-index l.slots) ≡ list_all (spec.is_met l.options) l.slots
