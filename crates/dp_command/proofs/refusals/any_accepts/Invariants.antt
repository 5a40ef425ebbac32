use Rattle.std.proofs.Common.{◌≡◌, drop}
use Rattle.std.specs.List.{list_any}
use Rattle.dp_command.specs.Refusals as spec
use Rattle.dp_command.proofs.refusals.any_accepts.Given as goal

abbrev pub invariant-loop-slot : goal.invariant-loop-slot
invariant-loop-slot l =
    list_any (spec.accepts (l.letter, l.value)) (drop l.slot-index l.slots) ≡ list_any
    (spec.accepts (l.letter, l.value)) l.slots
