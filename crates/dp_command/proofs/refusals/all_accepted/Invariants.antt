use Rattle.std.proofs.Common.{◌≡◌, drop}
use Rattle.std.specs.List.{list_all}
use Rattle.dp_command.specs.Refusals as spec
use Rattle.dp_command.proofs.refusals.all_accepted.Given as goal

abbrev pub invariant-loop-option : goal.invariant-loop-option
invariant-loop-option l =
    list_all (spec.is_accepted l.slots) (drop l.option-index l.options) ≡ list_all (spec.is_accepted l.slots) l.options
