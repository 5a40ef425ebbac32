use Rattle.std.proofs.Common.{◌≡◌, drop}
use Rattle.dp_command.specs.Options as spec
use Rattle.dp_command.proofs.options.option_value.Given as goal

abbrev pub invariant-loop-option : goal.invariant-loop-option
invariant-loop-option l = spec.given l.letter (drop l.option-index l.options) ≡ spec.given l.letter l.options
