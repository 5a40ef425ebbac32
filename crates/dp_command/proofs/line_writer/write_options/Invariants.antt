use Rattle.std.proofs.Common.{◌≡◌, ◌++◌, drop}
use Rattle.std.specs.List.{flat_map}
use Rattle.dp_command.specs.Canonical.{canonical_option}
use Rattle.dp_command.proofs.line_writer.write_options.Given as goal

abbrev pub invariant-loop-option : goal.invariant-loop-option
invariant-loop-option l =
    l.fn.out.items ++ flat_map canonical_option l.options ≡ l.out.items
    ++ flat_map canonical_option (drop l.option-index l.options)
