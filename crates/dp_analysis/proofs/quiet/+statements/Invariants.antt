use Rattle.std.proofs.Common.{◌≡◌, drop}
use Rattle.std.specs.List.{list_all}
use Rattle.std.specs.Option.{option_copied}
use Rattle.dp_analysis.specs.Quiet.{is_quiet}
use Rattle.dp_analysis.specs.Still.{calls_of}
use Rattle.dp_analysis.specs.inner.Parts.{arm_is_quiet}
use Rattle.dp_analysis.proofs.quiet.+statements.Given as goal

abbrev pub invariant-all_quiet-loop-statement : goal.invariant-all_quiet-loop-statement
invariant-all_quiet-loop-statement l =
    list_all (is_quiet l.lines (calls_of (option_copied l.loud))) l.all ≡ list_all
    (is_quiet l.lines (calls_of (option_copied l.loud))) (drop l.statement-index l.all)

abbrev pub invariant-arms_are_quiet-loop-arm : goal.invariant-arms_are_quiet-loop-arm
invariant-arms_are_quiet-loop-arm l =
    list_all (arm_is_quiet l.lines (calls_of (option_copied l.loud))) l.all ≡ list_all
    (arm_is_quiet l.lines (calls_of (option_copied l.loud))) (drop l.arm-index l.all)
