use Rattle.std.proofs.Common.{is_some}
use Rattle.std.specs.Option.{option_copied}
use Rattle.dp_analysis.specs.Quiet.{AreLoud}
use Rattle.dp_step.specs.inner.Passing.{NearsBy}
use Rattle.dp_step.proofs.machine.Machine.approach.Given as goal

abbrev pub invariant-loop : goal.invariant-loop
invariant-loop l =
    AreLoud l.lines l.fn.self.bundle.now (option_copied l.loud)
    → NearsBy l.lines (is_some (option_copied l.loud)) l.fn.self l.self
