use Rattle.std.proofs.Common.{◌≡◌, drop}
use Rattle.dp_analysis.specs.Quiet.{is_free}
use Rattle.dp_engine.proofs.past.is_free.Given as goal

abbrev pub invariant-loop-other : goal.invariant-loop-other
invariant-loop-other l = is_free l.lines l.line ≡ is_free (drop l.other-index l.lines) l.line
