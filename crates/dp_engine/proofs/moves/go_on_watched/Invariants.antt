use Rattle.std.proofs.Common.{ℕ, List}
use Rattle.dp_analysis.specs.Quiet.{AreLoud}
use Rattle.dp_meaning.specs.declared.writes.NumberedWrite.{NumberedWrite}
use Rattle.dp_step.specs.Stands.{StandsFor}
use Rattle.dp_engine.specs.Stops.{stops}
use Rattle.dp_engine.proofs.MachineStops.{IsOnWay}
use Rattle.dp_engine.proofs.moves.go_on_watched.Given as goal

abbrev pub invariant-loop-passed : goal.invariant-loop-passed
invariant-loop-passed g l =
    (bound : ℕ) (writes : List NumberedWrite) (n : ℕ) → StandsFor l.bundle bound writes n l.fn.machine
    → IsOnWay (stops l.mode l.depth) l.bundle bound writes n l.fn.breaks l.breaks l.machine
    l.fn.steps l.steps × AreLoud l.lines l.bundle l.loud
