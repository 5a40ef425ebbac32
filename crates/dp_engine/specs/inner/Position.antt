-- What a session keeps of its program's run, and how that stands for what the session knows.
use Rattle.std.specs.Prelude.{◌≡◌, ℕ, ◌≤◌, Bool, false, List}
use Rattle.dp_break.specs.Tables.{Table}
use Rattle.dp_tree.specs.declared.bundle.Bundle.{Bundle}
use Rattle.dp_command.specs.declared.command.StreamMode.{StreamMode}
use Rattle.dp_features.specs.Features.{Features}
use Rattle.dp_meaning.specs.declared.writes.NumberedWrite.{NumberedWrite}
use Rattle.dp_meaning.specs.Trace.{moment_at, outcome, program_trace}
use Rattle.dp_engine.specs.Stops.{depth_of}
use Rattle.dp_step.specs.declared.machine.Machine.{Machine}
use Rattle.dp_step.specs.Stands.{StandsFor}
use Rattle.dp_engine.specs.declared.session.SessionEnd.{SessionEnd}
use Rattle.dp_engine.specs.declared.session.SessionEnd.TheVariants.{Finished, Killed}
use Rattle.dp_engine.specs.declared.states.Phase.{Phase}
use Rattle.dp_engine.specs.declared.states.Phase.TheVariants as phase
use Rattle.dp_engine.specs.declared.states.Reason.{Reason}
use Rattle.dp_engine.specs.declared.states.Reason.TheVariants as reason
use Rattle.dp_engine.specs.declared.states.Position.{Position}
use Rattle.dp_engine.specs.declared.states.Position.TheVariants.{Starting, Break, Stopping}
use Rattle.dp_engine.specs.Session.{State}
use Rattle.dp_engine.specs.States.{reason_of}

abbrev pub phase_of : Position → Phase
phase_of Starting = phase.Starting
phase_of Break = phase.Break
phase_of (Stopping end) = phase.Stopping

abbrev pub reason_at : Position → Reason
reason_at Starting = reason.Ok
reason_at Break = reason.Ok
reason_at (Stopping end) = reason_of end

-- what a session knows
abbrev pub known : Bundle → ℕ → List NumberedWrite → ℕ → Position → Features → StreamMode → Table
    → Bool → State
known bundle bound writes moment position features stdout breaks failed = record {
  bundle = bundle;
  bound = bound;
  writes = writes;
  moment = moment;
  phase = phase_of position;
  reason = reason_at position;
  features = features;
  stdout = stdout;
  breaks = breaks;
  failed = failed;
}

-- how it ends where it is stopped
abbrev pub end_of : Position → SessionEnd
end_of Starting = Killed
end_of Break = Killed
end_of (Stopping end) = Finished end

-- Unless it has failed, the machine stands at the moment; once the program has ended, it has the
-- last state.
abbrev pub IsAt : Bool → Position → Bundle → ℕ → List NumberedWrite → ℕ → Machine → Type 0
IsAt failed Starting bundle bound writes moment machine =
    failed ≡ false → StandsFor bundle bound writes moment machine
IsAt failed Break bundle bound writes moment machine =
    (1 ≤ moment) × (failed ≡ false → StandsFor bundle bound writes moment machine)
IsAt failed (Stopping end) bundle bound writes moment machine =
    (end ≡ outcome bundle bound writes)
    × (machine.state ≡ (program_trace bundle bound writes).state)

-- the depth is that of the moment
abbrev pub IsDeep : Bundle → ℕ → List NumberedWrite → ℕ → ℕ → Type 0
IsDeep bundle bound writes moment depth =
    depth ≡ depth_of (moment_at (program_trace bundle bound writes) moment)
