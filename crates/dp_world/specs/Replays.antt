-- What `replay` answers.
use Rattle.std.specs.Prelude.{List, Result, Ok, Err}
use Rattle.std.specs.Io.KnownBytes.{Appends}
use Rattle.dp_outside.specs.Causes.{Rose}
use Rattle.dp_outside.specs.Changes.{Change}
use Rattle.dp_outside.specs.Streams.{AppendsFront}
use Rattle.dp_world.specs.Alone.{Engines}
use Rattle.dp_world.specs.declared.errors.ReplayError.{ReplayError}
use Rattle.dp_world.specs.declared.errors.ReplayError.TheVariants.{OutFault, Memory}
use Rattle.dp_events.specs.declared.event.Event.{Event}
use Rattle.dp_world.specs.Transcript.{transcript}

-- the transcript was put; or a front of it, where the sink failed or memory ran out
abbrev pub Replays : {S E : Type 0} → Result (Unit {0}) ReplayError → Engines S E → List Event
    → Change → Type 0
Replays (Ok done) engines events out =
    Appends out.told_before out.told (transcript engines events)
Replays (Err OutFault) engines events out =
    Rose out.faults_before out.faults
    × AppendsFront out.told_before out.told (transcript engines events)
Replays (Err Memory) engines events out =
    AppendsFront out.told_before out.told (transcript engines events)
