-- What becomes of a session's program once the session is over: it runs on by itself to its end, or
-- is left where it stands. Each is said of what is served then (`Served`), of what the session knew
-- when it was over (`State`), and of what the program's own output took on the way (`Change`).
use Rattle.std.specs.Prelude.{◌≡◌, None, Some}
use Rattle.std.specs.Io.KnownBytes.{Appends}
use Rattle.dp_outside.specs.Causes.{Rose}
use Rattle.dp_outside.specs.Changes.{Change}
use Rattle.dp_outside.specs.Streams.{AppendsFront}
use Rattle.dp_conversation.specs.declared.link.Fault.{Fault}
use Rattle.dp_conversation.specs.declared.link.Fault.TheVariants as fault
use Rattle.dp_conversation.specs.declared.link.SessionOver.{SessionOver}
use Rattle.dp_conversation.specs.declared.link.SessionOver.TheVariants as over
use Rattle.dp_engine.specs.declared.service.ServeEnd.{ServeEnd}
use Rattle.dp_engine.specs.declared.service.ServeEnd.TheVariants.{Stopped, Detached, LinkEnd, ReadFault, WriteFault, OutFault, BadCommandFrame, ByteLimit, Memory}
use Rattle.dp_engine.specs.declared.service.Served.{Served}
use Rattle.dp_engine.specs.declared.session.SessionEnd.{SessionEnd}
use Rattle.dp_engine.specs.declared.session.SessionEnd.TheVariants as end
use Rattle.dp_engine.specs.Session.{State, outcome_of, unwritten}

-- after this end the program still runs on: not after a failed output, nor where memory ran out
abbrev pub CanRunOn : ServeEnd → Type 0
CanRunOn OutFault = ⊥
CanRunOn Memory = ⊥
CanRunOn end = Unit {0}

-- The program ran on, and the first of these ends was told where the second was asked for. It ran
-- to its end, all that it still writes was put and its outcome is told: then that is the end that
-- was asked for. Where the output failed, or memory ran out, the end says so, the outcome is
-- unknown, and a front of what it still writes was put.
abbrev pub RanOnTo : ServeEnd → ServeEnd → Served → State → Change → Type 0
RanOnTo OutFault asked served state out =
    Rose out.faults_before out.faults
    × (served.outcome ≡ None)
    × AppendsFront out.told_before out.told (unwritten state)
RanOnTo Memory asked served state out =
    (served.outcome ≡ None) × AppendsFront out.told_before out.told (unwritten state)
RanOnTo end asked served state out =
    (end ≡ asked)
    × (served.outcome ≡ Some (outcome_of state))
    × Appends out.told_before out.told (unwritten state)

-- the same, by the end that was told
abbrev pub RanOn : ServeEnd → Served → State → Change → Type 0
RanOn asked served state out = RanOnTo served.end asked served state out

-- the program was left where it stood: with this end, without an outcome, and its output as it was
pub record IsLeft (end : ServeEnd) (served : Served) (out : Change) : Type 0 where
  pub is_end : served.end ≡ end
  pub outcome : served.outcome ≡ None
  pub kept : out.told ≡ out.told_before

-- What becomes of it, by how the session came to be over: one that was killed is left, and each
-- other one runs on.
abbrev pub Closes : SessionOver SessionEnd → Served → State → Change → Type 0
Closes (over.Ended end.Killed) served state out = IsLeft Stopped served out
Closes (over.Ended end.Detached) served state out = RanOn Detached served state out
Closes (over.Ended (end.Finished o)) served state out = RanOn Stopped served state out
Closes over.LinkEnd served state out = RanOn LinkEnd served state out
Closes over.ReadFault served state out = RanOn ReadFault served state out
Closes (over.BadCommandFrame offset) served state out =
    RanOn (BadCommandFrame offset) served state out
Closes over.ByteLimit served state out = RanOn ByteLimit served state out

-- What becomes of it, by the fault that cut the session short: where the link's sink failed it runs
-- on, unless the last command had killed it; where the output failed or memory ran out it is left.
abbrev pub ClosesCut : Fault SessionEnd → Served → State → Change → Type 0
ClosesCut (fault.Write (Some end.Killed)) served state out = IsLeft WriteFault served out
ClosesCut (fault.Write ended) served state out = RanOn WriteFault served state out
ClosesCut fault.Out served state out = IsLeft OutFault served out
ClosesCut fault.Memory served state out = IsLeft Memory served out
