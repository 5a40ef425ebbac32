-- A session that listens, served over a link: what it sends and writes is what its arrivals led to.
use Rattle.std.specs.Prelude.{◌≡◌, ◌⊎◌, ℕ, ◌+◌, ◌≤◌, Bool, true, false, ◌==◌, List, [], ◌∷◌, ◌++◌, length, Option, Some, None}
use Rattle.std.specs.List.{flat_map}
use Rattle.std.specs.Io.KnownBytes.{Appends, Consumes, IsAtEnd}
use Rattle.atomic_table.specs.Seated.{TableId}
use Rattle.dp_outside.specs.Causes.{Rose}
use Rattle.dp_outside.specs.Changes.{Change}
use Rattle.dp_outside.specs.Streams.{AppendsFront}
use Rattle.dp_tree.specs.declared.bundle.Bundle.{Bundle}
use Rattle.dp_polled.specs.declared.polled.Polled as polled_of
use Rattle.dp_wire.specs.Frames.{BeginsNoCommand, packet_frame}
use Rattle.dp_engine.specs.declared.service.ServeEnd.{ServeEnd}
use Rattle.dp_engine.specs.declared.service.ServeEnd.TheVariants.{Stopped, Detached, LinkEnd, ReadFault, WriteFault, OutFault, BadCommandFrame, ByteLimit, Memory}
use Rattle.dp_engine.specs.declared.session.SessionEnd.{SessionEnd}
use Rattle.dp_engine.specs.declared.session.SessionEnd.TheVariants as end
use Rattle.dp_engine.specs.Responses.{init_text}
use Rattle.dp_engine.specs.Served.{ending_after, rest_after}
use Rattle.dp_engine.specs.Service.{IsOver}
use Rattle.dp_engine.specs.Session.{State}
use Rattle.dp_async.specs.declared.arrival.Arrival.{Arrival}
use Rattle.dp_async.specs.declared.service.AsyncServed.{AsyncServed}
use Rattle.dp_async.specs.Heard.{Done, Heard, HeardTo, Situation, byte_limit, bytes_of}

-- the last arrival is without bytes: the input came to its end, or failed
abbrev pub ends_empty : List Arrival → Bool
ends_empty [] = false
ends_empty (a ∷ []) = length a.bytes == 0
ends_empty (a ∷ b ∷ more) = ends_empty (b ∷ more)

-- what was sent, the first packet before all else
abbrev pub all_sent : Bundle → List ℕ → Done → List ℕ
all_sent bundle key done =
    packet_frame (init_text bundle key) ++ flat_map packet_frame done.packets

-- ---- what is read

-- What an input tells: the bytes that it still gives and those that it has given, whether it has
-- said that it is over, the post that they come by, how often it has failed, and how often it was
-- looked at.
pub record Input : Type 0 where
  pub left : Option (List ℕ)
  pub given : Option (List ℕ)
  pub over : Option Bool
  pub post : Option TableId
  pub faults : ℕ
  pub looks : ℕ

abbrev pub input_of : {Q : Type 0} → polled_of.Ghosts Q → Q → Input
input_of q polled = record {
  left = q.left polled;
  given = q.given polled;
  over = q.over polled;
  post = q.post polled;
  faults = q.faults polled;
  looks = q.looks polled;
}

-- its count of faults never falls, and its bytes come by the same post
abbrev pub IsLater : Input → Input → Type 0
IsLater before now = (before.faults ≤ now.faults) × (now.post ≡ before.post)

-- these bytes were read of it, as far as it tells them
pub record Reads (before now : Input) (bytes : List ℕ) : Type 0 where
  pub left : Consumes before.left now.left bytes
  pub given : Appends before.given now.given bytes

-- it has said that it is over, if it tells that
abbrev pub HasSaidOver : Option Bool → Type 0
HasSaidOver None = Unit {0}
HasSaidOver (Some over) = over ≡ true

-- ---- a session that was served

-- why it ended: by a command, by the end or the failure of its input, or by a limit
abbrev pub HeardEndsBy : ServeEnd → List Arrival → Option SessionEnd → List ℕ → Input → Input
    → Type 0
HeardEndsBy Stopped log ended rest before now = IsOver ended × (ends_empty log ≡ false)
HeardEndsBy Detached log ended rest before now =
    (ended ≡ Some end.Detached) × (ends_empty log ≡ false)
HeardEndsBy LinkEnd log ended rest before now =
    (ended ≡ None) × (ends_empty log ≡ true) × IsAtEnd now.left × HasSaidOver now.over
HeardEndsBy ReadFault log ended rest before now =
    (ended ≡ None) × (ends_empty log ≡ true) × Rose before.faults now.faults
    × HasSaidOver now.over
HeardEndsBy (BadCommandFrame offset) log ended rest before now =
    (ended ≡ None) × (ends_empty log ≡ false) × BeginsNoCommand rest
    × (offset + length rest ≡ length (bytes_of log))
HeardEndsBy ByteLimit log ended rest before now =
    (ended ≡ None) × (ends_empty log ≡ false) × (length (bytes_of log) ≡ byte_limit)
HeardEndsBy cut log ended rest before now = ⊥

-- The arrivals of the log led the session to its end. Written on the link and to the program's own
-- output is what was done on the way, with the rest of the program's run, and the program has ended
-- as they say. The log has exactly what was read, and the input was looked at once at each moment
-- at which a continuation went on.
pub record IsHeard (served : AsyncServed) (bundle : Bundle) (bound : ℕ) (key : List ℕ)
    (before now : Input) (sink out : Change) : Type 0 where
  pub done : Done
  pub ended : Option SessionEnd
  pub state : State
  pub rest : List ℕ
  pub heard : HeardTo bundle bound served.log done ended state rest
  pub read : Reads before now (bytes_of served.log)
  pub within : length (bytes_of served.log) ≤ byte_limit
  pub sent : Appends sink.told_before sink.told (all_sent bundle key done)
  pub printed : Appends out.told_before out.told (done.program ++ rest_after ended state)
  pub outcome : served.served.outcome ≡ ending_after ended state
  pub looked : now.looks ≡ before.looks + done.looks
  pub ends : HeardEndsBy served.served.end served.log ended rest before now

-- ---- a session that a fault of a sink, or of memory, has cut short

-- these arrivals led it so far: to a situation, or to its end
abbrev pub HeardUpTo : Bundle → ℕ → List Arrival → Done → Option SessionEnd → State → Type 0
HeardUpTo bundle bound log done ended state =
    ((s : Situation) × Heard bundle bound log done s × (ended ≡ None) × (state ≡ s.state))
    ⊎ ((rest : List ℕ) × HeardTo bundle bound log done ended state rest)

-- what cut it short; unless memory ran out, the log has exactly what was read
abbrev pub HeardCutBy : ServeEnd → List Arrival → Input → Input → Change → Change → Type 0
HeardCutBy WriteFault log before now sink out =
    Rose sink.faults_before sink.faults × Reads before now (bytes_of log)
HeardCutBy OutFault log before now sink out =
    Rose out.faults_before out.faults × Reads before now (bytes_of log)
HeardCutBy Memory log before now sink out = Unit {0}
HeardCutBy whole log before now sink out = ⊥

-- The first arrivals of the log led it so far. What was sent is a front of what that is, and what
-- was printed is one of that with the rest of the program's run.
pub record IsHeardCut (served : AsyncServed) (bundle : Bundle) (bound : ℕ) (key : List ℕ)
    (before now : Input) (sink out : Change) : Type 0 where
  pub front : List Arrival
  pub later : List Arrival
  pub first : served.log ≡ front ++ later
  pub done : Done
  pub ended : Option SessionEnd
  pub state : State
  pub heard : HeardUpTo bundle bound front done ended state
  pub sent : AppendsFront sink.told_before sink.told (all_sent bundle key done)
  pub printed : AppendsFront out.told_before out.told (done.program ++ rest_after ended state)
  pub by : HeardCutBy served.served.end served.log before now sink out

-- every end has its cause
abbrev pub HearsTo : ServeEnd → AsyncServed → Bundle → ℕ → List ℕ → Input → Input → Change → Change
    → Type 0
HearsTo WriteFault served bundle bound key before now sink out =
    IsHeardCut served bundle bound key before now sink out
HearsTo OutFault served bundle bound key before now sink out =
    IsHeardCut served bundle bound key before now sink out
HearsTo Memory served bundle bound key before now sink out =
    IsHeardCut served bundle bound key before now sink out
HearsTo end served bundle bound key before now sink out =
    IsHeard served bundle bound key before now sink out

abbrev pub Hears : AsyncServed → Bundle → ℕ → List ℕ → Input → Input → Change → Change → Type 0
Hears served bundle bound key before now sink out =
    HearsTo served.served.end served bundle bound key before now sink out
