-- The transcript of a list of events: what each IDE and each engine received, in the order in which
-- they connected.
use Rattle.std.specs.Prelude.{ℕ, if◌then◌else◌, List, [], ◌++◌, length, take, flat_map}
use Rattle.std.specs.Prelude.{codes}
use Rattle.std.specs.Fmt.{decimal}
use Rattle.dp_state.specs.Statuses.{status}
use Rattle.dp_world.specs.Alone.{Engines, alone, own, ending}
use Rattle.dp_registry.specs.declared.pass.Pass.{Pass}
use Rattle.dp_registry.specs.declared.refusal.Refusal.{Refusal}
use Rattle.dp_registry.specs.declared.refusal.Refusal.TheVariants as refusal
use Rattle.dp_wire.specs.Frames.{commands_in, command_frame, packets_in, packet_frame}
use Rattle.dp_lanes.specs.declared.lane.LaneKind.TheVariants.{Up, Down}
use Rattle.dp_proxy.specs.Links.{stream}
use Rattle.dp_proxy.specs.Pasts.{Link, New, Asking, Settled, Joined, Ended, Refused}
use Rattle.dp_proxy.specs.Pasts.{Past}
use Rattle.dp_events.specs.declared.event.Event.{Event}
use Rattle.dp_world.specs.Engines.{past_of}
use Rattle.dp_events.specs.Lists.{hex, makes}

abbrev pub line : List ℕ → List ℕ → List ℕ
line word part = word ++ codes " " ++ part ++ codes "\n"

-- ---- an IDE that asked, and what it was answered

abbrev pub registration : ℕ → List ℕ → List ℕ → List ℕ
registration link host reply =
    line (codes "registration") (decimal link ++ codes " from " ++ host)
    ++ line (codes "reply") (hex reply)

-- ---- an engine that came with a key

abbrev pub session : ℕ → List ℕ → List ℕ → List ℕ
session link key part = line (codes "session") (decimal link ++ codes " key " ++ key ++ part)

-- why it was refused; the others never refuse an engine
abbrev pub reason : Refusal → List ℕ
reason refusal.Unknown = codes "unknown"
reason (refusal.Busy other) = codes "busy " ++ decimal other
reason (refusal.Full events sessions) = codes "full"
reason why = []

-- The whole packets in the first bytes, so many, of what the engine sends, served alone with what
-- its IDE gave.
abbrev pub received : {S E : Type 0} → Engines S E → List ℕ → List ℕ → ℕ → List ℕ
received engines key given read =
    flat_map packet_frame (packets_in (take read (alone engines key given)))

-- What the IDE received, what the engine received, what went to the program's own output, and how
-- the program ended.
abbrev pub served : {S E : Type 0} → Engines S E → List ℕ → List ℕ → ℕ → List ℕ
served engines key given read =
    line (codes "ide") (hex (received engines key given read))
    ++ line (codes "engine") (hex (flat_map command_frame (commands_in given)))
    ++ line (codes "output") (hex (own engines given))
    ++ line (codes "end") (decimal (status (ending engines given)))

abbrev pub session_of : {S E : Type 0} → Engines S E → ℕ → List ℕ → Pass → List ℕ → ℕ → List ℕ
session_of engines link key pass given read =
    session link key (codes " to " ++ pass.host ++ codes ":" ++ decimal pass.port)
    ++ served engines key given read

-- ---- all of them

abbrev pub shown : {S E : Type 0} → Engines S E → ℕ → Link → List ℕ
shown engines link New = []
shown engines link (Asking host heard) = registration link host []
shown engines link (Settled host reply) = registration link host reply
shown engines link (Refused key why) = session link key (codes " refused " ++ reason why)
shown engines link (Joined key pass acts) =
    session_of engines link key pass (stream Down acts) (length (stream Up acts))
shown engines link (Ended key pass acts) =
    session_of engines link key pass (stream Down acts) (length (stream Up acts))

-- where a link is made its lines are written, by all that comes of it
abbrev pub shown_at : {S E : Type 0} → Engines S E → Past → Event → List ℕ
shown_at engines past e =
    if makes e.act then shown engines e.link (past.link e.link) else []

abbrev pub shown_of : {S E : Type 0} → Engines S E → Past → List Event → List ℕ
shown_of engines past events = flat_map (shown_at engines past) events

abbrev pub transcript : {S E : Type 0} → Engines S E → List Event → List ℕ
transcript engines events = shown_of engines (past_of engines events) events
