-- What has come of a list of events, where each engine sends what it sends when it is served alone.
use Rattle.std.specs.Prelude.{ℕ, ◌==◌, List, [], length, take, drop, filter, map, fold}
use Rattle.dp_world.specs.Alone.{Engines, alone}
use Rattle.dp_registry.specs.declared.pass.Pass.{Pass}
use Rattle.dp_proxy.specs.declared.events.Act.{Act as ProxyAct}
use Rattle.dp_proxy.specs.declared.events.Act.TheVariants as proxy
use Rattle.dp_lanes.specs.declared.lane.LaneKind.TheVariants.{Up, Down}
use Rattle.dp_proxy.specs.Links.{stream}
use Rattle.dp_proxy.specs.Pasts.{Link, Joined, Past, start, came, lead, acts_of}
use Rattle.dp_events.specs.declared.event.Act.{Act}
use Rattle.dp_events.specs.declared.event.Act.TheVariants.{Ide, Engine, Give, Move, Close}
use Rattle.dp_events.specs.declared.event.Event.{Event}

-- The next bytes of an engine, at most so many: behind those that were read, of what it sends,
-- served alone, for the bytes that its IDE has given.
abbrev pub next_sent : {S E : Type 0} → Engines S E → Link → ℕ → List ℕ
next_sent engines (Joined key pass acts) count =
    take count (drop (length (stream Up acts)) (alone engines key (stream Down acts)))
next_sent engines link count = []

-- what an event brings to the proxy
abbrev pub act_of : {S E : Type 0} → Engines S E → Link → Act → ProxyAct
act_of engines link (Ide host) = proxy.Ide host
act_of engines link (Engine key) = proxy.Engine key
act_of engines link (Give bytes) = proxy.Given bytes
act_of engines link (Move count) = proxy.Moved (next_sent engines link count)
act_of engines link Close = proxy.Closed

abbrev pub followed : {S E : Type 0} → Engines S E → Past → Event → Past
followed engines past e = came past e.link (act_of engines (past.link e.link) e.act)

-- what has come of these events
abbrev pub past_of : {S E : Type 0} → Engines S E → List Event → Past
past_of engines events = fold (followed engines) start events

-- ---- one session by itself

-- what happens on a link
abbrev pub acts_on : ℕ → List Event → List Act
acts_on link events = map (λ e. e.act) (filter (λ e. e.link == link) events)

-- what becomes of a session by what happens on its own link, where there is no other
abbrev pub by_itself : {S E : Type 0} → Engines S E → List ℕ → Pass → List Act → Link
by_itself engines key pass acts =
    fold (λ link act. (lead [] link (act_of engines link act)).link) (Joined key pass []) acts

-- what was given and read there until it ended
abbrev pub alone_on : {S E : Type 0} → Engines S E → List ℕ → Pass → List Act → List ProxyAct
alone_on engines key pass acts = acts_of (by_itself engines key pass acts)
