-- What an engine in memory stands for.
use Rattle.std.specs.Prelude.{◌≡◌, ℕ, ◌≤◌, List, length, take, flat_map}
use Rattle.dp_world.specs.Alone.{Engines, alone_with, answers_to, ending, own}
use Rattle.dp_wire.specs.Frames.{command_frame, commands_in, packet_frame, packets_in}
use Rattle.dp_lanes.specs.declared.lane.LaneKind.TheVariants.{Up, Down}
use Rattle.dp_proxy.specs.declared.events.Act.{Act}
use Rattle.dp_proxy.specs.Links.{stream}
use Rattle.dp_world.specs.declared.engine.Ended.{Ended}
use Rattle.dp_world.specs.declared.engine.Engine.{Engine}
use Rattle.dp_world.specs.Transcript as whole

-- it has taken these commands
pub record Serves {S E : Type 0} (engines : Engines S E) (key : List ℕ) (lines : List (List ℕ))
    (engine : Engine S E) : Type 0 where
  pub sent : engine.sent.items ≡ alone_with engines key lines
  pub own : engine.own.items ≡ (answers_to engines lines).program
  pub session : engine.session ≡ (answers_to engines lines).state
  pub ended : engine.ended ≡ (answers_to engines lines).ended
  pub given : engine.given.items ≡ flat_map command_frame lines

-- The engine of a session in which this has happened: it was given the whole commands that came,
-- what was read is a front of what it has sent, and of that the whole packets were received.
pub record IsEngineAfter {S E : Type 0} (engines : Engines S E) (key : List ℕ) (acts : List Act)
    (engine : Engine S E) : Type 0 where
  pub serves : Serves engines key (commands_in (stream Down acts)) engine
  pub up : stream Up acts ≡ take (length (stream Up acts)) engine.sent.items
  pub received : engine.received ≡ length (flat_map packet_frame (packets_in (stream Up acts)))
  pub within : length (stream Up acts) ≤ engine.read
  pub read : engine.read ≤ length engine.sent.items

-- no more was read of it
abbrev pub IsReadFor : {S E : Type 0} → List Act → Engine S E → Type 0
IsReadFor acts engine = engine.read ≡ length (stream Up acts)

-- the end of a session is that of the engine, served alone with what its IDE has given, of which so
-- much was read
pub record Shows {S E : Type 0} (engines : Engines S E) (key given : List ℕ) (read : ℕ)
    (end : Ended) : Type 0 where
  pub received : end.received.items ≡ whole.received engines key given read
  pub commands : end.given.items ≡ flat_map command_frame (commands_in given)
  pub output : end.own.items ≡ own engines given
  pub outcome : end.outcome ≡ ending engines given
