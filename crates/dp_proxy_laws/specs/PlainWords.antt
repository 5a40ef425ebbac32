-- What the IDE of a session has given and how much was read of its engine, in plain words: by what
-- happens on its link, in its order, and by nothing else.
use Rattle.std.specs.Prelude.{◌≡◌, ℕ, ◌+◌, min, List, [], ◌∷◌, ◌++◌, length, flat_map}
use Rattle.dp_registry.specs.declared.pass.Pass.{Pass}
use Rattle.dp_wire.specs.Frames.{command_frame, commands_in, packets_in}
use Rattle.dp_lanes.specs.declared.lane.LaneKind.TheVariants.{Up, Down}
use Rattle.dp_proxy.specs.Links.{stream, all_handed}
use Rattle.dp_events.specs.declared.event.Act.{Act}
use Rattle.dp_events.specs.declared.event.Act.TheVariants.{Ide, Engine, Give, Move, Close}
use Rattle.dp_world.specs.Alone.{Engines, alone, answers_to}
use Rattle.dp_world.specs.Engines.{alone_on}
use Rattle.dp_world.specs.Transcript.{received}

-- What an engine sends, served alone with these bytes, is whole packets: those of its texts. Of the
-- engines of dp_engine dp_session_laws says so (`alone_is_whole_packets`).
abbrev pub SendsPackets : {S E : Type 0} → Engines S E → List ℕ → List ℕ → Type 0
SendsPackets engines key bytes =
    packets_in (alone engines key bytes)
    ≡ engines.init key ∷ (answers_to engines (commands_in bytes)).packets

-- all that the IDE gives before the link closes
abbrev pub given_on : List Act → List ℕ
given_on [] = []
given_on (Give bytes ∷ acts) = bytes ++ given_on acts
given_on (Move count ∷ acts) = given_on acts
given_on (Close ∷ acts) = []
given_on (Ide host ∷ acts) = given_on acts
given_on (Engine other ∷ acts) = given_on acts

-- How much is read of the engine before the link closes, where so much was given and read before:
-- each `move` reads as much as it asks for of what the engine, served alone with what was given so
-- far, has sent.
abbrev pub read_on : {S E : Type 0} → Engines S E → List ℕ → List ℕ → ℕ → List Act → ℕ
read_on engines key given read [] = read
read_on engines key given read (Give bytes ∷ acts) =
    read_on engines key (given ++ bytes) read acts
read_on engines key given read (Move count ∷ acts) =
    read_on engines key given (min (read + count) (length (alone engines key given))) acts
read_on engines key given read (Close ∷ acts) = read
read_on engines key given read (Ide host ∷ acts) = read_on engines key given read acts
read_on engines key given read (Engine other ∷ acts) =
    read_on engines key given read acts

-- The session is told so: what was given and read until it ended; and what was handed out of it to
-- the IDE and to the engine.
pub record IsPlain {S E : Type 0} (engines : Engines S E) (key : List ℕ) (pass : Pass)
    (acts : List Act) : Type 0 where
  pub given : stream Down (alone_on engines key pass acts) ≡ given_on acts
  pub read : length (stream Up (alone_on engines key pass acts))
      ≡ read_on engines key [] 0 acts
  pub handed : all_handed Up (alone_on engines key pass acts)
      ≡ received engines key (given_on acts) (read_on engines key [] 0 acts)
  pub commands : all_handed Down (alone_on engines key pass acts)
      ≡ flat_map command_frame (commands_in (given_on acts))
