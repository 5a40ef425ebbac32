-- The engines of a program, and what one of them sends when it is served alone: where there is one
-- engine, one IDE and no proxy.
use Rattle.std.specs.Prelude.{ℕ, List, ◌++◌, Option}
use Rattle.std.specs.List.{flat_map}
use Rattle.dp_conversation.specs.Folds.{Reply, replies}
use Rattle.dp_state.specs.declared.moments.Outcome.{Outcome}
use Rattle.dp_wire.specs.Frames.{commands_in, packet_frame}

-- What the engines of a program have in common, whose sessions know an S and are ended by an E: the
-- text of the first packet, by the key; what a session knows then; what a command leads to; what
-- the program writes once the session is over; and how it ends, if it does.
pub record Engines (S E : Type 0) : Type 0 where
  pub init : List ℕ → List ℕ
  pub opening : S
  pub step : S → List ℕ → Reply S E
  pub rest_after : Option E → S → List ℕ
  pub ending_after : Option E → S → Option Outcome

-- ---- with these commands, up to the first that ends the session

-- what they lead to
abbrev pub answers_to : {S E : Type 0} → Engines S E → List (List ℕ) → Reply S E
answers_to engines commands = replies engines.step engines.opening commands

-- what the engine sends to an IDE that sends them
abbrev pub alone_with : {S E : Type 0} → Engines S E → List ℕ → List (List ℕ) → List ℕ
alone_with engines key commands =
    packet_frame (engines.init key) ++ flat_map packet_frame (answers_to engines commands).packets

-- what goes to the program's own output, with the rest of it after the session
abbrev pub own_of : {S E : Type 0} → Engines S E → Reply S E → List ℕ
own_of engines r = r.program ++ engines.rest_after r.ended r.state

-- how the program ends; not at all where it was killed
abbrev pub ending_of : {S E : Type 0} → Engines S E → Reply S E → Option Outcome
ending_of engines r = engines.ending_after r.ended r.state

-- ---- with the commands among these bytes

abbrev pub alone : {S E : Type 0} → Engines S E → List ℕ → List ℕ → List ℕ
alone engines key bytes = alone_with engines key (commands_in bytes)

abbrev pub own : {S E : Type 0} → Engines S E → List ℕ → List ℕ
own engines bytes = own_of engines (answers_to engines (commands_in bytes))

abbrev pub ending : {S E : Type 0} → Engines S E → List ℕ → Option Outcome
ending engines bytes = ending_of engines (answers_to engines (commands_in bytes))
