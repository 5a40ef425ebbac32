-- A session that is served alone: what commands, up to the first that ends the session, come to. Of
-- bytes it is what the commands among them come to.
use Rattle.std.specs.Prelude.{ℕ, List, [], ◌++◌, Option, Some, None}
use Rattle.std.specs.List.{flat_map}
use Rattle.dp_tree.specs.declared.bundle.Bundle.{Bundle}
use Rattle.dp_meaning.specs.declared.writes.NumberedWrite.{NumberedWrite}
use Rattle.dp_conversation.specs.Folds.{Reply, replies}
use Rattle.dp_state.specs.declared.moments.Outcome.{Outcome}
use Rattle.dp_wire.specs.Frames.{commands_in, packet_frame}
use Rattle.dp_engine.specs.declared.session.SessionEnd.{SessionEnd}
use Rattle.dp_engine.specs.declared.session.SessionEnd.TheVariants.{Finished, Killed, Detached}
use Rattle.dp_engine.specs.Answers.{answer}
use Rattle.dp_engine.specs.Responses.{init_text}
use Rattle.dp_engine.specs.Session.{State, opening, outcome_of, unwritten}

-- ---- with these commands

-- what they lead to
abbrev pub answers_to : Bundle → ℕ → List (List ℕ) → Reply State SessionEnd
answers_to bundle bound commands = replies answer (opening bundle bound) commands

-- what the engine sends to an IDE that sends them
abbrev pub alone_with : Bundle → ℕ → List ℕ → List (List ℕ) → List ℕ
alone_with bundle bound key commands =
    packet_frame (init_text bundle key)
    ++ flat_map packet_frame (answers_to bundle bound commands).packets

-- what the program writes once the session is over: nothing where it was killed
abbrev pub rest_after : Option SessionEnd → State → List ℕ
rest_after (Some Killed) state = []
rest_after (Some Detached) state = unwritten state
rest_after (Some (Finished o)) state = unwritten state
rest_after None state = unwritten state

-- what goes to the program's own output, with the rest of it after the session
abbrev pub own_of : Reply State SessionEnd → List ℕ
own_of r = r.program ++ rest_after r.ended r.state

abbrev pub own_with : Bundle → ℕ → List (List ℕ) → List ℕ
own_with bundle bound commands = own_of (answers_to bundle bound commands)

-- how the program ends; not at all where it was killed
abbrev pub ending_after : Option SessionEnd → State → Option Outcome
ending_after (Some Killed) state = None
ending_after (Some Detached) state = Some (outcome_of state)
ending_after (Some (Finished o)) state = Some (outcome_of state)
ending_after None state = Some (outcome_of state)

abbrev pub ending_of : Reply State SessionEnd → Option Outcome
ending_of r = ending_after r.ended r.state

abbrev pub ending_with : Bundle → ℕ → List (List ℕ) → Option Outcome
ending_with bundle bound commands = ending_of (answers_to bundle bound commands)

-- the writes that were accepted
abbrev pub writes_with : Bundle → ℕ → List (List ℕ) → List NumberedWrite
writes_with bundle bound commands = (answers_to bundle bound commands).state.writes

-- ---- with the commands among these bytes

abbrev pub answers : Bundle → ℕ → List ℕ → Reply State SessionEnd
answers bundle bound bytes = answers_to bundle bound (commands_in bytes)

abbrev pub alone : Bundle → ℕ → List ℕ → List ℕ → List ℕ
alone bundle bound key bytes = alone_with bundle bound key (commands_in bytes)

abbrev pub own : Bundle → ℕ → List ℕ → List ℕ
own bundle bound bytes = own_with bundle bound (commands_in bytes)

abbrev pub ending : Bundle → ℕ → List ℕ → Option Outcome
ending bundle bound bytes = ending_with bundle bound (commands_in bytes)

abbrev pub writes : Bundle → ℕ → List ℕ → List NumberedWrite
writes bundle bound bytes = writes_with bundle bound (commands_in bytes)
