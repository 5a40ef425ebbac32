-- All that a program writes in a session, and what holds of it in every session.
use Rattle.std.specs.Prelude.{◌≡◌, ◌≢◌, ℕ, ◌<◌, List, [], ◌∷◌, Option, Some, None, slice_index}
use Rattle.dp_tree.specs.declared.bundle.Bundle.{Bundle}
use Rattle.dp_command.specs.declared.command.StreamMode.TheVariants.{Redirect}
use Rattle.dp_meaning.specs.declared.writes.NumberedWrite.{NumberedWrite}
use Rattle.dp_meaning.specs.Trace.{outcome, output}
use Rattle.dp_conversation.specs.Folds.{Reply, replies}
use Rattle.dp_conversation.specs.Growth.{Begins}
use Rattle.dp_state.specs.declared.moments.Outcome.{Outcome}
use Rattle.dp_wire.specs.Frames.{commands_in}
use Rattle.dp_engine.specs.declared.session.SessionEnd.{SessionEnd}
use Rattle.dp_engine.specs.Answers.{answer}
use Rattle.dp_engine.specs.Served.{own_of}
use Rattle.dp_engine.specs.Session.{State, opening, written_between}

-- ---- all output

-- a turn, of which all is kept that the program writes in it, wherever it goes
abbrev pub writing : State → List ℕ → Reply State SessionEnd
writing state bytes =
    let r = answer state bytes in
    record {
      packets = [];
      program = written_between state r.state;
      state = r.state;
      ended = r.ended;
    }

-- all that the program writes with these commands, in order, whether it is shown to the IDE, goes
-- to the program's own output, or both
abbrev pub all_output_with : Bundle → ℕ → List (List ℕ) → List ℕ
all_output_with bundle bound commands = own_of (replies writing (opening bundle bound) commands)

-- the same with the commands among these bytes
abbrev pub all_output : Bundle → ℕ → List ℕ → List ℕ
all_output bundle bound bytes = all_output_with bundle bound (commands_in bytes)

abbrev pub UnlessEnded : Option SessionEnd → Type 0 → Type 0
UnlessEnded (Some end) Later = Unit {0}
UnlessEnded None Later = Later

-- in no turn of these commands does output go to the IDE alone
abbrev pub NeverRedirects : State → List (List ℕ) → Type 0
NeverRedirects state [] = Unit {0}
NeverRedirects state (line ∷ lines) =
    (state.stdout ≢ Redirect)
    × UnlessEnded (answer state line).ended (NeverRedirects (answer state line).state lines)

-- ---- what holds of every session

-- each is a byte
abbrev pub AreBytes : List ℕ → Type 0
AreBytes bytes = (place : ℕ) → slice_index bytes place < 256

-- With these writes the program writes this and ends so; one that was killed has written a front of
-- what it writes.
abbrev pub IsRunWith : Bundle → ℕ → List NumberedWrite → List ℕ → Option Outcome → Type 0
IsRunWith bundle bound writes written (Some o) =
    (written ≡ output bundle bound writes) × (o ≡ outcome bundle bound writes)
IsRunWith bundle bound writes written None = Begins written (output bundle bound writes)
