-- What replies show: the program's run with the writes that were accepted, where the session
-- stands.
use Rattle.std.specs.Prelude.{◌≡◌, ◌≢◌, ℕ, ◌<◌, List, Some, None, Ok}
use Rattle.dp_tree.specs.declared.bundle.Bundle.{Bundle}
use Rattle.dp_command.specs.declared.command.Command.{Command}
use Rattle.dp_command.specs.declared.command.LookRequest.{LookRequest}
use Rattle.dp_command.specs.declared.command.Request.TheVariants.{Write}
use Rattle.dp_command.specs.declared.command.WriteRequest.{WriteRequest}
use Rattle.dp_command.specs.declared.line.Line.{Line}
use Rattle.dp_command.specs.Commands.{command_of}
use Rattle.dp_command.specs.Lines.{line_of}
use Rattle.dp_meaning.specs.declared.writes.NumberedWrite.{NumberedWrite}
use Rattle.dp_meaning.specs.declared.writes.Write.{Write as ProgramWrite}
use Rattle.dp_meaning.specs.Trace.{now, program_trace}
use Rattle.dp_state.specs.declared.state.State.{State as Program}
use Rattle.dp_state.specs.States.{opening as first_state}
use Rattle.dp_view_commands.specs.Views.{view_response}
use Rattle.dp_write_commands.specs.Requests.{requested_write}
use Rattle.dp_write_commands.specs.Responses.{write_response}
use Rattle.dp_engine.specs.declared.states.Phase.{Phase}
use Rattle.dp_engine.specs.declared.states.Phase.TheVariants.{Starting, Break, Stopping}
use Rattle.dp_engine.specs.Answers.{Turn, with_write}
use Rattle.dp_engine.specs.Refusals.{refusal}
use Rattle.dp_engine.specs.Session.{State, here, program_of}

-- ---- where a session stands

-- in the run with these writes: before its first moment, at this moment and after the writes of
-- that, or at its end
abbrev pub IsInRunAt : Phase → Bundle → ℕ → List NumberedWrite → ℕ → Program → Type 0
IsInRunAt Starting bundle bound writes moment program =
    (moment ≡ 0) × (program ≡ first_state bundle)
IsInRunAt Break bundle bound writes moment program =
    (0 < moment) × (now bundle bound writes moment ≡ Some program)
IsInRunAt Stopping bundle bound writes moment program =
    program ≡ (program_trace bundle bound writes).state

-- in the run of this program within this bound, with the writes that it has accepted
pub record IsInRun (bundle : Bundle) (bound : ℕ) (state : State) : Type 0 where
  pub of : state.bundle ≡ bundle
  pub within : state.bound ≡ bound
  pub by : IsInRunAt state.phase bundle bound state.writes state.moment (program_of state)

-- ---- what is answered there

-- these bytes are this command on this line, and it is not refused
pub record IsTaken (state : State) (bytes : List ℕ) (line : Line) (command : Command) : Type 0 where
  pub spells : line_of bytes ≡ Some line
  pub asks : command_of line ≡ Some command
  pub passes : refusal state bytes ≡ None

-- it asks for this look at the program: the response is what is seen of the program's state, and
-- nothing changes
pub record IsShown (state : State) (line : Line) (command : Command) (look : LookRequest) (t : Turn)
    : Type 0 where
  pub response : view_response state.bundle (here state) state.features (program_of state) line.name
      command.id look ≡ Ok t.response
  pub stays : t.next ≡ state

-- It asks for this write: the response is that to the write in the program's state, and the write
-- is kept, at the moment where the session stands and after those before it.
pub record IsAccepted (state : State) (line : Line) (command : Command) (asked : WriteRequest)
    (t : Turn) : Type 0 where
  pub write : ProgramWrite
  pub requested : requested_write (program_of state) asked ≡ Ok write
  pub response : write_response state.bundle state.features (program_of state) line.name command.id
      asked ≡ Ok t.response
  pub kept : t.next ≡ with_write write state

-- these bytes are no command that writes, or a refused one
abbrev pub WritesNothing : State → List ℕ → Type 0
WritesNothing state bytes =
    (line : Line) (command : Command) → IsTaken state bytes line command
    → (asked : WriteRequest) → command.request ≢ Write asked
