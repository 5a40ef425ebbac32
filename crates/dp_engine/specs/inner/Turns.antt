-- A turn as the code makes it.
use Rattle.std.specs.Prelude.{◌≡◌, ℕ, true, List, [], ◌∷◌, ◌++◌, Option, Some, None, IfSome, Result, Ok, Err}
use Rattle.dp_command.specs.declared.command.Command.{Command}
use Rattle.dp_command.specs.declared.errors.CommandError.{CommandError}
use Rattle.dp_command.specs.declared.errors.CommandError.TheVariants.{Code, Memory}
use Rattle.dp_command.specs.declared.command.StreamMode.{StreamMode}
use Rattle.dp_command.specs.declared.line.Line.{Line}
use Rattle.dp_command.specs.declared.command.Request.{Request}
use Rattle.dp_command.specs.declared.command.Request.TheVariants.{Write}
use Rattle.dp_command.specs.Commands.{command_of}
use Rattle.dp_command.specs.Names.{name_of}
use Rattle.dp_command.specs.Refusals.{id_of}
use Rattle.dp_command.specs.Tests.{first_code}
use Rattle.dp_packet.specs.declared.error_codes.ErrorCode.{ErrorCode}
use Rattle.dp_packet.specs.declared.packet.Notify.{Notify}
use Rattle.dp_packet.specs.declared.packet.Response.{Response}
use Rattle.dp_packet.specs.Parts.{Text}
use Rattle.dp_conversation.specs.declared.responder.Answer.{Answer}
use Rattle.dp_engine.specs.declared.session.SessionEnd.{SessionEnd}
use Rattle.dp_engine.specs.declared.replies.Turn.{Turn as Made}
use Rattle.dp_engine.specs.declared.states.Phase.{Phase}
use Rattle.dp_engine.specs.declared.states.Phase.TheVariants.{Break}
use Rattle.dp_engine.specs.Answers.{Turn, news, performed, refused, to_ide, to_program}
use Rattle.dp_engine.specs.Refusals.{of_command, own_tests, refusal_of_line}
use Rattle.dp_engine.specs.Responses.{response_text}
use Rattle.dp_engine.specs.Session.{State}
use Rattle.dp_engine.specs.States.{allows}
use Rattle.dp_engine.specs.inner.Sizes.{Fits, HasRoom}

-- a turn that tells this response behind these news, and ends the session so; packets can be made
-- of them
pub record Tells (before : Option Notify) (response : Response) (ended : Option SessionEnd)
    (made : Made) : Type 0 where
  pub before_it : made.before ≡ before
  pub response_is : made.response ≡ response
  pub ends : made.ended ≡ ended
  pub fits : Fits made.response
  pub room : IfSome made.before HasRoom

-- one that tells it alone
abbrev pub Responds : Response → Option SessionEnd → Made → Type 0
Responds response ended made = Tells None response ended made

-- a turn that is the one asked for, after which the session knows this
pub record IsTurn (asked : Turn) (state : State) (made : Made) : Type 0 where
  pub responds : Tells asked.before asked.response asked.ended made
  pub next : state ≡ asked.next

-- what is sent of a turn in which this was written
pub record IsSent (mode : StreamMode) (written : List ℕ) (made : Made) (sent : Answer SessionEnd)
    : Type 0 where
  pub packets : sent.packets
      ≡ to_ide mode written ++ news made.before ++ response_text made.response ∷ []
  pub program : sent.program ≡ to_program mode written
  pub ended : sent.ended ≡ made.ended

-- what a command asks for is done, if it has no refusal of its own
abbrev pub answered_by : Option ErrorCode → Text → Text → Request → State → Turn
answered_by (Some code) command id r state = refused command id code state
answered_by None command id r state = performed command id r state

abbrev pub answered : Text → Text → Request → State → Turn
answered command id r state =
    answered_by (first_code (own_tests state command id r)) command id r state

-- a write is asked for in a break alone
abbrev pub IsTimely : Phase → Request → Type 0
IsTimely phase (Write r) = phase ≡ Break
IsTimely phase other = Unit {0}

-- what a line asks for that has at most a refusal of its own, or why it is refused
abbrev pub ReadsCommand : State → Line → Result Command CommandError → Type 0
ReadsCommand state line (Ok command) =
    (refusal_of_line state (Some line)
    ≡ first_code (own_tests state line.name (id_of line) command.request))
    × (command_of line ≡ Some command)
    × (of_command (allows state.phase) (name_of line.name) ≡ true)
ReadsCommand state line (Err (Code code)) = refusal_of_line state (Some line) ≡ Some code
ReadsCommand state line (Err Memory) = Unit {0}

-- the same in every session that is in this state
abbrev pub ReadsCommandIn : Phase → Line → Result Command CommandError → Type 0
ReadsCommandIn phase line asked = (state : State) → state.phase ≡ phase
    → ReadsCommand state line asked
