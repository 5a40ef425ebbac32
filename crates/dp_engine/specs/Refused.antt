-- What is answered to a command that is refused, and to one that is not: DBGp 1.0, "Errors".
use Rattle.std.specs.Prelude.{◌≡◌, ℕ, List, [], ◌∷◌, ◌++◌, Option, Some, None}
use Rattle.dp_command.specs.Lines.{line_of}
use Rattle.dp_packet.specs.declared.error_codes.ErrorCode.{ErrorCode}
use Rattle.dp_packet.specs.declared.packet.Response.{Response}
use Rattle.dp_packet.specs.Parts.{Text}
use Rattle.dp_conversation.specs.Folds.{Reply}
use Rattle.dp_engine.specs.declared.session.SessionEnd.{SessionEnd}
use Rattle.dp_engine.specs.Answers.{command_in, id_in}
use Rattle.dp_engine.specs.Responses.{fault_in, fault_response, response_text}
use Rattle.dp_engine.specs.Session.{State}

-- the text of the error packet that answers these bytes with a code
abbrev pub error_text : List ℕ → ErrorCode → Text
error_text bytes code =
    response_text (fault_response (command_in (line_of bytes)) (id_in (line_of bytes)) code)

-- one error packet, and nothing else: the session knows what it knew, nothing is printed, and it
-- goes on
abbrev pub error_alone : State → List ℕ → ErrorCode → Reply State SessionEnd
error_alone state bytes code =
    record { packets = error_text bytes code ∷ []; program = []; state = state; ended = None }

-- the last packet is a response that tells no error
pub record EndsWell (packets : List Text) : Type 0 where
  pub before : List Text
  pub response : Response
  pub last : packets ≡ before ++ response_text response ∷ []
  pub no_error : fault_in response.body ≡ None

-- what the reply is, by the code of the first refusal of these bytes, if they are refused
abbrev pub IsAnsweredBy : Option ErrorCode → State → List ℕ → Reply State SessionEnd → Type 0
IsAnsweredBy (Some code) state bytes reply = reply ≡ error_alone state bytes code
IsAnsweredBy None state bytes reply = EndsWell reply.packets
