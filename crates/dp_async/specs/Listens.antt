-- What a session that listens answers beyond one that does not: a command `break`, and what is told
-- of it as a feature. DBGp 1.0, "break", "feature_get".
use Rattle.std.specs.Prelude.{Bool, true, false, not, ◌&&◌, ◌||◌, ◌==◌, List, [], ◌∷◌, Option, Some, None, codes, if◌then◌else◌, is_none}
use Rattle.std.specs.List.{list_all}
use Rattle.std.specs.Str.{bytes_eq}
use Rattle.dp_command.specs.declared.errors.Refusal.TheVariants.{Duplicate, NoId}
use Rattle.dp_command.specs.declared.line.Line.{Line}
use Rattle.dp_command.specs.declared.names.CommandName.{CommandName}
use Rattle.dp_command.specs.declared.names.CommandName.TheVariants.{FeatureGet, Status}
use Rattle.dp_command.specs.Letters as letter
use Rattle.dp_command.specs.Options.{text_given}
use Rattle.dp_command.specs.Refusals.{coded, fits_row}
use Rattle.dp_command.specs.Tests.{Test, first_code}
use Rattle.dp_packet.specs.declared.error_codes.ErrorCode.{ErrorCode}
use Rattle.dp_packet.specs.declared.error_codes.ErrorCode.TheVariants.{CommandNotAvailable, InvalidOptions}
use Rattle.dp_packet.specs.declared.packet.Response.{Response}
use Rattle.dp_packet.specs.Parts.{Text}
use Rattle.dp_engine.specs.Answers.{command_in, id_in}
use Rattle.dp_engine.specs.Responses.{fault_response, feature_response, status_response, success_response}

-- ---- the commands that a running program hears

-- the line's command has this name
abbrev pub is_named : Text → Option Line → Bool
is_named name None = false
is_named name (Some line) = bytes_eq name line.name

abbrev pub asks_to_break : Option Line → Bool
asks_to_break line = is_named (codes "break") line

abbrev pub asks_for_status : Option Line → Bool
asks_for_status line = is_named (codes "status") line

-- it is one of the two that a running program hears
abbrev pub is_heard : Option Line → Bool
is_heard line = asks_to_break line || asks_for_status line

-- a `break` has no option but its id, and no payload
abbrev pub fits_break : Line → Bool
fits_break line = list_all (λ o. o.0 == letter.i) line.options && is_none line.payload

-- the tests of a `break`, in their order: it is there only while the program runs
abbrev pub break_tests : Bool → Line → List Test
break_tests runs line =
    coded line Duplicate ∷ coded line NoId ∷ (not runs, CommandNotAvailable)
    ∷ (not (fits_break line), InvalidOptions) ∷ []

-- the tests of a command that is there always: it fits its row
abbrev pub row_tests : CommandName → Line → List Test
row_tests name line =
    coded line Duplicate ∷ coded line NoId ∷ (not (fits_row name line), InvalidOptions) ∷ []

abbrev pub break_refusal : Bool → Option Line → Option ErrorCode
break_refusal runs None = None
break_refusal runs (Some line) = first_code (break_tests runs line)

abbrev pub status_refusal : Option Line → Option ErrorCode
status_refusal None = None
status_refusal (Some line) = first_code (row_tests Status line)

-- this response, or the refusal where there is one
abbrev pub unless_refused : Option ErrorCode → Option Line → Response → Response
unless_refused None line r = r
unless_refused (Some code) line r = fault_response (command_in line) (id_in line) code

-- what a `break` is answered
abbrev pub break_response : Bool → Option Line → Response
break_response runs line =
    unless_refused (break_refusal runs line) line
    (success_response (command_in line) (id_in line) true)

-- what a `status` is answered while the program runs
abbrev pub running_response : Option Line → Response
running_response line =
    unless_refused (status_refusal line) line
    (status_response (command_in line) (id_in line) (codes "running") (codes "ok"))

-- ---- while no continuation is on its way

-- what is told of a feature that only a session that listens has: `supports_async` is 1, and the
-- command `break` is there
abbrev pub listening_feature : Option Line → Text → Option Response
listening_feature line name =
    if bytes_eq (codes "supports_async") name
    then Some (feature_response (command_in line) (id_in line) (codes "supports_async") (codes "1")
    (Some (codes "1")))
    else if bytes_eq (codes "break") name
    then Some (feature_response (command_in line) (id_in line) (codes "break") (codes "1") None)
    else None

-- the response to a `feature_get` that is not refused and asks for one of these
abbrev pub own_feature : Line → Option Response
own_feature line =
    if bytes_eq (codes "feature_get") line.name && is_none (first_code (row_tests FeatureGet line))
    then listening_feature (Some line) (text_given letter.n line.options) else None

-- The response that only a session that listens gives to a line while no continuation is on its
-- way: to a `break`, and to a `feature_get` of these features. All else is answered as in every
-- session.
abbrev pub own_response : Option Line → Option Response
own_response None = None
own_response (Some line) =
    if asks_to_break (Some line) then Some (break_response false (Some line)) else own_feature line
