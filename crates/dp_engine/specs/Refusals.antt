-- Why a command is refused in a session: the codes of DBGp 1.0, "Errors". Which case gives which
-- code, and their order, are this engine's own.
use Rattle.std.specs.Prelude.{ℕ, Bool, true, false, not, List, [], ◌∷◌, Option, Some, None, is_none}
use Rattle.std.specs.Option.{option_map_or}
use Rattle.dp_break.specs.Commands.{breakpoint_refusal}
use Rattle.dp_command.specs.declared.line.Line.{Line}
use Rattle.dp_command.specs.declared.names.CommandName.{CommandName}
use Rattle.dp_command.specs.declared.command.Request.{Request}
use Rattle.dp_command.specs.declared.command.Request.TheVariants.{Session, Breakpoints, Look, Write}
use Rattle.dp_command.specs.declared.command.SessionRequest.{SessionRequest}
use Rattle.dp_command.specs.declared.command.SessionRequest.TheVariants.{FeatureSet}
use Rattle.dp_command.specs.Commands.{request_of}
use Rattle.dp_command.specs.Lines.{line_of}
use Rattle.dp_command.specs.Names.{name_of}
use Rattle.dp_command.specs.Refusals.{coded, fits_row, id_of}
use Rattle.dp_command.specs.declared.errors.Refusal.TheVariants.{Duplicate, Unimplemented, NoId}
use Rattle.dp_command.specs.Tests.{Test, first_code}
use Rattle.dp_features.specs.Features.{is_other_encoding, resolves, setting_named}
use Rattle.dp_packet.specs.declared.error_codes.ErrorCode.{ErrorCode}
use Rattle.dp_packet.specs.declared.error_codes.ErrorCode.TheVariants.{ParseError, InvalidOptions, CommandNotAvailable, EncodingNotSupported}
use Rattle.dp_packet.specs.Parts.{Text}
use Rattle.dp_view_commands.specs.Views.{view_refusal}
use Rattle.dp_write_commands.specs.Responses.{write_refusal}
use Rattle.dp_engine.specs.Session.{State, here, program_of}
use Rattle.dp_engine.specs.States.{allows}

-- it holds of the command that this name names; of no command it does not
abbrev pub of_command : (CommandName → Bool) → Option CommandName → Bool
of_command test name = option_map_or test name false

-- a code that was found by a definition of its own is that of a test that holds
abbrev pub tests_for : Option ErrorCode → List Test
tests_for None = []
tests_for (Some code) = (true, code) ∷ []

-- the tests of a request that is answered from the session
abbrev pub session_tests : SessionRequest → List Test
session_tests (FeatureSet name value) =
    (is_other_encoding name value, EncodingNotSupported)
    ∷ (is_none (setting_named name value), InvalidOptions) ∷ []
session_tests other = []

-- The tests that a command has for itself, by what it asks for. What it shows may be too long for a
-- packet, so its name and id have a part.
abbrev pub own_tests : State → Text → Text → Request → List Test
own_tests state command id (Session r) = session_tests r
own_tests state command id (Breakpoints r) =
    tests_for
    (breakpoint_refusal (resolves state.features) state.bundle (here state) state.breaks r)
own_tests state command id (Look r) =
    tests_for
    (view_refusal state.bundle (here state) state.features (program_of state) command id r)
own_tests state command id (Write r) =
    tests_for (write_refusal state.bundle state.features (program_of state) command id r)

-- the tests of the row of a command, and its own
abbrev pub row_tests : State → Line → CommandName → List Test
row_tests state line name =
    (not (fits_row name line), InvalidOptions)
    ∷ own_tests state line.name (id_of line) (request_of name line)

-- the tests of a line in a session, in their order: the first three are those in which neither the
-- session nor the row of the command has a part
abbrev pub tests : State → Line → List Test
tests state line =
    let name = name_of line.name in
    coded line Duplicate
    ∷ coded line Unimplemented
    ∷ coded line NoId
    ∷ (not (of_command (allows state.phase) name), CommandNotAvailable)
    ∷ option_map_or (row_tests state line) name []

abbrev pub refusal_of_line : State → Option Line → Option ErrorCode
refusal_of_line state None = Some ParseError
refusal_of_line state (Some line) = first_code (tests state line)

-- the code of the first refusal of a command, if it is refused
unfoldable pub refusal : State → List ℕ → Option ErrorCode
refusal state bytes = refusal_of_line state (line_of bytes)
