-- What the breakpoint commands do with the breakpoints that are held, why one is refused, and what
-- is answered: DBGp 1.0, "breakpoint_set", "breakpoint_get", "breakpoint_update",
-- "breakpoint_remove", "breakpoint_list".
use Rattle.std.specs.Prelude.{ℕ, nat_le, Bool, true, false, ◌&&◌, List, [], ◌∷◌, ◌++◌, length, map, take_while, Option, Some, None, is_none, is_some, unwrap_or, codes, decimal}
use Rattle.std.specs.Option.{option_map_or, option_or}
use Rattle.dp_break.specs.declared.breakpoint.Breakpoint.{Breakpoint}
use Rattle.dp_break.specs.Changes.{added, held_as, with_change, with_new, without}
use Rattle.dp_break.specs.StopRule.{each_in}
use Rattle.dp_break.specs.Refusals.{change_kept, code_if, plain_refusal, request_refusal}
use Rattle.dp_break.specs.Tables.{Table}
use Rattle.dp_command.specs.declared.command.BreakpointAction.{BreakpointAction}
use Rattle.dp_command.specs.declared.command.BreakpointAction.TheVariants.{Get, Remove}
use Rattle.dp_command.specs.declared.command.BreakpointRequest.{BreakpointRequest}
use Rattle.dp_command.specs.declared.command.BreakpointRequest.TheVariants as request
use Rattle.dp_command.specs.declared.command.BreakpointSet.{BreakpointSet}
use Rattle.dp_command.specs.declared.command.BreakpointUpdate.{BreakpointUpdate}
use Rattle.dp_command.specs.Tests.{first_code}
use Rattle.dp_packet.specs.declared.error_codes.ErrorCode.{ErrorCode}
use Rattle.dp_packet.specs.declared.error_codes.ErrorCode.TheVariants.{NoSuchBreakpoint}
use Rattle.dp_packet.specs.Messages.{code_in}
use Rattle.dp_packet.specs.Breakpoints.{resolved_attribute, state_name}
use Rattle.dp_packet.specs.declared.packet.Body.TheVariants as body
use Rattle.dp_packet.specs.declared.packet.BreakLine.{BreakLine}
use Rattle.dp_packet.specs.declared.packet.Packet.TheVariants as packet
use Rattle.dp_packet.specs.declared.packet.Response.{Response}
pub use Rattle.dp_packet.specs.Packets.{response}
use Rattle.dp_packet.specs.Parts.{Text}
use Rattle.dp_packet.specs.Text.{text}
use Rattle.dp_tree.specs.declared.bundle.Bundle.{Bundle}
use Rattle.dp_wire.specs.Frames.{packet_limit}
use Rattle.dp_break.specs.Updates.{change, change_tests}
use Rattle.dp_file_uris.specs.Files.{is_uri}
use Rattle.dp_break.specs.Requests as setting
use Rattle.dp_break.specs.Shown.{breakpoint_line}
use Rattle.dp_break.specs.Words.{meant, number_in, state_named}

-- ---- refusals

-- a new breakpoint, asked for at a moment in this file: by its words and its file, then by what is
-- held, its line and expression
abbrev pub set_refusal : Bool → Bundle → ℕ → Table → BreakpointSet → Option ErrorCode
set_refusal resolve bundle here t set =
    option_or (setting.refusal bundle set)
    (request_refusal resolve bundle t (setting.request bundle here set))

-- there is no breakpoint of this id
abbrev pub id_refusal : Table → ℕ → Option ErrorCode
id_refusal t id = code_if (is_none (held_as t.held id)) NoSuchBreakpoint

-- a change of a breakpoint: by its words, then by its line
abbrev pub change_refused : Bool → Bundle → BreakpointUpdate → Breakpoint → Option ErrorCode
change_refused resolve bundle update b =
    option_or (first_code (change_tests b.kind update))
    (code_in (change_kept resolve bundle (change update) b))

abbrev pub update_refusal : Bool → Bundle → Table → BreakpointUpdate → Option ErrorCode
update_refusal resolve bundle t update =
    option_map_or (change_refused resolve bundle update) (held_as t.held update.id)
    (Some NoSuchBreakpoint)

-- the code with which a command is refused at a moment in this file, if it is
abbrev pub breakpoint_refusal :
    Bool → Bundle → ℕ → Table → BreakpointRequest → Option ErrorCode
breakpoint_refusal resolve bundle here t (request.Set set) = set_refusal resolve bundle here t set
breakpoint_refusal resolve bundle here t (request.One action id) = id_refusal t id
breakpoint_refusal resolve bundle here t (request.Update update) =
    update_refusal resolve bundle t update
breakpoint_refusal resolve bundle here t request.List = None

-- the same, where it needs no look at what an expression says
abbrev pub plain_set_refusal : Bool → Bundle → ℕ → Table → BreakpointSet → Option ErrorCode
plain_set_refusal resolve bundle here t set =
    option_or (setting.refusal bundle set) (plain_refusal resolve bundle t
    (setting.request bundle here set))

abbrev pub plain_breakpoint_refusal :
    Bool → Bundle → ℕ → Table → BreakpointRequest → Option ErrorCode
plain_breakpoint_refusal resolve bundle here t (request.Set set) =
    plain_set_refusal resolve bundle here t set
plain_breakpoint_refusal resolve bundle here t other =
    breakpoint_refusal resolve bundle here t other

-- a file is named by its URI, which is to be decoded
abbrev pub names_uri : BreakpointRequest → Bool
names_uri (request.Set set) = option_map_or is_uri set.file false
names_uri other = false

-- ---- what is held

abbrev pub set_table : Bool → Bundle → ℕ → BreakpointSet → Table → Table
set_table resolve bundle here set t =
    with_new (added resolve bundle t (setting.request bundle here set)) t

abbrev pub acted_on : BreakpointAction → ℕ → Table → Table
acted_on Get id t = t
acted_on Remove id t = without id t

-- what is held after a command that is not refused
abbrev pub breakpoint_table : Bool → Bundle → ℕ → BreakpointRequest → Table → Table
breakpoint_table resolve bundle here (request.Set set) t = set_table resolve bundle here set t
breakpoint_table resolve bundle here (request.One action id) t = acted_on action id t
breakpoint_table resolve bundle here (request.Update update) t =
    with_change resolve bundle update.id (change update) t
breakpoint_table resolve bundle here other t = t

-- ---- responses

abbrev pub bare_response : Text → Text → Response
bare_response command id = response command id [] body.Nothing

-- the state and the id of a new breakpoint, and whether it is resolved
abbrev pub set_response : Text → Text → Bool → ℕ → Bool → Response
set_response command id enabled number resolved =
    response command id
    ((codes "state", state_name enabled) ∷ (codes "id", decimal number)
    ∷ resolved_attribute resolved)
    body.Nothing

abbrev pub lines_response : Text → Text → List BreakLine → Response
lines_response command id lines = response command id [] (body.Breakpoints lines)

-- these breakpoints fit in a packet
abbrev pub lines_fit : Text → Text → List BreakLine → Bool
lines_fit command id lines =
    nat_le (length (text (packet.Response (lines_response command id lines)))) packet_limit

-- the first of these breakpoints, up to the one with which they would not fit
abbrev pub listed : Text → Text → List BreakLine → List BreakLine
listed command id lines =
    map (λ line. line.here) (take_while (λ line. lines_fit command id (line.past ++ line.here ∷ []))
    (each_in lines))

-- a breakpoint that was found
abbrev pub found_line : Bundle → Option Breakpoint → List BreakLine
found_line bundle found = option_map_or (λ b. breakpoint_line bundle b ∷ []) found []

abbrev pub action_response : Bundle → Text → Text → BreakpointAction → Option Breakpoint → Response
action_response bundle command id Get found = lines_response command id (found_line bundle found)
action_response bundle command id Remove found = bare_response command id

-- what is answered to a command that is not refused, by what was held before it
abbrev pub breakpoint_response :
    Bool → Bundle → Text → Text → Table → BreakpointRequest → Response
breakpoint_response resolve bundle command id t (request.Set set) =
    set_response command id (unwrap_or (meant state_named set.state) true) t.next
    (resolve && is_some (meant number_in set.line))
breakpoint_response resolve bundle command id t (request.One action number) =
    action_response bundle command id action (held_as t.held number)
breakpoint_response resolve bundle command id t request.List =
    lines_response command id (listed command id (map (breakpoint_line bundle) t.held))
breakpoint_response resolve bundle command id t other = bare_response command id
