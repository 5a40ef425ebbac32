-- Why a breakpoint is refused, by the codes of DBGp 1.0, "Error Codes". Which case has which code,
-- and their order, are this engine's own.
use Rattle.std.specs.Prelude.{ℕ, ◌==◌, nat_le, nat_lt, Bool, false, ◌&&◌, ◌||◌, if◌then◌else◌, length, Option, Some, None, is_some, Result, Err}
use Rattle.std.specs.Option.{option_map_or, option_or}
use Rattle.dp_tree.specs.declared.bundle.Bundle.{Bundle}
use Rattle.dp_lexer.specs.Pieces.{longest_name}
use Rattle.dp_break.specs.declared.breakpoint.BreakChange.{BreakChange}
use Rattle.dp_break.specs.declared.breakpoint.Breakpoint.{Breakpoint}
use Rattle.dp_break.specs.declared.breakpoint.BreakRequest.{BreakRequest}
use Rattle.dp_break.specs.Conditions.{has_no_tree, is_too_long}
use Rattle.dp_break.specs.Hits.{is_of_function}
use Rattle.dp_packet.specs.Messages.{code_in}
use Rattle.dp_break.specs.Lines.{requested_line}
use Rattle.dp_break.specs.Tables.{Table, breakpoint_limit, last_id}
use Rattle.dp_packet.specs.declared.error_codes.ErrorCode.{ErrorCode}
use Rattle.dp_packet.specs.declared.error_codes.ErrorCode.TheVariants.{InvalidOptions, BreakpointNotSet, NoSuchBreakpoint, InvalidExpression}

-- ---- new breakpoints

-- as many as there may be are held, no id is left, or the name of the function is too long
abbrev pub cannot_be_held : Table → BreakRequest → Bool
cannot_be_held t r =
    nat_le breakpoint_limit (length t.held) || t.next == last_id
    || option_map_or (λ name. nat_lt longest_name (length name)) r.function false

-- the line that is kept of a request, or the code of the first test of its place that holds
abbrev pub place_kept : Bool → Bundle → Table → BreakRequest → Result (Option ℕ) ErrorCode
place_kept resolve bundle t r =
    if cannot_be_held t r then Err BreakpointNotSet
    else requested_line resolve bundle (Some r.file) r.line

abbrev pub place_refusal : Bool → Bundle → Table → BreakRequest → Option ErrorCode
place_refusal resolve bundle t r = code_in (place_kept resolve bundle t r)

-- the code where a test holds
abbrev pub code_if : Bool → ErrorCode → Option ErrorCode
code_if holds code = if holds then Some code else None

-- the code of the first test that holds: those of its place, and that of its expression
abbrev pub request_refusal : Bool → Bundle → Table → BreakRequest → Option ErrorCode
request_refusal resolve bundle t r =
    option_or (place_refusal resolve bundle t r)
    (code_if (has_no_tree r.expression) InvalidExpression)

-- the same, where it needs no look at what an expression says
abbrev pub plain_refusal : Bool → Bundle → Table → BreakRequest → Option ErrorCode
plain_refusal resolve bundle t r =
    option_or (place_refusal resolve bundle t r)
    (code_if (is_too_long r.expression) InvalidExpression)

-- ---- changes

-- the line that is kept of a change, if one is given; or that it is given to a breakpoint on a
-- function, or the code of the line
abbrev pub change_kept : Bool → Bundle → BreakChange → Breakpoint → Result (Option ℕ) ErrorCode
change_kept resolve bundle c b =
    if is_of_function b.kind && is_some c.line then Err InvalidOptions
    else requested_line resolve bundle b.file c.line

-- the same of a breakpoint that was looked for
abbrev pub update_kept :
    Bool → Bundle → BreakChange → Option Breakpoint → Result (Option ℕ) ErrorCode
update_kept resolve bundle c found =
    option_map_or (change_kept resolve bundle c) found (Err NoSuchBreakpoint)

abbrev pub update_refusal :
    Bool → Bundle → BreakChange → Option Breakpoint → Option ErrorCode
update_refusal resolve bundle c found = code_in (update_kept resolve bundle c found)
