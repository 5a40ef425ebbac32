-- News of a breakpoint that went to another line than the one that was asked for. Xdebug has the
-- same; DBGp 1.0 has its name and the breakpoint in it.
use Rattle.std.specs.Prelude.{ℕ, ◌==◌, Bool, false, not, if◌then◌else◌, Option, Some, None, codes, option_and_then}
use Rattle.dp_break.specs.declared.breakpoint.Breakpoint.{Breakpoint}
use Rattle.dp_break.specs.Changes.{held_as}
use Rattle.dp_break.specs.Tables.{Table}
use Rattle.dp_command.specs.declared.command.BreakpointRequest.{BreakpointRequest}
use Rattle.dp_command.specs.declared.command.BreakpointRequest.TheVariants as request
use Rattle.dp_packet.specs.declared.packet.Notify.{Notify}
use Rattle.dp_tree.specs.declared.bundle.Bundle.{Bundle}
use Rattle.dp_break.specs.declared.wishes.Wishes.{Wishes}
use Rattle.dp_break.specs.Commands.{breakpoint_table}
use Rattle.dp_break.specs.Shown.{breakpoint_line}
use Rattle.dp_break.specs.Words.{meant, number_in}

-- the line that a command asks for
abbrev pub line_asked : BreakpointRequest → Option ℕ
line_asked (request.Set set) = meant number_in set.line
line_asked (request.Update update) = update.line
line_asked other = None

-- the id of the breakpoint that a command changes, or else of one that it sets
abbrev pub id_meant : Table → BreakpointRequest → ℕ
id_meant t (request.Update update) = update.id
id_meant t other = t.next

-- the line is another than the one that was asked for
abbrev pub has_moved : Option ℕ → Option ℕ → Bool
has_moved (Some asked) (Some line) = not (asked == line)
has_moved asked line = false

abbrev pub resolved_notice : Bundle → Breakpoint → Notify
resolved_notice bundle b = record {
  name = codes "breakpoint_resolved";
  breakpoint = Some (breakpoint_line bundle b);
}

-- news of a breakpoint, by the line that was asked for
abbrev pub notice_of : Bundle → Option ℕ → Breakpoint → Option Notify
notice_of bundle asked b =
    if has_moved asked b.line then Some (resolved_notice bundle b) else None

-- what an IDE that wishes it is told before the response to a command that is not refused
abbrev pub breakpoint_notice : Wishes → Bundle → ℕ → Table → BreakpointRequest → Option Notify
breakpoint_notice wishes bundle here t r =
    if wishes.notify
    then option_and_then (notice_of bundle (line_asked r))
    (held_as (breakpoint_table wishes.resolve bundle here r t).held (id_meant t r))
    else None
