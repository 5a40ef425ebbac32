use Rattle.std.proofs.Common.{map}
use Rattle.dp_break.specs.Commands.{listed}
use Rattle.dp_break.specs.Shown.{breakpoint_line}
use Rattle.dp_break.proofs.Lengths.{lines_made_fit, listed_short}
use Rattle.dp_break.proofs.lists.list_response.Goals as goal

pub returns-clause-short : goal.returns-clause-short
returns-clause-short c =
    let command = c.args.to.now.command in
    let id = c.args.to.now.id in
    let lines = map (breakpoint_line c.args.bundle.now) c.args.held.now in
    lines_made_fit command id c.in_ok-lines.lines.items (listed command id lines) c.lines_response.result
    c.lines_response.ensures c.in_ok-lines.ensures
    (listed_short command id c.args.to.now.command_bound c.args.to.now.id_bound lines)
