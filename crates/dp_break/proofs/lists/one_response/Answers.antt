use Rattle.std.proofs.Common.{[], ◌∷◌}
use Rattle.dp_break.specs.Shown.{breakpoint_line}
use Rattle.dp_break.proofs.Lengths.{lines_made_fit, one_short}
use Rattle.dp_break.proofs.ShownSizes.{shown_short}
use Rattle.dp_break.proofs.lists.one_response.Goals as goal

pub returns-clause-short : goal.returns-clause-short
returns-clause-short c =
    let command = c.args.to.now.command in
    let id = c.args.to.now.id in
    let line = breakpoint_line c.args.bundle.now c.args.breakpoint.now in
    lines_made_fit command id c.in_ok-lines.lines.items (line ∷ []) c.lines_response.result c.lines_response.ensures
    c.in_ok-lines.ensures
    (one_short command id c.args.to.now.command_bound c.args.to.now.id_bound line
    (shown_short c.args.bundle.now c.args.breakpoint.now c.requires.names c.requires.sound c.read_numbers.ensures))
