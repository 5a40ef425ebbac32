use Rattle.dp_break.specs.Shown.{breakpoint_line}
use Rattle.dp_break.proofs.ShownSizes.{notice_fits, shown_short}
use Rattle.dp_break.proofs.notices.resolved_notice.Goals as goal

pub returns-clause-short : goal.returns-clause-short
returns-clause-short c =
    let line = breakpoint_line c.args.bundle.now c.args.b.now in
    let short = shown_short c.args.bundle.now c.args.b.now c.requires.names c.requires.sound c.read_numbers.ensures in
    rw (c.in_ok-line.ensures.line, c.in_ok-name.ensures) (notice_fits line short)
