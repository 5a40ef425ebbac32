use Rattle.std.proofs.Common.{◌-◌, ◌∙◌, ap}
use Rattle.dp_view.specs.inner.Lines.{lines_length}
use Rattle.dp_view.proofs.Lines.{after_line, up_to_line}
use Rattle.dp_view.proofs.source.source_lines.Goals as goal

pub returns-in-None : goal.returns-in-None
returns-in-None c =
    let counted = c.saturating_sub-before.ensures ∙ ap (λ n. n - 1) c.unwrap_or.ensures in
    after_line c.args.first c.args.last c.saturating_sub-before.result c.lines_length.result c.args.text.now
    c.split_at.result.1.now counted c.lines_length.ensures.length
    c.split_at.ensures.back c.in-None.is

pub returns-in-Some : goal.returns-in-Some
returns-in-Some c =
    let counted = c.saturating_sub-before.ensures ∙ ap (λ n. n - 1) c.unwrap_or.ensures in
    let back = c.split_at.result.1.now in
    up_to_line c.args.first c.args.last c.saturating_sub-before.result c.lines_length.result c.args.text.now back
    counted c.lines_length.ensures.length
    c.split_at.ensures.back c.in-Some.last c.lines_length-in-Some.result c.in-Some.is
    (c.lines_length-in-Some.ensures.length ∙ ap (λ n. lines_length n back) c.saturating_sub.ensures)
