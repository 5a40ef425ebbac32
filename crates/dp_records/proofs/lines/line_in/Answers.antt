use Rattle.dp_records.proofs.LineLaws.{no_word}
use Rattle.dp_records.proofs.lines.line_in.Goals as goal

pub returns-in-None : goal.returns-in-None
returns-in-None c =
    no_word c.args.line.now c.in-Some.text.now c.in-Some.ensures c.in_default-behind.ensures
    c.in_default-behind-2.ensures
    c.in_default-behind-3.ensures c.in-None.ensures
