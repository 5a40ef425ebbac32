use Rattle.dp_show.proofs.lines.line_of.Goals as goal

pub returns-in-Err-BadMarkup : goal.returns-in-Err-BadMarkup
returns-in-Err-BadMarkup c = λ e is. let same = c.in-Err-BadMarkup.ensures.only e is in cc

pub returns-in-Err-TooDeep : goal.returns-in-Err-TooDeep
returns-in-Err-TooDeep c = λ e is. let same = c.in-Err-TooDeep.ensures.only e is in cc
