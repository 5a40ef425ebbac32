use Rattle.std.proofs.Common.{sym}
use Rattle.dp_events.proofs.WordLaws.{word_is, part_is, word_alone, no_part}
use Rattle.dp_events.proofs.spelling.first_word.Goals as goal

pub returns-in-Some-clause-word : goal.returns-in-Some-clause-word
returns-in-Some-clause-word c = word_is c.args.bytes.now c.in-Some.at c.in-Some.ensures.first

pub returns-in-Some-clause-part : goal.returns-in-Some-clause-part
returns-in-Some-clause-part c = part_is c.args.bytes.now c.in-Some.at c.in-Some.ensures.first

pub returns-in-None-clause-word : goal.returns-in-None-clause-word
returns-in-None-clause-word c = sym (word_alone c.args.bytes.now c.in-None.ensures.first)

pub returns-in-None-clause-part : goal.returns-in-None-clause-part
returns-in-None-clause-part c = sym (no_part c.args.bytes.now c.in-None.ensures.first)
