use Rattle.dp_words.proofs.NameLaws.{all_named, one_named}
use Rattle.dp_words.proofs.names.are_named.Goals as goal

pub loop-word-preserved : goal.loop-word-preserved
loop-word-preserved c =
    one_named c.args.words.now c.loop-word.word-index c.word-item.result c.as_str.result.now c.loop-word.invariant
    c.loop-word-test.true c.word-item.is c.as_str.ensures.value
    c.if-not-is_file.ensures.0

pub returns : goal.returns
returns c = all_named c.args.words.now c.loop-word.word-index c.loop-word.invariant c.loop-word-test.false
