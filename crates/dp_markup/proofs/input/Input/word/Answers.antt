use Rattle.std.proofs.Common.{◌∙◌}
use Rattle.dp_markup.proofs.Turns.{word_turn}
use Rattle.dp_markup.proofs.input.Input.word.Goals as goal

pub loop-byte-preserved : goal.loop-byte-preserved
loop-byte-preserved c =
    c.loop-byte.invariant
    ∙ word_turn c.args.bytes.now c.loop-byte.self c.mark.new.self c.loop-byte.byte-index _ c.loop-byte-test.true
    c.in_ok-mark.ensures
