use Rattle.std.proofs.Common.{arith}
use Rattle.std.proofs.lemmas.Grind.{common_steps}
use Rattle.dp_lexer.proofs.FoundNumbers.{value_through}
use Rattle.dp_lexer.proofs.numbers.value_of.Goals as goal

pub returns-in-None : goal.returns-in-None
returns-in-None c =
    let past = value_through c.args.base c.args.digits.now c.loop-d.d-index c.requires.base c.loop-d-test.true in
    let wide = c.in-None.ensures in
    grind (arith, common_steps)
