use Rattle.std.proofs.Common.{arith}
use Rattle.dp_lexer.proofs.FoundNumbers.{value_small}
use Rattle.dp_lexer.proofs.quotes.byte_of.Goals as goal

pub returns-in-None : goal.returns-in-None
returns-in-None c =
    absurd (omega (
      arith,
      c.in-None.ensures,
      value_small c.args.base c.args.digits.now c.requires.base c.requires.few
          c.requires.digits,
    ))
