use Rattle.std.proofs.Common.{◌++◌, ◌+◌, drop, ap, ◌∙◌, arith, length-drop}
use Rattle.dp_lexer.specs.Quotes.{single_value}
use Rattle.dp_lexer.proofs.FoundTexts.{single_value-more}
use Rattle.dp_lexer.proofs.quotes.single.Goals as goal

pub loop-n-preserved : goal.loop-n-preserved
loop-n-preserved c =
    let z = c.args.body.now in
    let v = c.single_part-byte.result in (
      ap (λ l. l ++ single_value (drop (c.loop-n.n + v.1) z)) c.in_ok-push.ensures.items
          ∙ single_value-more z c.loop-n.bytes.items c.loop-n.n v c.loop-n-test.true c.single_part-byte.ensures.value
          ∙ c.loop-n.invariant.0,
      omega (arith, c.single_part-byte.ensures.within, length-drop c.loop-n.n z),
    )
