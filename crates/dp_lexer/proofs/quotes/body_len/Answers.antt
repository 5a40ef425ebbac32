use Rattle.std.proofs.Common.{sym, ◌∙◌, arith}
use Rattle.dp_lexer.proofs.FoundTexts.{body_len-pair_step, body_len-plain_step, body_len-end_step}
use Rattle.dp_lexer.proofs.quotes.body_len.Goals as goal

pub loop-n-preserved-then-z-n-eq92 : goal.loop-n-preserved-then-z-n-eq92
loop-n-preserved-then-z-n-eq92 c = (
  body_len-pair_step c.args.quote c.args.z.now c.loop-n.n c.loop-n-test.true c.if-z-n-eq92.true
      ∙ c.loop-n.invariant.0,
  omega arith,
)

pub loop-n-preserved : goal.loop-n-preserved
loop-n-preserved c = (
  body_len-plain_step c.args.quote c.args.z.now c.loop-n.n c.loop-n-test.true c.if-z-n-eq92.false c.if-z-n.false
      ∙ c.loop-n.invariant.0,
  omega arith,
)

pub returns-then-z-n-clause-value : goal.returns-then-z-n-clause-value
returns-then-z-n-clause-value c =
    sym (body_len-end_step c.args.quote c.args.z.now c.loop-n.n c.loop-n-test.true c.if-z-n-eq92.false c.if-z-n.true)
    ∙ c.loop-n.invariant.0
