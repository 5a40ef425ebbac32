use Rattle.std.proofs.Common.{sym, arith}
use Rattle.dp_bytes.proofs.DecimalLemmas.{never, same_bytes, not_parsed}
use Rattle.dp_bytes.proofs.decimals.decimal.Goals as goal

pub returns-in_err-text-clause-value : goal.returns-in_err-text-clause-value
returns-in_err-text-clause-value c =
    absurd (never _ c.args.text.now c.from_utf8.result c.from_utf8.ensures.cases c.in_err-text.ensures.variant
    (sym c.if-not-is_decimal.ensures))

pub returns-in_err-number-clause-value : goal.returns-in_err-number-clause-value
returns-in_err-number-clause-value c =
    let text = same_bytes _ c.args.text.now c.from_utf8.result c.in_ok-text.text c.from_utf8.ensures.cases
    c.in_ok-text.ensures.value in
    rw c.from_residual-in_err-number.ensures (sym (not_parsed c.args.text.now c.args.most c.parse.result
    (sym c.if-not-is_decimal.ensures) (rw text at c.parse.ensures.value.0)
    (omega (arith, c.ranges.most.fits)) c.in_err-number.ensures.variant))
