use Rattle.std.proofs.Common.{refl, arith, ◌∙◌, sym}
use Rattle.dp_wire.proofs.LengthLaws.{digit_spelt, length_digits-some}
use Rattle.dp_bodies.proofs.HeadLaws.{passed_digits}
use Rattle.dp_bodies.proofs.heads.read_digits.Goals as goal

pub returns-then-number-gt-BODY_LIMIT : goal.returns-then-number-gt-BODY_LIMIT
returns-then-number-gt-BODY_LIMIT c =
    passed_digits c.args.bytes.now c.loop-index.index c.loop-index.number _ c.loop-index-test.true refl
    c.loop-index.invariant.spelt c.loop-index.invariant.fits
    c.in-Some.digit c.in-Some.ensures.some.0 c.in-Some.ensures.some.1 c.in-Some.ensures.some.2
    c.if-number-gt-BODY_LIMIT.true

pub loop-index-preserved : goal.loop-index-preserved
loop-index-preserved c = record {
  spelt =
      digit_spelt c.args.bytes.now c.loop-index.index c.loop-index.number _ c.loop-index-test.true refl
      c.loop-index.invariant.spelt c.loop-index.invariant.fits
      c.in-Some.digit c.in-Some.ensures.some.0 c.in-Some.ensures.some.1 c.in-Some.ensures.some.2
      ∙ sym (length_digits-some _ (omega (arith, c.in-Some.ensures.some.2)));
  fits = omega arith;
}
