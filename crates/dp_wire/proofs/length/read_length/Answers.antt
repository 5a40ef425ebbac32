use Rattle.std.proofs.Common.{refl, arith, ◌∙◌, sym}
use Rattle.dp_wire.proofs.LengthLaws.{digit_spelt, bad_here, passed_here, length_digits-some}
use Rattle.dp_wire.proofs.length.read_length.Goals as goal
use Rattle.dp_wire.proofs.length.read_length.Goals.{else-byte-eq0-via-then-byte-eq0+else-length-gt0, else-byte-eq0-via-else-byte-eq0}

pub returns-in_default : goal.returns-in_default
returns-in_default c =
    bad_here c.args.bytes.now c.loop-index.index c.loop-index.length _ c.loop-index-test.true refl
    c.loop-index.invariant.spelt c.loop-index.invariant.fits
    (λ may. let ends = c.in_default.ensures.none refl may in
    elim c.else-byte-eq0.branch [
      | else-byte-eq0-via-then-byte-eq0+else-length-gt0 w ↦ omega
          (arith, ends.1)
      | else-byte-eq0-via-else-byte-eq0 w ↦ absurd (w.if-byte-eq0.false ends.0)
    ])

pub returns-then-length-gt-PACKET_LIMIT : goal.returns-then-length-gt-PACKET_LIMIT
returns-then-length-gt-PACKET_LIMIT c =
    passed_here c.args.bytes.now c.loop-index.index c.loop-index.length _ c.loop-index-test.true refl
    c.loop-index.invariant.spelt c.loop-index.invariant.fits
    c.in-Some.digit c.in-Some.ensures.some.0 c.in-Some.ensures.some.1 c.if-length-gt-PACKET_LIMIT.true

pub loop-index-preserved : goal.loop-index-preserved
loop-index-preserved c = record {
  spelt =
      digit_spelt c.args.bytes.now c.loop-index.index c.loop-index.length _ c.loop-index-test.true refl
      c.loop-index.invariant.spelt c.loop-index.invariant.fits
      c.in-Some.digit c.in-Some.ensures.some.0 c.in-Some.ensures.some.1 c.in-Some.ensures.some.2
      ∙ sym (length_digits-some _ (omega (arith, c.in-Some.ensures.some.2)));
  fits = omega arith;
}
