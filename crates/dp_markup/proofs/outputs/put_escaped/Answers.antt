use Rattle.std.proofs.Common.{◌≡◌, ◌+◌, ◌-◌, ◌<◌, length, ap, ◌∙◌, arith}
use Rattle.dp_markup.specs.Outputs.{behind}
use Rattle.dp_markup.proofs.Runs.{run, plain_joins, reference_joins}
use Rattle.dp_markup.proofs.outputs.put_escaped.Goals.{then-not-is_plain+in_ok-put+in_ok-put_byte, else-not-is_plain}
use Rattle.dp_markup.proofs.outputs.put_escaped.Goals as goal

pub loop-at-preserved : goal.loop-at-preserved
loop-at-preserved g c =
    let bytes = c.args.bytes.now in
    let at = c.loop-at.at in
    let from = c.loop-at.from in
    let before = g.O.Output.seen c.loop-at.out in
    let within : at < length bytes = omega arith in
    let none : at + 1 - (at + 1) ≡ 0 = omega arith in
    elim c.if-not-is_plain.branch [
      | then-not-is_plain+in_ok-put+in_ok-put_byte p ↦ (
        omega (arith, p.from-is),
        rw (p.out-is, p.from-is, none)
            (c.loop-at.invariant.1
            ∙ reference_joins bytes at _ within before (g.O.Output.seen p.put.new.self)
            (g.O.Output.seen p.put_byte.new.out) (run bytes from at) p.in_ok-put.ensures p.in_ok-put_byte.ensures),
      )
      | else-not-is_plain p ↦ (
        omega (arith, p.from-is, c.loop-at.invariant.0),
        rw (p.out-is, p.from-is)
            (c.loop-at.invariant.1
            ∙ ap (behind before)
            (plain_joins bytes at _ within from c.loop-at.invariant.0 (c.is_plain.ensures p.if-not-is_plain.false))),
      )
    ]
