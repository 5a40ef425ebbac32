use Rattle.std.proofs.Common.{◌≡◌, ◌-◌, Some, length, ap, sym, ◌∙◌, add-one, arith}
use Rattle.std.proofs.Math.Seq.{drop-length}
use Rattle.dp_value.specs.Key.{key_eq}
use Rattle.dp_value.specs.inner.Left.{left}
use Rattle.dp_value.proofs.LeftLemmas.{length-left}
use Rattle.dp_value.proofs.RisingLemmas.{rising-first, rising-distinct, order-equal, order-none, order-less, order-greater}
use Rattle.dp_value.proofs.RowLemmas.{absent_whole}
use Rattle.dp_value.proofs.kept.rising_place.Goals.{in-Less, in-Greater}
use Rattle.dp_value.proofs.kept.rising_place.Goals as goal

pub overflow_sub-high : goal.overflow_sub-high
overflow_sub-high c = omega (arith, c.requires.within)

pub rows-init : goal.rows-init
rows-init c =
    let ks = left c.args.start c.args.gone c.args.keys.now in
    let all : length c.args.keys.now - c.args.gone ≡ length ks =
    omega (arith, length-left c.args.start c.args.gone c.args.keys.now c.requires.within) in
    (omega arith, omega (arith, all), tt, rw (all, drop-length ks) tt)

pub nth-requires-clause-there : goal.nth-requires-clause-there
nth-requires-clause-there c = omega (arith, c.rows.invariant.1)

pub returns-in_default : goal.returns-in_default
returns-in_default c =
    order-none (left c.args.start c.args.gone c.args.keys.now) c.min-at.result c.requires.rises
    (omega (arith, c.rows.invariant.1)) c.nth.result.now c.args.key.now c.nth.ensures (sym c.in_default.ensures)

pub returns-in-Equal : goal.returns-in-Equal
returns-in-Equal c =
    let ks = left c.args.start c.args.gone c.args.keys.now in
    rising-first ks c.min-at.result c.nth.result.now c.args.key.now (rising-distinct ks c.requires.rises)
    (omega (arith, c.rows.invariant.1)) c.nth.ensures
    (order-equal c.nth.result.now c.args.key.now (sym c.in-Some.ensures ∙ ap Some c.in-Equal.is))

pub rows-preserved : goal.rows-preserved
rows-preserved c =
    let ks = left c.args.start c.args.gone c.args.keys.now in
    let k = c.nth.result.now in
    elim c.match-side.branch [
      | in-Less w ↦ (
        omega arith,
        omega (arith, c.rows.invariant.1),
        rw (w.low-is, add-one) (order-less ks c.min-at.result c.requires.rises (omega (arith, c.rows.invariant.1)) k
            c.args.key.now c.nth.ensures (sym c.in-Some.ensures ∙ ap Some w.in-Less.is)),
        rw w.high-is c.rows.invariant.3,
      )
      | in-Greater w ↦ (
        omega arith,
        omega (arith, c.rows.invariant.1),
        rw w.low-is c.rows.invariant.2,
        rw w.high-is (order-greater ks c.min-at.result c.requires.rises (omega (arith, c.rows.invariant.1)) k
            c.args.key.now c.nth.ensures (sym c.in-Some.ensures ∙ ap Some w.in-Greater.is)),
      )
    ]

pub returns : goal.returns
returns c =
    let met : c.rows.high ≡ c.rows.low = omega arith in
    absent_whole (key_eq c.args.key.now) c.rows.low (left c.args.start c.args.gone c.args.keys.now)
    c.rows.invariant.2 (rw met at c.rows.invariant.3)
