use Rattle.std.proofs.Common.{◌-◌, arith}
use Rattle.dp_value.specs.Key.{key_eq}
use Rattle.dp_value.proofs.KeyLemmas.{distinct_keys, key_eq-Decides}
use Rattle.dp_value.proofs.RowLemmas.{absent_left, first_above, first_left, gone-absent_left}
use Rattle.dp_value.proofs.kept.indexed_place.Goals as goal

pub returns-in_default : goal.returns-in_default
returns-in_default c =
    absent_left (key_eq c.args.key.now) c.args.start c.args.gone c.args.keys.now.keys c.in_default.ensures

pub returns-then-row-start : goal.returns-then-row-start
returns-then-row-start c =
    first_above (key_eq c.args.key.now) c.args.start c.args.gone c.in-Some.row c.args.keys.now.keys
    c.in-Some.ensures c.if-row-start.true

pub returns-then-row-start-2 : goal.returns-then-row-start-2
returns-then-row-start-2 c =
    gone-absent_left key_eq (λ k l. (key_eq-Decides k l).0) c.args.key.now c.args.start c.args.gone c.in-Some.row
    c.args.keys.now.keys (distinct_keys c.args.keys.now.keys c.len-rows.ensures.unique) c.in-Some.ensures
    c.if-row-start.false c.if-row-start-2.true

pub returns : goal.returns
returns c =
    first_left (key_eq c.args.key.now) c.args.start c.args.gone (c.in-Some.row - c.args.gone) c.in-Some.row
    c.args.keys.now.keys c.in-Some.ensures (omega (arith, c.if-row-start-2.false))
    (omega (arith, c.if-row-start-2.false))
