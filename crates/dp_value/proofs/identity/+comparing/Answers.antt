use Rattle.std.proofs.Common.{rules, ◌≡◌, ℕ, ◌<◌, ◌≤◌, length, get_or, sym, ap, ◌∙◌, arith}
use Rattle.dp_value.specs.Data.{Table, null}
use denote.Param.Weighed.{most, at_most}
use Rattle.dp_value.specs.declared.value.Columns.TheDeep.{deep-Value}
use Rattle.dp_value.specs.inner.Falls.{all_le_depth}
use Rattle.dp_value.specs.declared.value.Columns.TheInside.{Inside}
use Rattle.dp_value.specs.inner.Inside.{keys_left, table_of, values_left, IsArray}
use Rattle.dp_value.specs.Table.{values_of}
use Rattle.dp_value.specs.Value.{data_of}
use Rattle.dp_value.proofs.ArrayLemmas.{kept_length, lengths_left, row, row_of_key}
use Rattle.dp_value.proofs.BehindLemmas.{nothing_beside, beside_nothing}
use Rattle.dp_value.proofs.ComparisonLemmas.{identical-lengths, differ-by_key, differ-by_value, same-so_far, same-at_end}
use Rattle.dp_value.proofs.identity.+comparing.Goals as goal

pub same_entries-returns-in-None : goal.same_entries-returns-in-None
same_entries-returns-in-None t c =
    nothing_beside c.a.inside c.args.a.now c.args.b.now c.is_empty.result c.is_empty.ensures c.in-None.is c.a.view_is

pub same_entries-returns-in-None-columns : goal.same_entries-returns-in-None-columns
same_entries-returns-in-None-columns t c =
    beside_nothing c.b.inside c.args.a.now c.args.b.now c.is_empty-in-None-columns.result
    c.is_empty-in-None-columns.ensures c.in-None-columns.is c.b.view_is

pub same_columns-returns-then-len-n : goal.same_columns-returns-then-len-n
same_columns-returns-then-len-n t c =
    sym (identical-lengths c.args.a.now.pairs c.args.b.now.pairs
    (λ e. c.if-len-n.true (omega (arith, e, c.len.ensures.len, c.len-n.ensures.len))))

pub same_columns-returns-then-not-is : goal.same_columns-returns-then-not-is
same_columns-returns-then-not-is t c =
    let n : c.loop-at.at < length c.args.a.now.pairs = omega (arith, c.len-n.ensures.len) in
    let m : c.loop-at.at < length c.args.b.now.pairs = omega (arith, c.len-n.ensures.len, c.len.ensures.len) in
    sym (c.loop-at.invariant
    ∙ differ-by_key c.args.a.now.pairs c.args.b.now.pairs c.loop-at.at
    (c.at-left.result.now, get_or (values_of c.args.a.now.pairs) c.loop-at.at null)
    (c.at-right.result.now, get_or (values_of c.args.b.now.pairs) c.loop-at.at null)
    (row_of_key c.a.inside c.a.invariant c.args.a.now c.a.view_is c.loop-at.at c.at-left.result.now n
    c.at-left.ensures)
    (row_of_key c.b.inside c.b.invariant c.args.b.now c.b.view_is c.loop-at.at c.at-right.result.now m
    c.at-right.ensures)
    c.if-not-is.ensures)

pub same_columns-returns-then-not-same : goal.same_columns-returns-then-not-same
same_columns-returns-then-not-same t c =
    let n : c.loop-at.at < length c.args.a.now.pairs = omega (arith, c.len-n.ensures.len) in
    let m : c.loop-at.at < length c.args.b.now.pairs = omega (arith, c.len-n.ensures.len, c.len.ensures.len) in
    sym (c.loop-at.invariant
    ∙ differ-by_value c.args.a.now.pairs c.args.b.now.pairs c.loop-at.at
    (c.at-left.result.now, data_of c.nth_value-mine.result.now)
    (c.at-right.result.now, data_of c.nth_value-other.result.now)
    (row c.a.inside c.a.invariant c.args.a.now c.a.view_is c.loop-at.at c.at-left.result.now n
    c.at-left.ensures c.nth_value-mine.result.now c.nth_value-mine.ensures)
    (row c.b.inside c.b.invariant c.args.b.now c.b.view_is c.loop-at.at c.at-right.result.now m
    c.at-right.ensures c.nth_value-other.result.now c.nth_value-other.ensures)
    c.if-not-is.ensures c.if-not-same.ensures)

pub same_columns-loop-at-preserved : goal.same_columns-loop-at-preserved
same_columns-loop-at-preserved t c =
    let n : c.loop-at.at < length c.args.a.now.pairs = omega (arith, c.len-n.ensures.len) in
    let m : c.loop-at.at < length c.args.b.now.pairs = omega (arith, c.len-n.ensures.len, c.len.ensures.len) in
    c.loop-at.invariant
    ∙ same-so_far c.args.a.now.pairs c.args.b.now.pairs c.loop-at.at
    (c.at-left.result.now, data_of c.nth_value-mine.result.now)
    (c.at-right.result.now, data_of c.nth_value-other.result.now)
    (row c.a.inside c.a.invariant c.args.a.now c.a.view_is c.loop-at.at c.at-left.result.now n
    c.at-left.ensures c.nth_value-mine.result.now c.nth_value-mine.ensures)
    (row c.b.inside c.b.invariant c.args.b.now c.b.view_is c.loop-at.at c.at-right.result.now m
    c.at-right.ensures c.nth_value-other.result.now c.nth_value-other.ensures)
    c.if-not-is.ensures c.if-not-same.ensures

pub same_columns-returns : goal.same_columns-returns
same_columns-returns t c =
    sym (c.loop-at.invariant
    ∙ same-at_end c.args.a.now.pairs c.args.b.now.pairs c.loop-at.at
    (omega (arith, c.len-n.ensures.len)) (omega (arith, c.len-n.ensures.len, c.len.ensures.len)))

-- a position among the pairs is one among the keys
within_keys : (a : Inside) → IsArray a → (t : Table) → table_of a ≡ t → (i : ℕ) → i < length t.pairs
    → i < length (keys_left a)
within_keys a is t seen i within = omega (arith, kept_length a is, ap (λ (x : Table). length x.pairs) seen)

pub same_columns-at-left-requires-clause-there : goal.same_columns-at-left-requires-clause-there
same_columns-at-left-requires-clause-there t c =
    within_keys c.a.inside c.a.invariant c.args.a.now c.a.view_is c.loop-at.at (omega (arith, c.len-n.ensures.len))

pub same_columns-at-right-requires-clause-there : goal.same_columns-at-right-requires-clause-there
same_columns-at-right-requires-clause-there t c =
    within_keys c.b.inside c.b.invariant c.args.b.now c.b.view_is c.loop-at.at
    (omega (arith, c.len-n.ensures.len, c.len.ensures.len))

pub same_columns-nth_value-mine-requires-clause-there : goal.same_columns-nth_value-mine-requires-clause-there
same_columns-nth_value-mine-requires-clause-there t c =
    let there = within_keys c.a.inside c.a.invariant c.args.a.now c.a.view_is c.loop-at.at
    (omega (arith, c.len-n.ensures.len)) in
    omega (arith, there, lengths_left c.a.inside c.a.invariant)

pub same_columns-nth_value-other-requires-clause-there : goal.same_columns-nth_value-other-requires-clause-there
same_columns-nth_value-other-requires-clause-there t c =
    let there = within_keys c.b.inside c.b.invariant c.args.b.now c.b.view_is c.loop-at.at
    (omega (arith, c.len-n.ensures.len, c.len.ensures.len)) in
    omega (arith, there, lengths_left c.b.inside c.b.invariant)

pub same_columns-same-requires : goal.same_columns-same-requires
same_columns-same-requires t c =
    let there = within_keys c.a.inside c.a.invariant c.args.a.now c.a.view_is c.loop-at.at
    (omega (arith, c.len-n.ensures.len)) in
    let child : deep-Value c.nth_value-mine.result.now ≤ most deep-Value (values_left c.a.inside) =
    omega (
      arith,
      ap deep-Value c.nth_value-mine.ensures,
      at_most deep-Value (values_left c.a.inside) c.loop-at.at c.nth_value-mine.result.now
          (omega (arith, there, lengths_left c.a.inside c.a.invariant)),
    ) in
    let falls = all_le_depth (keys_left c.a.inside) (values_left c.a.inside)
    (lengths_left c.a.inside c.a.invariant) in
    search (rules, child, falls)
