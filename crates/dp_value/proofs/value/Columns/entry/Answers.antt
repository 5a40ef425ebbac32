use Rattle.std.proofs.Common.{map, sym, ap, ◌∙◌, arith}
use Rattle.dp_value.specs.Data.{Table, null, pairs_weight}
use Rattle.dp_value.specs.Key.{key_eq}
use Rattle.dp_value.specs.Table.{put, value_at}
use Rattle.dp_value.specs.Value.{data_of}
use Rattle.dp_value.proofs.PairLemmas.{absent-find_value, first-find_value, weight-put-first, weight-put-absent, weight-at}
use Rattle.dp_value.specs.inner.Inside.{keys_left, values_left}
use Rattle.dp_value.proofs.ArrayLemmas.{read_value, same_left, there}
use Rattle.dp_value.proofs.value.Columns.entry.Goals as goal

pub nth_value-value-requires-clause-there : goal.nth_value-value-requires-clause-there
nth_value-value-requires-clause-there c =
    there c.self.inside c.self.invariant (key_eq c.args.key.now) c.in-Some.at c.in-Some.ensures

pub overflow_sub-result : goal.overflow_sub-result
overflow_sub-result c =
    let row = read_value c.self.inside c.self.invariant (key_eq c.args.key.now) c.in-Some.at c.in-Some.ensures
    c.nth_value-value.result.now c.nth_value-value.ensures in
    omega (
      arith,
      c.weight-of_value.ensures,
      c.self.invariant.weight,
      weight-at (keys_left c.self.inside) (map data_of (values_left c.self.inside)) c.in-Some.at
          (data_of c.nth_value-value.result.now)
          (same_left c.self.inside c.self.invariant) row,
    )

pub returns-in-Some-clause-value : goal.returns-in-Some-clause-value
returns-in-Some-clause-value c =
    sym (first-find_value (key_eq c.args.key.now) (keys_left c.self.inside)
    (map data_of (values_left c.self.inside)) c.in-Some.at c.in-Some.ensures
    (same_left c.self.inside c.self.invariant)
    ∙ read_value c.self.inside c.self.invariant (key_eq c.args.key.now) c.in-Some.at c.in-Some.ensures
    c.nth_value-value.result.now c.nth_value-value.ensures)
    ∙ ap (λ (t : Table). value_at t c.args.key.now) c.self.view_is

pub returns-in-Some-clause-beside : goal.returns-in-Some-clause-beside
returns-in-Some-clause-beside c =
    let row = read_value c.self.inside c.self.invariant (key_eq c.args.key.now) c.in-Some.at c.in-Some.ensures
    c.nth_value-value.result.now c.nth_value-value.ensures in
    let seen = ap (λ (t : Table). pairs_weight (put t.pairs c.args.key.now null)) c.self.view_is in
    let lighter = weight-at (keys_left c.self.inside) (map data_of (values_left c.self.inside)) c.in-Some.at
    (data_of c.nth_value-value.result.now)
    (same_left c.self.inside c.self.invariant) row in
    let written = weight-put-first c.args.key.now (keys_left c.self.inside)
    (map data_of (values_left c.self.inside)) c.in-Some.at
    (data_of c.nth_value-value.result.now) null c.in-Some.ensures row in
    omega (
      arith,
      seen,
      lighter,
      written,
      c.weight-of_value.ensures,
      c.self.invariant.weight,
    )

pub returns-in-None-clause-value : goal.returns-in-None-clause-value
returns-in-None-clause-value c =
    sym (absent-find_value (key_eq c.args.key.now) (keys_left c.self.inside)
    (map data_of (values_left c.self.inside)) c.in-None.ensures)
    ∙ ap (λ (t : Table). value_at t c.args.key.now) c.self.view_is

pub returns-in-None-clause-beside : goal.returns-in-None-clause-beside
returns-in-None-clause-beside c =
    let seen = ap (λ (t : Table). pairs_weight (put t.pairs c.args.key.now null)) c.self.view_is in
    let written = weight-put-absent c.args.key.now (keys_left c.self.inside)
    (map data_of (values_left c.self.inside)) null c.in-None.ensures
    (same_left c.self.inside c.self.invariant) in
    omega (
      arith,
      seen,
      written,
      c.weight-of_key.ensures,
      c.saturating_add.ensures,
      c.saturating_add-in-None.ensures,
      c.self.invariant.weight,
    )
