use Rattle.std.proofs.Common.{◌≡◌, ℕ, ◌+◌, ◌<◌, List, get_or, length, map, remove, arith}
use Rattle.std.proofs.lemmas.Option.{slice_get_read}
use Rattle.dp_value.specs.declared.key.Key.{Key}
use Rattle.dp_value.specs.declared.value.Value.{Value}
use Rattle.dp_value.specs.Key.{key_weight}
use Rattle.dp_value.specs.Data.{weight_of, pairs_weight}
use Rattle.dp_value.specs.Value.{data_of, pairs_in}
use Rattle.dp_value.specs.inner.Kept.{kept_keys}
use Rattle.dp_value.specs.inner.Left.{left}
use Rattle.dp_value.proofs.ArrayLemmas.{row_value}
use Rattle.dp_value.proofs.LeftLemmas.{length-left}
use Rattle.dp_value.proofs.PairLemmas.{weight-remove, map-remove}
use Rattle.dp_value.proofs.RowLemmas.{rows-length}
use Rattle.dp_value.proofs.rows.take_out.Goals.{After-nth_value-value}
use Rattle.dp_value.proofs.rows.take_out.Goals as goal

pub nth_value-value-requires-clause-there : goal.nth_value-value-requires-clause-there
nth_value-value-requires-clause-there c = omega (arith, c.requires.there, rows-length c.requires.rows)

-- the pair in a row and the others weigh what all weigh
parts : (ks : List Key) (vs : List Value) (i : ℕ) (k : Key) (v : Value) → i < length ks → length vs ≡ length ks
    → k ≡ get_or ks i k → v ≡ get_or vs i v →
    (1 + key_weight k + weight_of (data_of v)) + pairs_weight (pairs_in (remove ks i) (remove vs i))
    ≡ pairs_weight (pairs_in ks vs)
parts ks vs i k v within same key value =
    rw map-remove
    (weight-remove ks (map data_of vs) i k (data_of v)
    (slice_get_read ks (length ks) i k (λ _. length ks) within key) (row_value vs i v (omega arith) value))

weighed : (c : After-nth_value-value) →
    (1 + key_weight c.at-key.result.now + weight_of (data_of c.nth_value-value.result.now))
    + pairs_weight (pairs_in (remove (left c.args.start.now c.args.gone.now (kept_keys c.args.kept.now)) c.args.at)
    (remove (left c.args.start.now c.args.gone.now c.args.values.now.items) c.args.at))
    ≡ pairs_weight (pairs_in (left c.args.start.now c.args.gone.now (kept_keys c.args.kept.now))
    (left c.args.start.now c.args.gone.now c.args.values.now.items))
weighed c =
    parts (left c.args.start.now c.args.gone.now (kept_keys c.args.kept.now))
    (left c.args.start.now c.args.gone.now c.args.values.now.items) c.args.at c.at-key.result.now
    c.nth_value-value.result.now c.requires.there (rows-length c.requires.rows) c.at-key.ensures
    c.nth_value-value.ensures

pub overflow_add-weight : goal.overflow_add-weight
overflow_add-weight c =
    omega (arith, c.weight.ensures, c.requires.light, weighed (goal.at.overflow_add-weight c).After-nth_value-value)

pub overflow_add-weight-2 : goal.overflow_add-weight-2
overflow_add-weight-2 c =
    omega (
      arith,
      c.weight.ensures,
      c.weight-2.ensures,
      c.requires.light,
      weighed (goal.at.overflow_add-weight-2 c).After-nth_value-value,
    )

pub take_row-requires-clause-there : goal.take_row-requires-clause-there
take_row-requires-clause-there c =
    omega (
      arith,
      c.requires.there,
      length-left c.args.start.now c.args.gone.now (kept_keys c.args.kept.now) c.requires.rows.keys.within,
    )

pub returns-clause-weight : goal.returns-clause-weight
returns-clause-weight c =
    let rest : pairs_weight (pairs_in (left c.take_row.new.start c.take_row.new.gone (kept_keys c.take_row.new.kept))
    (left c.take_row.new.start c.take_row.new.gone c.take_row.new.values.items))
    ≡ pairs_weight (pairs_in (remove (left c.args.start.now c.args.gone.now (kept_keys c.args.kept.now)) c.args.at)
    (remove (left c.args.start.now c.args.gone.now c.args.values.now.items) c.args.at)) =
    λ i. pairs_weight (pairs_in (c.take_row.ensures.keys i) (c.take_row.ensures.values i)) in
    omega (
      arith,
      c.weight.ensures,
      c.weight-2.ensures,
      rest,
      weighed (goal.at.returns-clause-weight c).After-nth_value-value,
    )
