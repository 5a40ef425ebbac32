use Rattle.std.proofs.Common.{◌≡◌, ◌∙◌, refl, arith}
use Rattle.std.proofs.lemmas.List.{take_all}
use Rattle.dp_value.specs.Value.{pairs_in}
use Rattle.dp_value.specs.inner.Inside.{table_of}
use Rattle.dp_value.specs.inner.Kept.{is_rising, kept_keys}
use Rattle.dp_value.specs.inner.Left.{left}
use Rattle.dp_value.specs.inner.Rows.{left_in, AreRows}
use Rattle.dp_value.proofs.ArrayLemmas.{alike}
use Rattle.dp_value.proofs.value.Columns.try_clone.Goals as goal

pub invariant_of-result : goal.invariant_of-result
invariant_of-result c =
    let a = c.self.inside in
    let keys = c.in_ok-kept.ensures.keys in
    let values : c.loop-value.values.items ≡ a.values.items =
    c.loop-value.invariant
    ∙ take_all c.loop-value.value-index c.as_slice-rows.result.now (omega arith)
    ∙ c.as_slice-rows.ensures.value in
    let rows : AreRows a.start a.gone (is_rising c.in_ok-kept.kept) (kept_keys c.in_ok-kept.kept)
    c.loop-value.values.items =
    rw (c.in_ok-kept.ensures.rises, keys, values) c.self.invariant.rows in
    alike a c.self.invariant _ rows
    (λ i. record {
      pairs = pairs_in (left a.start a.gone (keys i)) (left a.start a.gone (values i));
      largest = a.largest;
    })
    refl

pub returns : goal.returns
returns c =
    let a = c.self.inside in
    let keys = c.in_ok-kept.ensures.keys in
    let values : c.loop-value.values.items ≡ a.values.items =
    c.loop-value.invariant
    ∙ take_all c.loop-value.value-index c.as_slice-rows.result.now (omega arith)
    ∙ c.as_slice-rows.ensures.value in
    let same : record {
      pairs = left_in a.start a.gone (kept_keys c.in_ok-kept.kept) c.loop-value.values.items;
      largest = a.largest;
    } ≡ table_of a =
    λ i. record {
      pairs = pairs_in (left a.start a.gone (keys i)) (left a.start a.gone (values i));
      largest = a.largest;
    } in
    same ∙ c.self.view_is
