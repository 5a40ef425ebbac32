use Rattle.std.proofs.Common.{◌≡◌, ◌<◌, List, length, map, remove, is_some, ap, sym, subst, ◌∙◌, arith}
use Rattle.std.proofs.lemmas.Option.{slice_get-get_or}
use Rattle.std.specs.List.{zip}
use Rattle.dp_value.specs.declared.key.Key.{Key}
use Rattle.dp_value.specs.declared.value.Value.{Value}
use Rattle.dp_value.specs.Data.{Table, null}
use Rattle.dp_value.specs.Key.{key_eq}
use Rattle.dp_value.specs.inner.Inside.{keys_left, values_left, table_of}
use Rattle.dp_value.specs.inner.Kept.{kept_keys}
use Rattle.dp_value.specs.inner.Left.{left}
use Rattle.dp_value.specs.inner.Rows.{left_in}
use Rattle.dp_value.specs.Table.{value_at, take_away, table_remove, IsTable}
use Rattle.dp_value.specs.Value.{data_of, pairs_in}
use Rattle.dp_value.proofs.PairLemmas.{absent-find_value, first-find_value, take_away-first, map-remove}
use Rattle.dp_value.proofs.ArrayLemmas.{same_left}
use Rattle.dp_value.proofs.RemovalLemmas.{nothing-removed}
use Rattle.dp_value.proofs.RowLemmas.{first-within}
use Rattle.dp_value.proofs.TableLemmas.{IsTable-remove}
use Rattle.dp_value.proofs.value.Columns.remove.Goals as goal

pub returns-in_default-clause-found : goal.returns-in_default-clause-found
returns-in_default-clause-found c =
    sym (ap is_some (absent-find_value (key_eq c.args.key.now) (keys_left c.self.inside)
    (map data_of (values_left c.self.inside)) c.in_default.ensures))
    ∙ ap (λ (t : Table). is_some (value_at t c.args.key.now)) c.self.view_is

pub returns-in_default-clause-removed : goal.returns-in_default-clause-removed
returns-in_default-clause-removed c =
    nothing-removed _ c.args.key.now
    (sym (ap (λ (t : Table). value_at t c.args.key.now) c.self.view_is)
    ∙ absent-find_value (key_eq c.args.key.now) (keys_left c.self.inside)
    (map data_of (values_left c.self.inside)) c.in_default.ensures)

pub take_out-weight-requires-clause-there : goal.take_out-weight-requires-clause-there
take_out-weight-requires-clause-there c =
    first-within (key_eq c.args.key.now) c.in-Some.at (keys_left c.self.inside) c.in-Some.ensures

-- the rows that are left are the pairs without the key
closed_up : (c : goal.After-self-1)
    → take_away (pairs_in (keys_left c.self.inside) (values_left c.self.inside)) c.args.key.now ≡ left_in
    c.take_out-weight.new.start c.take_out-weight.new.gone (kept_keys c.take_out-weight.new.kept)
    c.take_out-weight.new.values.items
closed_up c =
    take_away-first c.args.key.now (keys_left c.self.inside) (map data_of (values_left c.self.inside)) c.in-Some.at
    c.in-Some.ensures (same_left c.self.inside c.self.invariant)
    ∙ ap (zip (remove (keys_left c.self.inside) c.in-Some.at)) (sym
    (map-remove data_of (values_left c.self.inside) c.in-Some.at))
    ∙ ap (λ (vs : List Value). pairs_in (remove (keys_left c.self.inside) c.in-Some.at) vs)
    (sym c.take_out-weight.ensures.values)
    ∙ ap (λ (ks : List Key). pairs_in ks (left c.take_out-weight.new.start c.take_out-weight.new.gone
    c.take_out-weight.new.values.items)) (sym c.take_out-weight.ensures.keys)

pub invariant_of-self : goal.invariant_of-self
invariant_of-self c =
    let same : table_remove (table_of c.self.inside) c.args.key.now ≡ record {
      pairs =
          left_in c.take_out-weight.new.start c.take_out-weight.new.gone (kept_keys c.take_out-weight.new.kept)
          c.take_out-weight.new.values.items;
      largest =
          c.self.inside.largest;
    } =
    λ i. record { pairs = closed_up c i; largest = c.self.inside.largest } in
    record {
      rows = c.take_out-weight.ensures.rows;
      table =
          subst (λ (t : Table). IsTable t) same (IsTable-remove
          (table_of c.self.inside) c.args.key.now c.self.invariant.table);
      weight = omega (arith, c.take_out-weight.ensures.weight, c.self.invariant.weight);
    }

pub returns-clause-found : goal.returns-clause-found
returns-clause-found c =
    let within : c.in-Some.at < length (map data_of (values_left c.self.inside)) =
    omega (
      arith,
      same_left c.self.inside c.self.invariant,
      first-within (key_eq c.args.key.now) c.in-Some.at (keys_left c.self.inside) c.in-Some.ensures,
    )
    in
    sym (ap is_some (first-find_value (key_eq c.args.key.now) (keys_left c.self.inside)
    (map data_of (values_left c.self.inside)) c.in-Some.at c.in-Some.ensures
    (same_left c.self.inside c.self.invariant)
    ∙ slice_get-get_or (map data_of (values_left c.self.inside)) c.in-Some.at null within))
    ∙ ap (λ (t : Table). is_some (value_at t c.args.key.now)) c.self.view_is

pub returns-clause-removed : goal.returns-clause-removed
returns-clause-removed c =
    let same : record {
      pairs =
          left_in c.take_out-weight.new.start c.take_out-weight.new.gone (kept_keys c.take_out-weight.new.kept)
          c.take_out-weight.new.values.items;
      largest =
          c.self.inside.largest;
    } ≡ table_remove (table_of c.self.inside) c.args.key.now =
    λ i. record { pairs = sym (closed_up c) i; largest = c.self.inside.largest } in
    same ∙ ap (λ (t : Table). table_remove t c.args.key.now) c.self.view_is
