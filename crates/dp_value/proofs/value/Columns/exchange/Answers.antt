use Rattle.std.proofs.Common.{◌≡◌, ℕ, ◌≤◌, List, length, map, set, ap, sym, subst, ◌∙◌, arith}
use Rattle.std.proofs.lemmas.List.{map-set}
use Rattle.std.specs.List.{zip}
use Rattle.dp_value.specs.declared.key.Key.{Key}
use Rattle.dp_value.specs.declared.value.Value.{Value}
use Rattle.dp_value.specs.Place.{IsFirst}
use Rattle.dp_value.specs.Data.{Table, pairs_weight}
use Rattle.dp_value.specs.Key.{key_eq}
use Rattle.dp_value.specs.inner.Inside.{keys_left, values_left, table_of}
use Rattle.dp_value.specs.inner.Kept.{kept_keys}
use Rattle.dp_value.specs.inner.Left.{left}
use Rattle.dp_value.specs.inner.Rows.{left_in}
use Rattle.dp_value.specs.Table.{value_at, swapped, table_exchange, weight_limit, IsTable}
use Rattle.dp_value.specs.Value.{data_of, pairs_in}
use Rattle.dp_value.proofs.PairLemmas.{absent-find_value, first-find_value, swapped-first, weight-swapped-first, weight-at}
use Rattle.dp_value.proofs.ArrayLemmas.{data_length, lengths_left, read_value, same_left, there}
use Rattle.dp_value.proofs.TableLemmas.{IsTable-exchange}
use Rattle.dp_value.proofs.WriteLemmas.{exchange-none}
use Rattle.dp_value.proofs.value.Columns.exchange.Goals as goal

pub returns-in_err-at-clause-value : goal.returns-in_err-at-clause-value
returns-in_err-at-clause-value c =
    rw c.from_residual.ensures
    (sym (absent-find_value (key_eq c.args.key.now) (keys_left c.self.inside)
    (map data_of (values_left c.self.inside)) c.in_err-at.ensures)
    ∙ ap (λ (t : Table). value_at t c.args.key.now) c.self.view_is)

pub returns-in_err-at-clause-exchanged : goal.returns-in_err-at-clause-exchanged
returns-in_err-at-clause-exchanged c =
    sym (exchange-none _ c.args.key.now (data_of c.args.value)
    (sym (ap (λ (t : Table). value_at t c.args.key.now) c.self.view_is)
    ∙ absent-find_value (key_eq c.args.key.now) (keys_left c.self.inside)
    (map data_of (values_left c.self.inside)) c.in_err-at.ensures))

-- the rows with a value in one that is left are the exchanged pairs
exchanged : (ks : List Key) (vs ws : List Value) (i : ℕ) (key : Key) (v : Value) → IsFirst (key_eq key) ks i
    → length vs ≡ length ks → ws ≡ set vs i v → swapped (pairs_in ks vs) key (data_of v) ≡ pairs_in ks ws
exchanged ks vs ws i key v first same after =
    swapped-first key ks (map data_of vs) i (data_of v) first (data_length vs ks same)
    ∙ ap (zip ks) (sym (map-set data_of vs i v))
    ∙ ap (pairs_in ks) (sym after)

pub replace_nth-old-requires-clause-there : goal.replace_nth-old-requires-clause-there
replace_nth-old-requires-clause-there c =
    there c.self.inside c.self.invariant (key_eq c.args.key.now) c.in_ok-at.at c.in_ok-at.ensures

pub overflow_sub-self : goal.overflow_sub-self
overflow_sub-self c =
    let row = read_value c.self.inside c.self.invariant (key_eq c.args.key.now) c.in_ok-at.at c.in_ok-at.ensures
    c.replace_nth-old.result c.replace_nth-old.ensures.was in
    omega (
      arith,
      c.weight.ensures,
      c.self.invariant.weight,
      weight-at (keys_left c.self.inside) (map data_of (values_left c.self.inside)) c.in_ok-at.at
          (data_of c.replace_nth-old.result)
          (same_left c.self.inside c.self.invariant) row,
    )

pub overflow_add-self : goal.overflow_add-self
overflow_add-self c =
    let d = data_of c.args.value in
    let row = read_value c.self.inside c.self.invariant (key_eq c.args.key.now) c.in_ok-at.at c.in_ok-at.ensures
    c.replace_nth-old.result c.replace_nth-old.ensures.was in
    let weighs = weight-swapped-first c.args.key.now (keys_left c.self.inside) (map data_of (values_left c.self.inside))
    c.in_ok-at.at (data_of c.replace_nth-old.result) d c.in_ok-at.ensures
    (same_left c.self.inside c.self.invariant) row in
    let seen = ap (λ (t : Table). pairs_weight (swapped t.pairs c.args.key.now d)) c.self.view_is in
    let allowed = c.requires (subst (λ (t : Table). IsTable t) c.self.view_is c.self.invariant.table) in
    let light : pairs_weight (swapped (table_of c.self.inside).pairs c.args.key.now d) ≤ weight_limit =
    omega (arith, seen, allowed) in
    omega (arith, weighs, light, c.weight.ensures, c.weight-added.ensures, c.self.invariant.weight)

pub invariant_of-self : goal.invariant_of-self
invariant_of-self c =
    let d = data_of c.args.value in
    let row = read_value c.self.inside c.self.invariant (key_eq c.args.key.now) c.in_ok-at.at c.in_ok-at.ensures
    c.replace_nth-old.result c.replace_nth-old.ensures.was in
    let lighter = weight-at (keys_left c.self.inside) (map data_of (values_left c.self.inside)) c.in_ok-at.at
    (data_of c.replace_nth-old.result)
    (same_left c.self.inside c.self.invariant) row in
    let weighs = weight-swapped-first c.args.key.now (keys_left c.self.inside)
    (map data_of (values_left c.self.inside)) c.in_ok-at.at
    (data_of c.replace_nth-old.result) d c.in_ok-at.ensures
    (same_left c.self.inside c.self.invariant) row in
    let pairs = exchanged (keys_left c.self.inside) (values_left c.self.inside)
    (left c.self.inside.start c.self.inside.gone c.replace_nth-old.new.values.items) c.in_ok-at.at c.args.key.now
    c.args.value c.in_ok-at.ensures (lengths_left c.self.inside c.self.invariant) c.replace_nth-old.ensures.left in
    let seen = ap (λ (t : Table). pairs_weight (swapped t.pairs c.args.key.now d)) c.self.view_is in
    let allowed = c.requires (subst (λ (t : Table). IsTable t) c.self.view_is c.self.invariant.table) in
    let light : pairs_weight (swapped (table_of c.self.inside).pairs c.args.key.now d) ≤ weight_limit = omega
    (arith, seen, allowed) in
    let same : table_exchange (table_of c.self.inside) c.args.key.now d
    ≡ record {
      pairs = left_in c.self.inside.start c.self.inside.gone (kept_keys c.self.inside.kept)
          c.replace_nth-old.new.values.items;
      largest = c.self.inside.largest;
    } =
    λ i. record { pairs = pairs i; largest = c.self.inside.largest } in
    record {
      rows = record {
        keys = c.self.invariant.rows.keys;
        nulls = c.replace_nth-old.ensures.nulls;
        same_length = c.replace_nth-old.ensures.same_length ∙ c.self.invariant.rows.same_length;
      };
      table =
          subst (λ (t : Table). IsTable t) same (IsTable-exchange
          (table_of c.self.inside) c.args.key.now d c.self.invariant.table light);
      weight =
          omega (
            arith,
            lighter,
            weighs,
            ap pairs_weight pairs,
            c.weight.ensures,
            c.weight-added.ensures,
            c.self.invariant.weight,
          );
    }

pub returns-clause-value : goal.returns-clause-value
returns-clause-value c =
    let row = read_value c.self.inside c.self.invariant (key_eq c.args.key.now) c.in_ok-at.at c.in_ok-at.ensures
    c.replace_nth-old.result c.replace_nth-old.ensures.was in
    sym (first-find_value (key_eq c.args.key.now) (keys_left c.self.inside)
    (map data_of (values_left c.self.inside)) c.in_ok-at.at c.in_ok-at.ensures
    (same_left c.self.inside c.self.invariant)
    ∙ row)
    ∙ ap (λ (t : Table). value_at t c.args.key.now) c.self.view_is

pub returns-clause-exchanged : goal.returns-clause-exchanged
returns-clause-exchanged c =
    let d = data_of c.args.value in
    let pairs = exchanged (keys_left c.self.inside) (values_left c.self.inside)
    (left c.self.inside.start c.self.inside.gone c.replace_nth-old.new.values.items) c.in_ok-at.at c.args.key.now
    c.args.value c.in_ok-at.ensures (lengths_left c.self.inside c.self.invariant) c.replace_nth-old.ensures.left in
    let same : record {
      pairs = left_in c.self.inside.start c.self.inside.gone (kept_keys c.self.inside.kept)
          c.replace_nth-old.new.values.items;
      largest = c.self.inside.largest;
    }
    ≡ table_exchange (table_of c.self.inside) c.args.key.now d =
    λ i. record { pairs = sym pairs i; largest = c.self.inside.largest } in
    same ∙ ap (λ (t : Table). table_exchange t c.args.key.now d) c.self.view_is
