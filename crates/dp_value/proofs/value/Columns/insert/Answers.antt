use Rattle.std.proofs.Common.{◌≡◌, ◌≤◌, refl, sym, ap, subst, ◌∙◌, arith}
use Rattle.std.proofs.lemmas.Result.{err_from_is_err_and}
use Rattle.dp_value.specs.Data.{Table, pairs_weight}
use Rattle.dp_value.specs.inner.Inside.{table_of}
use Rattle.dp_value.specs.inner.Kept.{kept_keys}
use Rattle.dp_value.specs.inner.Rows.{left_in}
use Rattle.dp_value.specs.Table.{put, weight_limit, table_set, IsTable}
use Rattle.dp_value.specs.Value.{data_of}
use Rattle.dp_value.proofs.ArrayLemmas.{alike}
use Rattle.dp_value.proofs.TableLemmas.{IsTable-set}
use Rattle.dp_value.proofs.value.Columns.insert.Goals as goal

pub invariant_of-self : goal.invariant_of-self
invariant_of-self c =
    alike c.self.inside c.self.invariant _ c.store.ensures.rows
    (λ i. record { pairs = c.in_err-store.ensures.err i; largest = c.self.inside.largest }) refl

pub returns-in_err-store-clause-err : goal.returns-in_err-store-clause-err
returns-in_err-store-clause-err c =
    let p = err_from_is_err_and c.from_residual.result c.from_residual.ensures.1 in
    let same : record {
      pairs = left_in c.store.new.start c.store.new.gone (kept_keys c.store.new.kept) c.store.new.values.items;
      largest = c.self.inside.largest;
    } ≡ table_of c.self.inside =
    λ i. record { pairs = c.in_err-store.ensures.err i; largest = c.self.inside.largest } in
    rw p.1 (same ∙ c.self.view_is)

pub invariant_of-self-2 : goal.invariant_of-self-2
invariant_of-self-2 c =
    let d = data_of c.args.value in
    let seen : pairs_weight (put (table_of c.self.inside).pairs c.args.key d) ≡ pairs_weight
    (put c.args.self.now.pairs c.args.key d) =
    ap (λ (t : Table). pairs_weight (put t.pairs c.args.key d)) c.self.view_is in
    let weighs = c.requires.weighs in
    let light : pairs_weight (put (table_of c.self.inside).pairs c.args.key d) ≤ weight_limit = omega
    (arith, seen, weighs, c.requires.light) in
    let stored = c.in_ok-store.ensures.ok in
    let same : table_set (table_of c.self.inside) c.args.key d ≡ record {
      pairs = left_in c.store.new.start c.store.new.gone (kept_keys c.store.new.kept) c.store.new.values.items;
      largest = c.raised-largest.result;
    } =
    λ i. record { pairs = sym stored i; largest = sym c.raised-largest.ensures i } in
    record {
      rows = c.store.ensures.rows;
      table =
          subst (λ (t : Table). IsTable t) same (IsTable-set (table_of c.self.inside) c.args.key d
          c.self.invariant.table light);
      weight = omega (arith, seen, weighs, light, ap pairs_weight stored);
    }
