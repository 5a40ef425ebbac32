use Rattle.std.proofs.Common.{◌≡◌, ◌∷◌, List, Option, Some, Result, Ok, IfErr, OnOk, ap, sym, subst, ◌∙◌, arith, rules}
use Rattle.dp_value.specs.declared.errors.WriteError.{WriteError}
use Rattle.dp_value.specs.declared.key.Key.{Key}
use Rattle.dp_value.specs.Data.{Data, Table, data_of_table, null, pairs_weight}
use Rattle.dp_value.specs.Table.{swapped, table_exchange}
use Rattle.dp_value.specs.Value.{data_of}
use Rattle.dp_value.specs.Entry.{removed, IsCause}
use Rattle.dp_value.specs.inner.Removals.{removed_in}
use Rattle.dp_value.proofs.RemovalLemmas.{removed-under, removed-here, removed-missing, back-light, back-ok, back-refused, back-err}
use Rattle.dp_value.proofs.WriteLemmas.{data-along, exchange-none, exchange-exchange, weight-swapped_null}
use Rattle.dp_value.proofs.removals.+removing.Goals as goal

-- a removal under an index that is a key
module _ {X : Type 0} (r : Result X WriteError) (key : Option Key) (k : Key) (rest : List (Option Key)) (t : Table)
    (is : key ≡ Some k) where
  under-ok : (u : Table) → OnOk r (removed_in k rest t ≡ Ok (data_of_table u))
      → OnOk r (removed (key ∷ rest) (data_of_table t) ≡ Ok (data_of_table u))
  under-ok u h =
      subst (λ (asked : Result Data WriteError). OnOk r (asked ≡ Ok (data_of_table u)))
      (sym (removed-under key k rest t is)) h

  under-refused : IfErr r (IsCause (removed_in k rest t)) → IfErr r (IsCause (removed (key ∷ rest) (data_of_table t)))
  under-refused h =
      subst (λ (asked : Result Data WriteError). IfErr r (IsCause asked)) (sym (removed-under key k rest t is)) h

pub take_from-returns-in-Some-columns-clause-ok : goal.take_from-returns-in-Some-columns-clause-ok
take_from-returns-in-Some-columns-clause-ok t c =
    under-ok c.take_row.result c.args.key.now c.in-Some.key c.args.rest.now c.args.array.now c.in-Some.is _
    (search rules)

pub take_from-returns-in-Some-columns-clause-refused : goal.take_from-returns-in-Some-columns-clause-refused
take_from-returns-in-Some-columns-clause-refused t c =
    under-refused c.take_row.result c.args.key.now c.in-Some.key c.args.rest.now c.args.array.now c.in-Some.is
    (search rules)

pub take_row-returns-then-is_empty-clause-ok : goal.take_row-returns-then-is_empty-clause-ok
take_row-returns-then-is_empty-clause-ok t c =
    removed-here c.args.key.now c.args.rest.now c.args.columns.now
    (sym c.is_empty.ensures ∙ c.if-is_empty.true)
    ∙ ap (λ (u : Table). let r : Result Data WriteError = Ok (data_of_table u) in r) (sym c.remove.ensures.removed)

pub take_row-exchange-requires : goal.take_row-exchange-requires
take_row-exchange-requires t c =
    λ is. omega (arith, weight-swapped_null c.args.key.now c.args.columns.now.pairs, is.light)

pub take_row-returns-in_default-clause-ok : goal.take_row-returns-in_default-clause-ok
take_row-returns-in_default-clause-ok t c =
    let same : c.exchange.new.self ≡ c.args.columns.now =
    c.in_default.ensures.exchanged
    ∙ exchange-none c.args.columns.now c.args.key.now null (sym c.in_default.ensures.value) in
    removed-missing c.args.key.now c.args.rest.now c.args.columns.now
    (sym c.is_empty.ensures ∙ c.if-is_empty.false) (sym c.in_default.ensures.value)
    ∙ ap (λ (u : Table). let r : Result Data WriteError = Ok (data_of_table u) in r) (sym same)

pub take_row-exchange-requires-2 : goal.take_row-exchange-requires-2
take_row-exchange-requires-2 t c =
    let light = back-light c.args.key.now c.args.rest.now c.args.columns.now
    (data_of c.in-Some.child) (sym c.is_empty.ensures ∙ c.if-is_empty.false)
    (sym c.in-Some.ensures.value) c.in-Some.ensures.table
    c.take_away-result.result (data_of c.take_away-result.new.value) c.take_away-result.ensures.ok
    (data-along c.take_away-result.result c.take_away-result.new.value c.in-Some.child
    c.take_away-result.ensures.err) in
    λ table. omega (
      arith,
      light,
      ap (λ (x : Table). pairs_weight
          (swapped x.pairs c.args.key.now (data_of c.take_away-result.new.value))) c.in-Some.ensures.exchanged,
    )

-- the array after the value was put back
put_back : (t u v : Table) (key : Key) (d : Data) → u ≡ table_exchange t key null → v ≡ table_exchange u key d
    → v ≡ table_exchange t key d
put_back t u v key d taken back =
    back ∙ ap (λ (x : Table). table_exchange x key d) taken ∙ exchange-exchange t key null d

pub take_row-returns-clause-ok : goal.take_row-returns-clause-ok
take_row-returns-clause-ok t c =
    back-ok c.args.key.now c.args.rest.now c.args.columns.now
    (data_of c.in-Some.child) (sym c.is_empty.ensures ∙ c.if-is_empty.false)
    (sym c.in-Some.ensures.value) c.in-Some.ensures.table
    c.take_away-result.result (data_of c.take_away-result.new.value) c.exchange-2.new.self
    (put_back c.args.columns.now c.exchange.new.self c.exchange-2.new.self c.args.key.now
    (data_of c.take_away-result.new.value) c.in-Some.ensures.exchanged c.exchange-2.ensures.exchanged)
    c.take_away-result.ensures.ok

pub take_row-returns-clause-refused : goal.take_row-returns-clause-refused
take_row-returns-clause-refused t c =
    back-refused c.args.key.now c.args.rest.now c.args.columns.now
    (data_of c.in-Some.child) (sym c.is_empty.ensures ∙ c.if-is_empty.false)
    (sym c.in-Some.ensures.value) c.in-Some.ensures.table
    c.take_away-result.result c.take_away-result.ensures.refused

pub take_row-returns-clause-err : goal.take_row-returns-clause-err
take_row-returns-clause-err t c =
    back-err c.args.key.now c.args.rest.now c.args.columns.now
    (data_of c.in-Some.child) (sym c.is_empty.ensures ∙ c.if-is_empty.false)
    (sym c.in-Some.ensures.value) c.in-Some.ensures.table
    c.take_away-result.result (data_of c.take_away-result.new.value) c.exchange-2.new.self
    (put_back c.args.columns.now c.exchange.new.self c.exchange-2.new.self c.args.key.now
    (data_of c.take_away-result.new.value) c.in-Some.ensures.exchanged c.exchange-2.ensures.exchanged)
    (data-along c.take_away-result.result c.take_away-result.new.value c.in-Some.child
    c.take_away-result.ensures.err)
