use Rattle.std.proofs.Common.{◌≡◌, ◌∷◌, Bool, List, length, IsOk, OnOk, Result, Ok, Option, Some, None, unwrap_or, ap, sym, ◌∙◌, subst, arith}
use Rattle.dp_value.specs.declared.errors.WriteError.{WriteError}
use Rattle.dp_value.specs.declared.key.Key.{Key}
use Rattle.dp_value.specs.declared.value.Value.{Value}
use Rattle.dp_value.specs.Data.{Data, Table, data_of_table, null, pairs_weight}
use Rattle.dp_value.specs.Table.{put, swapped, table_set, table_exchange, value_at}
use Rattle.dp_value.specs.Value.{data_of}
use Rattle.dp_value.specs.Entry.{holder_of, light}
use Rattle.dp_value.specs.inner.Writes.{written_in}
use Rattle.dp_value.proofs.WriteLemmas.{on_err, err-along, ok-along, written-entered, holder_of-table, exchange-none, exchange-exchange, data-along, weight-swapped_null, IsUnder, under-asked, under-light, under-done, under-back, under-ok, under-err}
use Rattle.dp_value.proofs.writes.+writing.Goals as goal

pub write-returns-in-Array-clause-ok : goal.write-returns-in-Array-clause-ok
write-returns-in-Array-clause-ok t c =
    let is : holder_of (data_of c.args.value.now) ≡ Ok c.in-Array.array =
    ap (λ (v : Value). holder_of (data_of v)) c.in-Array.is ∙ holder_of-table c.in-Array.array in
    let same = written-entered c.is_empty.result c.args.keys.now c.args.push (data_of c.args.new)
    (data_of c.args.value.now) c.in-Array.array (c.is_empty.ensures, c.else-is_empty.either) is in
    subst (λ (r : Result Data WriteError). OnOk c.write_into.result
    (light r ≡ Ok (data_of_table c.write_into.new.array))) (sym same) c.write_into.ensures.ok

pub write-write_into-requires : goal.write-write_into-requires
write-write_into-requires t c =
    let is : holder_of (data_of c.args.value.now) ≡ Ok c.in-Array.array =
    ap (λ (v : Value). holder_of (data_of v)) c.in-Array.is ∙ holder_of-table c.in-Array.array in
    let same = written-entered c.is_empty.result c.args.keys.now c.args.push (data_of c.args.new)
    (data_of c.args.value.now) c.in-Array.array (c.is_empty.ensures, c.else-is_empty.either) is in
    (omega arith, subst (λ (r : Result Data WriteError). IsOk (light r)) same c.requires)

pub write_row-exchange-requires : goal.write_row-exchange-requires
write_row-exchange-requires t c =
    λ is. omega (arith, weight-swapped_null c.in-Some-key.key c.args.columns.now.pairs, is.light)

-- what the steps to a first key tell of the value under it
under : {keys rest : List (Option Key)} {o : Option Key} (key : Key) (push : Bool) (new : Data) (t : Table)
    (found : Option Data) → keys ≡ o ∷ rest → o ≡ Some key → found ≡ value_at t key
    → IsOk (light (written_in keys push new t)) → IsUnder keys key rest push new t (unwrap_or found null)
under {keys} {rest} {o} key push new t found is first has asked =
    record {
      first = is ∙ ap (λ (o : Option Key). o ∷ rest) first;
      entry = ap (λ (o : Option Data). unwrap_or o null) (sym has);
      asked = asked;
    }

pub write_row-write-requires : goal.write_row-write-requires
write_row-write-requires t c = (
  omega (arith, ap length c.in-Some.ensures.cases.0),
  under-asked (under c.in-Some-key.key c.args.push (data_of c.args.new) c.args.columns.now None
      c.in-Some.ensures.cases.0 c.in-Some-key.is c.in_default-exchange.ensures.value c.requires),
)

-- an array without a key stays as it is
stays : (t u : Table) (key : Key) → u ≡ table_exchange t key null → None ≡ value_at t key → u ≡ t
stays t u key is lacks = is ∙ exchange-none t key null (sym lacks)

pub write_row-returns-in_err-write-clause-err : goal.write_row-returns-in_err-write-clause-err
write_row-returns-in_err-write-clause-err t c =
    on_err c.from_residual.result _ _ (stays c.args.columns.now c.exchange.new.self c.in-Some-key.key
    c.in_default-exchange.ensures.exchanged c.in_default-exchange.ensures.value)

pub write_row-returns-in_err-try_clone-clause-err : goal.write_row-returns-in_err-try_clone-clause-err
write_row-returns-in_err-try_clone-clause-err t c =
    on_err c.from_residual-in_err-try_clone.result _ _ (stays c.args.columns.now c.exchange.new.self c.in-Some-key.key
    c.in_default-exchange.ensures.exchanged c.in_default-exchange.ensures.value)

pub write_row-set_entry-requires : goal.write_row-set_entry-requires
write_row-set_entry-requires t c =
    let d = data_of c.write.new.value in
    let light = under-light (under c.in-Some-key.key c.args.push (data_of c.args.new) c.args.columns.now None
    c.in-Some.ensures.cases.0 c.in-Some-key.is c.in_default-exchange.ensures.value c.requires) d
    c.in_ok-write.ensures.ok in
    let same = stays c.args.columns.now c.exchange.new.self c.in-Some-key.key
    c.in_default-exchange.ensures.exchanged c.in_default-exchange.ensures.value in
    omega (
      arith,
      light,
      ap (λ (x : Table). pairs_weight (put x.pairs c.in_ok-try_clone.field-0 d)) same,
      ap (λ (k : Key). pairs_weight (put c.args.columns.now.pairs k d)) c.in_ok-try_clone.ensures,
    )

pub write_row-returns-in_default-exchange-clause-ok : goal.write_row-returns-in_default-exchange-clause-ok
write_row-returns-in_default-exchange-clause-ok t c =
    let d = data_of c.write.new.value in
    let done = under-done (under c.in-Some-key.key c.args.push (data_of c.args.new) c.args.columns.now None
    c.in-Some.ensures.cases.0 c.in-Some-key.is c.in_default-exchange.ensures.value c.requires) d
    c.in_ok-write.ensures.ok in
    let same = stays c.args.columns.now c.exchange.new.self c.in-Some-key.key
    c.in_default-exchange.ensures.exchanged c.in_default-exchange.ensures.value in
    let set : table_set c.exchange.new.self c.in_ok-try_clone.field-0 d
    ≡ table_set c.args.columns.now c.in-Some-key.key d =
    ap (λ (x : Table). table_set x c.in_ok-try_clone.field-0 d) same
    ∙ ap (λ (k : Key). table_set c.args.columns.now k d) c.in_ok-try_clone.ensures in
    ok-along c.set_entry.result _ c.set_entry.new.columns _ c.set_entry.ensures.ok
    (done ∙ ap (λ (u : Table). let r : Result Data WriteError = Ok (data_of_table u) in r) (sym set))

pub write_row-returns-in_default-exchange-clause-err : goal.write_row-returns-in_default-exchange-clause-err
write_row-returns-in_default-exchange-clause-err t c =
    err-along c.set_entry.result c.set_entry.new.columns _ _ c.set_entry.ensures.err
    (stays c.args.columns.now c.exchange.new.self c.in-Some-key.key
    c.in_default-exchange.ensures.exchanged c.in_default-exchange.ensures.value)

pub write_row-write-result-requires : goal.write_row-write-result-requires
write_row-write-result-requires t c = (
  omega (arith, ap length c.in-Some.ensures.cases.0),
  under-asked (under c.in-Some-key.key c.args.push (data_of c.args.new) c.args.columns.now
      (Some (data_of c.in-Some-exchange.child)) c.in-Some.ensures.cases.0 c.in-Some-key.is
      c.in-Some-exchange.ensures.value c.requires),
)

pub write_row-exchange-requires-2 : goal.write_row-exchange-requires-2
write_row-exchange-requires-2 t c =
    let back = under-back (under c.in-Some-key.key c.args.push (data_of c.args.new) c.args.columns.now
    (Some (data_of c.in-Some-exchange.child)) c.in-Some.ensures.cases.0 c.in-Some-key.is
    c.in-Some-exchange.ensures.value c.requires) c.in-Some-exchange.ensures.table
    (sym c.in-Some-exchange.ensures.value) c.write-result.result (data_of c.write-result.new.value)
    c.write-result.ensures.ok
    (data-along c.write-result.result c.write-result.new.value c.in-Some-exchange.child c.write-result.ensures.err) in
    λ table. omega (
      arith,
      back,
      ap (λ (x : Table). pairs_weight
          (swapped x.pairs c.in-Some-key.key (data_of c.write-result.new.value))) c.in-Some-exchange.ensures.exchanged,
    )

-- the array after the value was put back
put_back : (t u v : Table) (key : Key) (d : Data) → u ≡ table_exchange t key null → v ≡ table_exchange u key d
    → v ≡ table_exchange t key d
put_back t u v key d taken back =
    back ∙ ap (λ (x : Table). table_exchange x key d) taken ∙ exchange-exchange t key null d

pub write_row-returns-clause-ok : goal.write_row-returns-clause-ok
write_row-returns-clause-ok t c =
    under-ok (under c.in-Some-key.key c.args.push (data_of c.args.new) c.args.columns.now
    (Some (data_of c.in-Some-exchange.child)) c.in-Some.ensures.cases.0 c.in-Some-key.is
    c.in-Some-exchange.ensures.value c.requires) c.in-Some-exchange.ensures.table
    (sym c.in-Some-exchange.ensures.value) c.write-result.result (data_of c.write-result.new.value)
    c.exchange-2.new.self
    (put_back c.args.columns.now c.exchange.new.self c.exchange-2.new.self c.in-Some-key.key
    (data_of c.write-result.new.value) c.in-Some-exchange.ensures.exchanged c.exchange-2.ensures.exchanged)
    c.write-result.ensures.ok

pub write_row-returns-clause-err : goal.write_row-returns-clause-err
write_row-returns-clause-err t c =
    under-err (under c.in-Some-key.key c.args.push (data_of c.args.new) c.args.columns.now
    (Some (data_of c.in-Some-exchange.child)) c.in-Some.ensures.cases.0 c.in-Some-key.is
    c.in-Some-exchange.ensures.value c.requires) c.in-Some-exchange.ensures.table
    (sym c.in-Some-exchange.ensures.value) c.write-result.result (data_of c.write-result.new.value)
    c.exchange-2.new.self
    (put_back c.args.columns.now c.exchange.new.self c.exchange-2.new.self c.in-Some-key.key
    (data_of c.write-result.new.value) c.in-Some-exchange.ensures.exchanged c.exchange-2.ensures.exchanged)
    (data-along c.write-result.result c.write-result.new.value c.in-Some-exchange.child c.write-result.ensures.err)
