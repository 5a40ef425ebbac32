use Rattle.std.proofs.Common.{◌+◌, List, map, take, drop, ap, ◌∙◌, add-one, arith}
use Rattle.std.proofs.lemmas.List.{take_all}
use Rattle.std.proofs.lemmas.Result.{err_from_is_err_and}
use Rattle.dp_value.specs.declared.key.Key.{Key}
use Rattle.dp_value.specs.Data.{data_of_key, Data, Table}
use Rattle.dp_value.specs.Table.{table_push}
use Rattle.dp_value.specs.Value.{data_of}
use Rattle.dp_value.proofs.PairLemmas.{map-read}
use Rattle.dp_operations.specs.Lists.{list_of}
use Rattle.dp_operations.proofs.ListLemmas.{light-list_of, push-list_of, split_at, refused}
use Rattle.dp_operations.proofs.arrays.list_of_keys.Goals as goal

pub returns-in_err-append : goal.returns-in_err-append
returns-in_err-append c =
    let p = err_from_is_err_and c.from_residual-in_err-append.result c.from_residual-in_err-append.ensures.1 in
    let f = λ (p : Key × Data). data_of_key p.0 in
    let ps = c.args.array.now.pairs in
    let i = c.loop-at.at in
    let whole = split_at f ps i (c.in-Some.key.now, data_of c.in-Some._value.now) c.in-Some.ensures in
    let only = rw c.in_ok-to_value.ensures at c.in_err-append.ensures.only in
    rw (p.1, p.2, whole)
    (refused (map f (take i ps)) (map f (drop (i + 1) ps)) (data_of_key c.in-Some.key.now) c.loop-at.list
    c.in_err-append.field-0.0 c.loop-at.invariant.0 c.loop-at.invariant.1 only)

pub loop-at-preserved : goal.loop-at-preserved
loop-at-preserved c =
    let f = λ (p : Key × Data). data_of_key p.0 in
    let ps = c.args.array.now.pairs in
    let next = map-read f ps c.loop-at.at (c.in-Some.key.now, data_of c.in-Some._value.now) c.in-Some.ensures in (
      c.in_ok-append.ensures.ok
          ∙ ap (λ (d : Data). table_push c.loop-at.list d) c.in_ok-to_value.ensures
          ∙ ap (λ (t : Table). table_push t (data_of_key c.in-Some.key.now)) c.loop-at.invariant.0
          ∙ push-list_of (map f (take c.loop-at.at ps)) (data_of_key c.in-Some.key.now)
          ∙ ap list_of (rw add-one next),
      c.in_ok-append.ensures.light,
    )

pub returns : goal.returns
returns c =
    let f = λ (p : Key × Data). data_of_key p.0 in
    let ps = c.args.array.now.pairs in
    let whole = take_all c.loop-at.at ps (omega (arith, c.len-at-end.ensures.len)) in
    light-list_of (map f ps) c.loop-at.list
    (c.loop-at.invariant.0 ∙ ap (λ (qs : List (Key × Data)). list_of (map f qs)) whole) c.loop-at.invariant.1
