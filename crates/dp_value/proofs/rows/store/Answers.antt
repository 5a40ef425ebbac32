use Rattle.std.proofs.Common.{◌++◌, ◌∷◌, [], map, ap, sym, ◌∙◌, arith}
use Rattle.std.proofs.lemmas.List.{map-set, map_push}
use Rattle.std.proofs.lemmas.Result.{err_from_is_err_and}
use Rattle.std.specs.List.{zip}
use Rattle.dp_value.specs.Key.{key_eq}
use Rattle.dp_value.specs.Value.{data_of, pairs_in}
use Rattle.dp_value.specs.inner.Kept.{kept_keys}
use Rattle.dp_value.specs.inner.Left.{left}
use Rattle.dp_value.proofs.ArrayLemmas.{data_length}
use Rattle.dp_value.proofs.PairLemmas.{put-first, put-absent}
use Rattle.dp_value.proofs.RowLemmas.{first-within, rows-length}
use Rattle.dp_value.proofs.rows.store.Goals as goal

pub replace_nth-requires-clause-there : goal.replace_nth-requires-clause-there
replace_nth-requires-clause-there c =
    omega (
      arith,
      rows-length c.requires,
      first-within (key_eq c.args.key) c.in-Some.at (left c.args.start.now c.args.gone.now (kept_keys c.args.kept.now))
          c.in-Some.ensures,
    )

pub returns-in-Some-clause-ok : goal.returns-in-Some-clause-ok
returns-in-Some-clause-ok c =
    let ks = left c.args.start.now c.args.gone.now (kept_keys c.args.kept.now) in
    let vs = left c.args.start.now c.args.gone.now c.args.values.now.items in
    ap (pairs_in ks) c.replace_nth.ensures.left
    ∙ ap (zip ks) (map-set data_of vs c.in-Some.at c.args.value)
    ∙ sym (put-first c.args.key ks (map data_of vs) c.in-Some.at (data_of c.args.value) c.in-Some.ensures
    (data_length vs ks (rows-length c.requires)))

pub returns-in-Some-clause-rows : goal.returns-in-Some-clause-rows
returns-in-Some-clause-rows c = record {
  keys = c.requires.keys;
  nulls = c.replace_nth.ensures.nulls;
  same_length = c.replace_nth.ensures.same_length ∙ c.requires.same_length;
}

pub returns-in_err-make_way-clause-err : goal.returns-in_err-make_way-clause-err
returns-in_err-make_way-clause-err c =
    let p = err_from_is_err_and c.from_residual.result c.from_residual.ensures.1 in
    rw (p.1, c.make_way.ensures.keys, c.make_way.ensures.values)

pub returns-in_err-push_row-clause-err : goal.returns-in_err-push_row-clause-err
returns-in_err-push_row-clause-err c =
    let p = err_from_is_err_and c.from_residual-in_err-push_row.result c.from_residual-in_err-push_row.ensures.1 in
    rw p.1 (rw (c.make_way.ensures.keys, c.make_way.ensures.values) at c.in_err-push_row.ensures.err)

pub returns-clause-ok : goal.returns-clause-ok
returns-clause-ok c =
    let ks = left c.args.start.now c.args.gone.now (kept_keys c.args.kept.now) in
    let vs = left c.args.start.now c.args.gone.now c.args.values.now.items in
    (rw (c.make_way.ensures.keys, c.make_way.ensures.values) at c.in_ok-push_row.ensures.ok)
    ∙ ap (zip (ks ++ c.args.key ∷ [])) (map_push data_of vs c.args.value)
    ∙ sym (put-absent c.args.key ks (map data_of vs) (data_of c.args.value) c.in_default.ensures
    (data_length vs ks (rows-length c.requires)))
