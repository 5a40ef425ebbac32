use Rattle.std.proofs.Common.{◌∷◌, []}
use Rattle.std.proofs.lemmas.Result.{err_from_is_err_and}
use Rattle.dp_value.specs.inner.Kept.{kept_keys}
use Rattle.dp_value.proofs.LeftLemmas.{left-push}
use Rattle.dp_value.proofs.RowLemmas.{rows-push}
use Rattle.dp_value.proofs.rows.push_row.Goals as goal

pub returns-in_err-reserve-clause-err : goal.returns-in_err-reserve-clause-err
returns-in_err-reserve-clause-err c =
    let p = err_from_is_err_and c.from_residual.result c.from_residual.ensures.1 in rw (p.1, c.reserve.ensures.items)

pub returns-in_err-reserve-clause-rows : goal.returns-in_err-reserve-clause-rows
returns-in_err-reserve-clause-rows c = rw c.reserve.ensures.items c.requires.rows

pub push-requires : goal.push-requires
push-requires c = λ is. rw is at c.requires.way

pub returns-in_err-push-clause-err : goal.returns-in_err-push-clause-err
returns-in_err-push-clause-err c =
    let p = err_from_is_err_and c.from_residual-in_err-push.result c.from_residual-in_err-push.ensures.1 in
    rw (p.1, c.in_err-push.ensures.err, c.reserve.ensures.items)

pub returns-in_err-push-clause-rows : goal.returns-in_err-push-clause-rows
returns-in_err-push-clause-rows c =
    rw (c.push.ensures.rises, c.in_err-push.ensures.err, c.reserve.ensures.items) c.requires.rows

pub returns-clause-ok : goal.returns-clause-ok
returns-clause-ok c =
    let s = c.args.start in
    let g = c.args.gone in
    let vs = c.args.values.now.items in
    rw (
      c.in_ok-push.ensures.ok,
      c.push_reserved.ensures.items,
      c.reserve.ensures.items,
      left-push s g (kept_keys c.args.kept.now) (c.args.key ∷ []) c.requires.rows.keys.within,
      left-push s g vs (c.args.value ∷ []) (c.requires.rows.nulls.within),
    )

pub returns-clause-rows : goal.returns-clause-rows
returns-clause-rows c =
    rw (
      c.push.ensures.rises,
      c.in_ok-push.ensures.ok,
      c.push_reserved.ensures.items,
      c.reserve.ensures.items,
    ) (rows-push c.requires.rows c.args.key c.args.value c.requires.way)
