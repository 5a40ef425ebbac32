use Rattle.std.proofs.Common.{[], refl, sym, append-nil}
use Rattle.std.proofs.lemmas.Result.{err_from_is_err_and}
use Rattle.dp_async.proofs.Standings.{cut_short}
use Rattle.dp_async.proofs.Turns.{cut_arrived, stands_arrived}
use Rattle.dp_async.proofs.listener.Listener.arrive.Goals as goal

pub returns-in_err-answer-clause-position : goal.returns-in_err-answer-clause-position
returns-in_err-answer-clause-position g c =
    let p = err_from_is_err_and c.from_residual.result c.from_residual.ensures.1 in
    λ start o s. rw (p.1, p.2)
    (cut_short start _ _ _ _ _ _ _ s ([], sym (append-nil _)) refl refl s.agrees.later)

pub returns-in_err-deliver-clause-position : goal.returns-in_err-deliver-clause-position
returns-in_err-deliver-clause-position g c =
    let p = err_from_is_err_and c.from_residual-in_err-deliver.result c.from_residual-in_err-deliver.ensures.1 in
    λ start o s. rw (p.1, p.2)
    (cut_arrived start _ _ _ c.args.going _ c.arrive.new.self _ _ c.in_ok-answer.answer s c.in_ok-answer.ensures.ok _ _
    _ refl refl refl refl c.deliver.ensures.sink_later c.deliver.ensures.out_later c.in_err-deliver.ensures.cut)

pub returns-clause-position : goal.returns-clause-position
returns-clause-position g c = λ start o s.
    stands_arrived start _ _ _ c.args.going _ c.arrive.new.self _ _ c.in_ok-answer.answer s c.in_ok-answer.ensures.ok _
    _ _ _ c.in_ok-deliver.ensures.delivers.sent c.in_ok-deliver.ensures.delivers.printed c.deliver.ensures.sink_later
    c.deliver.ensures.out_later
