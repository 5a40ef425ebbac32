use Rattle.std.proofs.Common.{refl, sym}
use Rattle.std.proofs.lemmas.Result.{err_from_is_err_and}
use Rattle.dp_async.proofs.Turns.{obeyed_by, obeyed_cut}
use Rattle.dp_async.proofs.listener.Listener.obey.Goals as goal

pub returns-in-Goes-clause-position : goal.returns-in-Goes-clause-position
returns-in-Goes-clause-position g c = λ start due. c.go.ensures.position start (rw c.in-Goes.is at due)

pub returns-in_err-ended-in-Answered-clause-position : goal.returns-in_err-ended-in-Answered-clause-position
returns-in_err-ended-in-Answered-clause-position g c =
    let p = err_from_is_err_and c.from_residual.result c.from_residual.ensures.1 in
    λ start due.
    let d = rw c.in-Answered.is at due in
    rw (p.1, p.2)
    (obeyed_cut start _ _ _ c.in-Answered.answer _ _ _ d.done d.agrees d.counted d.fits d.reads_on d.leads _ _ _ refl
    refl refl refl c.deliver.ensures.sink_later c.deliver.ensures.out_later c.in_err-ended-in-Answered.ensures.cut)

pub returns-in_ok-ended-in-Answered-clause-position : goal.returns-in_ok-ended-in-Answered-clause-position
returns-in_ok-ended-in-Answered-clause-position g c = λ start due.
    let d = rw c.in-Answered.is at due in
    rw c.over_by.ensures
    (obeyed_by start c.in-Answered.answer _ _ _ _ _ _ d _ _ _ _ c.in_ok-ended-in-Answered.ensures.delivers.sent
    c.in_ok-ended-in-Answered.ensures.delivers.printed c.deliver.ensures.sink_later c.deliver.ensures.out_later
    c.in_ok-ended-in-Answered.ended
    (sym c.in_ok-ended-in-Answered.ensures.ended))
