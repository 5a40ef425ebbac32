use Rattle.std.proofs.Common.{[], refl, sym, append-nil}
use Rattle.std.proofs.lemmas.Result.{err_from_is_err_and}
use Rattle.dp_async.proofs.Standings.{cut_short}
use Rattle.dp_async.proofs.Turns.{cut_left, left_is, stands_left}
use Rattle.dp_async.proofs.listener.Listener.leave.Goals as goal

pub returns-in_err-answer-clause-position : goal.returns-in_err-answer-clause-position
returns-in_err-answer-clause-position g c =
    let p = err_from_is_err_and c.from_residual.result c.from_residual.ensures.1 in
    λ start stage o s. rw (p.1, p.2)
    (cut_short start _ _ _ _ _ _ _ s ([], sym (append-nil _)) refl refl s.agrees.later)

pub returns-in_err-arrived-clause-position : goal.returns-in_err-arrived-clause-position
returns-in_err-arrived-clause-position g c =
    let p = err_from_is_err_and c.from_residual-in_err-arrived.result c.from_residual-in_err-arrived.ensures.1 in
    λ start stage o s. rw (p.1, p.2)
    (cut_short start _ _ _ _ _ _ _ s ([], sym (append-nil _)) refl refl s.agrees.later)

pub returns-in_err-deliver-clause-position : goal.returns-in_err-deliver-clause-position
returns-in_err-deliver-clause-position g c =
    let p = err_from_is_err_and c.from_residual-in_err-deliver.result c.from_residual-in_err-deliver.ensures.1 in
    λ start stage o s. rw (p.1, p.2)
    (cut_left start _ _ _ c.args.going stage _ c.arrive.new.self _ _ c.without_packets-answer.result s
    (left_is c.args.going _ c.answer.new.self c.arrive.new.self _ c.in_ok-arrived.arrived
    c.without_packets-answer.result c.in_ok-answer.ensures.ok c.in_ok-arrived.ensures.ok
    c.without_packets-answer.ensures)
    _ _ _ refl refl refl refl c.deliver.ensures.sink_later c.deliver.ensures.out_later c.in_err-deliver.ensures.cut)

pub returns-clause-position : goal.returns-clause-position
returns-clause-position g c = λ start stage o s.
    stands_left start _ _ _ c.args.going stage _ c.arrive.new.self _ _ c.without_packets-answer.result s
    (left_is c.args.going _ c.answer.new.self c.arrive.new.self _ c.in_ok-arrived.arrived
    c.without_packets-answer.result c.in_ok-answer.ensures.ok c.in_ok-arrived.ensures.ok
    c.without_packets-answer.ensures)
    _ _ _ _ c.in_ok-deliver.ensures.delivers.sent c.in_ok-deliver.ensures.delivers.printed
    c.deliver.ensures.sink_later c.deliver.ensures.out_later
