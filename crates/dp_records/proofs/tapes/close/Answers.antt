use Rattle.std.proofs.Common.{ℕ, List, ◌-◌, ◌++◌, length, refl, ap, ◌∙◌, subst, inr}
use Rattle.std.proofs.lemmas.Result.{err_from_is_err_and}
use Rattle.std.specs.Io.KnownBytes.{Appends}
use Rattle.dp_outside.specs.Changes.{change}
use Rattle.dp_outside.specs.Streams.{AppendsFront}
use Rattle.dp_records.proofs.CloseLaws.{closed, closed_front, unput_front, unput_none}
use Rattle.dp_records.proofs.tapes.close.Goals as goal

pub returns-in_err-rest-clause-unput : goal.returns-in_err-rest-clause-unput
returns-in_err-rest-clause-unput g c =
    let p = err_from_is_err_and c.from_residual.result c.from_residual.ensures.1 in
    rw p.1 (λ start init read before h.
    unput_none g.A.Responder.step g.A.Recorded.rest_after g.A.Recorded.ending_after start init read
    c.args.over c.args.tape (change g.K.Sink.taken g.K.Sink.faults before c.args.sink.now)
    (g.K.Sink.taken c.args.sink.now) h p.0 refl)

pub returns-in_err-extend_from_slice-clause-unput : goal.returns-in_err-extend_from_slice-clause-unput
returns-in_err-extend_from_slice-clause-unput g c =
    let p = err_from_is_err_and c.from_residual-in_err-extend_from_slice.result
    c.from_residual-in_err-extend_from_slice.ensures.1 in
    rw p.1 (λ start init read before h.
    unput_none g.A.Responder.step g.A.Recorded.rest_after g.A.Recorded.ending_after start init read
    c.args.over c.args.tape (change g.K.Sink.taken g.K.Sink.faults before c.args.sink.now)
    (g.K.Sink.taken c.args.sink.now) h p.0 refl)

pub returns-in_err-line-clause-unput : goal.returns-in_err-line-clause-unput
returns-in_err-line-clause-unput g c =
    let p = err_from_is_err_and c.from_residual-in_err-line.result c.from_residual-in_err-line.ensures.1 in
    rw p.1 (λ start init read before h.
    unput_none g.A.Responder.step g.A.Recorded.rest_after g.A.Recorded.ending_after start init read
    c.args.over c.args.tape (change g.K.Sink.taken g.K.Sink.faults before c.args.sink.now)
    (g.K.Sink.taken c.args.sink.now) h p.0 refl)

pub returns-in_err-put_both-clause-unput : goal.returns-in_err-put_both-clause-unput
returns-in_err-put_both-clause-unput g c =
    let p = err_from_is_err_and c.from_residual-in_err-put_both.result c.from_residual-in_err-put_both.ensures.1 in
    rw p.1 (λ start init read before h.
    unput_front g.A.Responder.step g.A.Recorded.rest_after g.A.Recorded.ending_after start init read
    c.args.over c.args.tape (change g.K.Sink.taken g.K.Sink.faults before c.put_both.new.sink)
    (g.K.Sink.taken c.args.sink.now) h p.0 c.as_slice-3.result.now
    (rw c.as_slice-2.ensures.value at c.in_err-put_both.ensures.front))

pub returns-in_err-put-clause-unput : goal.returns-in_err-put-clause-unput
returns-in_err-put-clause-unput g c =
    let p = err_from_is_err_and c.from_residual-in_err-put.result c.from_residual-in_err-put.ensures.1 in
    rw (p.1, p.2, c.in_err-put.ensures.failed) (λ start init read before h.
    inr (closed_front g.A.Responder.step g.A.Recorded.rest_after g.A.Recorded.ending_after start init read
    c.args.over c.args.tape (g.K.Sink.taken c.args.sink.now) (g.K.Sink.taken c.put_both.new.sink)
    (change g.K.Sink.taken g.K.Sink.faults before c.put.new.sink) h c.parts_of-bad.result.0 c.parts_of-bad.result.1
    c.in_ok-rest.rest
    c.as_slice-3.result.now c.in_ok-rest.outcome c.status_of-status.result c.parts_of-bad.ensures.bad
    c.parts_of-bad.ensures.end c.in_ok-rest.ensures.rest c.in_ok-rest.ensures.outcome c.in_ok-rest.ensures.status
    c.status_of-status.ensures
    (c.as_slice-3.ensures.value ∙ c.in_ok-extend_from_slice.ensures.items
    ∙ ap (λ l. c.args.tape.own.items ++ l) c.as_slice.ensures)
    (rw c.as_slice-2.ensures.value at c.in_ok-put_both.ensures.all)
    (subst (AppendsFront (g.K.Sink.taken c.put_both.new.sink) (g.K.Sink.taken c.put.new.sink))
    (c.as_slice-4.ensures.value ∙ c.in_ok-line.ensures) c.in_err-put.ensures.taken)))

pub returns-clause-ended : goal.returns-clause-ended
returns-clause-ended g c = λ start init read before from h stops.
    closed g.A.Responder.step g.A.Recorded.rest_after g.A.Recorded.ending_after start init read
    c.args.over c.args.tape (g.K.Sink.taken c.args.sink.now) (g.K.Sink.taken c.put_both.new.sink)
    (change g.K.Sink.taken g.K.Sink.faults before c.put.new.sink) h c.parts_of-bad.result.0 c.parts_of-bad.result.1
    c.in_ok-rest.rest
    c.as_slice-3.result.now c.in_ok-rest.outcome c.status_of-status.result c.parts_of-bad.ensures.bad
    c.parts_of-bad.ensures.end c.in_ok-rest.ensures.rest c.in_ok-rest.ensures.outcome c.in_ok-rest.ensures.status
    c.status_of-status.ensures
    (c.as_slice-3.ensures.value ∙ c.in_ok-extend_from_slice.ensures.items
    ∙ ap (λ l. c.args.tape.own.items ++ l) c.as_slice.ensures)
    (rw c.as_slice-2.ensures.value at c.in_ok-put_both.ensures.all)
    c.args.count c.saturating_sub-offset.result c.bad_at.result from stops
    (c.saturating_sub-offset.ensures ∙ ap (λ (l : List ℕ). c.args.count - length l) c.bytes.ensures) c.bad_at.ensures
    (subst (Appends (g.K.Sink.taken c.put_both.new.sink) (g.K.Sink.taken c.put.new.sink))
    (c.as_slice-4.ensures.value ∙ c.in_ok-line.ensures) c.in_ok-put.ensures.taken)
