use Rattle.std.proofs.Common.{Err, ap}
use Rattle.dp_outside.specs.Changes.{change}
use Rattle.dp_records.specs.declared.sessions.Over.TheVariants.{Open}
use Rattle.dp_records.proofs.CloseLaws.{ends_unput, left_open, unput_front}
use Rattle.dp_records.proofs.TapingLaws.{rose_since}
use Rattle.dp_records.proofs.tapes.end.Goals as goal

pub returns-in-Ok-clause-ends : goal.returns-in-Ok-clause-ends
returns-in-Ok-clause-ends g c = λ start init read before from h stops later.
    c.in-Ok.ensures.ended start init read before from (rw c.in-Finished.is at h) (rw c.in-Finished.is at stops)

pub returns-in-Finished-clause-ends : goal.returns-in-Finished-clause-ends
returns-in-Finished-clause-ends g c = λ start init read before from h stops later.
    ends_unput g.A.Responder.step g.A.Recorded.rest_after g.A.Recorded.ending_after start init read
    c.in-Err.why c.end_of.result from (change g.K.Sink.taken g.K.Sink.faults before c.close.new.sink)
    c.end_of.ensures.failed c.end_of.ensures.memory
    (c.in-Err.ensures.unput start init read before (rw c.in-Finished.is at h))
    (λ failed. rose_since (g.K.Sink.faults before) (g.K.Sink.faults c.args.sink.now)
    (g.K.Sink.faults c.close.new.sink) later
    (c.in-Err.ensures.cause (ap Err failed)))

pub returns-in-Ok-put_all-clause-ends : goal.returns-in-Ok-put_all-clause-ends
returns-in-Ok-put_all-clause-ends g c = λ start init read before from h stops later.
    let ends = rw c.in-Failed.is at stops in
    let left = left_open g.A.Responder.step g.A.Recorded.rest_after g.A.Recorded.ending_after start init read
    c.args.tape (change g.K.Sink.taken g.K.Sink.faults before c.put_all.new.sink) (g.K.Sink.taken c.args.sink.now)
    (rw c.in-Failed.is at h)
    (rw (c.in-Ok-put_all.ensures.sent, c.in-Ok-put_all.ensures.own) at c.in-Ok-put_all.ensures.all) in
    (left, ends.0, ends.1)

pub returns-in-Failed-clause-ends : goal.returns-in-Failed-clause-ends
returns-in-Failed-clause-ends g c = λ start init read before from h stops later.
    ends_unput g.A.Responder.step g.A.Recorded.rest_after g.A.Recorded.ending_after start init read
    c.in-Err-put_all.why c.end_of-in-Err-put_all.result from
    (change g.K.Sink.taken g.K.Sink.faults before c.put_all.new.sink) c.end_of-in-Err-put_all.ensures.failed
    c.end_of-in-Err-put_all.ensures.memory
    (unput_front g.A.Responder.step g.A.Recorded.rest_after g.A.Recorded.ending_after start init read
    Open c.args.tape (change g.K.Sink.taken g.K.Sink.faults before c.put_all.new.sink)
    (g.K.Sink.taken c.args.sink.now) (rw c.in-Failed.is at h) c.in-Err-put_all.why
    c.args.tape.own.items c.in-Err-put_all.ensures.front)
    (λ failed. rose_since (g.K.Sink.faults before) (g.K.Sink.faults c.args.sink.now)
    (g.K.Sink.faults c.put_all.new.sink) later
    (c.in-Err-put_all.ensures.cause (ap Err failed)))

pub returns-in-Ok-put_all-2-clause-ends : goal.returns-in-Ok-put_all-2-clause-ends
returns-in-Ok-put_all-2-clause-ends g c = λ start init read before from h stops later.
    let ends = rw c.in-Full.is at stops in
    let left = left_open g.A.Responder.step g.A.Recorded.rest_after g.A.Recorded.ending_after start init read
    c.args.tape (change g.K.Sink.taken g.K.Sink.faults before c.put_all-in-Full.new.sink)
    (g.K.Sink.taken c.args.sink.now) (rw c.in-Full.is at h)
    (rw (c.in-Ok-put_all-2.ensures.sent, c.in-Ok-put_all-2.ensures.own) at c.in-Ok-put_all-2.ensures.all) in
    (left, ends)

pub returns-clause-ends : goal.returns-clause-ends
returns-clause-ends g c = λ start init read before from h stops later.
    ends_unput g.A.Responder.step g.A.Recorded.rest_after g.A.Recorded.ending_after start init read
    c.in-Err-put_all-2.why c.end_of-in-Err-put_all-2.result from
    (change g.K.Sink.taken g.K.Sink.faults before c.put_all-in-Full.new.sink) c.end_of-in-Err-put_all-2.ensures.failed
    c.end_of-in-Err-put_all-2.ensures.memory
    (unput_front g.A.Responder.step g.A.Recorded.rest_after g.A.Recorded.ending_after start init read
    Open c.args.tape (change g.K.Sink.taken g.K.Sink.faults before c.put_all-in-Full.new.sink)
    (g.K.Sink.taken c.args.sink.now) (rw c.in-Full.is at h) c.in-Err-put_all-2.why
    c.args.tape.own.items c.in-Err-put_all-2.ensures.front)
    (λ failed. rose_since (g.K.Sink.faults before) (g.K.Sink.faults c.args.sink.now)
    (g.K.Sink.faults c.put_all-in-Full.new.sink) later
    (c.in-Err-put_all-2.ensures.cause (ap Err failed)))
