use Rattle.std.proofs.Common.{◌≡◌, List, ℕ, [], ◌∷◌, ap, sym, ◌∙◌, arith, append-nil}
use Rattle.std.proofs.lemmas.Result.{err_from_is_err_and}
use Rattle.dp_wire.specs.Frames.{commands_in}
use Rattle.dp_conversation.specs.declared.link.Fault.TheVariants.{Memory}
use Rattle.dp_conversation.specs.Folds.{Reply, replies}
use Rattle.dp_conversation.proofs.CutLaws.{cut_after, cut_answer, cut_before}
use Rattle.dp_conversation.proofs.ServiceLaws.{delivers_reply, reached_first, reached_kept, reached_next, front_comes, taken_first_of}
use Rattle.dp_conversation.proofs.link.answer_held.Goals as goal

-- an answer that is a reply tells its end and its state
ended_is : {S E : Type 0} {a b : Reply S E} → a ≡ b → a.ended ≡ b.ended
ended_is {S} {E} same = ap (λ (r : Reply S E). r.ended) same

state_is : {S E : Type 0} {a b : Reply S E} → a ≡ b → a.state ≡ b.state
state_is {S} {E} same = ap (λ (r : Reply S E). r.state) same

pub commands-init : goal.commands-init
commands-init g c = (
  omega arith,
  omega arith,
  reached_first g.A.Responder.step g.K.Sink.taken g.K.Sink.faults g.E.Sink.taken g.E.Sink.faults c.args.talk.now.session
      c.args.talk.now.held.held c.args.sink.now c.args.out.now,
)

pub returns-in-Partial-clause-ok : goal.returns-in-Partial-clause-ok
returns-in-Partial-clause-ok g c =
    let next = rw c.in-Partial.is at c.in_ok-answer.ensures.comes in
    let kept = reached_kept g.A.Responder.step g.K.Sink.taken g.K.Sink.faults g.E.Sink.taken g.E.Sink.faults
    c.args.talk.now.session c.commands.talk.session c.next.new.self.session c.args.talk.now.held.held
    c.commands.talk.held.held c.next.new.self.held.held _ _
    c.commands.invariant.2.0 next.1 next.2 in
    record {
      reached = kept.0;
      stops = (
        ap (λ (l : List (List ℕ)).
            (replies g.A.Responder.step c.args.talk.now.session l).ended) kept.1
            ∙ c.commands.invariant.2.1,
        rw (← next.2) at next.0,
      );
    }

pub returns-in-TooLong-clause-ok : goal.returns-in-TooLong-clause-ok
returns-in-TooLong-clause-ok g c =
    let next = rw c.in-TooLong.is at c.in_ok-answer.ensures.comes in
    let kept = reached_kept g.A.Responder.step g.K.Sink.taken g.K.Sink.faults g.E.Sink.taken g.E.Sink.faults
    c.args.talk.now.session c.commands.talk.session c.next.new.self.session c.args.talk.now.held.held
    c.commands.talk.held.held c.next.new.self.held.held _ _
    c.commands.invariant.2.0 next.1 next.2 in
    record {
      reached = kept.0;
      stops = (
        ap (λ (l : List (List ℕ)).
            (replies g.A.Responder.step c.args.talk.now.session l).ended) kept.1
            ∙ c.commands.invariant.2.1,
        rw (← next.2) at next.0,
      );
    }

pub returns-in_err-answer-clause-cut : goal.returns-in_err-answer-clause-cut
returns-in_err-answer-clause-cut g c =
    let p = err_from_is_err_and c.from_residual.result c.from_residual.ensures.1 in
    let held = commands_in c.commands.talk.held.held in
    rw (p.1, p.2)
    (cut_after g.A.Responder.step g.K.Sink.taken g.K.Sink.faults g.E.Sink.taken g.E.Sink.faults
    c.args.talk.now.session c.commands.talk.session c.next.new.self.session c.args.talk.now.held.held
    c.commands.talk.held.held held [] Memory
    c.args.sink.now c.commands.sink c.commands.sink c.args.out.now c.commands.out c.commands.out
    c.commands.invariant.2.0 c.commands.invariant.2.1 (sym (append-nil held)) c.commands.invariant.0
    c.commands.invariant.1
    (cut_before g.A.Responder.step g.K.Sink.taken g.K.Sink.faults g.E.Sink.taken g.E.Sink.faults c.commands.talk.session
    c.next.new.self.session held c.commands.sink c.commands.out))

pub returns-in_err-end-clause-cut : goal.returns-in_err-end-clause-cut
returns-in_err-end-clause-cut g c =
    let p = err_from_is_err_and c.from_residual-in_err-end.result c.from_residual-in_err-end.ensures.1 in
    let first = rw c.in-Answered.is at c.in_ok-answer.ensures.comes in
    rw (p.1, p.2)
    (cut_after g.A.Responder.step g.K.Sink.taken g.K.Sink.faults g.E.Sink.taken g.E.Sink.faults
    c.args.talk.now.session c.commands.talk.session c.next.new.self.session c.args.talk.now.held.held
    c.commands.talk.held.held
    (first.line ∷ []) (commands_in c.next.new.self.held.held) _
    c.args.sink.now c.commands.sink c.deliver.new.sink c.args.out.now c.commands.out c.deliver.new.out
    c.commands.invariant.2.0 c.commands.invariant.2.1 (front_comes c.commands.talk.held.held first.line
    c.next.new.self.held.held first.begins)
    c.commands.invariant.0 c.commands.invariant.1
    (cut_answer g.A.Responder.step g.K.Sink.taken g.K.Sink.faults g.E.Sink.taken g.E.Sink.faults c.commands.talk.session
    c.next.new.self.session first.line c.in-Answered.answer _ _ _
    first.is c.in_err-end.ensures.cut))

pub returns-in-Some-clause-ok : goal.returns-in-Some-clause-ok
returns-in-Some-clause-ok g c =
    let first = rw c.in-Answered.is at c.in_ok-answer.ensures.comes in
    let next = reached_next g.A.Responder.step g.K.Sink.taken g.K.Sink.faults g.E.Sink.taken g.E.Sink.faults
    c.args.talk.now.session c.commands.talk.session c.next.new.self.session c.args.talk.now.held.held
    c.commands.talk.held.held first.line c.next.new.self.held.held
    c.args.sink.now c.commands.sink c.deliver.new.sink c.args.out.now c.commands.out c.deliver.new.out
    c.commands.invariant.2.0 c.commands.invariant.2.1 (taken_first_of c.commands.talk.held.held first.line
    c.next.new.self.held.held first.begins) (state_is first.is)
    (delivers_reply g.A.Responder.step g.K.Sink.taken g.K.Sink.faults g.E.Sink.taken g.E.Sink.faults
    c.in-Answered.answer c.next.new.self.session _ _ _ first.is c.in_ok-end.ensures.delivers) in
    record { reached = next.0; stops = next.1 ∙ sym (ended_is first.is) ∙ sym c.in_ok-end.ensures.ended ∙ c.in-Some.is }

pub commands-preserved : goal.commands-preserved
commands-preserved g c =
    let first = rw c.in-Answered.is at c.in_ok-answer.ensures.comes in
    let next = reached_next g.A.Responder.step g.K.Sink.taken g.K.Sink.faults g.E.Sink.taken g.E.Sink.faults
    c.args.talk.now.session c.commands.talk.session c.next.new.self.session c.args.talk.now.held.held
    c.commands.talk.held.held first.line c.next.new.self.held.held
    c.args.sink.now c.commands.sink c.deliver.new.sink c.args.out.now c.commands.out c.deliver.new.out
    c.commands.invariant.2.0 c.commands.invariant.2.1 (taken_first_of c.commands.talk.held.held first.line
    c.next.new.self.held.held first.begins) (state_is first.is)
    (delivers_reply g.A.Responder.step g.K.Sink.taken g.K.Sink.faults g.E.Sink.taken g.E.Sink.faults
    c.in-Answered.answer c.next.new.self.session _ _ _ first.is c.in_ok-end.ensures.delivers) in (
      omega (arith, c.in_ok-end.ensures.sink_later),
      omega (arith, c.in_ok-end.ensures.out_later),
      (next.0, next.1 ∙ sym (ended_is first.is) ∙ sym c.in_ok-end.ensures.ended ∙ c.in_default.is),
    )
