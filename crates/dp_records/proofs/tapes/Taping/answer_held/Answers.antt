use Rattle.std.proofs.Common.{[], ◌++◌, sym, subst, arith}
use Rattle.std.proofs.lemmas.Result.{err_from_is_err_and}
use Rattle.dp_conversation.specs.declared.conversation.Conversation.{Conversation}
use Rattle.dp_records.specs.declared.sessions.Over.TheVariants.{Ended, Open, Bad}
use Rattle.dp_records.specs.inner.Turns.{AnswersAll, HasAnswered}
use Rattle.dp_records.proofs.TapeLaws.{front_further, front_so, front_told, put_first, put_so, turn_front, turn_put}
use Rattle.dp_records.proofs.TurnLaws.{answered_end, answered_first, answered_next, told_some, told_turn, turn_bad, turn_partial}
use Rattle.dp_records.proofs.tapes.Taping.answer_held.Goals as goal

pub returns-in-Answered-Some-clause-answers : goal.returns-in-Answered-Some-clause-answers
returns-in-Answered-Some-clause-answers g c =
    let inv = c.commands.invariant.1 in
    let t = c.in_ok-turn.ensures in
    let now = c.args.self.now in
    let told = c.answer_next.new in
    subst (λ (talk : Conversation g.row.A.Denot).
    AnswersAll g.A.Responder.step now.talk.session talk.session (Ended c.in-Answered-Some.end) now.talk.held.held
    talk.held.held)
    (sym c.in_ok-put_full.ensures.talk)
    (answered_end g.A.Responder.step now.talk.session c.commands.self.talk.session told.talk.session
    c.in-Answered-Some.field-0 c.in-Answered-Some.end now.talk.held.held c.commands.self.talk.held.held
    told.talk.held.held inv.0 inv.1 t.0 t.1 inv.2
    (rw c.in-Answered-Some.is at t.4) c.in-Answered-Some.field-0-is).1

pub returns-in-Answered-Some-clause-all : goal.returns-in-Answered-Some-clause-all
returns-in-Answered-Some-clause-all g c =
    let inv = c.commands.invariant.1 in
    let t = c.in_ok-turn.ensures in
    let now = c.args.self.now in
    let told = c.answer_next.new in
    let so = (answered_end g.A.Responder.step now.talk.session c.commands.self.talk.session told.talk.session
    c.in-Answered-Some.field-0 c.in-Answered-Some.end now.talk.held.held c.commands.self.talk.held.held
    told.talk.held.held inv.0 inv.1 t.0 t.1 inv.2
    (rw c.in-Answered-Some.is at t.4) c.in-Answered-Some.field-0-is).0 in
    put_so now.sent.items now.own.items _ _ (inv.0 ++ t.0) (inv.1 ++ t.1) (g.K.Sink.taken c.args.sink.now)
    (g.K.Sink.taken c.put_full.new.sink) so.frames so.program c.put_full.new.self.sent.items
    c.put_full.new.self.own.items
    (turn_put now.sent.items now.own.items inv.0 inv.1 c.commands.self.sent.items c.commands.self.own.items t.0 t.1
    (g.K.Sink.taken c.args.sink.now) (g.K.Sink.taken c.commands.sink) inv.3 told.sent.items told.own.items t.2 t.3
    (g.K.Sink.taken c.put_full.new.sink) c.put_full.new.self.sent.items c.put_full.new.self.own.items
    c.in_ok-put_full.ensures.all)

pub returns-in-Partial-clause-answers : goal.returns-in-Partial-clause-answers
returns-in-Partial-clause-answers g c =
    let inv = c.commands.invariant.1 in
    let t = c.in_ok-turn.ensures in
    let now = c.args.self.now in
    let told = c.answer_next.new in
    subst (λ (talk : Conversation g.row.A.Denot).
    AnswersAll g.A.Responder.step now.talk.session talk.session Open now.talk.held.held talk.held.held)
    (sym c.in_ok-put_full.ensures.talk)
    (turn_partial g.A.Responder.step now.talk.session c.commands.self.talk.session told.talk.session
    now.talk.held.held c.commands.self.talk.held.held told.talk.held.held inv.0 inv.1 t.0 t.1 inv.2
    (rw c.in-Partial.is at t.4)).1

pub returns-in-Partial-clause-all : goal.returns-in-Partial-clause-all
returns-in-Partial-clause-all g c =
    let inv = c.commands.invariant.1 in
    let t = c.in_ok-turn.ensures in
    let now = c.args.self.now in
    let told = c.answer_next.new in
    let so = (turn_partial g.A.Responder.step now.talk.session c.commands.self.talk.session told.talk.session
    now.talk.held.held c.commands.self.talk.held.held told.talk.held.held inv.0 inv.1 t.0 t.1 inv.2
    (rw c.in-Partial.is at t.4)).0 in
    put_so now.sent.items now.own.items _ _ (inv.0 ++ t.0) (inv.1 ++ t.1) (g.K.Sink.taken c.args.sink.now)
    (g.K.Sink.taken c.put_full.new.sink) so.frames so.program c.put_full.new.self.sent.items
    c.put_full.new.self.own.items
    (turn_put now.sent.items now.own.items inv.0 inv.1 c.commands.self.sent.items c.commands.self.own.items t.0 t.1
    (g.K.Sink.taken c.args.sink.now) (g.K.Sink.taken c.commands.sink) inv.3 told.sent.items told.own.items t.2 t.3
    (g.K.Sink.taken c.put_full.new.sink) c.put_full.new.self.sent.items c.put_full.new.self.own.items
    c.in_ok-put_full.ensures.all)

pub returns-in-TooLong-clause-answers : goal.returns-in-TooLong-clause-answers
returns-in-TooLong-clause-answers g c =
    let inv = c.commands.invariant.1 in
    let t = c.in_ok-turn.ensures in
    let now = c.args.self.now in
    let told = c.answer_next.new in
    subst (λ (talk : Conversation g.row.A.Denot).
    AnswersAll g.A.Responder.step now.talk.session talk.session Bad now.talk.held.held talk.held.held)
    (sym c.in_ok-put_full.ensures.talk)
    (turn_bad g.A.Responder.step now.talk.session c.commands.self.talk.session told.talk.session
    now.talk.held.held c.commands.self.talk.held.held told.talk.held.held inv.0 inv.1 t.0 t.1 inv.2
    (rw c.in-TooLong.is at t.4)).1

pub returns-in-TooLong-clause-all : goal.returns-in-TooLong-clause-all
returns-in-TooLong-clause-all g c =
    let inv = c.commands.invariant.1 in
    let t = c.in_ok-turn.ensures in
    let now = c.args.self.now in
    let told = c.answer_next.new in
    let so = (turn_bad g.A.Responder.step now.talk.session c.commands.self.talk.session told.talk.session
    now.talk.held.held c.commands.self.talk.held.held told.talk.held.held inv.0 inv.1 t.0 t.1 inv.2
    (rw c.in-TooLong.is at t.4)).0 in
    put_so now.sent.items now.own.items _ _ (inv.0 ++ t.0) (inv.1 ++ t.1) (g.K.Sink.taken c.args.sink.now)
    (g.K.Sink.taken c.put_full.new.sink) so.frames so.program c.put_full.new.self.sent.items
    c.put_full.new.self.own.items
    (turn_put now.sent.items now.own.items inv.0 inv.1 c.commands.self.sent.items c.commands.self.own.items t.0 t.1
    (g.K.Sink.taken c.args.sink.now) (g.K.Sink.taken c.commands.sink) inv.3 told.sent.items told.own.items t.2 t.3
    (g.K.Sink.taken c.put_full.new.sink) c.put_full.new.self.sent.items c.put_full.new.self.own.items
    c.in_ok-put_full.ensures.all)

pub returns-in_err-turn-clause-front : goal.returns-in_err-turn-clause-front
returns-in_err-turn-clause-front g c =
    let p = err_from_is_err_and c.from_residual.result c.from_residual.ensures.1 in
    let inv = c.commands.invariant.1 in
    let now = c.args.self.now in
    let some = told_some g.A.Responder.step now.talk.session c.commands.self.talk.session now.talk.held.held
    c.commands.self.talk.held.held inv.0 inv.1 inv.2 in
    rw p.1 (front_so now.sent.items now.own.items _ _ (inv.0 ++ some.more) (inv.1 ++ some.others)
    (g.K.Sink.taken c.args.sink.now) (g.K.Sink.taken c.commands.sink) some.frames some.program
    (front_told now.sent.items now.own.items inv.0 inv.1 c.commands.self.sent.items c.commands.self.own.items some.more
    some.others (g.K.Sink.taken c.args.sink.now) (g.K.Sink.taken c.commands.sink) inv.3))

pub returns-in_err-put_full-clause-front : goal.returns-in_err-put_full-clause-front
returns-in_err-put_full-clause-front g c =
    let p = err_from_is_err_and c.from_residual-in_err-put_full.result c.from_residual-in_err-put_full.ensures.1 in
    let inv = c.commands.invariant.1 in
    let t = c.in_ok-turn.ensures in
    let now = c.args.self.now in
    let told = c.answer_next.new in
    let some = told_turn g.A.Responder.step now.talk.session c.commands.self.talk.session told.talk.session
    c.in_ok-turn.turn now.talk.held.held c.commands.self.talk.held.held told.talk.held.held inv.0 inv.1 t.0 t.1 inv.2
    t.4 in
    rw p.1 (front_so now.sent.items now.own.items _ _ ((inv.0 ++ t.0) ++ some.more) ((inv.1 ++ t.1) ++ some.others)
    (g.K.Sink.taken c.args.sink.now) (g.K.Sink.taken c.put_full.new.sink) some.frames some.program
    (front_further now.sent.items now.own.items (inv.0 ++ t.0) (inv.1 ++ t.1) some.more some.others
    (g.K.Sink.taken c.args.sink.now) (g.K.Sink.taken c.put_full.new.sink)
    (turn_front now.sent.items now.own.items inv.0 inv.1 c.commands.self.sent.items c.commands.self.own.items t.0 t.1
    (g.K.Sink.taken c.args.sink.now) (g.K.Sink.taken c.commands.sink) inv.3 told.sent.items told.own.items t.2 t.3
    (g.K.Sink.taken c.put_full.new.sink) c.in_err-put_full.ensures.front)))

pub commands-init : goal.commands-init
commands-init g c =
    let now = c.args.self.now in (
      omega arith,
      (
        [],
        [],
        answered_first g.A.Responder.step now.talk.session now.talk.held.held,
        put_first now.sent.items now.own.items (g.K.Sink.taken c.args.sink.now),
      ),
    )

pub commands-preserved : goal.commands-preserved
commands-preserved g c =
    let inv = c.commands.invariant.1 in
    let t = c.in_ok-turn.ensures in
    let now = c.args.self.now in
    let told = c.answer_next.new in
    let next = answered_next g.A.Responder.step now.talk.session c.commands.self.talk.session told.talk.session
    c.in-Answered-None.field-0 now.talk.held.held c.commands.self.talk.held.held told.talk.held.held inv.0 inv.1 t.0
    t.1 inv.2
    (rw c.in-Answered-None.is at t.4) c.in-Answered-None.field-0-is in (
      omega (arith, c.in_ok-put_full.ensures.later),
      (
        inv.0 ++ t.0,
        inv.1 ++ t.1,
        subst (λ (talk : Conversation g.row.A.Denot). HasAnswered g.A.Responder.step now.talk.session talk.session
            now.talk.held.held talk.held.held (inv.0 ++ t.0) (inv.1 ++ t.1)) (sym c.in_ok-put_full.ensures.talk) next,
        turn_put now.sent.items now.own.items inv.0 inv.1 c.commands.self.sent.items c.commands.self.own.items t.0 t.1
            (g.K.Sink.taken c.args.sink.now) (g.K.Sink.taken c.commands.sink) inv.3 told.sent.items told.own.items t.2
            t.3
            (g.K.Sink.taken c.put_full.new.sink) c.put_full.new.self.sent.items c.put_full.new.self.own.items
            c.in_ok-put_full.ensures.all,
      ),
    )
