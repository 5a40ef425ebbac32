use Rattle.std.proofs.Common.{◌++◌, ap, sym, ◌∙◌}
use Rattle.dp_records.proofs.AuditLaws.{reports_join, reports_so}
use Rattle.dp_records.proofs.TurnLaws.{answered_end, answered_next, turn_bad, turn_partial}
use Rattle.dp_records.proofs.audits.answer_held.Goals as goal

pub returns-in-Answered-Some-clause-answers : goal.returns-in-Answered-Some-clause-answers
returns-in-Answered-Some-clause-answers g c =
    let inv = c.commands.invariant in
    let t = c.in_ok-turn.ensures in
    (answered_end g.A.Responder.step c.args.talk.now.session c.commands.talk.session c.answer_next.new.talk.session
    c.in-Answered-Some.field-0 c.in-Answered-Some.end c.args.talk.now.held.held c.commands.talk.held.held
    c.answer_next.new.talk.held.held inv.0 inv.1 t.0 t.1 inv.2
    (rw c.in-Answered-Some.is at t.4) c.in-Answered-Some.field-0-is).1

pub returns-in-Answered-Some-clause-sent : goal.returns-in-Answered-Some-clause-sent
returns-in-Answered-Some-clause-sent g c =
    let inv = c.commands.invariant in
    let t = c.in_ok-turn.ensures in
    let told = (answered_end g.A.Responder.step c.args.talk.now.session c.commands.talk.session
    c.answer_next.new.talk.session
    c.in-Answered-Some.field-0 c.in-Answered-Some.end c.args.talk.now.held.held c.commands.talk.held.held
    c.answer_next.new.talk.held.held inv.0 inv.1 t.0 t.1 inv.2
    (rw c.in-Answered-Some.is at t.4) c.in-Answered-Some.field-0-is).0 in
    reports_so c.args.sent.now c.session_reports.new.self (inv.0 ++ t.0) _ (sym told.frames)
    (reports_join c.args.sent.now c.commands.sent c.session_reports.new.self inv.0 t.0 inv.3
    (reports_so c.commands.sent c.session_reports.new.self c.as_slice.result.now t.0
    (c.as_slice.ensures.value ∙ t.2 ∙ ap (λ l. l ++ t.0) c.new-frames.ensures.items) c.in_ok-session_reports.ensures))

pub returns-in-Answered-Some-clause-own : goal.returns-in-Answered-Some-clause-own
returns-in-Answered-Some-clause-own g c =
    let inv = c.commands.invariant in
    let t = c.in_ok-turn.ensures in
    let told = (answered_end g.A.Responder.step c.args.talk.now.session c.commands.talk.session
    c.answer_next.new.talk.session
    c.in-Answered-Some.field-0 c.in-Answered-Some.end c.args.talk.now.held.held c.commands.talk.held.held
    c.answer_next.new.talk.held.held inv.0 inv.1 t.0 t.1 inv.2
    (rw c.in-Answered-Some.is at t.4) c.in-Answered-Some.field-0-is).0 in
    reports_so c.args.own.now c.session_reports-in-commands.new.self (inv.1 ++ t.1) _ (sym told.program)
    (reports_join c.args.own.now c.commands.own c.session_reports-in-commands.new.self inv.1 t.1 inv.4
    (reports_so c.commands.own c.session_reports-in-commands.new.self c.as_slice-in-commands.result.now t.1
    (c.as_slice-in-commands.ensures.value ∙ t.3 ∙ ap (λ l. l ++ t.1) c.new-program.ensures.items)
    c.in_ok-session_reports-2.ensures))

pub returns-in-Partial-clause-answers : goal.returns-in-Partial-clause-answers
returns-in-Partial-clause-answers g c =
    let inv = c.commands.invariant in
    let t = c.in_ok-turn.ensures in
    (turn_partial g.A.Responder.step c.args.talk.now.session c.commands.talk.session c.answer_next.new.talk.session
    c.args.talk.now.held.held c.commands.talk.held.held c.answer_next.new.talk.held.held inv.0 inv.1 t.0 t.1 inv.2
    (rw c.in-Partial.is at t.4)).1

pub returns-in-Partial-clause-sent : goal.returns-in-Partial-clause-sent
returns-in-Partial-clause-sent g c =
    let inv = c.commands.invariant in
    let t = c.in_ok-turn.ensures in
    let told = (turn_partial g.A.Responder.step c.args.talk.now.session c.commands.talk.session
    c.answer_next.new.talk.session
    c.args.talk.now.held.held c.commands.talk.held.held c.answer_next.new.talk.held.held inv.0 inv.1 t.0 t.1 inv.2
    (rw c.in-Partial.is at t.4)).0 in
    reports_so c.args.sent.now c.session_reports.new.self (inv.0 ++ t.0) _ (sym told.frames)
    (reports_join c.args.sent.now c.commands.sent c.session_reports.new.self inv.0 t.0 inv.3
    (reports_so c.commands.sent c.session_reports.new.self c.as_slice.result.now t.0
    (c.as_slice.ensures.value ∙ t.2 ∙ ap (λ l. l ++ t.0) c.new-frames.ensures.items) c.in_ok-session_reports.ensures))

pub returns-in-Partial-clause-own : goal.returns-in-Partial-clause-own
returns-in-Partial-clause-own g c =
    let inv = c.commands.invariant in
    let t = c.in_ok-turn.ensures in
    let told = (turn_partial g.A.Responder.step c.args.talk.now.session c.commands.talk.session
    c.answer_next.new.talk.session
    c.args.talk.now.held.held c.commands.talk.held.held c.answer_next.new.talk.held.held inv.0 inv.1 t.0 t.1 inv.2
    (rw c.in-Partial.is at t.4)).0 in
    reports_so c.args.own.now c.session_reports-in-commands.new.self (inv.1 ++ t.1) _ (sym told.program)
    (reports_join c.args.own.now c.commands.own c.session_reports-in-commands.new.self inv.1 t.1 inv.4
    (reports_so c.commands.own c.session_reports-in-commands.new.self c.as_slice-in-commands.result.now t.1
    (c.as_slice-in-commands.ensures.value ∙ t.3 ∙ ap (λ l. l ++ t.1) c.new-program.ensures.items)
    c.in_ok-session_reports-2.ensures))

pub returns-in-TooLong-clause-answers : goal.returns-in-TooLong-clause-answers
returns-in-TooLong-clause-answers g c =
    let inv = c.commands.invariant in
    let t = c.in_ok-turn.ensures in
    (turn_bad g.A.Responder.step c.args.talk.now.session c.commands.talk.session c.answer_next.new.talk.session
    c.args.talk.now.held.held c.commands.talk.held.held c.answer_next.new.talk.held.held inv.0 inv.1 t.0 t.1 inv.2
    (rw c.in-TooLong.is at t.4)).1

pub returns-in-TooLong-clause-sent : goal.returns-in-TooLong-clause-sent
returns-in-TooLong-clause-sent g c =
    let inv = c.commands.invariant in
    let t = c.in_ok-turn.ensures in
    let told = (turn_bad g.A.Responder.step c.args.talk.now.session c.commands.talk.session
    c.answer_next.new.talk.session
    c.args.talk.now.held.held c.commands.talk.held.held c.answer_next.new.talk.held.held inv.0 inv.1 t.0 t.1 inv.2
    (rw c.in-TooLong.is at t.4)).0 in
    reports_so c.args.sent.now c.session_reports.new.self (inv.0 ++ t.0) _ (sym told.frames)
    (reports_join c.args.sent.now c.commands.sent c.session_reports.new.self inv.0 t.0 inv.3
    (reports_so c.commands.sent c.session_reports.new.self c.as_slice.result.now t.0
    (c.as_slice.ensures.value ∙ t.2 ∙ ap (λ l. l ++ t.0) c.new-frames.ensures.items) c.in_ok-session_reports.ensures))

pub returns-in-TooLong-clause-own : goal.returns-in-TooLong-clause-own
returns-in-TooLong-clause-own g c =
    let inv = c.commands.invariant in
    let t = c.in_ok-turn.ensures in
    let told = (turn_bad g.A.Responder.step c.args.talk.now.session c.commands.talk.session
    c.answer_next.new.talk.session
    c.args.talk.now.held.held c.commands.talk.held.held c.answer_next.new.talk.held.held inv.0 inv.1 t.0 t.1 inv.2
    (rw c.in-TooLong.is at t.4)).0 in
    reports_so c.args.own.now c.session_reports-in-commands.new.self (inv.1 ++ t.1) _ (sym told.program)
    (reports_join c.args.own.now c.commands.own c.session_reports-in-commands.new.self inv.1 t.1 inv.4
    (reports_so c.commands.own c.session_reports-in-commands.new.self c.as_slice-in-commands.result.now t.1
    (c.as_slice-in-commands.ensures.value ∙ t.3 ∙ ap (λ l. l ++ t.1) c.new-program.ensures.items)
    c.in_ok-session_reports-2.ensures))

pub commands-preserved : goal.commands-preserved
commands-preserved g c =
    let inv = c.commands.invariant in
    let t = c.in_ok-turn.ensures in (
      inv.0 ++ t.0,
      inv.1 ++ t.1,
      answered_next g.A.Responder.step c.args.talk.now.session c.commands.talk.session c.answer_next.new.talk.session
          c.in-Answered-None.field-0 c.args.talk.now.held.held c.commands.talk.held.held
          c.answer_next.new.talk.held.held inv.0 inv.1 t.0 t.1 inv.2
          (rw c.in-Answered-None.is at t.4) c.in-Answered-None.field-0-is,
      reports_join c.args.sent.now c.commands.sent c.session_reports.new.self inv.0 t.0 inv.3
          (reports_so c.commands.sent c.session_reports.new.self c.as_slice.result.now t.0
          (c.as_slice.ensures.value ∙ t.2 ∙ ap (λ l. l ++ t.0) c.new-frames.ensures.items)
          c.in_ok-session_reports.ensures),
      reports_join c.args.own.now c.commands.own c.session_reports-in-commands.new.self inv.1 t.1 inv.4
          (reports_so c.commands.own c.session_reports-in-commands.new.self c.as_slice-in-commands.result.now t.1
          (c.as_slice-in-commands.ensures.value ∙ t.3 ∙ ap (λ l. l ++ t.1) c.new-program.ensures.items)
          c.in_ok-session_reports-2.ensures),
    )
