use Rattle.std.proofs.Common.{ℕ, List, ◌++◌, ◌∙◌, subst}
use Rattle.dp_conversation.specs.Growth.{served}
use Rattle.dp_records.specs.Records.{own, sent}
use Rattle.dp_records.specs.inner.Audits.{sends}
use Rattle.dp_records.specs.inner.Balances.{IsBalance}
use Rattle.dp_records.proofs.AuditLaws.{ends_right}
use Rattle.dp_records.proofs.EndLaws.{ended_so, status_so}
use Rattle.dp_records.proofs.audits.Audit+A+A+End.is_right.Goals as goal

pub returns : goal.returns
returns g c = λ start init entries h.
    let step = g.A.Responder.step in
    let rest_after = g.A.Recorded.rest_after in
    let ending_after = g.A.Recorded.ending_after in
    let now = c.args.self in
    let end = c.parts_of-bad.ensures in
    let ended = ended_so step rest_after ending_after start init h.read now.over now.talk.held.held
    c.parts_of-bad.result.1 end.end h.stops in
    let told = (served step start h.read).program in
    ends_right step start init entries now h rest_after ending_after c.in_ok-rest.rest
    (c.in_ok-rest.ensures.rest ∙ (λ i. rest_after (ended i) (h.is_state i))) c.args.told c.status_of.result
    (status_so step rest_after ending_after start init h.read now.over now.talk.session now.talk.held.held
    c.parts_of-bad.result.0 c.parts_of-bad.result.1 c.in_ok-rest.outcome c.status_of.result h.is_state h.stops end.bad
    end.end c.in_ok-rest.ensures.outcome c.status_of.ensures) c.is_even.result c.is_even-2.result
    (c.is_even.ensures (sends step start init h.read) (sent entries) h.sent_balance)
    (c.is_even-2.ensures (told ++ c.in_ok-rest.rest) (own entries)
    (subst (λ (l : List ℕ). IsBalance c.session_reports.new.self (told ++ l) (own entries)) c.as_slice.ensures
    (c.in_ok-session_reports.ensures told (own entries) h.own_balance)))
