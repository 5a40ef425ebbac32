use Rattle.std.proofs.Common.{[], refl, arith}
use Rattle.dp_records.proofs.AuditLaws.{in_fits, reports_none}
use Rattle.dp_records.proofs.TurnLaws.{grows_fed, grows_not}
use Rattle.dp_records.proofs.audits.Audit+A+A+End.give.Goals as goal

pub returns-in_default : goal.returns-in_default
returns-in_default g c = λ start init entries h.
    let now = c.args.self.now in
    let some = c.requires.some_byte in
    let fits = c.if-count-saturating_sub.false in
    in_fits g.A.Responder.step start init entries now h c.args.bytes.now c.requires _ [] []
    (omega (arith, some, fits, c.saturating_sub.ensures)) refl
    (grows_not g.A.Responder.step start now.talk.session h.read c.args.bytes.now now.talk.held.held now.over h.is_state
    h.stops c.in_default.not-Open) (reports_none now.sent) (reports_none now.own)

pub returns : goal.returns
returns g c = λ start init entries h.
    let now = c.args.self.now in
    let some = c.requires.some_byte in
    let fits = c.if-count-saturating_sub.false in
    let open_so = rw c.in-Open.is at h.stops in
    in_fits g.A.Responder.step start init entries now h c.args.bytes.now c.requires _ _ _
    (omega (arith, some, fits, c.saturating_sub.ensures)) refl
    (grows_fed g.A.Responder.step start now.talk.session c.feed.new.self.session h.read c.args.bytes.now
    now.talk.held.held c.feed.new.self.held.held h.is_state open_so c.in_ok-feed.ensures.session c.in_ok-feed.ensures.ok
    c.answer_held.new.talk.session c.answer_held.new.talk.held.held c.in_ok-self.field-0 c.in_ok-self.ensures.answers)
    c.in_ok-self.ensures.sent c.in_ok-self.ensures.own
