use Rattle.dp_records.proofs.AuditLaws.{takes_out, takes_own}
use Rattle.dp_records.proofs.audits.Audit+A+A+End.take.Goals as goal

pub returns-then-is_front : goal.returns-then-is_front
returns-then-is_front g c = λ start init entries h.
    takes_out g.A.Responder.step start init entries c.args.self.now h c.args.entry c.requires
    c.as_slice-in-Out.result.now
    c.as_slice-in-Out.ensures c.in-Out.is c.record_reports.new.self c.in_ok-record_reports-in-Out.ensures
    (λ told other b. (c.is_front.ensures told other b).0 c.if-is_front.true)

pub returns : goal.returns
returns g c = λ start init entries h.
    takes_own g.A.Responder.step start init entries c.args.self.now h c.args.entry c.requires
    c.as_slice-in-Own.result.now
    c.as_slice-in-Own.ensures c.in-Own.is c.record_reports-in-Own.new.self c.in_ok-record_reports-in-Own.ensures
