use Rattle.std.proofs.Common.{◌∙◌}
use Rattle.dp_audit.proofs.SessionLaws.{judges_so}
use Rattle.dp_audit.proofs.records.audit_with.Goals as goal

pub returns-in-Ok-clause-judged : goal.returns-in-Ok-clause-judged
returns-in-Ok-clause-judged g c = λ bytes told.
    judges_so c.args.bundle.now c.args.bound c.args.key.now c.in-Ok.session c.as_slice.result.now
    c.in-Ok.ensures.opening (c.as_slice.ensures ∙ c.in-Ok.ensures.text) bytes c.audit.result
    (c.audit.ensures.judged bytes told)
