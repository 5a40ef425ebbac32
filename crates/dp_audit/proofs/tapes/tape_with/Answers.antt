use Rattle.std.proofs.Common.{◌∙◌}
use Rattle.std.proofs.KnownBytes.{Appends-nil, Consumes-nil}
use Rattle.dp_engine.specs.Answers.{answer}
use Rattle.dp_engine.specs.Responses.{init_text}
use Rattle.dp_engine.specs.Served.{ending_after, rest_after}
use Rattle.dp_engine.specs.Session.{opening}
use Rattle.dp_outside.specs.Changes.{change}
use Rattle.dp_records.proofs.CloseLaws.{taped_none}
use Rattle.dp_audit.proofs.SessionLaws.{tapes_so}
use Rattle.dp_audit.proofs.tapes.tape_with.Goals as goal

pub returns-in-Ok-clause-tapes : goal.returns-in-Ok-clause-tapes
returns-in-Ok-clause-tapes g c =
    tapes_so c.args.bundle.now c.args.bound c.args.key.now c.in-Ok.session c.as_slice.result.now
    c.in-Ok.ensures.opening (c.as_slice.ensures ∙ c.in-Ok.ensures.text) c.tape.result
    (change g.S.Source.left g.S.Source.faults c.args.source.now c.tape.new.source)
    (change g.K.Sink.taken g.K.Sink.faults c.args.sink.now c.tape.new.sink) c.tape.ensures.tapes

-- nothing was read, and nothing put
pub returns-in-Err-clause-tapes : goal.returns-in-Err-clause-tapes
returns-in-Err-clause-tapes g c =
    taped_none answer rest_after ending_after (opening c.args.bundle.now c.args.bound)
    (init_text c.args.bundle.now c.args.key.now)
    (change g.S.Source.left g.S.Source.faults c.args.source.now c.args.source.now)
    (change g.K.Sink.taken g.K.Sink.faults c.args.sink.now c.args.sink.now)
    (Consumes-nil (g.S.Source.left c.args.source.now)) (Appends-nil (g.K.Sink.taken c.args.sink.now))
