use Rattle.std.proofs.lemmas.Result.{err_from_is_err_and}
use Rattle.dp_conversation.proofs.FrontLaws.{front_none}
use Rattle.dp_world.specs.Transcript.{shown}
use Rattle.dp_world.proofs.writes.write_one.Goals as goal

pub returns-in_err-put_lines-clause-writes : goal.returns-in_err-put_lines-clause-writes
returns-in_err-put_lines-clause-writes g c = λ of is.
    let p = err_from_is_err_and c.from_residual.result c.from_residual.ensures.1 in
    rw (p.1, p.2) (front_none (g.K.Sink.taken c.args.out.now)
    (shown (g.A.Engines.known c.args.engines.now) c.args.link of))
