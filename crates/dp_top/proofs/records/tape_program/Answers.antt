use Rattle.dp_outside.specs.Changes.{change}
use Rattle.dp_words.specs.Commands.{invocation_seen}
use Rattle.dp_top.proofs.RecordEnds.{small_taped}
use Rattle.dp_top.proofs.records.tape_program.Goals as goal

pub returns-clause-status : goal.returns-clause-status
returns-clause-status g c =
    small_taped (invocation_seen c.args.request.program) c.args.bundle.now c.as_bytes-key.result.now
    (change g.S.Source.left g.S.Source.faults c.args.input.now c.tape-end.new.source)
    (change g.K.Sink.taken g.K.Sink.faults c.args.out.now c.tape-end.new.sink) c.tape-end.result c.judge_tape.result
    c.judge_tape.ensures c.tape-end.ensures.tapes
