use Rattle.std.proofs.Common.{Err, ap, ◌∙◌}
use Rattle.std.proofs.KnownBytes.{Appends-nil, Consumes-nil}
use Rattle.dp_outside.specs.Changes.{change}
use Rattle.dp_records.proofs.CloseLaws.{cut_lines, ends_unput, taped_none, unput_lines}
use Rattle.dp_records.proofs.TapingLaws.{taping_first}
use Rattle.dp_records.proofs.tapes.tape.Goals as goal

pub returns-in_default-clause-tapes : goal.returns-in_default-clause-tapes
returns-in_default-clause-tapes g c =
    taped_none g.A.Responder.step g.A.Recorded.rest_after g.A.Recorded.ending_after c.args.session c.args.init.now
    (change g.S.Source.left g.S.Source.faults c.args.source.now c.args.source.now)
    (change g.K.Sink.taken g.K.Sink.faults c.args.sink.now c.args.sink.now)
    (Consumes-nil (g.S.Source.left c.args.source.now)) (Appends-nil (g.K.Sink.taken c.args.sink.now))

pub returns-in-Ok-take_pieces-clause-tapes : goal.returns-in-Ok-take_pieces-clause-tapes
returns-in-Ok-take_pieces-clause-tapes g c =
    let t = c.in-Ok-take_pieces.ensures.taped c.args.session c.args.init.now (g.K.Sink.taken c.args.sink.now)
    (taping_first g.A.Responder.step c.args.session c.args.init.now _ (g.K.Sink.taken c.args.sink.now)
    c.begin.ensures.session c.begin.ensures.held (c.into_vec.ensures ∙ c.in-Ok.ensures) c.new.ensures.items) in
    record {
      read = t.read;
      within = t.has.within;
      up_to = t.has.up_to;
      consumed = t.has.consumed;
      ends = c.end.ensures.ends c.args.session c.args.init.now t.read c.args.sink.now
          (change g.S.Source.left g.S.Source.faults c.args.source.now c.take_pieces.new.source) t.taping t.stops
          c.take_pieces.ensures.sink_later;
    }

pub returns-in-Err-clause-tapes : goal.returns-in-Err-clause-tapes
returns-in-Err-clause-tapes g c =
    let t = c.in-Err.ensures.cut c.args.session c.args.init.now (g.K.Sink.taken c.args.sink.now)
    (taping_first g.A.Responder.step c.args.session c.args.init.now _ (g.K.Sink.taken c.args.sink.now)
    c.begin.ensures.session c.begin.ensures.held (c.into_vec.ensures ∙ c.in-Ok.ensures) c.new.ensures.items) in
    let sink = change g.K.Sink.taken g.K.Sink.faults c.args.sink.now c.take_pieces.new.sink in
    record {
      read = t.read;
      within = t.has.within;
      up_to = t.has.up_to;
      consumed = t.has.consumed;
      ends = ends_unput g.A.Responder.step g.A.Recorded.rest_after g.A.Recorded.ending_after c.args.session
          c.args.init.now t.read
          c.in-Err.why c.end_of.result
          (change g.S.Source.left g.S.Source.faults c.args.source.now c.take_pieces.new.source) sink
          c.end_of.ensures.failed c.end_of.ensures.memory
          (unput_lines g.A.Responder.step g.A.Recorded.rest_after g.A.Recorded.ending_after c.args.session
          c.args.init.now t.read
          c.in-Err.why sink (cut_lines g.A.Responder.step g.A.Recorded.rest_after g.A.Recorded.ending_after
          c.args.session c.args.init.now t.read sink t.cut))
          (λ failed. c.in-Err.ensures.cause (ap Err failed));
    }
