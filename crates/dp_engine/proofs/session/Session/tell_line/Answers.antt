use Rattle.std.proofs.Common.{ap, drop, refl, ◌∙◌}
use Rattle.dp_engine.specs.Session.{output_so_far}
use Rattle.dp_engine.proofs.SentPackets.{report_is, turn_read}
use Rattle.dp_engine.proofs.session.Session.tell_line.Goals as goal

pub returns-clause-ok : goal.returns-clause-ok
returns-clause-ok g c =
    let turn = c.in_ok-turn.turn in
    report_is _ c.turn.new.self turn (record
    { before = turn.before; response = turn.response; written = c.in_ok-written-2.written; ended = turn.ended })
    (turn_read c.args.self.now c.turn.new.self c.args.line.now c.in_ok-line.line turn c.in_ok-line.ensures.value
    c.in_ok-turn.ensures.turn) refl refl refl

pub returns-clause-written : goal.returns-clause-written
returns-clause-written g c =
    c.in_ok-written-2.ensures ∙ c.in_ok-written.ensures.written
    ∙ ap (λ k. drop k (output_so_far c.turn.new.self)) c.in_ok-shown.ensures.shown
