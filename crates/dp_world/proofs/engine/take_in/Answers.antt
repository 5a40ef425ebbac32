use Rattle.std.proofs.Common.{sym, ◌∙◌}
use Rattle.dp_conversation.proofs.AnswerAllLaws.{none_of}
use Rattle.dp_world.proofs.EngineLaws.{takes_all, takes_none}
use Rattle.dp_world.proofs.engine.take_in.Goals as goal

pub returns-then-is_some-clause-serves : goal.returns-then-is_some-clause-serves
returns-then-is_some-clause-serves g c = λ key lines serves.
    takes_none (g.A.Engines.known c.args.engines.now) c.args.commands.now c.args.engine.now
    (record c.args.engine.now { given = c.extend_from_slice.new.self })
    c.requires c.in_ok-extend_from_slice.ensures.items key lines serves (sym c.is_some.ensures ∙ c.if-is_some.true)

pub returns-clause-serves : goal.returns-clause-serves
returns-clause-serves g c = λ key lines serves.
    takes_all (g.A.Engines.known c.args.engines.now) c.args.commands.now c.args.engine.now
    (record c.args.engine.now {
      session = c.lend.new.session;
      ended = c.in_ok-engine.field-0;
      sent = c.note.new.sent;
      own = c.note.new.own;
      given = c.extend_from_slice.new.self;
    })
    c.requires c.in_ok-extend_from_slice.ensures.items key lines serves c.in_ok-answer.answer
    (none_of c.args.engine.now.ended (sym c.is_some.ensures ∙ c.if-is_some.false)) c.in_ok-answer.ensures.answers
    c.in_ok-engine.ensures.sent c.in_ok-engine.ensures.own c.in_ok-engine.ensures.ended
