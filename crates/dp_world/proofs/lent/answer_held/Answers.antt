use Rattle.std.proofs.lemmas.Result.{IfOk-weaker}
use Rattle.dp_wire.specs.Frames.{commands_in}
use Rattle.dp_world.proofs.EngineLaws.{is_lent}
use Rattle.dp_world.proofs.lent.answer_held.Goals as goal

pub returns-clause-answers : goal.returns-clause-answers
returns-clause-answers g c =
    let lent = c.args.talk.now.session in
    IfOk-weaker c.answer_all.result _ _ (λ answer is. (is_lent (λ engines. (g.A.Engines.known engines).step) lent.0
    lent.1.1 answer c.answer_all.new.self.session lent.1.0 (commands_in c.args.talk.now.held.held) is).0)
    c.answer_all.ensures.answers

pub returns-clause-same : goal.returns-clause-same
returns-clause-same g c =
    let lent = c.args.talk.now.session in
    IfOk-weaker c.answer_all.result _ _ (λ answer is. (is_lent (λ engines. (g.A.Engines.known engines).step) lent.0
    lent.1.1 answer c.answer_all.new.self.session lent.1.0 (commands_in c.args.talk.now.held.held) is).1)
    c.answer_all.ensures.answers
