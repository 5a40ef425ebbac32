use Rattle.std.proofs.Common.{rules, ◌++◌, ap, sym, ◌∙◌}
use Rattle.dp_conversation.specs.Folds.{reply_of}
use Rattle.dp_conversation.specs.Growth.{served}
use Rattle.dp_world.proofs.lent.lend.Goals as goal

pub returns-clause-answers : goal.returns-clause-answers
returns-clause-answers g c =
    let session = c.feed.ensures.session ∙ c.begin-talk.ensures.session in
    let held = c.in_ok-feed.ensures.ok ∙ ap (λ l. l ++ c.args.commands.now) c.begin-talk.ensures.held in
    let same = sym ((λ i. (c.lent.view_is i).1.1) ∙ c.in_ok-answer.ensures.same ∙ (λ i. (session i).1.1)) in
    ap (reply_of c.in_ok-answer.answer) {y = c.lent.inside.session.now} (search rules)
    ∙ (λ i. reply_of c.in_ok-answer.answer (c.lent.view_is i).1.0)
    ∙ c.in_ok-answer.ensures.answers
    ∙ (λ i. served (g.A.Engines.known (session i).0).step (session i).1.0 (held i))
