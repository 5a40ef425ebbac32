use Rattle.std.proofs.Common.{ap, sym, ◌∙◌}
use Rattle.dp_engine.specs.Responses.{init_text}
use Rattle.dp_engine.specs.Session.{State}
use Rattle.dp_words.specs.Commands.{invocation_seen}
use Rattle.dp_top.proofs.TalkLaws.{small_served}
use Rattle.dp_top.proofs.sessions.serve_program.Goals as goal

pub returns-in-Ok-clause-status : goal.returns-in-Ok-clause-status
returns-in-Ok-clause-status g c =
    let key = c.as_bytes.result.now in
    let serves = c.serve-served.ensures.serves key (c.in-Ok.ensures.text ∙ ap (λ (s : State). init_text s.bundle key)
    (sym c.in-Ok.ensures.opening)) in
    small_served c.args.unsent (invocation_seen c.args.request.program) c.serve-served.result c.args.bundle.now key _ _
    _
    c.judge.result c.judge.ensures
    (rw c.in-Ok.ensures.opening at serves)
