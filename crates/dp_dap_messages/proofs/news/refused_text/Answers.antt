use Rattle.std.proofs.Common.{ap, ◌∙◌}
use Rattle.std.proofs.lemmas.Result.{IfOk-weaker}
use Rattle.serde_json.specs.Written.{compact_text, has_float}
use Rattle.dp_bodies.specs.Requests.{request_seen}
use Rattle.dp_dap_messages.proofs.MessageLaws.{refused_free}
use Rattle.dp_dap_messages.proofs.news.refused_text.Goals as goal

pub returns : goal.returns
returns c =
    let free = refused_free c.args.seq (request_seen c.args.request.now) c.args.why in
    IfOk-weaker c.message_text.result _ _
    (λ text is. is (ap has_float c.in_ok-message.ensures ∙ free) ∙ ap compact_text c.in_ok-message.ensures)
    c.message_text.ensures.text
