use Rattle.std.proofs.Common.{option_map, ap, ◌∙◌}
use Rattle.std.proofs.lemmas.Result.{IfOk-weaker}
use Rattle.serde_json.specs.View.{view}
use Rattle.serde_json.specs.Written.{compact_text, has_float}
use Rattle.dp_bodies.specs.Requests.{request_seen}
use Rattle.dp_dap_messages.proofs.MessageLaws.{success_free}
use Rattle.dp_dap_messages.proofs.news.success_text.Goals as goal

pub returns : goal.returns
returns c =
    let free =
    success_free c.args.seq (request_seen c.args.request.now) (option_map view c.args.body) c.requires.no_float in
    IfOk-weaker c.message_text.result _ _
    (λ text is. is (ap has_float c.in_ok-message.ensures ∙ free) ∙ ap compact_text c.in_ok-message.ensures)
    c.message_text.ensures.text
