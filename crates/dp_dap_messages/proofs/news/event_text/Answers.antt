use Rattle.std.proofs.Common.{option_map, ap, ◌∙◌}
use Rattle.std.proofs.lemmas.Result.{IfOk-weaker}
use Rattle.serde_json.specs.View.{view}
use Rattle.serde_json.specs.Written.{compact_text, has_float}
use Rattle.dp_dap_messages.proofs.MessageLaws.{event_free}
use Rattle.dp_dap_messages.proofs.news.event_text.Goals as goal

pub returns : goal.returns
returns c =
    let free = event_free c.args.seq c.args.name.now (option_map view c.args.body) c.requires in
    IfOk-weaker c.message_text.result _ _
    (λ text is. is (ap has_float c.in_ok-message.ensures ∙ free) ∙ ap compact_text c.in_ok-message.ensures)
    c.message_text.ensures.text
