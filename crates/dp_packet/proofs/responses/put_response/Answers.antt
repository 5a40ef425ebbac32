use Rattle.std.proofs.Common.{◌∷◌, codes, refl, ap, ◌∙◌}
use Rattle.dp_markup.specs.Outputs.{behind}
use Rattle.dp_markup.specs.Texts.{nodes_text}
use Rattle.dp_packet.specs.Packets.{body_nodes, response_element}
use Rattle.dp_packet.specs.Parts.{Attributes, namespace}
use Rattle.dp_packet.specs.inner.Shown.{tag_text}
use Rattle.dp_packet.proofs.OutLaws.{element_put, nothing_behind}
use Rattle.dp_packet.proofs.responses.put_response.Goals as goal

pub returns : goal.returns
returns g c =
    let seen = g.O.Output.seen in
    let r = c.args.response.now in
    element_put c.put_close.result (seen c.args.out.now) (seen c.put_start.new.out) (seen c.put_body.new.out)
    (seen c.put_close.new.out) (response_element r) (nodes_text (body_nodes r.body)) refl
    (c.in_ok-put_start.ensures
    ∙ ap (λ (a : Attributes). behind (seen c.args.out.now) (tag_text (codes "response")
    (namespace ∷ (codes "command", r.command) ∷ (codes "transaction_id", r.id) ∷ a)))
    (nothing_behind c.as_slice.result.now ∙ c.as_slice.ensures))
    c.in_ok-put_body.ensures c.put_close.ensures
