use Rattle.std.proofs.Common.{◌≡◌, [], ◌∷◌, codes, sym, subst}
use Rattle.std.specs.Prelude.{OnOk}
use Rattle.dp_markup.specs.Outputs.{behind}
use Rattle.dp_markup.specs.Texts.{node_text, written}
use Rattle.dp_packet.specs.Packets.{refusal_node}
use Rattle.dp_packet.specs.Parts.{Text, element}
use Rattle.dp_packet.proofs.OutLaws.{alone_text, element_put}
use Rattle.dp_packet.proofs.texts.put_refused.Goals as goal

pub returns : goal.returns
returns g c =
    let seen = g.O.Output.seen in
    let inside = refusal_node c.args.id in
    let refused = λ (name : Text). element name ((codes "success", codes "0") ∷ []) (inside ∷ []) in
    subst (λ (name : Text). OnOk c.put_close.result (seen c.put_close.new.out ≡ behind (seen c.args.out.now)
    (written (refused name)))) c.refusal_name-name.ensures
    (element_put c.put_close.result (seen c.args.out.now) (seen c.put_start.new.out) (seen c.put_refusal.new.out)
    (seen c.put_close.new.out) (refused c.refusal_name-name.result.now) (node_text inside) (sym (alone_text inside))
    c.in_ok-put_start.ensures c.in_ok-put_refusal.ensures c.put_close.ensures)
