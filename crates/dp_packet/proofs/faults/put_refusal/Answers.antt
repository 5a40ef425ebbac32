use Rattle.std.proofs.Common.{◌≡◌, [], ◌∷◌, codes, subst}
use Rattle.std.specs.Prelude.{decimal, OnOk}
use Rattle.dp_markup.specs.Outputs.{behind}
use Rattle.dp_markup.specs.Texts.{node_text}
use Rattle.dp_packet.specs.Packets.{message_node}
use Rattle.dp_packet.specs.Parts.{Text, child}
use Rattle.dp_packet.proofs.faults.put_refusal.Goals as goal

pub returns : goal.returns
returns g c =
    let seen = g.O.Output.seen in
    subst (λ (t : Text). OnOk c.put_reported.result (seen c.put_reported.new.out ≡ behind (seen c.args.out.now)
    (node_text (child (codes "error") ((codes "id", decimal c.args.id) ∷ []) (message_node t ∷ [])))))
    c.reason.ensures c.put_reported.ensures
