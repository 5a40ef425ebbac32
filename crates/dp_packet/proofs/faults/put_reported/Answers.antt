use Rattle.std.proofs.Common.{[], ◌∷◌, codes, sym}
use Rattle.std.specs.Prelude.{decimal}
use Rattle.dp_markup.specs.Texts.{node_text}
use Rattle.dp_packet.specs.Packets.{message_node}
use Rattle.dp_packet.specs.Parts.{element}
use Rattle.dp_packet.proofs.OutLaws.{alone_text, node_put}
use Rattle.dp_packet.proofs.faults.put_reported.Goals as goal

pub returns : goal.returns
returns g c =
    let seen = g.O.Output.seen in
    let inside = message_node c.args.text.now in
    node_put c.put_close.result (seen c.args.out.now) (seen c.put_start.new.out) (seen c.put_words.new.out)
    (seen c.put_close.new.out)
    (element (codes "error") ((c.args.name.now, decimal c.args.number) ∷ []) (inside ∷ [])) (node_text inside)
    (sym (alone_text inside)) c.in_ok-put_start.ensures c.in_ok-put_words.ensures c.put_close.ensures
