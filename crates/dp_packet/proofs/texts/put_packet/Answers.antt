use Rattle.dp_markup.specs.Texts.{written}
use Rattle.dp_packet.specs.Packets.{element_of}
use Rattle.dp_packet.specs.Text.{declaration}
use Rattle.dp_packet.proofs.OutLaws.{two_put}
use Rattle.dp_packet.proofs.texts.put_packet.Goals as goal

pub returns : goal.returns
returns g c =
    let seen = g.O.Output.seen in
    two_put c.put_element.result (seen c.args.out.now) (seen c.put.new.self) (seen c.put_element.new.out) declaration
    (written (element_of c.args.packet.now)) c.in_ok-put.ensures c.put_element.ensures
