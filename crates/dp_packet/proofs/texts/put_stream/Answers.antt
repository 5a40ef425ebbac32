use Rattle.std.proofs.Common.{sym}
use Rattle.dp_markup.specs.Escapes.{escaped_all}
use Rattle.dp_packet.specs.Packets.{stream_element}
use Rattle.dp_packet.specs.Parts.{base64}
use Rattle.dp_packet.proofs.OutLaws.{element_put, words_text}
use Rattle.dp_packet.proofs.texts.put_stream.Goals as goal

pub returns : goal.returns
returns g c =
    let seen = g.O.Output.seen in
    let bytes = c.args.bytes.now in
    element_put c.put_close.result (seen c.args.out.now) (seen c.put_start.new.out) (seen c.put_base64.new.self)
    (seen c.put_close.new.out) (stream_element bytes) (escaped_all (base64 bytes)) (sym (words_text (base64 bytes)))
    c.in_ok-put_start.ensures c.in_ok-put_base64.ensures c.put_close.ensures
