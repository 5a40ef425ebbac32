use Rattle.std.proofs.Common.{[], sym}
use Rattle.dp_markup.specs.Escapes.{escaped_all}
use Rattle.dp_packet.specs.Parts.{element, text_nodes}
use Rattle.dp_packet.proofs.OutLaws.{node_put, words_text}
use Rattle.dp_packet.proofs.elements.put_words.Goals as goal

pub returns : goal.returns
returns g c =
    let seen = g.O.Output.seen in
    let text = c.args.text.now in
    node_put c.put_close.result (seen c.args.out.now) (seen c.put_start.new.out) (seen c.put_escaped.new.out)
    (seen c.put_close.new.out) (element c.args.name.now [] (text_nodes text)) (escaped_all text)
    (sym (words_text text)) c.in_ok-put_start.ensures c.in_ok-put_escaped.ensures c.put_close.ensures
