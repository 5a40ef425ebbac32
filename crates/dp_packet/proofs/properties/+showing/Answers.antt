use Rattle.std.proofs.Common.{codes, rules, ap, sym, subst, ◌≡◌, ◌∙◌}
use Rattle.std.specs.Prelude.{OnOk}
use Rattle.dp_markup.specs.Escapes.{escaped_all}
use Rattle.dp_markup.specs.Outputs.{behind}
use Rattle.dp_markup.specs.Texts.{nodes_text}
use Rattle.dp_packet.specs.Parts.{Text, base64}
use Rattle.dp_packet.specs.inner.Shapes.{front_text, names_of, shape_part}
use Rattle.dp_packet.proofs.OutLaws.{three_put}
use Rattle.dp_packet.proofs.PropertyTexts.{bool_text, front_is, int_text, property_is}
use Rattle.dp_packet.proofs.properties.+showing.Goals as goal

pub put_content-returns-in-Bool : goal.put_content-returns-in-Bool
put_content-returns-in-Bool g t c =
    let seen = g.O.Output.seen in
    let same = ap escaped_all c.flag.ensures ∙ sym (bool_text c.args.shape.now c.in-Bool.value c.in-Bool.is) in
    subst (λ l. OnOk c.put_escaped.result (seen c.put_escaped.new.out ≡ behind (seen c.args.out.now) l)) same
    c.put_escaped.ensures

pub put_content-returns-in-Int : goal.put_content-returns-in-Int
put_content-returns-in-Int g t c =
    let same = int_text c.args.shape.now c.in-Int.number c.in-Int.is in
    search (rules, same)

pub put_content-returns-in-Text : goal.put_content-returns-in-Text
put_content-returns-in-Text g t c =
    let seen = g.O.Output.seen in
    let same = ap (λ bytes. escaped_all (base64 bytes)) c.as_slice.ensures
    ∙ sym (front_is c.args.shape.now c.in-Text.size c.in-Text.front c.in-Text.is) in
    subst (λ l. OnOk c.put_base64.result (seen c.put_base64.new.self ≡ behind (seen c.args.out.now) l)) same
    c.put_base64.ensures

pub put_property-returns : goal.put_property-returns
put_property-returns g t c =
    let seen = g.O.Output.seen in
    let p = c.args.p.now in
    let part = shape_part p.shape in
    subst (λ (l : Text). OnOk c.put_close.result (seen c.put_close.new.out ≡ behind (seen c.args.out.now) l))
    (sym (property_is p))
    (three_put c.put_close.result (seen c.args.out.now) (seen c.put_front.new.out) (seen c.put_content.new.out)
    (seen c.put_close.new.out) (front_text (names_of p) part.0) (nodes_text part.1) (codes "</property>")
    c.in_ok-put_front.ensures c.in_ok-put_content.ensures c.put_close.ensures)
