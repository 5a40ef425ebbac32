use Rattle.std.proofs.Common.{◌≡◌, [], codes, sym, ap, subst, ◌∙◌}
use Rattle.std.specs.Prelude.{OnOk, Option}
use Rattle.dp_markup.specs.Outputs.{behind}
use Rattle.dp_markup.specs.Texts.{node_text, nodes_text}
use Rattle.dp_packet.specs.Breakpoints.{expression_nodes}
use Rattle.dp_packet.specs.Parts.{Text, child, text_nodes}
use Rattle.dp_packet.proofs.OutLaws.{alone_text}
use Rattle.dp_packet.proofs.breakpoints.put_expression.Goals as goal

pub returns-in-Some : goal.returns-in-Some
returns-in-Some g c =
    let seen = g.O.Output.seen in
    subst (λ (l : Text). OnOk c.put_words.result (seen c.put_words.new.out ≡ behind (seen c.args.out.now) l))
    (ap (λ (t : Text). node_text (child (codes "expression") [] (text_nodes t))) c.as_slice.ensures
    ∙ sym (alone_text (child (codes "expression") [] (text_nodes c.in-Some.text)))
    ∙ ap (λ (o : Option Text). nodes_text (expression_nodes o)) (sym c.in-Some.is))
    c.put_words.ensures
