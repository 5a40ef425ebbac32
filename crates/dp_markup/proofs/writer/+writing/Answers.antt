use Rattle.std.proofs.Common.{◌≡◌, List, ℕ, sym, ap, subst, ◌∙◌}
use Rattle.std.specs.Prelude.{OnOk}
use Rattle.dp_markup.specs.Outputs.{behind}
use Rattle.dp_markup.specs.Texts.{node_text}
use Rattle.dp_markup.proofs.RoundTrip.{child_node}
use Rattle.dp_markup.proofs.Trees.{written_is}
use Rattle.dp_markup.proofs.writer.+writing.Goals as goal

pub put_node-returns-in-Child : goal.put_node-returns-in-Child
put_node-returns-in-Child g t c =
    let seen = g.O.Output.seen in
    let child = c.in-Child.child in
    subst (λ (l : List ℕ). OnOk c.put_element.result (seen c.put_element.new.out ≡ behind (seen c.args.out.now) l))
    (sym (written_is child) ∙ sym (child_node child) ∙ ap node_text (sym c.in-Child.is))
    c.put_element.ensures
