use Rattle.std.proofs.Common.{◌≡◌, [], sym, subst}
use Rattle.std.specs.Prelude.{OnOk}
use Rattle.dp_markup.proofs.RoundTrip.{child_node}
use Rattle.dp_markup.specs.Outputs.{behind}
use Rattle.dp_packet.specs.Parts.{Text, element}
use Rattle.dp_packet.specs.inner.Shown.{all_shown}
use Rattle.dp_packet.proofs.elements.put_leaf.Goals as goal

pub returns : goal.returns
returns g c =
    let seen = g.O.Output.seen in
    subst (λ (l : Text). OnOk c.put_empty.result (seen c.put_empty.new.out ≡ behind (seen c.args.out.now) l))
    (sym (child_node (element c.args.name.now (all_shown c.args.attributes.now) []))) c.put_empty.ensures
