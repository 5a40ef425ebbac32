use Rattle.std.proofs.Common.{◌≡◌, drop, map}
use Rattle.dp_markup.specs.Outputs.{behind}
use Rattle.dp_markup.specs.Texts.{nodes_text}
use Rattle.dp_packet.specs.Properties.{property_node}
use Rattle.dp_packet.proofs.properties.+showing.Given as goal

abbrev pub invariant-put_properties-loop-p : goal.invariant-put_properties-loop-p
invariant-put_properties-loop-p g l =
    behind (g.O.Output.seen l.fn.out) (nodes_text (map property_node l.properties))
    ≡ behind (g.O.Output.seen l.out) (nodes_text (map property_node (drop l.p-index l.properties)))
