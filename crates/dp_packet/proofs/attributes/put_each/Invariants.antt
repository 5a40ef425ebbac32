use Rattle.std.proofs.Common.{◌≡◌, drop}
use Rattle.std.specs.List.{flat_map}
use Rattle.dp_markup.specs.Outputs.{behind}
use Rattle.dp_packet.specs.inner.Shown.{shown_text}
use Rattle.dp_packet.proofs.attributes.put_each.Given as goal

abbrev pub invariant-loop-attribute : goal.invariant-loop-attribute
invariant-loop-attribute g l =
    behind (g.O.Output.seen l.fn.out) (flat_map shown_text l.attributes)
    ≡ behind (g.O.Output.seen l.out) (flat_map shown_text (drop l.attribute-index l.attributes))
