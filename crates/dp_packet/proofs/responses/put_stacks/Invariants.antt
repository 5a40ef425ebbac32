use Rattle.std.proofs.Common.{◌≡◌, drop, map}
use Rattle.dp_markup.specs.Outputs.{behind}
use Rattle.dp_markup.specs.Texts.{nodes_text}
use Rattle.dp_packet.specs.Packets.{stack_node}
use Rattle.dp_packet.proofs.responses.put_stacks.Given as goal

abbrev pub invariant-loop-line : goal.invariant-loop-line
invariant-loop-line g l =
    behind (g.O.Output.seen l.fn.out) (nodes_text (map stack_node l.lines))
    ≡ behind (g.O.Output.seen l.out) (nodes_text (map stack_node (drop l.line-index l.lines)))
