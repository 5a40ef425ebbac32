use Rattle.std.proofs.Common.{◌≡◌, drop, map}
use Rattle.dp_markup.specs.Outputs.{behind}
use Rattle.dp_markup.specs.Texts.{nodes_text}
use Rattle.dp_packet.specs.Packets.{context_node}
use Rattle.dp_packet.proofs.responses.put_contexts.Given as goal

abbrev pub invariant-loop-context : goal.invariant-loop-context
invariant-loop-context g l =
    behind (g.O.Output.seen l.fn.out) (nodes_text (map context_node l.contexts))
    ≡ behind (g.O.Output.seen l.out) (nodes_text (map context_node (drop l.context-index l.contexts)))
