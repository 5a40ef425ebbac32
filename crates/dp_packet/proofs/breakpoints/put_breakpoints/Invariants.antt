use Rattle.std.proofs.Common.{◌≡◌, drop, map}
use Rattle.dp_markup.specs.Outputs.{behind}
use Rattle.dp_markup.specs.Texts.{nodes_text}
use Rattle.dp_packet.specs.Breakpoints.{breakpoint_node}
use Rattle.dp_packet.proofs.breakpoints.put_breakpoints.Given as goal

abbrev pub invariant-loop-line : goal.invariant-loop-line
invariant-loop-line g l =
    behind (g.O.Output.seen l.fn.out) (nodes_text (map breakpoint_node l.lines))
    ≡ behind (g.O.Output.seen l.out) (nodes_text (map breakpoint_node (drop l.line-index l.lines)))
