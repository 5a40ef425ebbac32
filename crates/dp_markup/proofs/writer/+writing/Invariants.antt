use Rattle.std.proofs.Common.{◌≡◌, drop}
use Rattle.dp_markup.specs.Texts.{nodes_text}
use Rattle.dp_markup.specs.Outputs.{behind}
use Rattle.dp_markup.proofs.writer.+writing.Given as goal

abbrev pub invariant-put_nodes-loop-node : goal.invariant-put_nodes-loop-node
invariant-put_nodes-loop-node g l =
    behind (g.O.Output.seen l.fn.out) (nodes_text l.nodes)
    ≡ behind (g.O.Output.seen l.out) (nodes_text (drop l.node-index l.nodes))
