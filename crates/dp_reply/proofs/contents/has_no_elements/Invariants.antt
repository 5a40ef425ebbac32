use Rattle.std.proofs.Common.{◌≡◌, drop}
use Rattle.dp_reply.specs.Contents.{elements}
use Rattle.dp_reply.proofs.contents.has_no_elements.Given as goal

abbrev pub invariant-loop-node : goal.invariant-loop-node
invariant-loop-node l = elements l.nodes ≡ elements (drop l.node-index l.nodes)
