use Rattle.std.proofs.Common.{◌≡◌, drop}
use Rattle.dp_reply.specs.Contents.{each, elements}
use Rattle.dp_reply.specs.Verdict.{behind}
use Rattle.dp_reply.proofs.lists.entries.Given as goal

abbrev pub invariant-loop-node : goal.invariant-loop-node
invariant-loop-node g l =
    behind l.found.items (each g.T.Entry.entry (elements (drop l.node-index l.nodes))) ≡ each g.T.Entry.entry
    (elements l.nodes)
