use Rattle.std.proofs.Common.{◌≡◌, drop}
use Rattle.dp_reply.specs.Contents.{each, elements}
use Rattle.dp_reply.specs.Readings.{property_within}
use Rattle.dp_reply.specs.Verdict.{behind}
use Rattle.dp_reply.proofs.read_properties.+reading.Given as goal

abbrev pub invariant-nested-loop-node : goal.invariant-nested-loop-node
invariant-nested-loop-node l =
    behind l.found.items (each (property_within l.level) (elements (drop l.node-index l.nodes))) ≡ each
    (property_within l.level) (elements l.nodes)
