use Rattle.std.proofs.Common.{◌≡◌, drop}
use Rattle.dp_reply.specs.Contents.{elements}
use Rattle.dp_reply.proofs.contents.only.Given as goal

abbrev pub invariant-loop-at : goal.invariant-loop-at
invariant-loop-at l = elements l.nodes ≡ elements (drop l.at l.nodes)
