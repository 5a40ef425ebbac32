use Rattle.std.proofs.Common.{◌≡◌, ◌++◌, drop}
use Rattle.dp_reply.specs.Contents.{words}
use Rattle.dp_reply.proofs.contents.words.Given as goal

abbrev pub invariant-loop-node : goal.invariant-loop-node
invariant-loop-node l = words l.nodes ≡ l.text.items ++ words (drop l.node-index l.nodes)
