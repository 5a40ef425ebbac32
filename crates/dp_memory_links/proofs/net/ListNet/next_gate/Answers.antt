use Rattle.dp_memory_links.specs.Fakes.{IsFreshGate}
use Rattle.dp_memory_links.proofs.Fresh.{next_all}
use Rattle.dp_memory_links.proofs.net.ListNet.next_gate.Goals as goal

pub invariant_of-self : goal.invariant_of-self
invariant_of-self c = ((next_all IsFreshGate _ _ _ c.next.ensures.items c.self.invariant.0).1, c.self.invariant.1)

pub returns-clause-fresh : goal.returns-clause-fresh
returns-clause-fresh c = (next_all IsFreshGate _ _ _ c.next.ensures.items c.self.invariant.0).0
