use Rattle.dp_memory_links.specs.Fakes.{IsFreshCall}
use Rattle.dp_memory_links.proofs.Fresh.{begins_all}
use Rattle.dp_memory_links.proofs.gate.ListGate.next_link.Goals as goal

pub invariant_of-self-in-Some : goal.invariant_of-self-in-Some
invariant_of-self-in-Some c =
    ((begins_all IsFreshCall _ _ _ c.in-Some.ensures.items c.self.invariant.0).1, c.self.invariant.1)

pub returns-in-Some-clause-fresh : goal.returns-in-Some-clause-fresh
returns-in-Some-clause-fresh c = (begins_all IsFreshCall _ _ _ c.in-Some.ensures.items c.self.invariant.0).0
