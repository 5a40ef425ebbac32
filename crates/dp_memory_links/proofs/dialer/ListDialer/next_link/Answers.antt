use Rattle.dp_memory_links.specs.Fakes.{IsFresh}
use Rattle.dp_memory_links.proofs.Fresh.{begins_all}
use Rattle.dp_memory_links.proofs.dialer.ListDialer.next_link.Goals as goal

pub invariant_of-self-in-Some : goal.invariant_of-self-in-Some
invariant_of-self-in-Some c =
    ((begins_all IsFresh _ _ _ c.in-Some.ensures.items c.self.invariant.0).1, c.self.invariant.1)

pub returns-in-Some-clause-fresh : goal.returns-in-Some-clause-fresh
returns-in-Some-clause-fresh c = (begins_all IsFresh _ _ _ c.in-Some.ensures.items c.self.invariant.0).0
