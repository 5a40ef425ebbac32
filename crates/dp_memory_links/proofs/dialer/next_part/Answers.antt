use Rattle.std.proofs.Common.{All}
use Rattle.dp_memory_links.specs.Fakes.{IsFresh}
use Rattle.dp_memory_links.proofs.Fresh.{begins_all}
use Rattle.dp_memory_links.proofs.dialer.next_part.Goals as goal

pub returns-in-Some-clause-fresh : goal.returns-in-Some-clause-fresh
returns-in-Some-clause-fresh c =
    (begins_all (λ part. All IsFresh part.links) _ _ _ c.in-Some.ensures.items c.requires).0

pub returns-in-Some-clause-fresh_later : goal.returns-in-Some-clause-fresh_later
returns-in-Some-clause-fresh_later c =
    (begins_all (λ part. All IsFresh part.links) _ _ _ c.in-Some.ensures.items c.requires).1
