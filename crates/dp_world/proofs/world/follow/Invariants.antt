use Rattle.std.proofs.Common.{take}
use Rattle.dp_world.specs.inner.KeptLinks.{IsWorldAfter}
use Rattle.dp_world.proofs.world.follow.Given as goal

abbrev pub invariant-events : goal.invariant-events
invariant-events g l =
    IsWorldAfter (g.A.Engines.known l.fn.engines) (take l.event-index l.events) l.world.proxy l.world.links.entries
