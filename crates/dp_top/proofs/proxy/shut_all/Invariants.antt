use Rattle.std.proofs.Common.{map}
use Rattle.dp_crews.specs.Gates.{gating}
use Rattle.dp_top.specs.Seen.{net_seen}
use Rattle.dp_top.specs.inner.Proxied.{AreShut}
use Rattle.dp_top.proofs.proxy.shut_all.Given as goal

abbrev pub invariant-loop-door : goal.invariant-loop-door
invariant-loop-door g l =
    AreShut (map (gating g.N.Door.Gate) l.yielded) (net_seen g.N.Dialer l.fn.net) (net_seen g.N.Dialer l.net)
