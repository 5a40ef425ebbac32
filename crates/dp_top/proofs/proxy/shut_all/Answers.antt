use Rattle.dp_top.specs.Seen.{net_seen}
use Rattle.dp_top.proofs.ProxyLaws.{shut_none, shut_one_more}
use Rattle.dp_top.proofs.proxy.shut_all.Goals as goal

pub loop-door-init : goal.loop-door-init
loop-door-init g c = shut_none (net_seen g.N.Dialer c.args.net.now)

pub loop-door-preserved : goal.loop-door-preserved
loop-door-preserved g c =
    shut_one_more g.N.Door.Gate c.loop-door.yielded c.in-Some.door (net_seen g.N.Dialer c.args.net.now)
    (net_seen g.N.Dialer c.loop-door.net) (net_seen g.N.Dialer c.shut.new.self) c.loop-door.invariant
    c.shut.ensures.faults c.shut.ensures.returned c.shut.ensures.later c.shut.ensures.dials c.shut.ensures.retired
    c.shut.ensures.requested c.shut.ensures.shut
