use Rattle.dp_crews.specs.Relays.{faults}
use Rattle.dp_words.specs.Commands.{service_seen}
use Rattle.dp_top.specs.Seen.{net_seen}
use Rattle.dp_top.proofs.ProxyLaws.{ran, ran_so}
use Rattle.dp_top.proofs.proxy.serve_at.Goals as goal

pub returns-clause-ran : goal.returns-clause-ran
returns-clause-ran g c =
    let over = c.serve_all-served.ensures in
    ran_so (service_seen c.args.request) (net_seen g.N.Dialer c.args.net.now)
    (net_seen g.N.Dialer c.shut_all-2.new.net)
    (faults (g.P.Spawner.faults c.args.spawner.now) (g.P.Spawner.faults c.serve_all-served.new.spawner))
    c.numbers_of.result c.serve_all-served.result.0 c.numbers_of.ensures
    (ran g.N.Door.Gate (service_seen c.args.request) c.args.ides c.args.engines c.requires.ides c.requires.engines
    (net_seen g.N.Dialer c.args.net.now) (net_seen g.N.Dialer c.serve_all-served.new.dialer)
    (net_seen g.N.Dialer c.shut_all.new.net) (net_seen g.N.Dialer c.shut_all-2.new.net)
    (faults (g.P.Spawner.faults c.args.spawner.now) (g.P.Spawner.faults c.serve_all-served.new.spawner))
    c.serve_all-served.result.1.items c.serve_all-served.result.2.items c.serve_all-served.result.0
    over.served over.bounds over.dialer.returned over.dialer.dials over.dialer.retired over.dialer.requested
    over.dialer.shut c.shut_all.ensures c.shut_all-2.ensures)
