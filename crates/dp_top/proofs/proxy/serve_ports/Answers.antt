use Rattle.std.proofs.Common.{refl, inl, inr}
use Rattle.dp_crews.specs.Gates.{gating}
use Rattle.dp_crews.specs.Relays.{faults}
use Rattle.dp_words.specs.Commands.{service_seen}
use Rattle.dp_top.specs.Proxy.{IsNew}
use Rattle.dp_top.specs.Seen.{net_seen}
use Rattle.dp_top.proofs.ProxyLaws.{came_from, half_gated}
use Rattle.dp_top.proofs.proxy.serve_ports.Goals as goal

pub returns-in_default-gate-clause-came : goal.returns-in_default-gate-clause-came
returns-in_default-gate-clause-came g c =
    let is_new : IsNew c.args.request.ide_port (gating g.N.Door.Gate c.in-Ok.ides) = record {
      at = c.in-Ok.ensures.port;
      faults = c.in-Ok.ensures.fresh;
      returned = c.in-Ok.ensures.fresh_returned;
      accepts = c.in-Ok.ensures.fresh_accepts;
      accepted = c.in-Ok.ensures.fresh_accepted;
      retired = c.in-Ok.ensures.fresh_retired;
    } in
    inl (
      refl,
      inr (half_gated (service_seen c.args.request) (net_seen g.N.Dialer c.args.net.now)
          (net_seen g.N.Dialer c.gate.new.self) (net_seen g.N.Dialer c.gate-2.new.self)
          (net_seen g.N.Dialer c.shut.new.self)
          (faults (g.P.Spawner.faults c.args.spawner.now) (g.P.Spawner.faults c.args.spawner.now))
          c.gate.ensures.dials c.gate.ensures.retired c.gate.ensures.shut c.gate.ensures.returned
          c.gate.ensures.cause.later c.in-Ok.ensures.requested c.gate-2.ensures.dials c.gate-2.ensures.retired
          c.gate-2.ensures.shut c.gate-2.ensures.returned c.gate-2.ensures.cause.later
          (gating g.N.Door.Gate c.in-Ok.ides) is_new c.in_default-gate.ensures.requested
          c.in_default-gate.ensures.cause.failed c.shut.ensures.faults c.shut.ensures.returned c.shut.ensures.dials
          c.shut.ensures.retired c.shut.ensures.requested c.shut.ensures.shut),
    )

pub returns-clause-came : goal.returns-clause-came
returns-clause-came g c =
    came_from (service_seen c.args.request) (net_seen g.N.Dialer c.args.net.now)
    (net_seen g.N.Dialer c.gate.new.self) (net_seen g.N.Dialer c.gate-2.new.self)
    (net_seen g.N.Dialer c.serve_at.new.net)
    (faults (g.P.Spawner.faults c.args.spawner.now) (g.P.Spawner.faults c.serve_at.new.spawner))
    c.gate.ensures.dials c.gate.ensures.retired c.gate.ensures.shut c.gate.ensures.returned
    c.gate.ensures.cause.later c.in-Ok.ensures.requested c.gate-2.ensures.dials c.gate-2.ensures.retired
    c.gate-2.ensures.shut c.gate-2.ensures.returned c.gate-2.ensures.cause.later
    c.serve_at.result c.in-Ok-gate.ensures.requested c.serve_at.ensures.ran
