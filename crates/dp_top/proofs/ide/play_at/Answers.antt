use Rattle.std.proofs.Common.{◌∙◌}
use Rattle.dp_outside.specs.Changes.{change}
use Rattle.dp_top.specs.Seen.{net_seen}
use Rattle.dp_top.specs.inner.Gated.{DoorSeen}
use Rattle.dp_top.proofs.IdeLaws.{gated_so}
use Rattle.dp_top.proofs.ide.play_at.Goals as goal

pub returns-in-Ok-clause-gated : goal.returns-in-Ok-clause-gated
returns-in-Ok-clause-gated g c =
    let door : DoorSeen = record {
      accepts = g.N.Door.Gate.accepts c.meet-end.new.door;
      accepted = g.N.Door.Gate.accepted c.meet-end.new.door;
      retired = g.N.Door.Gate.retired c.meet-end.new.door;
      faults = g.N.Door.Gate.faults c.meet-end.new.door;
      returned = g.N.Door.Gate.returned c.meet-end.new.door;
    } in
    gated_so c.args.port (g.N.Door.Gate.port c.meet-end.new.door) door
    (net_seen g.N.Dialer c.args.net.now)
    (net_seen g.N.Dialer c.gate.new.self)
    (net_seen g.N.Dialer c.shut.new.self)
    (c.meet-end.ensures.port ∙ c.in-Ok.ensures.port)
    c.gate.ensures.dials c.gate.ensures.retired c.in-Ok.ensures.requested c.gate.ensures.shut
    c.gate.ensures.returned c.gate.ensures.cause.later c.shut.ensures.dials c.shut.ensures.retired
    c.shut.ensures.requested c.shut.ensures.shut
    c.shut.ensures.faults c.shut.ensures.returned
    c.meet-end.result c.args.script.now (change g.O.Sink.taken g.O.Sink.faults c.args.out.now c.meet-end.new.out)
    c.meet-end.ensures.met
