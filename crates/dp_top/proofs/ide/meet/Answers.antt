use Rattle.dp_outside.specs.Changes.{change}
use Rattle.dp_outside.specs.Links.{Link, link}
use Rattle.dp_top.specs.inner.Gated.{DoorSeen}
use Rattle.dp_top.proofs.IdeLaws.{called}
use Rattle.dp_top.proofs.ide.meet.Goals as goal

pub returns-in-Ok-clause-met : goal.returns-in-Ok-clause-met
returns-in-Ok-clause-met g c =
    let given : Link = link g.D.In.Source g.D.Out.Sink c.in-Ok.source c.in-Ok.sink in
    let back : Link = link g.D.In.Source g.D.Out.Sink c.play-end.new.source c.play-end.new.sink in
    let old : DoorSeen = record {
      accepts = g.D.Gate.accepts c.args.door.now;
      accepted = g.D.Gate.accepted c.args.door.now;
      retired = g.D.Gate.retired c.args.door.now;
      faults = g.D.Gate.faults c.args.door.now;
      returned = g.D.Gate.returned c.args.door.now;
    } in
    let over : DoorSeen = record {
      accepts = g.D.Gate.accepts c.accept.new.self;
      accepted = g.D.Gate.accepted c.accept.new.self;
      retired = g.D.Gate.retired c.accept.new.self;
      faults = g.D.Gate.faults c.accept.new.self;
      returned = g.D.Gate.returned c.accept.new.self;
    } in
    let new : DoorSeen = record {
      accepts = g.D.Gate.accepts c.retire.new.self;
      accepted = g.D.Gate.accepted c.retire.new.self;
      retired = g.D.Gate.retired c.retire.new.self;
      faults = g.D.Gate.faults c.retire.new.self;
      returned = g.D.Gate.returned c.retire.new.self;
    } in
    called c.play-end.result c.args.script.now given back (g.D.In.Source.faults c.in-Ok.source)
    (g.D.In.Source.faults c.play-end.new.source) (g.D.Out.Sink.faults c.in-Ok.sink)
    (g.D.Out.Sink.faults c.play-end.new.sink) old over new (change g.O.Sink.taken g.O.Sink.faults c.args.out.now
    c.play-end.new.out)
    c.in-Ok.ensures.source c.in-Ok.ensures.sink c.requires.accepts c.requires.accepted c.requires.retired
    c.in-Ok.ensures.accepts c.retire.ensures.accepts c.in-Ok.ensures.accepted
    c.accept.ensures.retired c.retire.ensures.accepted
    (rw c.finish.ensures.taken at c.retire.ensures.retired) (rw c.finish.ensures.faults at c.retire.ensures.returned)
    c.play-end.ensures.ends
