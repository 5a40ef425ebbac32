use Rattle.dp_lanes.specs.declared.lane.LaneKind.TheVariants.{Up, Down}
use Rattle.dp_proxy.specs.Links.{stream}
use Rattle.dp_proxy.proofs.PassLaws.{broken_up}
use Rattle.dp_proxy.proofs.passes.broken_place.Goals as goal

pub returns-in-None : goal.returns-in-None
returns-in-None c = λ acts follow.
    broken_up acts c.bad_place-in-None.result (c.in-None.ensures Down (stream Down acts) follow.commands)
    (c.bad_place-in-None.ensures Up (stream Up acts) follow.packets)
