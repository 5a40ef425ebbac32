use Rattle.std.proofs.Common.{◌∙◌, ap, flat_map}
use Rattle.dp_lanes.specs.declared.lane.LaneKind.TheVariants.{Up}
use Rattle.dp_lanes.proofs.PassedLaws.{passes_all}
use Rattle.dp_proxy_laws.proofs.PlainLaws.{good_front}
use Rattle.dp_wire.specs.Frames.{packet_frame, packets_in}
use Rattle.dp_world.specs.Alone.{alone}
use Rattle.dp_world.proofs.HeadlineLaws.{front_of}
use Rattle.dp_proxy_laws.proofs.laws.running_lane_is_isolated.Goals as goal

pub returns-clause-written : goal.returns-clause-written
returns-clause-written g c = λ key commands lane read rest written passed held begins.
    passes_all Up lane read written passed held
    ∙ ap (λ s. flat_map packet_frame (packets_in s))
    (front_of read (alone (g.A.Engines.known c.args.engines.now) key commands) (rest, begins))

pub returns-clause-good : goal.returns-clause-good
returns-clause-good g c = λ key commands read rest each begins.
    good_front (g.A.Engines.known c.args.engines.now) key commands read each (rest, begins)
