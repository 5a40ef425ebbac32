use Rattle.std.proofs.Common.{arith}
use Rattle.dp_crews.specs.Gates.{gating}
use Rattle.dp_crews.proofs.TwinLaws.{rests}
use Rattle.dp_crews.proofs.twins.twins_of.Goals as goal

pub returns-in-Err : goal.returns-in-Err
returns-in-Err g c =
    let before = c.twins.invariant in
    let twin = c.in-Err.ensures in (
      record {
        twins = c.twins.gates.items;
        last = c.twin.new.self;
        are = c.push_reserved-in-Err.ensures.items;
        each = before.0;
        same = rests (gating g.G.Gate c.args.gate) (gating g.G.Gate c.twins.gate) (gating g.G.Gate c.twin.new.self)
            before.1 (record {
              port = twin.port;
              later = twin.cause.later;
              returned = twin.returned;
              accepts = twin.accepts;
              accepted = twin.accepted;
              retired = twin.retired;
            });
      },
      omega (arith, before.1.later, twin.cause.failed),
    )
