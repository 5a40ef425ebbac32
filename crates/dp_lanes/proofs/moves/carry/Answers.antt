use Rattle.std.proofs.Common.{ℕ, List, subst}
use Rattle.dp_lanes.specs.inner.Deliveries.{HandsAll}
use Rattle.dp_lanes.proofs.StreamLaws.{carried}
use Rattle.dp_lanes.proofs.moves.carry.Goals as goal

pub returns : goal.returns
returns c = λ kind stream follows.
    carried kind c.args.lane.now c.append.new.self c.hand_out.new.lane stream c.args.bytes.now c.hand_out.new.out.items
    follows
    c.in_ok-append.ensures.kind c.in_ok-append.ensures.ok c.in_ok-append.ensures.dropped
    (subst (λ (l : List ℕ). HandsAll c.append.new.self c.hand_out.new.lane l c.hand_out.new.out.items)
    c.new-out.ensures.items c.in_ok-hand_out.ensures)
