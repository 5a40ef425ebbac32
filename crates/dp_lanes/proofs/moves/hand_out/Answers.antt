use Rattle.std.proofs.Common.{◌≡◌, ℕ, ◌+◌, ◌++◌, Option, Some, Bor, List, length, min, ap, subst, ◌∙◌}
use Rattle.std.specs.Option.{IfSome}
use Rattle.dp_wire.specs.Received.{last_place}
use Rattle.dp_lanes.specs.declared.lane.LaneKind.{LaneKind}
use Rattle.dp_lanes.specs.Lanes.{frame}
use Rattle.dp_lanes.specs.Places.{BeginsWith, kind_of, received_in}
use Rattle.dp_lanes.proofs.StreamLaws.{hands_more}
use Rattle.dp_lanes.proofs.moves.hand_out.Goals as goal

pub frames-preserved : goal.frames-preserved
frames-preserved c =
    let way = c.frames.invariant.0 in
    let lane = c.frames.lane in
    let after = c.drop_front.new.self in
    let found : c.in-Ok-Some.field-0 ≡ Some c.in-Ok-Some.frame = cc in
    let whole = subst (λ (o : Option (Bor (List ℕ))). IfSome o (λ bytes. (text : List ℕ) × (rest : List ℕ)
    × BeginsWith (kind_of lane) (received_in lane).held text rest × (bytes.now ≡ frame (kind_of lane) text))) found
    c.in-Ok-Some.ensures.whole in
    let text = whole.0 in
    let rest = whole.1 in (
      c.drop_front.ensures.kind ∙ way,
      hands_more (kind_of c.args.lane.now) (received_in c.args.lane.now) (received_in lane)
          (received_in after) c.args.out.now.items c.frames.out.items
          c.extend_from_slice.new.self.items text rest c.frames.invariant.1
          (subst (λ (k : LaneKind). BeginsWith k (received_in lane).held text rest) way whole.2)
          (c.drop_front.ensures.held text rest whole.2)
          (subst (λ (k : LaneKind). (received_in after).dropped ≡ min
          ((received_in lane).dropped + length (frame k text)) last_place) way
          (c.drop_front.ensures.dropped text rest whole.2))
          (c.in_ok-extend_from_slice.ensures.items ∙ ap (λ (l : List ℕ). c.frames.out.items ++ l)
          (whole.3 ∙ ap (λ (k : LaneKind). frame k text) way)),
    )
