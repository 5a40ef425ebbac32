use Rattle.std.proofs.Common.{◌≡◌, ℕ, List, [], Option, Some, length, inr, refl, ap, subst, ◌∙◌, arith}
use Rattle.std.specs.Option.{IfSome}
use Rattle.std.specs.declared.ops.Range.{Range}
use Rattle.dp_lanes.specs.declared.lane.LaneKind.{LaneKind}
use Rattle.dp_lanes.specs.Lanes.{texts_in}
use Rattle.dp_lanes.specs.Places.{kind_of, received_in, BeginsNone, IsFront}
use Rattle.dp_lanes.proofs.GoodLaws.{texts_front, texts_of_rest}
use Rattle.dp_lanes.proofs.counts.count_frames.Goals as goal

pub drop_front-requires : goal.drop_front-requires
drop_front-requires c =
    let found : c.in-Ok-Some.field-0 ≡ Some c.in-Ok-Some.field-0-0 = cc in
    let front = subst (λ (o : Option (Range ℕ)). IfSome o (λ range. IsFront (kind_of c.frames.lane)
    (received_in c.frames.lane).held range.start range.end)) found c.in-Ok-Some.ensures.whole in
    (_, _, front.whole)

pub frames-preserved : goal.frames-preserved
frames-preserved c =
    let held = (received_in c.frames.lane).held in
    let range = c.in-Ok-Some.field-0-0 in
    let found : c.in-Ok-Some.field-0 ≡ Some range = cc in
    let front = subst (λ (o : Option (Range ℕ)). IfSome o (λ r. IsFront (kind_of c.frames.lane) held r.start r.end))
    found c.in-Ok-Some.ensures.whole in
    let way = c.frames.invariant.0 in
    let kept = c.frames.invariant.1 in
    let within = c.frames.invariant.2 in
    let parts = texts_front c.args.kind held range.start range.end
    (subst (λ (k : LaneKind). IsFront k held range.start range.end) way front) in
    let now = c.drop_front.ensures.held _ _ front.whole in (
      c.drop_front.ensures.kind ∙ way,
      omega (arith, kept, parts.0, ap (λ (l : List ℕ). length (texts_in c.args.kind l)) now),
      omega (arith, within, parts.1, ap length now),
    )

pub returns-in-Ok-None : goal.returns-in-Ok-None
returns-in-Ok-None c =
    let held = (received_in c.frames.lane).held in
    let none : texts_in (kind_of c.frames.lane) held ≡ [] = c.in-Ok-None.ensures.none (cc) in
    let now = subst (λ (k : LaneKind). texts_in k held ≡ []) c.frames.invariant.0 none in
    let kept = c.frames.invariant.1 in
    omega (arith, kept, ap length now)

pub returns-in-Err : goal.returns-in-Err
returns-in-Err c =
    let held = (received_in c.frames.lane).held in
    let none = subst (λ (k : LaneKind). BeginsNone k held) c.frames.invariant.0 (c.in-Err.ensures.refused.0 refl) in
    let now = texts_of_rest c.args.kind held (inr none) in
    let kept = c.frames.invariant.1 in
    omega (arith, kept, ap length now)
