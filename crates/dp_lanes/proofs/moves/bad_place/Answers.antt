use Rattle.std.proofs.Common.{◌≡◌, ℕ, Option, Some, refl, subst}
use Rattle.std.specs.Option.{IfSome}
use Rattle.std.specs.declared.ops.Range.{Range}
use Rattle.dp_wire.specs.Places.{refused_at}
use Rattle.dp_lanes.specs.Places.{kind_of, received_in, IsBadIn, IsFront}
use Rattle.dp_lanes.proofs.StreamLaws.{good_part, no_front, bad_none}
use Rattle.dp_lanes.proofs.moves.bad_place.Goals as goal

pub returns-in-Ok-None : goal.returns-in-Ok-None
returns-in-Ok-None c = λ kind stream follows.
    good_part kind c.args.lane.now stream follows (c.in-Ok-None.ensures.part.0 (cc))

pub returns-in-Ok-Some : goal.returns-in-Ok-Some
returns-in-Ok-Some c = λ kind stream follows.
    let e : c.in-Ok-Some.field-0 ≡ Some c.in-Ok-Some.field-0-0 = cc in
    let front = subst (λ (o : Option (Range ℕ)). IfSome o (λ range. IsFront (kind_of c.args.lane.now)
    (received_in c.args.lane.now).held range.start range.end))
    e c.in-Ok-Some.ensures.whole in
    absurd (no_front kind c.args.lane.now stream follows _ _ front.whole)

pub returns-in-Err : goal.returns-in-Err
returns-in-Err c = λ kind stream follows.
    let at : refused_at c.in-Err.why (received_in c.args.lane.now).dropped ≡ c.place.result = cc in
    subst (λ (o : ℕ). IsBadIn kind stream o) at
    (bad_none kind c.args.lane.now stream follows c.in-Err.why (c.in-Err.ensures.refused.0 refl) c.in-Err.ensures.cause)
