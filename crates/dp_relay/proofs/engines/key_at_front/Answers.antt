use Rattle.std.proofs.Common.{List, ℕ, Option, refl, subst, slice_range}
use Rattle.std.specs.Option.{IfSome}
use Rattle.std.specs.declared.ops.Range.{Range}
use Rattle.dp_lanes.specs.Places.{IsFront, kind_of, received_in}
use Rattle.dp_proxy.specs.Inits.{GivesKey}
use Rattle.dp_relay.proofs.EngineLaws.{front_comes, front_keyless, bad_first, no_key}
use Rattle.dp_relay.proofs.engines.key_at_front.Goals as goal

pub returns-in-Ok : goal.returns-in-Ok
returns-in-Ok c =
    let lane = c.args.lane.now in
    let range = c.in-Ok-Some.range in
    let front = subst (λ (o : Option (Range ℕ)). IfSome o (λ r. IsFront (kind_of lane) (received_in lane).held
    r.start r.end)) c.in-Ok-Some.field-0-is c.in-Ok-Some.ensures.whole in
    front_comes lane c.requires.lane range.start range.end c.in-Ok.key front
    (subst (λ (l : List ℕ). GivesKey (slice_range l range.start range.end) c.in-Ok.key) c.bytes.ensures
    c.in-Ok.ensures.found)

pub returns-in-Err-BadInit : goal.returns-in-Err-BadInit
returns-in-Err-BadInit c =
    let lane = c.args.lane.now in
    let range = c.in-Ok-Some.range in
    let front = subst (λ (o : Option (Range ℕ)). IfSome o (λ r. IsFront (kind_of lane) (received_in lane).held
    r.start r.end)) c.in-Ok-Some.field-0-is c.in-Ok-Some.ensures.whole in
    front_keyless lane c.requires.lane range.start range.end front
    (subst (λ (l : List ℕ). (key : List ℕ) → GivesKey (slice_range l range.start range.end) key → ⊥) c.bytes.ensures
    (no_key _ c.in-Err-BadInit.field-0 c.in-Err-BadInit.field-0-is c.in-Err-BadInit.ensures.only))

pub returns-in-Err : goal.returns-in-Err
returns-in-Err c =
    bad_first c.args.lane.now c.requires.lane c.in-Err.field-0 c.bad_offset.result (c.in-Err.ensures.refused.0 refl)
    c.in-Err.ensures.cause c.bad_offset.ensures
