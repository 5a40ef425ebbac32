use Rattle.std.proofs.Common.{List, ℕ, sym, subst}
use Rattle.dp_lanes.specs.declared.lane.LaneKind.TheVariants.{Down}
use Rattle.dp_lanes.specs.Places.{Carries}
use Rattle.dp_proxy.specs.Links.{stream}
use Rattle.dp_proxy.proofs.PassLaws.{some_bytes, no_bytes, given_follows, given_frames, given_nothing, given_broken}
use Rattle.dp_proxy.proofs.passes.give.Goals as goal

pub returns-then-not-is_empty : goal.returns-then-not-is_empty
returns-then-not-is_empty c = λ acts follow.
    let carries = subst (λ (b : List ℕ). Carries Down c.carry.new.lane (stream Down acts) b c.of-out.result)
    c.as_slice.ensures
    (subst (λ (o : List ℕ). Carries Down c.carry.new.lane (stream Down acts) c.as_slice.result.now o)
    (sym c.of-out.ensures)
    (c.in_ok-frames.ensures Down (stream Down acts) follow.commands)) in (
      given_frames acts c.args.bytes.now c.args.up.now c.args.down.now c.carry.new.lane c.of-out.result follow carries
          (some_bytes c.of-out.result c.is_empty.result c.is_empty.ensures c.if-not-is_empty.true),
      given_follows acts c.args.bytes.now c.args.up.now c.args.down.now c.carry.new.lane c.of-out.result follow carries,
    )

pub returns-in-Some : goal.returns-in-Some
returns-in-Some c = λ acts follow.
    let carries = subst (λ (b : List ℕ). Carries Down c.carry.new.lane (stream Down acts) b c.of-out.result)
    c.as_slice.ensures
    (subst (λ (o : List ℕ). Carries Down c.carry.new.lane (stream Down acts) c.as_slice.result.now o)
    (sym c.of-out.ensures)
    (c.in_ok-frames.ensures Down (stream Down acts) follow.commands)) in
    let none = no_bytes c.of-out.result c.is_empty.result c.is_empty.ensures c.if-not-is_empty.false in
    let after = given_follows acts c.args.bytes.now c.args.up.now c.args.down.now c.carry.new.lane c.of-out.result
    follow carries in (
      given_broken acts c.args.bytes.now c.args.up.now c.args.down.now c.carry.new.lane c.of-out.result follow carries
          none c.in-Some.offset (c.in-Some.ensures _ after),
      after,
    )

pub returns : goal.returns
returns c = λ acts follow.
    let carries = subst (λ (b : List ℕ). Carries Down c.carry.new.lane (stream Down acts) b c.of-out.result)
    c.as_slice.ensures
    (subst (λ (o : List ℕ). Carries Down c.carry.new.lane (stream Down acts) c.as_slice.result.now o)
    (sym c.of-out.ensures)
    (c.in_ok-frames.ensures Down (stream Down acts) follow.commands)) in
    let none = no_bytes c.of-out.result c.is_empty.result c.is_empty.ensures c.if-not-is_empty.false in
    let after = given_follows acts c.args.bytes.now c.args.up.now c.args.down.now c.carry.new.lane c.of-out.result
    follow carries in (
      given_nothing acts c.args.bytes.now c.args.up.now c.args.down.now c.carry.new.lane c.of-out.result follow carries
          none (c.in-None.ensures _ after),
      after,
    )
