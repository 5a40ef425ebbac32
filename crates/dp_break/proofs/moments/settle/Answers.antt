use Rattle.std.proofs.Common.{◌≡◌, ◌-◌, ◌<◌, length, rules, ap, arith}
use Rattle.std.specs.Prelude.{Bool, ◌||◌}
use Rattle.std.proofs.lemmas.List.{get_or_default}
use Rattle.dp_break.proofs.Steps.{settled_none, stepped}
use Rattle.dp_break.proofs.moments.settle.Goals as goal

pub places-init : goal.places-init
places-init c =
    let all : c.len-at.result ≡ length c.args.held.now.items = search rules in
    settled_none c.args.marks.now c.args.held.now.items c.requires c.len-at.result all

pub places-preserved-then-settle_at : goal.places-preserved-then-settle_at
places-preserved-then-settle_at c =
    let within : c.places.at - 1 < length c.args.marks.now = let w = c.places.invariant.within in omega arith in
    stepped c.args.marks.now c.args.held.now.items c.requires c.places.at c.places-test.true c.places.held.items
    c.places.stopped c.places.invariant _ c.settle_at.new.held.items c.settle_at.result _
    (get_or_default c.args.marks.now (c.places.at - 1) _ _ within) c.settle_at.ensures.left c.settle_at.ensures.stops
    (ap (λ (t : Bool). t || c.places.stopped) c.if-settle_at.true)

pub places-preserved : goal.places-preserved
places-preserved c =
    let within : c.places.at - 1 < length c.args.marks.now = let w = c.places.invariant.within in omega arith in
    stepped c.args.marks.now c.args.held.now.items c.requires c.places.at c.places-test.true c.places.held.items
    c.places.stopped c.places.invariant _ c.settle_at.new.held.items c.settle_at.result _
    (get_or_default c.args.marks.now (c.places.at - 1) _ _ within) c.settle_at.ensures.left c.settle_at.ensures.stops
    (ap (λ (t : Bool). t || c.places.stopped) c.if-settle_at.false)
