use Rattle.std.proofs.Common.{◌≡◌, ℕ, ◌+◌, List, length, min, sym}
use Rattle.dp_wire.specs.Received.{last_place}
use Rattle.dp_lanes.specs.declared.lane.Lane.TheVariants as lane
use Rattle.dp_lanes.specs.Lanes.{frame}
use Rattle.dp_lanes.specs.Places.{BeginsWith}
use Rattle.dp_lanes.proofs.LaneLaws.{at_lane}
use Rattle.dp_lanes.proofs.lane.Lane.drop_front.Goals as goal

pub drop_front-requires : goal.drop_front-requires
drop_front-requires c =
    let e : c.args.self.now ≡ lane.Up c.in-Up.packets = cc in
    at_lane (λ k r. (text : List ℕ) × (rest : List ℕ) × BeginsWith k r.held text rest) _
    (lane.Up c.in-Up.packets) e c.requires

pub drop_front-requires-in-Down : goal.drop_front-requires-in-Down
drop_front-requires-in-Down c =
    let e : c.args.self.now ≡ lane.Down c.in-Down.commands = cc in
    at_lane (λ k r. (text : List ℕ) × (rest : List ℕ) × BeginsWith k r.held text rest) _
    (lane.Down c.in-Down.commands) e c.requires

pub returns-in-Up-clause-held : goal.returns-in-Up-clause-held
returns-in-Up-clause-held c = λ text rest b.
    let e : c.args.self.now ≡ lane.Up c.in-Up.packets = cc in
    c.drop_front.ensures.held text rest (at_lane (λ k r. BeginsWith k r.held text rest) _ (lane.Up c.in-Up.packets) e b)

pub returns-in-Up-clause-dropped : goal.returns-in-Up-clause-dropped
returns-in-Up-clause-dropped c = λ text rest b.
    let e : c.args.self.now ≡ lane.Up c.in-Up.packets = cc in
    at_lane (λ k r. c.drop_front.new.self.dropped ≡ min (r.dropped + length (frame k text)) last_place)
    (lane.Up c.in-Up.packets) _ (sym e)
    (c.drop_front.ensures.dropped text rest (at_lane (λ k r. BeginsWith k r.held text rest) _
    (lane.Up c.in-Up.packets) e b))

pub returns-in-Down-clause-held : goal.returns-in-Down-clause-held
returns-in-Down-clause-held c = λ text rest b.
    let e : c.args.self.now ≡ lane.Down c.in-Down.commands = cc in
    c.drop_front-in-Down.ensures.held text rest (at_lane (λ k r. BeginsWith k r.held text rest) _
    (lane.Down c.in-Down.commands) e b)

pub returns-in-Down-clause-dropped : goal.returns-in-Down-clause-dropped
returns-in-Down-clause-dropped c = λ text rest b.
    let e : c.args.self.now ≡ lane.Down c.in-Down.commands = cc in
    at_lane (λ k r. c.drop_front-in-Down.new.self.dropped ≡ min (r.dropped + length (frame k text)) last_place)
    (lane.Down c.in-Down.commands) _ (sym e)
    (c.drop_front-in-Down.ensures.dropped text rest (at_lane (λ k r. BeginsWith k r.held text rest) _
    (lane.Down c.in-Down.commands) e b))
