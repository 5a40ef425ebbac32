use Rattle.std.proofs.Common.{◌≡◌, ◌≤◌, ◌↔◌, None, Ok, IfOk, IsErr, length, sym}
use Rattle.std.specs.Option.{IfSome}
use Rattle.dp_lanes.specs.declared.lane.Lane.TheVariants as lane
use Rattle.dp_lanes.specs.Places.{BeginsNone, IsFront, most_held}
use Rattle.dp_lanes.proofs.LaneLaws.{at_lane, up_front, down_front}
use Rattle.dp_lanes.proofs.lane.Lane.next.Goals as goal

pub returns-in-Up-clause-whole : goal.returns-in-Up-clause-whole
returns-in-Up-clause-whole c =
    let e : c.args.self.now ≡ lane.Up c.in-Up.packets = cc in
    let n = c.next.ensures in
    at_lane (λ k r. IfOk c.next.result (λ found. IfSome found (λ range. IsFront k r.held range.start range.end)))
    (lane.Up c.in-Up.packets) _ (sym e)
    (up_front (λ range. range.start) (λ range. range.end) c.in-Up.packets.held c.next.result n.within n.start n.whole
    n.first)

pub returns-in-Up-clause-refused : goal.returns-in-Up-clause-refused
returns-in-Up-clause-refused c =
    let e : c.args.self.now ≡ lane.Up c.in-Up.packets = cc in
    at_lane (λ k r. IsErr c.next.result ↔ BeginsNone k r.held) (lane.Up c.in-Up.packets) _
    (sym e) c.next.ensures.refused

pub returns-in-Down-clause-whole : goal.returns-in-Down-clause-whole
returns-in-Down-clause-whole c =
    let e : c.args.self.now ≡ lane.Down c.in-Down.commands = cc in
    let n = c.next-in-Down.ensures in
    at_lane (λ k r. IfOk c.next-in-Down.result (λ found. IfSome found
    (λ range. IsFront k r.held range.start range.end))) (lane.Down c.in-Down.commands) _ (sym e)
    (down_front (λ range. range.start) (λ range. range.end) c.in-Down.commands.held c.next-in-Down.result n.start
    n.whole n.first)

pub returns-in-Down-clause-refused : goal.returns-in-Down-clause-refused
returns-in-Down-clause-refused c =
    let e : c.args.self.now ≡ lane.Down c.in-Down.commands = cc in
    at_lane (λ k r. IsErr c.next-in-Down.result ↔ BeginsNone k r.held) (lane.Down c.in-Down.commands) _
    (sym e) c.next-in-Down.ensures.refused

pub returns-in-Up-clause-held : goal.returns-in-Up-clause-held
returns-in-Up-clause-held c =
    let e : c.args.self.now ≡ lane.Up c.in-Up.packets = cc in
    at_lane (λ k r. c.next.result ≡ Ok None → length r.held ≤ most_held k) (lane.Up c.in-Up.packets) _
    (sym e) c.next.ensures.held

pub returns-in-Down-clause-held : goal.returns-in-Down-clause-held
returns-in-Down-clause-held c =
    let e : c.args.self.now ≡ lane.Down c.in-Down.commands = cc in
    at_lane (λ k r. c.next-in-Down.result ≡ Ok None → length r.held ≤ most_held k) (lane.Down c.in-Down.commands) _
    (sym e) c.next-in-Down.ensures.held
