use Rattle.std.proofs.Common.{◌≡◌, ◌+◌, ◌≤◌, ℕ, Ok, List, length, take, drop, min, refl, sym, ap, ◌∙◌, arith}
use Rattle.std.proofs.lemmas.List.{length-take-le}
use Rattle.dp_wire.specs.Received.{Received, last_place}
use Rattle.dp_bodies.proofs.FrameLaws.{begins_partial, begins_refused, dropped_is}
use Rattle.dp_bodies.proofs.bodies.Bodies.drop_front.Goals as goal

-- how many bytes a body has with its head
count_is : (bytes now : List ℕ) (end : ℕ) → bytes ≡ now → end ≤ length now → length (take end bytes) ≡ end
count_is bytes now end same within = length-take-le end bytes (omega (arith, ap length same, within))

pub returns-clause-held : goal.returns-clause-held
returns-clause-held c = λ text rest begins.
    let end = c.in-Ok-Some.range.end in
    let within = rw c.in-Ok-Some.field-0-is at c.in-Ok-Some.ensures.within in
    let whole = rw c.in-Ok-Some.field-0-is at c.in-Ok-Some.ensures.whole in
    c.advance.ensures
    ∙ ap (λ n. drop n c.self.inside.bytes) (count_is _ _ end c.bytes.ensures within.1)
    ∙ ap (λ (r : Received). drop end r.held) c.self.view_is
    ∙ (dropped_is c.args.self.now.held _ text rest end within.1 whole begins).0

pub returns-clause-dropped : goal.returns-clause-dropped
returns-clause-dropped c = λ text rest begins.
    let end = c.in-Ok-Some.range.end in
    let within = rw c.in-Ok-Some.field-0-is at c.in-Ok-Some.ensures.within in
    let whole = rw c.in-Ok-Some.field-0-is at c.in-Ok-Some.ensures.whole in
    let long = (dropped_is c.args.self.now.held _ text rest end within.1 whole begins).1 in
    let count = count_is _ _ end c.bytes.ensures within.1 in
    c.saturating_add-self-inside.ensures
    ∙ (λ i. min ((c.self.view_is i).dropped + (count ∙ sym long) i) last_place)

pub unreachable-requires : goal.unreachable-requires
unreachable-requires c =
    begins_partial c.args.self.now.held c.requires.0 c.requires.1 c.requires.2
    (c.in-Ok-None.ensures.partial.0 (ap Ok c.in-Ok-None.field-0-is))

pub unreachable-requires-in-Err : goal.unreachable-requires-in-Err
unreachable-requires-in-Err c =
    begins_refused c.args.self.now.held c.requires.0 c.requires.1 c.requires.2 (c.in-Err.ensures.refused.0 refl)
