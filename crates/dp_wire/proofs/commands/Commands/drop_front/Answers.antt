use Rattle.std.proofs.Common.{◌≡◌, ℕ, ◌+◌, Option, Some, None, drop, min, subst, ap, ◌∙◌}
use Rattle.dp_wire.specs.Frames.{FirstNul}
use Rattle.dp_wire.specs.Received.{Received, last_place}
use Rattle.dp_wire.proofs.NextLaws.{some_rest, some_length, none_begins}
use Rattle.dp_wire.proofs.commands.Commands.drop_front.Goals as goal

-- what is held, of what contracts see, and the place of its first NUL
first_held : (seen now : Received) (first place : Option ℕ) → seen ≡ now → first ≡ place → FirstNul seen.held first
    → FirstNul now.held place
first_held seen now first place same is h =
    subst (λ (r : Received). FirstNul r.held place) same (subst (λ (o : Option ℕ). FirstNul seen.held o) is h)

pub returns-clause-held : goal.returns-clause-held
returns-clause-held c =
    let found = first_held _ c.args.self.now c.self.inside.first
    (Some c.in-Some.length) c.self.view_is c.in-Some.is c.self.invariant in
    λ line rest begins.
    c.advance.ensures
    ∙ ap (λ (r : Received). drop (c.in-Some.length + 1) r.held) c.self.view_is
    ∙ some_rest c.args.self.now.held c.in-Some.length found line rest begins

pub returns-clause-dropped : goal.returns-clause-dropped
returns-clause-dropped c =
    let found = first_held _ c.args.self.now c.self.inside.first
    (Some c.in-Some.length) c.self.view_is c.in-Some.is c.self.invariant in
    λ line rest begins.
    c.saturating_add-self-inside.ensures
    ∙ (λ i. min ((c.self.view_is i).dropped + some_length c.args.self.now.held c.in-Some.length found line rest
    begins i) last_place)

pub unreachable-requires : goal.unreachable-requires
unreachable-requires c =
    none_begins c.args.self.now.held (first_held _ c.args.self.now c.self.inside.first None c.self.view_is c.in-None.is
    c.self.invariant) c.requires.0 c.requires.1 c.requires.2
