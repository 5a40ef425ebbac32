use Rattle.std.proofs.Common.{◌≡◌, ◌<◌, ◌≤◌, ℕ, refl, ap, Option, None, Some, length, subst, arith, rules}
use Rattle.dp_wire.specs.Frames.{command_limit}
use Rattle.dp_wire.specs.Frames.{FirstNul}
use Rattle.dp_wire.specs.Received.{Received}
use Rattle.dp_wire.proofs.NextLaws.{some_partial, some_refused, some_first, none_partial, none_refused, long_some, long_none, long_refused, long_partial, long_never}
use Rattle.dp_wire.proofs.FrameLaws.{commands-partial}
use Rattle.dp_wire.proofs.commands.Commands.next.Goals as goal

-- what is held, of what contracts see, and the place of its first NUL
held_first : (seen now : Received) (first place : Option ℕ) → seen ≡ now → first ≡ place → FirstNul seen.held first
    → FirstNul now.held place
held_first seen now first place same is h =
    subst (λ (r : Received). FirstNul r.held place) same (subst (λ (o : Option ℕ). FirstNul seen.held o) is h)

pub returns-in-Some-clause-partial : goal.returns-in-Some-clause-partial
returns-in-Some-clause-partial c =
    let found = held_first _ _ c.self.inside.first (Some c.in-Some.length) c.self.view_is c.in-Some.is
    c.self.invariant in
    (λ e. cc, λ p. absurd (some_partial c.args.self.now.held c.in-Some.length found p))

pub returns-in-Some-clause-refused : goal.returns-in-Some-clause-refused
returns-in-Some-clause-refused c =
    let found = held_first _ _ c.self.inside.first (Some c.in-Some.length) c.self.view_is c.in-Some.is
    c.self.invariant in (
      λ e. cc,
      λ p. absurd (some_refused c.args.self.now.held c.in-Some.length found c.if-length-le-COMMAND_LIMIT.true
          p),
    )

pub returns-in-Some-clause-first : goal.returns-in-Some-clause-first
returns-in-Some-clause-first c =
    let found = held_first _ _ c.self.inside.first (Some c.in-Some.length) c.self.view_is c.in-Some.is
    c.self.invariant in
    some_first c.args.self.now.held c.in-Some.length found c.if-length-le-COMMAND_LIMIT.true

pub returns-in-None-clause-partial : goal.returns-in-None-clause-partial
returns-in-None-clause-partial c =
    let none = held_first _ _ c.self.inside.first None c.self.view_is c.in-None.is
    c.self.invariant in
    let fits : length c.args.self.now.held ≤ command_limit = omega (arith, ap length c.bytes.ensures) in
    (λ e. none_partial c.args.self.now.held none fits, λ p. search rules)

pub returns-in-None-clause-refused : goal.returns-in-None-clause-refused
returns-in-None-clause-refused c =
    let none = held_first _ _ c.self.inside.first None c.self.view_is c.in-None.is
    c.self.invariant in
    let fits : length c.args.self.now.held ≤ command_limit = omega (arith, ap length c.bytes.ensures) in
    (λ e. cc, λ p. absurd (none_refused c.args.self.now.held none fits p))

pub returns-in-None-clause-none : goal.returns-in-None-clause-none
returns-in-None-clause-none c =
    let none = held_first _ _ c.self.inside.first None c.self.view_is c.in-None.is
    c.self.invariant in
    λ e. commands-partial c.args.self.now.held none

pub returns-in-Some-2-clause-refused : goal.returns-in-Some-2-clause-refused
returns-in-Some-2-clause-refused c =
    let found = held_first _ _ c.self.inside.first (Some c.in-Some.length) c.self.view_is c.in-Some.is
    c.self.invariant in
    (λ e. long_refused c.args.self.now.held (long_some _ _ found c.if-length-le-COMMAND_LIMIT.false), λ p. refl)

pub returns-in-Some-2-clause-never : goal.returns-in-Some-2-clause-never
returns-in-Some-2-clause-never c =
    let found = held_first _ _ c.self.inside.first (Some c.in-Some.length) c.self.view_is c.in-Some.is
    c.self.invariant in
    λ e. long_never c.args.self.now.held (long_some _ _ found c.if-length-le-COMMAND_LIMIT.false)

pub returns-in-Some-2-clause-partial : goal.returns-in-Some-2-clause-partial
returns-in-Some-2-clause-partial c =
    let found = held_first _ _ c.self.inside.first (Some c.in-Some.length) c.self.view_is c.in-Some.is
    c.self.invariant in (
      λ e. cc,
      λ p. absurd (long_partial c.args.self.now.held (long_some _ _ found c.if-length-le-COMMAND_LIMIT.false)
          p),
    )

pub returns-in-None-2-clause-refused : goal.returns-in-None-2-clause-refused
returns-in-None-2-clause-refused c =
    let none = held_first _ _ c.self.inside.first None c.self.view_is c.in-None.is
    c.self.invariant in
    let long : command_limit < length c.args.self.now.held = omega (arith, ap length c.bytes.ensures) in
    (λ e. long_refused c.args.self.now.held (long_none _ none long), λ p. refl)

pub returns-in-None-2-clause-never : goal.returns-in-None-2-clause-never
returns-in-None-2-clause-never c =
    let none = held_first _ _ c.self.inside.first None c.self.view_is c.in-None.is
    c.self.invariant in
    let long : command_limit < length c.args.self.now.held = omega (arith, ap length c.bytes.ensures) in
    λ e. long_never c.args.self.now.held (long_none _ none long)

pub returns-in-None-2-clause-partial : goal.returns-in-None-2-clause-partial
returns-in-None-2-clause-partial c =
    let none = held_first _ _ c.self.inside.first None c.self.view_is c.in-None.is
    c.self.invariant in
    let long : command_limit < length c.args.self.now.held = omega (arith, ap length c.bytes.ensures) in
    (λ e. cc, λ p. absurd (long_partial c.args.self.now.held (long_none _ none long) p))
