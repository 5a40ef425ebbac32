use Rattle.std.proofs.Common.{◌≡◌, ℕ, ◌+◌, ◌<◌, ◌≤◌, List, length, drop, slice_range, refl, ap, subst, arith}
use Rattle.dp_bodies.specs.Frames.{BeginsBody, BeginsNoBody, IsPartialBody, body_limit}
use Rattle.dp_bodies.specs.inner.Heads.{IsHead}
use Rattle.dp_bodies.specs.declared.heads.Head.{Head}
use Rattle.dp_bodies.specs.declared.heads.Head.TheVariants.{Unfinished, Known, Bad, Passed}
use Rattle.dp_bodies.proofs.FrameLaws.{begins_partial, begins_refused, partial_refused, front_partial, front_short, bad_refused, bad_first, passes_refused, known_partial, known_few, known_begins}
use Rattle.dp_bodies.proofs.bodies.Bodies.next.Goals as goal

-- what the bytes say of the head, of what is held
told : (bytes now : List ℕ) (said : Head) → bytes ≡ now → IsHead bytes said → IsHead now said
told bytes now said e h = subst (λ (b : List ℕ). IsHead b said) e h

module _ (bytes now : List ℕ) (same : bytes ≡ now) where
  waits : IsHead bytes Unfinished → IsPartialBody now
  waits h = front_partial now (told bytes now Unfinished same h)

  few : IsHead bytes Unfinished → length now ≤ 28
  few h = front_short now (told bytes now Unfinished same h)

  no_frame : (index : ℕ) → IsHead bytes (Bad index) → BeginsNoBody now
  no_frame index h = bad_refused now index (told bytes now (Bad index) same h)

  too_long : (number : ℕ) → IsHead bytes (Passed number) → BeginsNoBody now
  too_long number h = passes_refused now number (told bytes now (Passed number) same h)

  module _ (start number : ℕ) (said : IsHead bytes (Known start number)) where
    known : IsHead now (Known start number)
    known = told bytes now (Known start number) same said

    short : length bytes < start + number → IsPartialBody now
    short less = known_partial now start number known.0 known.1 known.2 known.3 (omega (arith, ap length same, less))

    most : length bytes < start + number → length now ≤ body_limit + 27
    most less = known_few now start number known.0 known.1 known.2 known.3 (omega (arith, ap length same, less))

    begins : start + number ≤ length bytes
        → BeginsBody now (slice_range now start (start + number)) (drop (start + number) now)
    begins long =
        known_begins now start number known.0 known.1 known.2 known.3 (omega (arith, ap length same, long))

pub returns-in-Unfinished-clause-partial : goal.returns-in-Unfinished-clause-partial
returns-in-Unfinished-clause-partial c =
    (λ e. waits _ _ c.bytes-held.ensures c.in-Unfinished.ensures, λ q. refl)

pub returns-in-Unfinished-clause-refused : goal.returns-in-Unfinished-clause-refused
returns-in-Unfinished-clause-refused c = (
  λ e. cc,
  λ none. absurd (partial_refused _ (waits _ _ c.bytes-held.ensures c.in-Unfinished.ensures) none),
)

pub returns-in-Unfinished-clause-held : goal.returns-in-Unfinished-clause-held
returns-in-Unfinished-clause-held c = λ e. omega (arith, few _ _ c.bytes-held.ensures c.in-Unfinished.ensures)

pub returns-in-Bad-clause-partial : goal.returns-in-Bad-clause-partial
returns-in-Bad-clause-partial c = (
  λ e. cc,
  λ p. absurd (partial_refused _ p (no_frame _ _ c.bytes-held.ensures c.in-Bad.index c.in-Bad.ensures)),
)

pub returns-in-Bad-clause-refused : goal.returns-in-Bad-clause-refused
returns-in-Bad-clause-refused c =
    (λ e. no_frame _ _ c.bytes-held.ensures c.in-Bad.index c.in-Bad.ensures, λ n. refl)

pub returns-in-Bad-clause-cause : goal.returns-in-Bad-clause-cause
returns-in-Bad-clause-cause c =
    let bad = told _ _ (Bad c.in-Bad.index) c.bytes-held.ensures c.in-Bad.ensures in record {
      index = c.in-Bad.index;
      is_first = bad_first c.args.self.now.held c.in-Bad.index bad;
      place = c.place.ensures;
      short = bad.short;
    }

pub returns-in-Passed-clause-partial : goal.returns-in-Passed-clause-partial
returns-in-Passed-clause-partial c = (
  λ e. cc,
  λ p. absurd (partial_refused _ p (too_long _ _ c.bytes-held.ensures c.in-Passed.length c.in-Passed.ensures)),
)

pub returns-in-Passed-clause-refused : goal.returns-in-Passed-clause-refused
returns-in-Passed-clause-refused c =
    (λ e. too_long _ _ c.bytes-held.ensures c.in-Passed.length c.in-Passed.ensures, λ n. refl)

pub returns-then-held-end-clause-partial : goal.returns-then-held-end-clause-partial
returns-then-held-end-clause-partial c = (
  λ e. short _ _ c.bytes-held.ensures c.in-Known.start c.in-Known.length c.in-Known.ensures c.if-held-end.true,
  λ q. refl,
)

pub returns-then-held-end-clause-refused : goal.returns-then-held-end-clause-refused
returns-then-held-end-clause-refused c = (
  λ e. cc,
  λ none. absurd (partial_refused _ (short _ _ c.bytes-held.ensures c.in-Known.start c.in-Known.length
      c.in-Known.ensures c.if-held-end.true) none),
)

pub returns-then-held-end-clause-held : goal.returns-then-held-end-clause-held
returns-then-held-end-clause-held c =
    λ e. most _ _ c.bytes-held.ensures c.in-Known.start c.in-Known.length c.in-Known.ensures c.if-held-end.true

pub returns-else-held-end-clause-whole : goal.returns-else-held-end-clause-whole
returns-else-held-end-clause-whole c =
    begins _ _ c.bytes-held.ensures c.in-Known.start c.in-Known.length c.in-Known.ensures c.if-held-end.false

pub returns-else-held-end-clause-partial : goal.returns-else-held-end-clause-partial
returns-else-held-end-clause-partial c = (
  λ e. cc,
  λ p. absurd (begins_partial _ _ _ (begins _ _ c.bytes-held.ensures c.in-Known.start c.in-Known.length
      c.in-Known.ensures c.if-held-end.false) p),
)

pub returns-else-held-end-clause-refused : goal.returns-else-held-end-clause-refused
returns-else-held-end-clause-refused c = (
  λ e. cc,
  λ none. absurd (begins_refused _ _ _ (begins _ _ c.bytes-held.ensures c.in-Known.start c.in-Known.length
      c.in-Known.ensures c.if-held-end.false) none),
)
