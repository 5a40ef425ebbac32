use Rattle.std.proofs.Common.{◌≡◌, ◌≢◌, ℕ, ◌+◌, ◌<◌, ◌≤◌, List, length, get_or, drop, slice_range, refl, sym, ap, ◌∙◌, subst, arith}
use Rattle.dp_wire.specs.Frames.{BeginsPacket, IsPartialPacket, packet_limit}
use Rattle.dp_wire.specs.Received.{LacksNul}
use Rattle.dp_wire.specs.inner.Lengths.{IsLength}
use Rattle.dp_wire.specs.declared.length.Length.{Length}
use Rattle.dp_wire.specs.declared.length.Length.TheVariants.{Unfinished, Known, Bad, Passed}
use Rattle.dp_wire.proofs.LengthLaws.{begins_partial, begins_refused, partial_refused, partial-none, refused-never, begins-first, unfinished_partial, unfinished_length, bad_refused, bad_first, passes_refused, lacks_refused, lacks_first, nul_small, known_short, known_begins, known_lacks}
use Rattle.dp_wire.proofs.packets.Packets.next.Goals as goal

-- what the bytes say of the length, of what is held
told : (bytes now : List ℕ) (said : Length) → bytes ≡ now → IsLength bytes said → IsLength now said
told bytes now said e h = subst (λ (b : List ℕ). IsLength b said) e h

waits : (now : List ℕ) → IsLength now Unfinished → IsPartialPacket now
waits now h = subst IsPartialPacket (sym h.1.1) (unfinished_partial h.0 h.1.0)

few : (now : List ℕ) → IsLength now Unfinished → length now ≤ 8
few now h = subst (λ (l : List ℕ). length l ≤ 8) (sym h.1.1) (unfinished_length h.0 h.1.0)

-- the length is known, and it is told whether the bytes hold the text and what stands behind it
module _ (bytes now : List ℕ) (nul number : ℕ) (same : bytes ≡ now) (said : IsLength bytes (Known nul number)) where
  known : IsLength now (Known nul number)
  known = told bytes now (Known nul number) same said

  short : length bytes ≤ nul + 1 + number → IsPartialPacket now
  short fits = known_short now nul number known.0 known.1 known.2 known.3 (omega (arith, ap length same, fits))

  most : length bytes ≤ nul + 1 + number → length now ≤ packet_limit + 9
  most fits = omega (arith, ap length same, fits, known.1, nul_small now nul number known.0 known.1 known.2 known.3)

  begins : nul + 1 + number < length bytes → get_or bytes (nul + 1 + number) 0 ≡ 0
      → BeginsPacket now (slice_range now (nul + 1) (nul + 1 + number)) (drop (nul + 1 + number + 1) now)
  begins long nul_there =
      known_begins now nul number known.0 known.1 known.2 known.3 (omega (arith, ap length same, long))
      (sym nul_there ∙ ap (λ (l : List ℕ). get_or l (nul + 1 + number) 0) same)

  lacks : nul + 1 + number < length bytes → get_or bytes (nul + 1 + number) 0 ≢ 0 → LacksNul now (nul + 1 + number)
  lacks long other =
      known_lacks now nul number known.0 known.1 known.2 known.3 (get_or bytes (nul + 1 + number) 0)
      (omega (arith, ap length same, long)) (ap (λ (l : List ℕ). get_or l (nul + 1 + number) 0) same) other

pub returns-in-Unfinished-clause-partial : goal.returns-in-Unfinished-clause-partial
returns-in-Unfinished-clause-partial c =
    (λ e. waits c.args.self.now.held (told _ _ Unfinished c.bytes-held.ensures c.in-Unfinished.ensures), λ q. refl)

pub returns-in-Unfinished-clause-refused : goal.returns-in-Unfinished-clause-refused
returns-in-Unfinished-clause-refused c = (
  λ e. cc,
  λ none. absurd (partial_refused c.args.self.now.held
      (waits c.args.self.now.held (told _ _ Unfinished c.bytes-held.ensures c.in-Unfinished.ensures)) none),
)

pub returns-in-Unfinished-clause-none : goal.returns-in-Unfinished-clause-none
returns-in-Unfinished-clause-none c =
    λ e. partial-none c.args.self.now.held (waits c.args.self.now.held
    (told _ _ Unfinished c.bytes-held.ensures c.in-Unfinished.ensures))

pub returns-in-Unfinished-clause-held : goal.returns-in-Unfinished-clause-held
returns-in-Unfinished-clause-held c =
    λ e. omega (arith, few c.args.self.now.held (told _ _ Unfinished c.bytes-held.ensures c.in-Unfinished.ensures))

pub returns-in-Bad-clause-partial : goal.returns-in-Bad-clause-partial
returns-in-Bad-clause-partial c = (
  λ e. cc,
  λ p. absurd (partial_refused c.args.self.now.held p
      (bad_refused c.args.self.now.held c.in-Bad.index (told _ _
      (Bad c.in-Bad.index) c.bytes-held.ensures c.in-Bad.ensures))),
)

pub returns-in-Bad-clause-refused : goal.returns-in-Bad-clause-refused
returns-in-Bad-clause-refused c = (
  λ e. bad_refused c.args.self.now.held c.in-Bad.index (told _ _
      (Bad c.in-Bad.index) c.bytes-held.ensures c.in-Bad.ensures),
  λ n. refl,
)

pub returns-in-Bad-clause-never : goal.returns-in-Bad-clause-never
returns-in-Bad-clause-never c =
    λ e. refused-never c.args.self.now.held (bad_refused c.args.self.now.held c.in-Bad.index
    (told _ _ (Bad c.in-Bad.index) c.bytes-held.ensures c.in-Bad.ensures))

pub returns-in-Bad-clause-cause : goal.returns-in-Bad-clause-cause
returns-in-Bad-clause-cause c =
    let bad = told _ _ (Bad c.in-Bad.index) c.bytes-held.ensures c.in-Bad.ensures in
    (c.in-Bad.index, (bad, bad_first c.args.self.now.held c.in-Bad.index bad, c.place.ensures))

pub returns-in-Passed-clause-partial : goal.returns-in-Passed-clause-partial
returns-in-Passed-clause-partial c = (
  λ e. cc,
  λ p. absurd (partial_refused c.args.self.now.held p
      (passes_refused c.args.self.now.held c.in-Passed.length (told _ _
      (Passed c.in-Passed.length) c.bytes-held.ensures c.in-Passed.ensures))),
)

pub returns-in-Passed-clause-refused : goal.returns-in-Passed-clause-refused
returns-in-Passed-clause-refused c = (
  λ e. passes_refused c.args.self.now.held c.in-Passed.length
      (told _ _ (Passed c.in-Passed.length) c.bytes-held.ensures c.in-Passed.ensures),
  λ n. refl,
)

pub returns-in-Passed-clause-never : goal.returns-in-Passed-clause-never
returns-in-Passed-clause-never c =
    λ e. refused-never c.args.self.now.held (passes_refused c.args.self.now.held c.in-Passed.length
    (told _ _ (Passed c.in-Passed.length) c.bytes-held.ensures c.in-Passed.ensures))

pub returns-then-held-end-clause-partial : goal.returns-then-held-end-clause-partial
returns-then-held-end-clause-partial c = (
  λ e. short c.bytes-held.result.now c.args.self.now.held c.in-Known.nul c.in-Known.length c.bytes-held.ensures
      c.in-Known.ensures c.if-held-end.true,
  λ q. refl,
)

pub returns-then-held-end-clause-refused : goal.returns-then-held-end-clause-refused
returns-then-held-end-clause-refused c = (
  λ e. cc,
  λ none. absurd (partial_refused c.args.self.now.held
      (short c.bytes-held.result.now c.args.self.now.held c.in-Known.nul c.in-Known.length c.bytes-held.ensures
      c.in-Known.ensures c.if-held-end.true) none),
)

pub returns-then-held-end-clause-none : goal.returns-then-held-end-clause-none
returns-then-held-end-clause-none c =
    λ e. partial-none c.args.self.now.held (short c.bytes-held.result.now c.args.self.now.held c.in-Known.nul
    c.in-Known.length c.bytes-held.ensures c.in-Known.ensures c.if-held-end.true)

pub returns-then-held-end-clause-held : goal.returns-then-held-end-clause-held
returns-then-held-end-clause-held c =
    λ e. most c.bytes-held.result.now c.args.self.now.held c.in-Known.nul c.in-Known.length c.bytes-held.ensures
    c.in-Known.ensures c.if-held-end.true

pub returns-then-held-end-eq0-clause-whole : goal.returns-then-held-end-eq0-clause-whole
returns-then-held-end-eq0-clause-whole c =
    begins c.bytes-held.result.now c.args.self.now.held c.in-Known.nul c.in-Known.length c.bytes-held.ensures
    c.in-Known.ensures c.if-held-end.false c.if-held-end-eq0.true

pub returns-then-held-end-eq0-clause-partial : goal.returns-then-held-end-eq0-clause-partial
returns-then-held-end-eq0-clause-partial c = (
  λ e. cc,
  λ p. absurd (begins_partial c.args.self.now.held _ _
      (begins c.bytes-held.result.now c.args.self.now.held c.in-Known.nul c.in-Known.length c.bytes-held.ensures
      c.in-Known.ensures c.if-held-end.false c.if-held-end-eq0.true) p),
)

pub returns-then-held-end-eq0-clause-refused : goal.returns-then-held-end-eq0-clause-refused
returns-then-held-end-eq0-clause-refused c = (
  λ e. cc,
  λ none. absurd (begins_refused c.args.self.now.held _ _
      (begins c.bytes-held.result.now c.args.self.now.held c.in-Known.nul c.in-Known.length c.bytes-held.ensures
      c.in-Known.ensures c.if-held-end.false c.if-held-end-eq0.true) none),
)

pub returns-then-held-end-eq0-clause-first : goal.returns-then-held-end-eq0-clause-first
returns-then-held-end-eq0-clause-first c =
    begins-first c.args.self.now.held _ _ (begins c.bytes-held.result.now c.args.self.now.held c.in-Known.nul
    c.in-Known.length c.bytes-held.ensures c.in-Known.ensures c.if-held-end.false c.if-held-end-eq0.true)

pub returns-else-held-end-eq0-clause-partial : goal.returns-else-held-end-eq0-clause-partial
returns-else-held-end-eq0-clause-partial c = (
  λ e. cc,
  λ p. absurd (partial_refused c.args.self.now.held p
      (lacks_refused c.args.self.now.held (c.in-Known.nul + 1 + c.in-Known.length)
      (lacks c.bytes-held.result.now c.args.self.now.held c.in-Known.nul c.in-Known.length c.bytes-held.ensures
      c.in-Known.ensures c.if-held-end.false c.if-held-end-eq0.false))),
)

pub returns-else-held-end-eq0-clause-refused : goal.returns-else-held-end-eq0-clause-refused
returns-else-held-end-eq0-clause-refused c = (
  λ e. lacks_refused c.args.self.now.held (c.in-Known.nul + 1 + c.in-Known.length)
      (lacks c.bytes-held.result.now c.args.self.now.held c.in-Known.nul c.in-Known.length c.bytes-held.ensures
      c.in-Known.ensures c.if-held-end.false c.if-held-end-eq0.false),
  λ n. refl,
)

pub returns-else-held-end-eq0-clause-never : goal.returns-else-held-end-eq0-clause-never
returns-else-held-end-eq0-clause-never c =
    λ e. refused-never c.args.self.now.held (lacks_refused c.args.self.now.held (c.in-Known.nul + 1 + c.in-Known.length)
    (lacks c.bytes-held.result.now c.args.self.now.held c.in-Known.nul c.in-Known.length c.bytes-held.ensures
    c.in-Known.ensures c.if-held-end.false c.if-held-end-eq0.false))

pub returns-else-held-end-eq0-clause-cause : goal.returns-else-held-end-eq0-clause-cause
returns-else-held-end-eq0-clause-cause c =
    let missing = lacks c.bytes-held.result.now c.args.self.now.held c.in-Known.nul c.in-Known.length
    c.bytes-held.ensures c.in-Known.ensures c.if-held-end.false c.if-held-end-eq0.false in (
      (c.in-Known.nul + 1 + c.in-Known.length),
      (
        missing,
        lacks_first c.args.self.now.held
            (c.in-Known.nul + 1 + c.in-Known.length) missing,
        c.place-else-held-end-eq0.ensures,
      ),
    )
