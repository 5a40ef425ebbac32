-- Where no packet begins the bytes, the place that is told is one.
use Rattle.std.proofs.Common.{◌≡◌, ◌≢◌, inl, inr, ℕ, zero, suc, ◌+◌, ◌*◌, ◌-◌, ◌/◌, ◌%◌, ◌<◌, ◌≤◌, Bool, true, false, leb, List, [], ◌∷◌, ◌++◌, length, take, drop, get_or, refl, sym, ap, ◌∙◌, subst, append_assoc, append-nil, arith, decimal, length-append}
use Rattle.std.proofs.lemmas.Bool.{false≢true, le-leb, leb-true}
use Rattle.std.proofs.lemmas.Fmt.{first_decimal}
use Rattle.std.proofs.lemmas.List.{length-take-le, take-append-drop, take-append-le}
use Rattle.std.proofs.Math.Seq.{take-append-add}
use Rattle.dp_wire.specs.declared.errors.WireError.{WireError}
use Rattle.dp_wire.specs.declared.errors.WireError.TheVariants.{BadLength, NoNul, TooLong}
use Rattle.dp_wire.specs.Frames.{IsPartialPacket, BeginsNoPacket, has_no_nul, packet_frame, packet_limit}
use Rattle.dp_wire.specs.Places.{refused_at, IsRefusedAt}
use Rattle.dp_wire.specs.Received.{Received, IsFirstBad, IsCause, length_digits, MayFollow, HasBadLength, PassesLimit, LacksNul, place_of}
use Rattle.dp_wire.proofs.FrameLaws.{no_nul-at}
use Rattle.dp_wire.proofs.LengthLaws.{digit_more, length_digits-some, passes_refused, unfinished_partial}
use Rattle.dp_wire.proofs.PacketLaws.{decimal-no_nul, same_length}

-- what begins no packet begins nothing to which more may come
front_partial : (front back : List ℕ) → IsPartialPacket (front ++ back) → BeginsNoPacket front → ⊥
front_partial front back partial none =
    none partial.text [] (back ++ partial.more) partial.is_text
    (sym (append_assoc front back partial.more) ∙ partial.whole ∙ sym (append-nil (packet_frame partial.text)))

-- so many bytes, where the first of them are these
front_and : (front back : List ℕ) (n : ℕ) → length front ≤ n
    → take n (front ++ back) ≡ front ++ take (n - length front) back
front_and front back n some =
    let same : n ≡ length front + (n - length front) = omega (arith, some) in
    ap (λ (m : ℕ). take m (front ++ back)) same ∙ take-append-add front back (n - length front)

-- ---- the first bad byte

not_before : (bytes : List ℕ) (i j : ℕ) → IsFirstBad bytes i → IsFirstBad bytes j → i < j → ⊥
not_before bytes i j one other less =
    let front = take (i + 1) bytes in
    let long : length front ≡ i + 1 = length-take-le (i + 1) bytes (omega (arith, one.there)) in
    let parts : take j bytes ≡ front ++ take (j - length front) (drop (i + 1) bytes) =
    ap (take j) (sym (take-append-drop (i + 1) bytes)) ∙ front_and front (drop (i + 1) bytes) j
    (omega (arith, long, less)) in
    front_partial front (take (j - length front) (drop (i + 1) bytes))
    (subst IsPartialPacket parts other.before) one.none

one_first : (bytes : List ℕ) (i j : ℕ) → IsFirstBad bytes i → IsFirstBad bytes j → i ≡ j
one_first bytes i j one other =
    let a : i < j → ⊥ = not_before bytes i j one other in
    let b : j < i → ⊥ = not_before bytes j i other one in
    omega (arith, a, b)

-- ---- a length that passes the limit

module _ (bytes : List ℕ) (number : ℕ) (passes : PassesLimit bytes number) where
  abbrev front : ℕ
  front = number / 10

  abbrev last : ℕ
  last = 48 + number % 10

  is_front : (front ≤ packet_limit) × (0 < front) × (number % 10 < 10)
  is_front = (passes.first, omega (arith, passes.passes), omega arith)

  spelt : decimal number ≡ length_digits front ++ last ∷ []
  spelt =
      let same : 10 * front + number % 10 ≡ number = omega arith in
      sym (digit_more front (number % 10) is_front.2 (omega (arith, is_front.1)) is_front.0 ∙ ap decimal same)

  whole : bytes ≡ length_digits front ++ last ∷ passes.after
  whole = passes.whole ∙ ap (λ l. l ++ passes.after) spelt ∙ append_assoc (length_digits front) (last ∷ []) passes.after

  refused : BeginsNoPacket (length_digits front ++ last ∷ [])
  refused = passes_refused (length_digits front ++ last ∷ []) number
      (record {
        after = [];
        whole = sym spelt ∙ sym (append-nil (decimal number));
        passes = passes.passes;
        first =
            passes.first;
      })

  not_later : (index : ℕ) → IsFirstBad bytes index → length (length_digits front) < index → ⊥
  not_later index bad less =
      let long : length (length_digits front ++ last ∷ []) ≤ index = omega
      (arith, length-append (length_digits front) (last ∷ []), less) in
      let again : bytes ≡ (length_digits front ++ last ∷ [])
      ++ passes.after = passes.whole ∙ ap (λ l. l ++ passes.after) spelt in
      let parts : take index bytes ≡ (length_digits front ++ last ∷ [])
      ++ take (index - length (length_digits front ++ last ∷ [])) passes.after =
      ap (take index) again ∙ front_and (length_digits front ++ last ∷ []) passes.after index long in
      front_partial (length_digits front ++ last
      ∷ []) (take (index - length (length_digits front ++ last ∷ [])) passes.after)
      (subst IsPartialPacket parts bad.before) refused

  not_sooner : (index : ℕ) → IsFirstBad bytes index → index < length (length_digits front) → ⊥
  not_sooner index bad less =
      let digits = length_digits front in
      let same : take (index + 1) bytes ≡ take (index + 1) digits =
      ap (take (index + 1)) whole ∙ take-append-le (index + 1) digits (last ∷ passes.after) (omega (arith, less)) in
      front_partial (take (index + 1) digits) (drop (index + 1) digits)
      (subst IsPartialPacket (sym (take-append-drop (index + 1) digits)) (unfinished_partial front is_front.0))
      (subst BeginsNoPacket same bad.none)

  at_last : (index : ℕ) → IsFirstBad bytes index → index ≡ length (length_digits front)
  at_last index bad =
      let a : length (length_digits front) < index → ⊥ = not_later index bad in
      let b : index < length (length_digits front) → ⊥ = not_sooner index bad in
      omega (arith, a, b)

  some_digit : length_digits front ≢ []
  some_digit none =
      let none_there : decimal front ≡ [] = sym (length_digits-some front is_front.1) ∙ none in
      omega (
        arith,
        first_decimal front is_front.1 (omega (arith, is_front.0)),
        ap
            (λ (l : List ℕ). get_or l 0 0) none_there,
      )

  follows : (n byte : ℕ) → 0 < n → byte ≡ last → MayFollow n byte
  follows n byte some is = by (leb 49 byte) refl where
    by : (t : Bool) → leb 49 byte ≡ t → MayFollow n byte
    by true e = inl (leb-true 49 byte e, omega (arith, is, is_front.2))
    by false e =
        let small : 49 ≤ byte → ⊥ = λ more. false≢true (sym e ∙ le-leb 49 byte more) in
        inr (some, inl (omega (arith, is, small)))

  no_bad_length : (index : ℕ) → HasBadLength bytes index → IsFirstBad bytes index → ⊥
  no_bad_length index h bad = by h.number refl where
    lengths : length (length_digits h.number) ≡ length (length_digits front)
    lengths = sym h.place ∙ at_last index bad

    same : (length_digits h.number ≡ length_digits front) × (h.byte ≡ last) × (h.after ≡ passes.after)
    same =
        same_length (length_digits h.number) (length_digits front) h.byte last h.after passes.after lengths
        (sym h.whole ∙ whole)

    by : (n : ℕ) → h.number ≡ n → ⊥
    by zero is = some_digit (sym same.0 ∙ ap length_digits is)
    by (suc n) is = h.bad (follows h.number h.byte (omega (arith, is)) same.1)

  no_lacking_nul : (index : ℕ) → LacksNul bytes index → IsFirstBad bytes index → ⊥
  no_lacking_nul index h bad =
      let head = decimal (length h.text) ++ 0 ∷ [] ++ h.text in
      let lengths : length head ≡ length (length_digits front) = sym h.place ∙ at_last index bad in
      let same = same_length head (length_digits front) h.byte last h.after passes.after lengths
      (sym h.whole ∙ whole) in
      let digits : decimal front ≡ decimal (length h.text) ++ 0 ∷ h.text =
      sym (length_digits-some front is_front.1) ∙ sym same.0 ∙ append_assoc (decimal (length h.text)) (0 ∷ []) h.text in
      no_nul-at (decimal (length h.text)) h.text (sym (ap has_no_nul digits) ∙ decimal-no_nul front is_front.0)

-- ---- the place

one_cause : (r : Received) (why other : WireError) → IsCause r why → IsCause r other
    → refused_at why r.dropped ≡ refused_at other r.dropped
one_cause r (BadLength o) (BadLength p) a b = a.1.2 ∙ ap (place_of r) (one_first r.held a.0 b.0 a.1.1 b.1.1) ∙ sym b.1.2
one_cause r (BadLength o) (NoNul p) a b = a.1.2 ∙ ap (place_of r) (one_first r.held a.0 b.0 a.1.1 b.1.1) ∙ sym b.1.2
one_cause r (BadLength o) (TooLong n) a b = absurd (no_bad_length r.held n b a.0 a.1.0 a.1.1)
one_cause r (NoNul o) (BadLength p) a b = a.1.2 ∙ ap (place_of r) (one_first r.held a.0 b.0 a.1.1 b.1.1) ∙ sym b.1.2
one_cause r (NoNul o) (NoNul p) a b = a.1.2 ∙ ap (place_of r) (one_first r.held a.0 b.0 a.1.1 b.1.1) ∙ sym b.1.2
one_cause r (NoNul o) (TooLong n) a b = absurd (no_lacking_nul r.held n b a.0 a.1.0 a.1.1)
one_cause r (TooLong n) (BadLength p) a b = absurd (no_bad_length r.held n a b.0 b.1.0 b.1.1)
one_cause r (TooLong n) (NoNul p) a b = absurd (no_lacking_nul r.held n a b.0 b.1.0 b.1.1)
one_cause r (TooLong n) (TooLong m) a b = refl

pub one_place : (r : Received) (at other : ℕ) → IsRefusedAt r at → IsRefusedAt r other → at ≡ other
one_place r at other a b = a.place ∙ one_cause r a.why b.why a.is_why b.is_why ∙ sym b.place
