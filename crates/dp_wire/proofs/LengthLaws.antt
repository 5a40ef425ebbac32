-- What bytes say of the length of the first packet, and whether a packet begins them.
use Rattle.std.proofs.Common.{◌≡◌, ◌≢◌, ℕ, zero, suc, ◌+◌, ◌*◌, ◌-◌, ◌/◌, ◌%◌, ◌^◌, ◌<◌, ◌≤◌, Bool, true, false, leb, List, [], ◌∷◌, ◌++◌, length, take, drop, get_or, replicate, refl, sym, ap, ◌∙◌, subst, inl, inr, append_assoc, append-nil, arith, decimal, slice_range, length-append, length-drop}
use Rattle.std.specs.Str.Parse.{digits_value}
use Rattle.std.proofs.lemmas.Bool.{leb-true, le-leb, false≢true}
use Rattle.std.proofs.lemmas.Str.Parse.{digits_value-take-le}
use Rattle.std.proofs.lemmas.Fmt.{digits_decimal, decimal_is_IsNumeral, decimal_digit, decimal_step, first_decimal, length-decimal-le}
use Rattle.std.proofs.lemmas.List.{take_at, take_more, take-append-drop, drop_more, drop-drop, get_or-drop, length-replicate, length-take-le}
use Rattle.dp_wire.specs.Frames.{BeginsPacket, BeginsNoPacket, IsPartialPacket, IsPacketText, packet_frame, packet_limit, packets_in}
use Rattle.dp_wire.specs.Received.{IsFirstBad, length_digits, MayFollow, HasBadLength, PassesLimit, LacksNul}
use Rattle.dp_wire.proofs.PacketLaws.{IsDigit, Digits, numeral_model, digits-decimal, packed, same_length, same_number, same_packet, packets-none, packets-first, frame_length}

-- ---- what excludes what

pub begins_partial : (bytes text rest : List ℕ) → BeginsPacket bytes text rest → IsPartialPacket bytes → ⊥
begins_partial bytes text rest b p =
    let whole : packet_frame text ++ (rest ++ p.more) ≡ packet_frame p.text ++ [] =
    sym (append_assoc (packet_frame text) rest p.more) ∙ ap (λ l. l ++ p.more) (sym b.whole) ∙ p.whole
    ∙ sym (append-nil (packet_frame p.text)) in
    p.comes (nothing rest p.more (same_packet text p.text (rest ++ p.more) [] b.is_text p.is_text whole).1) where
      nothing : (rest more : List ℕ) → rest ++ more ≡ [] → more ≡ []
      nothing [] more e = e
      nothing (b ∷ bs) more e = cc

pub begins_refused : (bytes text rest : List ℕ) → BeginsPacket bytes text rest → BeginsNoPacket bytes → ⊥
begins_refused bytes text rest b none = none text rest [] b.is_text (append-nil bytes ∙ b.whole)

pub partial_refused : (bytes : List ℕ) → IsPartialPacket bytes → BeginsNoPacket bytes → ⊥
partial_refused bytes p none = none p.text [] p.more p.is_text (p.whole ∙ sym (append-nil (packet_frame p.text)))

pub partial-none : (bytes : List ℕ) → IsPartialPacket bytes → packets_in bytes ≡ []
partial-none bytes p =
    packets-none bytes (λ text more is e. begins_partial bytes text more (record { is_text = is; whole = e }) p)

pub refused-never : (bytes : List ℕ) → BeginsNoPacket bytes → (more : List ℕ) → packets_in (bytes ++ more) ≡ []
refused-never bytes none more = packets-none (bytes ++ more) (λ text rest is e. none text rest more is e)

pub begins-first : (bytes text rest : List ℕ) → BeginsPacket bytes text rest → (more : List ℕ)
    → packets_in (bytes ++ more) ≡ text ∷ packets_in (rest ++ more)
begins-first bytes text rest b more =
    ap (λ l. packets_in (l ++ more)) b.whole ∙ ap packets_in (append_assoc (packet_frame text) rest more)
    ∙ packets-first text (rest ++ more) b.is_text

-- ---- more has to come

-- a frame whose length is spelt as this number
framed_as : (number : ℕ) (text more : List ℕ) → length text ≡ number
    → decimal number ++ 0 ∷ (text ++ 0 ∷ more) ≡ packet_frame text ++ more
framed_as number text more l = ap (λ (n : ℕ). decimal n ++ 0 ∷ (text ++ 0 ∷ more)) (sym l) ∙ sym (packed text more)

comes_behind : (front : List ℕ) (byte : ℕ) → front ++ byte ∷ [] ≢ []
comes_behind front byte e = absurd (omega (arith, ap length e, length-append front (byte ∷ [])))

pub known_partial : (number : ℕ) (back : List ℕ) → 1 ≤ number → number ≤ packet_limit → length back ≤ number
    → IsPartialPacket (decimal number ++ 0 ∷ back)
known_partial number back some fits short =
    let missing : List ℕ = replicate (number - length back) 0 in
    let count : length missing ≡ number - length back = length-replicate (number - length back) 0 in
    let long : length (back ++ missing) ≡ number = omega (arith, length-append back missing, count) in
    record {
      text = back ++ missing;
      more = missing ++ 0 ∷ [];
      is_text = record { some_byte = omega arith; fits = omega arith };
      comes = comes_behind missing 0;
      whole = append_assoc (decimal number) (0 ∷ back) (missing ++ 0 ∷ [])
          ∙ ap (λ l. decimal number ++ 0 ∷ l) (sym (append_assoc back missing (0 ∷ [])))
          ∙ framed_as number (back ++ missing) [] long ∙ append-nil (packet_frame (back ++ missing));
    }

comes_first : (byte : ℕ) (behind : List ℕ) → byte ∷ behind ≢ []
comes_first byte behind e = cc

digits_partial : (number : ℕ) → 1 ≤ number → number ≤ packet_limit → IsPartialPacket (decimal number)
digits_partial number some fits =
    let text : List ℕ = replicate number 0 in
    let long : length text ≡ number = length-replicate number 0 in
    record {
      text = text;
      more = 0 ∷ (text ++ 0 ∷ []);
      is_text = record { some_byte = omega arith; fits = omega arith };
      comes = comes_first 0 (text ++ 0 ∷ []);
      whole = framed_as number text [] long ∙ append-nil (packet_frame text);
    }

frame_comes : (text : List ℕ) → packet_frame text ≢ []
frame_comes text e = absurd (omega (arith, ap length e, frame_length text))

pub unfinished_partial : (number : ℕ) → number ≤ packet_limit → IsPartialPacket (length_digits number)
unfinished_partial zero fits = record {
  text = 0 ∷ [];
  more = packet_frame (0 ∷ []);
  is_text = record { some_byte = omega arith; fits = omega arith };
  comes = frame_comes (0 ∷ []);
  whole = refl;
}
unfinished_partial (suc number) fits = digits_partial (suc number) (omega arith) fits

pub unfinished_length : (number : ℕ) → number ≤ packet_limit → length (length_digits number) ≤ 8
unfinished_length zero fits = omega arith
unfinished_length (suc number) fits = length-decimal-le 8 (suc number) (omega arith) (omega arith) (omega arith)

-- ---- a bad length

nonzero : (byte : ℕ) → IsDigit byte → byte ≡ 0 → ⊥
nonzero byte d e = omega (arith, d.0, e)

-- behind the digits stands a byte that is neither a digit nor the NUL
digits_end : (ds bs : List ℕ) (byte : ℕ) (z y : List ℕ) → Digits ds → Digits bs → byte ≢ 0 → (IsDigit byte → ⊥)
    → ds ++ byte ∷ z ≡ bs ++ 0 ∷ y → ⊥
digits_end [] [] byte z y p q r s e = let zero : byte ≡ 0 = cc in r zero
digits_end [] (b ∷ bs) byte z y p q r s e = let same : b ≡ byte = cc in s (subst IsDigit same q.0)
digits_end (a ∷ xs) [] byte z y p q r s e = let zero : a ≡ 0 = cc in nonzero a p.0 zero
digits_end (a ∷ xs) (b ∷ bs) byte z y p q r s e =
    let tail : xs ++ byte ∷ z ≡ bs ++ 0 ∷ y = cc in
    digits_end xs bs byte z y p.1 q.1 r s tail

-- the first byte of a number's digits is one from 1 to 9
digits_begin : (bs : List ℕ) (byte : ℕ) (z y : List ℕ) → Digits bs → 48 < get_or bs 0 0 → byte ∷ z ≡ bs ++ 0 ∷ y
    → (49 ≤ byte) × (byte ≤ 57)
digits_begin [] byte z y q first e = absurd (omega (arith, first))
digits_begin (b ∷ bs) byte z y q first e =
    let same : b ≡ byte = cc in (omega (arith, first, same), omega (arith, q.0.1, same))

least_digit : (byte : ℕ) → IsDigit byte → (49 ≤ byte → ⊥) → byte ≡ 48
least_digit byte d small = omega (arith, d.0)

no_digit : (n byte : ℕ) → (MayFollow (suc n) byte → ⊥) → IsDigit byte → (t : Bool) → leb 49 byte ≡ t → ⊥
no_digit n byte bad d true is = bad (inl (leb-true 49 byte is, d.1))
no_digit n byte bad d false is =
    bad (inr (omega arith, inl (least_digit byte d (λ more. false≢true (sym is ∙ le-leb 49 byte more)))))

bad_front : (number byte m : ℕ) (z y : List ℕ) → number ≤ packet_limit → (MayFollow number byte → ⊥) → 1 ≤ m
    → m ≤ packet_limit
    → length_digits number ++ byte ∷ z ≡ decimal m ++ 0 ∷ y → ⊥
bad_front zero byte m z y fits bad some small e =
    bad (inl (digits_begin (decimal m) byte z y (digits-decimal m small)
    (first_decimal m (omega arith) (omega arith)) e))
bad_front (suc n) byte m z y fits bad some small e =
    digits_end (decimal (suc n)) (decimal m) byte z y (digits-decimal (suc n) fits) (digits-decimal m small)
    (λ is. bad (inr (omega arith, inr is))) (λ d. no_digit n byte bad d (leb 49 byte) refl) e

pub bad_refused : (bytes : List ℕ) (index : ℕ) → HasBadLength bytes index → BeginsNoPacket bytes
bad_refused bytes index h text rest more is e =
    bad_front h.number h.byte (length text) (h.after ++ more) (text ++ 0 ∷ rest) h.fits h.bad is.some_byte is.fits
    (sym (append_assoc (length_digits h.number) (h.byte ∷ h.after) more) ∙ ap (λ l. l ++ more) (sym h.whole) ∙ e
    ∙ packed text rest)

-- ---- a length that passes the limit

digits_prefix : (ds bs z y : List ℕ) → Digits ds → ds ++ z ≡ bs ++ 0 ∷ y → (w : List ℕ) × (bs ≡ ds ++ w)
digits_prefix [] bs z y p e = (bs, refl)
digits_prefix (a ∷ xs) [] z y p e = let zero : a ≡ 0 = cc in absurd (nonzero a p.0 zero)
digits_prefix (a ∷ xs) (b ∷ bs) z y p e =
    let head : b ≡ a = cc in
    let tail : xs ++ z ≡ bs ++ 0 ∷ y = cc in
    let left = digits_prefix xs bs z y p.1 tail in
    (left.0, λ i. head i ∷ left.1 i)

prefix_le : (m n : ℕ) (w : List ℕ) → m < 2 ^ 64 → n < 2 ^ 64 → decimal m ≡ decimal n ++ w → n ≤ m
prefix_le m n w p q e =
    let front : take (length (decimal n)) (decimal m) ≡ decimal n = ap (take (length (decimal n))) e
    ∙ take_at (decimal n) w (length (decimal n)) refl in
    let small = digits_value-take-le 10 (decimal m) (length (decimal n)) (omega arith) in
    omega (arith, small, ap (digits_value 10) front, (decimal_is_IsNumeral m p).1, (decimal_is_IsNumeral n q).1)

pub passes_refused : (bytes : List ℕ) (number : ℕ) → PassesLimit bytes number → BeginsNoPacket bytes
passes_refused bytes number h text rest more is e =
    let small : number < 2 ^ 64 = omega (arith, h.first) in
    let whole : decimal number ++ (h.after ++ more) ≡ decimal (length text) ++ 0 ∷ (text ++ 0 ∷ rest) =
    sym (append_assoc (decimal number) h.after more) ∙ ap (λ l. l ++ more) (sym h.whole) ∙ e ∙ packed text rest in
    let left = digits_prefix (decimal number) (decimal (length text)) (h.after ++ more) (text ++ 0 ∷ rest)
    (digits_decimal numeral_model number small) whole in
    let fits = is.fits in
    let less = prefix_le (length text) number left.0 (omega arith) small left.1 in
    omega (arith, less, fits, h.passes)

-- ---- no NUL behind the text

-- the parts of bytes that lack the NUL, in their places
lacking : (text : List ℕ) (byte : ℕ) (after : List ℕ)
    → decimal (length text) ++ 0 ∷ [] ++ text ++ byte ∷ after ≡ decimal (length text) ++ 0 ∷ (text ++ byte ∷ after)
lacking text byte after =
    append_assoc (decimal (length text) ++ 0 ∷ []) text (byte ∷ after)
    ∙ append_assoc (decimal (length text)) (0 ∷ []) (text ++ byte ∷ after)

pub lacks_refused : (bytes : List ℕ) (index : ℕ) → LacksNul bytes index → BeginsNoPacket bytes
lacks_refused bytes index h text rest more is e =
    let whole : decimal (length h.text) ++ 0 ∷ (h.text ++ h.byte ∷ (h.after ++ more)) ≡ decimal (length text) ++ 0
    ∷ (text ++ 0 ∷ rest) =
    sym (lacking h.text h.byte (h.after ++ more))
    ∙ sym (append_assoc (decimal (length h.text) ++ 0 ∷ [] ++ h.text) (h.byte ∷ h.after) more)
    ∙ ap (λ l. l ++ more) (sym h.whole) ∙ e ∙ packed text rest in
    let numbers = same_number (length h.text) (length text) (h.text ++ h.byte ∷ (h.after ++ more))
    (text ++ 0 ∷ rest) h.is_text.fits is.fits whole in
    let texts = same_length h.text text h.byte 0 (h.after ++ more) rest numbers.0 numbers.1 in
    h.not_nul texts.1

-- ---- the first bad byte

first_bad : (bytes front after : List ℕ) (byte index : ℕ) → bytes ≡ front ++ byte ∷ after → index ≡ length front
    → IsPartialPacket front → BeginsNoPacket (front ++ byte ∷ []) → IsFirstBad bytes index
first_bad bytes front after byte index whole place before none =
    let up_to : take index bytes ≡ front = ap (take index) whole ∙ take_at front (byte ∷ after) index (sym place) in
    let long : length (front ++ byte ∷ []) ≡ index + 1 = omega (arith, length-append front (byte ∷ []), place) in
    let with_it : take (index + 1) bytes ≡ front ++ byte ∷ [] =
    ap (take (index + 1)) (whole ∙ sym (append_assoc front (byte ∷ []) after))
    ∙ take_at (front ++ byte ∷ []) after (index + 1) long in
    record {
      there = omega (arith, ap length whole, length-append front (byte ∷ after), place);
      before = subst IsPartialPacket (sym up_to) before;
      none = subst BeginsNoPacket (sym with_it) none;
    }

pub bad_first : (bytes : List ℕ) (index : ℕ) → HasBadLength bytes index → IsFirstBad bytes index
bad_first bytes index h =
    first_bad bytes (length_digits h.number) h.after h.byte index h.whole h.place (unfinished_partial h.number h.fits)
    (bad_refused _ index (record {
      number = h.number;
      byte = h.byte;
      after =
          [];
      whole = refl;
      fits = h.fits;
      place = h.place;
      bad = h.bad;
    }))

pub lacks_first : (bytes : List ℕ) (index : ℕ) → LacksNul bytes index → IsFirstBad bytes index
lacks_first bytes index h =
    let some = h.is_text.some_byte in
    let fits = h.is_text.fits in
    let front : decimal (length h.text) ++ 0 ∷ [] ++ h.text ≡ decimal (length h.text) ++ 0
    ∷ h.text = append_assoc (decimal (length h.text)) (0 ∷ []) h.text in
    first_bad bytes (decimal (length h.text) ++ 0 ∷ [] ++ h.text) h.after h.byte index h.whole h.place
    (subst IsPartialPacket (sym front) (known_partial (length h.text) h.text some fits (omega arith)))
    (lacks_refused _ index (record {
      text = h.text;
      byte = h.byte;
      after =
          [];
      is_text = h.is_text;
      whole = refl;
      place = h.place;
      not_nul = h.not_nul;
    }))

-- ---- a length and its NUL

module _ (bytes : List ℕ) (nul number : ℕ) (some : 1 ≤ number) (fits : number ≤ packet_limit)
    (place : nul ≡ length (decimal number)) (whole : bytes ≡ decimal number ++ 0 ∷ drop (nul + 1) bytes) where
  pub nul_small : nul ≤ 8
  nul_small =
      subst (λ (n : ℕ). n ≤ 8) (sym place) (length-decimal-le 8 number (omega arith) (omega arith) (omega arith))

  pub known_short : length bytes ≤ nul + 1 + number → IsPartialPacket bytes
  known_short short =
      let back : length (drop (nul + 1) bytes) ≤ number = omega (arith, length-drop (nul + 1) bytes) in
      subst IsPartialPacket (sym whole) (known_partial number (drop (nul + 1) bytes) some fits back)

  abbrev text : List ℕ
  text = slice_range bytes (nul + 1) (nul + 1 + number)

  text_is : text ≡ take number (drop (nul + 1) bytes)
  text_is =
      let count : nul + 1 + number - (nul + 1) ≡ number = omega arith in ap
      (λ (n : ℕ). take n (drop (nul + 1) bytes)) count

  pub text_length : nul + 1 + number < length bytes → length text ≡ number
  text_length long =
      let enough : number ≤ length (drop (nul + 1) bytes) = omega (arith, length-drop (nul + 1) bytes) in
      ap length text_is ∙ length-take-le number (drop (nul + 1) bytes) enough

  known_whole : (byte : ℕ) → nul + 1 + number < length bytes → byte ≡ get_or bytes (nul + 1 + number) 0
      → bytes ≡ decimal number ++ 0 ∷ (text ++ byte ∷ drop (nul + 1 + number + 1) bytes)
  known_whole byte long at =
      let back = drop (nul + 1) bytes in
      let within : number < length back = omega (arith, length-drop (nul + 1) bytes) in
      let here : get_or back number 0 ≡ byte = get_or-drop (nul + 1) bytes number 0 ∙ sym at in
      let behind : drop (number + 1) back ≡ drop (nul + 1 + (number + 1)) bytes = drop-drop (number + 1)
      (nul + 1) bytes in
      let place : nul + 1 + (number + 1) ≡ nul + 1 + number + 1 = omega arith in
      whole ∙ ap (λ l. decimal number ++ 0 ∷ l) (
      sym (take-append-drop number back)
      ∙ ap (λ l. take number back ++ l) (drop_more back number 0 within)
      ∙ ap (λ l. l ++ get_or back number 0 ∷ drop (number + 1) back) (sym text_is)
      ∙ ap (λ (b : ℕ). text ++ b ∷ drop (number + 1) back) here
      ∙ ap (λ l. text ++ byte ∷ l) (behind ∙ ap (λ (n : ℕ). drop n bytes) place)
      )

  known_is : nul + 1 + number < length bytes → IsPacketText text
  known_is long = record { some_byte = omega (arith, text_length long); fits = omega (arith, text_length long) }

  pub known_begins : nul + 1 + number < length bytes → 0 ≡ get_or bytes (nul + 1 + number) 0
      → BeginsPacket bytes text (drop (nul + 1 + number + 1) bytes)
  known_begins long at = record {
    is_text = known_is long;
    whole = known_whole 0 long at ∙ framed_as number text (drop (nul + 1 + number + 1) bytes) (text_length long);
  }

  pub known_lacks : (byte : ℕ) → nul + 1 + number < length bytes → byte ≡ get_or bytes (nul + 1 + number) 0 → byte ≢ 0
      → LacksNul bytes (nul + 1 + number)
  known_lacks byte long at other = record {
    text = text;
    byte = byte;
    after = drop (nul + 1 + number + 1) bytes;
    is_text = known_is long;
    whole =
        known_whole byte long at
        ∙ ap (λ (n : ℕ). decimal n ++ 0 ∷ (text ++ byte ∷ drop (nul + 1 + number + 1) bytes)) (sym (text_length long))
        ∙ sym (lacking text byte (drop (nul + 1 + number + 1) bytes));
    place = place_is;
    not_nul = other;
  } where
    place_is : nul + 1 + number ≡ length (decimal (length text) ++ 0 ∷ [] ++ text)
    place_is =
        let same : length (decimal (length text)) ≡ nul = ap (λ (n : ℕ). length (decimal n)) (text_length long)
        ∙ sym place in
        omega (
          arith,
          same,
          text_length long,
          length-append (decimal (length text) ++ 0 ∷ []) text,
          length-append (decimal (length text)) (0 ∷ []),
        )

-- ---- one digit more

pub digit_more : (number digit : ℕ) → digit < 10 → 0 < number + digit → number ≤ packet_limit
    → length_digits number ++ (48 + digit) ∷ [] ≡ decimal (10 * number + digit)
digit_more zero digit small some fits =
    let same : digit ≡ 10 * zero + digit = omega arith in sym (decimal_digit digit small) ∙ ap decimal same
digit_more (suc n) digit small some fits =
    let whole = 10 * suc n + digit in
    let front : whole / 10 ≡ suc n = omega arith in
    let last : whole % 10 ≡ digit = omega arith in
    sym (decimal_step whole (omega arith) (omega arith) ∙ (λ i. decimal (front i) ++ (48 + last i) ∷ []))

pub length_digits-some : (number : ℕ) → 0 < number → length_digits number ≡ decimal number
length_digits-some zero some = absurd (omega arith)
length_digits-some (suc n) some = refl

-- ---- a byte behind the digits so far

module _ (bytes : List ℕ) (index number byte : ℕ) (there : index < length bytes) (at : byte ≡ get_or bytes index 0)
    (spelt : take index bytes ≡ length_digits number) (fits : number ≤ packet_limit) where
  pub digit_spelt : (digit : ℕ) → digit < 10 → byte ≡ 48 + digit → 0 < number + digit
      → take (index + 1) bytes ≡ decimal (10 * number + digit)
  digit_spelt digit small is some =
      let read : get_or bytes index 0 ≡ 48 + digit = sym at ∙ is in
      take_more bytes index 0 there ∙ (λ i. spelt i ++ read i ∷ []) ∙ digit_more number digit small some fits

  pub bad_here : (MayFollow number byte → ⊥) → HasBadLength bytes index
  bad_here bad = record {
    number = number;
    byte = byte;
    after = drop (index + 1) bytes;
    whole =
        sym (take-append-drop index bytes) ∙ ap (λ l. take index bytes ++ l) (drop_more bytes index 0 there)
        ∙ (λ i. spelt i ++ sym at i ∷ drop (index + 1) bytes);
    fits = fits;
    place = omega (arith, length-take-le index bytes (omega arith), ap length spelt);
    bad = bad;
  }

  pub passed_here : (digit : ℕ) → digit < 10 → byte ≡ 48 + digit → packet_limit < 10 * number + digit
      → PassesLimit bytes (10 * number + digit)
  passed_here digit small is passes = record {
    after = drop (index + 1) bytes;
    whole =
        sym (take-append-drop (index + 1) bytes)
        ∙ ap (λ l. l ++ drop (index + 1) bytes) (digit_spelt digit small is (omega arith));
    passes = passes;
    first = omega arith;
  }

-- ---- the frame that is dropped

-- what stands behind the framing, and how long the frame is, where a packet is found that ends at this index
pub dropped_is : (bytes found text rest : List ℕ) (end : ℕ) → end < length bytes
    → BeginsPacket bytes found (drop (end + 1) bytes) → BeginsPacket bytes text rest
    → (drop (end + 1) bytes ≡ rest) × (length (packet_frame text) ≡ end + 1)
dropped_is bytes found text rest end within here b =
    let same = same_packet found text (drop (end + 1) bytes) rest here.is_text b.is_text (sym here.whole ∙ b.whole) in (
      same.1,
      omega (
        arith,
        ap length b.whole,
        length-append (packet_frame text) rest,
        ap length same.1,
        length-drop (end + 1) bytes,
      ),
    )
