-- What is left behind the whole frames is bad exactly where no frame begins it.
use Rattle.std.proofs.Common.{◌≡◌, ◌≢◌, ◌⊎◌, ℕ, zero, suc, ◌+◌, ◌-◌, ◌<◌, ◌≤◌, ◌==◌, Bool, true, false, ◌&&◌, nat_le, List, [], ◌∷◌, ◌++◌}
use Rattle.std.proofs.Common.{length, take, drop, decimal, refl, sym, ap, subst, ◌∙◌, inl, inr, append_assoc, append-nil, arith, length-append, length-drop}
use Rattle.std.proofs.lemmas.Bool.{and_parts, cases_lt, eqb-true, leb-true, le-leb, false_from_ne_true, false≢true}
use Rattle.std.proofs.lemmas.Fmt.{decimal_digit}
use Rattle.std.proofs.lemmas.List.{take_at, drop_all, take-append-drop, length-take-le}
use Rattle.std.proofs.lemmas.Str.Parse.{digits_value-take-le}
use Rattle.std.proofs.Math.Seq.{drop-append-add}
use Rattle.std.specs.Str.Parse.{digits_value}
use Rattle.dp_bytes.specs.IntText.{is_positive}
use Rattle.dp_wire.specs.Frames.{has_no_nul, up_to_nul, IsCommand, command_frame, command_limit, IsPartialCommand, BeginsNoCommand}
use Rattle.dp_wire.specs.Frames.{IsPacketText, packet_frame, packet_limit, IsPartialPacket, BeginsPacket, BeginsNoPacket}
use Rattle.dp_wire.proofs.FrameLaws.{no_nul-head, no_nul-tail, no_nul-here, same_text, partial_front}
use Rattle.dp_wire.proofs.SplitLaws.{framed}
use Rattle.dp_wire.proofs.PacketLaws.{packed, value-decimal, decimal-no_nul}
use Rattle.dp_wire.proofs.LengthLaws.{begins_refused, partial_refused, unfinished_partial, known_partial, length_digits-some}
use Rattle.dp_lanes.specs.Lanes.{ends_in_nul, may_be_packet, may_be_command}
use Rattle.dp_lanes.proofs.DigitLaws.{positive, spelled_again, positive_front}

-- ---- up to the first NUL

pub all_up : (bytes : List ℕ) → has_no_nul bytes ≡ true → up_to_nul bytes ≡ bytes
all_up [] h = refl
all_up (b ∷ bytes) h = rw (no_nul-head b bytes h) (ap (λ l. b ∷ l) (all_up bytes (no_nul-tail b bytes h)))

pub up_before : (front rest : List ℕ) → has_no_nul front ≡ true → up_to_nul (front ++ 0 ∷ rest) ≡ front
up_before [] rest h = refl
up_before (b ∷ front) rest h =
    rw (no_nul-head b front h) (ap (λ l. b ∷ l) (up_before front rest (no_nul-tail b front h)))

-- a NUL stands behind the front, or the front is all
pub record IsUp (bytes front : List ℕ) : Type 0 where
  pub no_nul : has_no_nul front ≡ true
  pub cases : (bytes ≡ front) ⊎ ((rest : List ℕ) × (bytes ≡ front ++ 0 ∷ rest))

up_more : (b : ℕ) (bytes front : List ℕ) → (b == 0) ≡ false → IsUp bytes front → IsUp (b ∷ bytes) (b ∷ front)
up_more b bytes front e up = record {
  no_nul = rw (e, up.no_nul) refl;
  cases = elim up.cases [
    | inl all ↦ inl (ap (λ l. b ∷ l) all)
    | inr cut ↦ inr (cut.0, ap (λ l. b ∷ l) cut.1)
  ];
}

pub up_is : (bytes : List ℕ) → IsUp bytes (up_to_nul bytes)
up_is [] = record { no_nul = refl; cases = inl refl }
up_is (b ∷ bytes) = by (up_is bytes) (b == 0) refl where
  by : IsUp bytes (up_to_nul bytes) → (t : Bool) → (b == 0) ≡ t → IsUp (b ∷ bytes) (up_to_nul (b ∷ bytes))
  by rest true e = rw e (record { no_nul = refl; cases = inr (bytes, ap (λ (x : ℕ). x ∷ bytes) (eqb-true b 0 e)) })
  by rest false e = rw e (up_more b bytes (up_to_nul bytes) e rest)

-- ---- commands

pub part_of_command : (held : List ℕ) → IsPartialCommand held → may_be_command held ≡ true
part_of_command held p =
    let front = partial_front held p.more p.text p.comes p.is_text.no_nul p.whole in
    rw (all_up held front.0) (le-leb (length held) command_limit (let fits = p.is_text.fits in omega (arith, front.1)))

no_command : (held : List ℕ) → BeginsNoCommand held → may_be_command held ≡ true → ⊥
no_command held none may =
    let up = up_is held in
    let fits : length (up_to_nul held) ≤ command_limit = leb-true _ _ may in
    let is : IsCommand (up_to_nul held) = record { no_nul = up.no_nul; fits = fits } in
    elim up.cases [
      | inl all ↦ none (up_to_nul held) [] (0 ∷ []) is (ap (λ l. l ++ 0 ∷ []) all
          ∙ sym (append-nil (command_frame (up_to_nul held))))
      | inr cut ↦ none (up_to_nul held) cut.0 [] is (append-nil held ∙ cut.1 ∙ sym (framed (up_to_nul held) cut.0))
    ]

pub none_of_command : (held : List ℕ) → BeginsNoCommand held → may_be_command held ≡ false
none_of_command held none = false_from_ne_true (may_be_command held) (no_command held none)

-- ---- packets

least_text : IsPacketText (0 ∷ [])
least_text = record { some_byte = omega arith; fits = omega arith }

ends_back : (n : ℕ) (back : List ℕ) → n < length back → ends_in_nul (drop n back) ≡ true
    → (rest : List ℕ) × (drop n back ≡ 0 ∷ rest)
ends_back n back less h = by (drop n back) (length-drop n back) h where
  by : (l : List ℕ) → length l ≡ length back - n → ends_in_nul l ≡ true → (rest : List ℕ) × (l ≡ 0 ∷ rest)
  by [] long h = absurd (omega arith)
  by (b ∷ l) long h = (l, ap (λ (x : ℕ). x ∷ l) (eqb-true b 0 h))

zero_text : decimal 0 ≡ 48 ∷ []
zero_text = decimal_digit 0 (omega arith)

some_digit : (n : ℕ) → is_positive (decimal n) ≡ true → 1 ≤ n
some_digit zero h = absurd (zero_not (ap is_positive (sym zero_text) ∙ h)) where
  zero_not : is_positive (48 ∷ []) ≡ true → ⊥
  zero_not h = false≢true h
some_digit (suc n) h = omega arith

module _ (n : ℕ) (some : 1 ≤ n) (fits : n ≤ packet_limit) where
  digits_part : IsPartialPacket (decimal n)
  digits_part = subst IsPartialPacket (length_digits-some n (omega arith)) (unfinished_partial n fits)

  -- behind the digits and the NUL as many bytes have come as they say, and a NUL
  whole_begins : (back rest : List ℕ) → n < length back → drop n back ≡ 0 ∷ rest
      → BeginsPacket (decimal n ++ 0 ∷ back) (take n back) rest
  whole_begins back rest less e =
      let long : length (take n back) ≡ n = length-take-le n back (omega arith) in
      record {
        is_text = record { some_byte = omega arith; fits = omega arith };
        whole = ap (λ l. decimal n ++ 0 ∷ l) (sym (take-append-drop n back) ∙ ap (λ l. take n back ++ l) e)
            ∙ ap (λ (m : ℕ). decimal m ++ 0 ∷ (take n back ++ 0 ∷ rest)) (sym long) ∙ sym (packed (take n back) rest);
      }

  behind_digits : (back : List ℕ) → drop (length (decimal n) + 1 + n) (decimal n ++ 0 ∷ back) ≡ drop n back
  behind_digits back =
      let same : length (decimal n) + 1 + n ≡ length (decimal n) + suc n = omega arith in
      ap (λ (k : ℕ). drop k (decimal n ++ 0 ∷ back)) same ∙ drop-append-add (decimal n) (0 ∷ back) (suc n)

  pub may_begin : (back : List ℕ) → ends_in_nul (drop (length (decimal n) + 1 + n) (decimal n ++ 0 ∷ back)) ≡ true
      → BeginsNoPacket (decimal n ++ 0 ∷ back) → ⊥
  may_begin back h none = elim (cases_lt n (length back)) [
    | inl less ↦
        let end = ends_back n back less (ap ends_in_nul (sym (behind_digits back)) ∙ h) in
        begins_refused (decimal n ++ 0 ∷ back) (take n back) end.0 (whole_begins back end.0 less end.1) none
    | inr short ↦ partial_refused (decimal n ++ 0 ∷ back) (known_partial n back some fits short) none
  ]

no_packet : (held : List ℕ) → BeginsNoPacket held → may_be_packet held ≡ true → ⊥
no_packet [] none h = none (0 ∷ []) [] (packet_frame (0 ∷ [])) least_text (sym (append-nil (packet_frame (0 ∷ []))))
no_packet (b ∷ bytes) none h =
    let held : List ℕ = b ∷ bytes in
    let digits = up_to_nul held in
    let n = digits_value 10 digits in
    let parts = and_parts (is_positive digits && nat_le n packet_limit)
    (ends_in_nul (drop (length digits + 1 + n) held)) h in
    let both = and_parts (is_positive digits) (nat_le n packet_limit) parts.0 in
    let fits : n ≤ packet_limit = leb-true _ _ both.1 in
    let same : digits ≡ decimal n = spelled_again digits both.0 (omega arith) in
    let some : 1 ≤ n = some_digit n (ap is_positive (sym same) ∙ both.0) in
    elim (up_is held).cases [
      | inl all ↦ partial_refused held (subst IsPartialPacket (sym (all ∙ same)) (digits_part n some fits)) none
      | inr cut ↦
          let whole : held ≡ decimal n ++ 0 ∷ cut.0 = cut.1 ∙ ap (λ l. l ++ 0 ∷ cut.0) same in
          may_begin n some fits cut.0
          (ap (λ (d : List ℕ). ends_in_nul (drop (length d + 1 + n) (decimal n ++ 0 ∷ cut.0))) (sym same)
          ∙ ap (λ l. ends_in_nul (drop (length digits + 1 + n) l)) (sym whole) ∙ parts.1)
          (subst BeginsNoPacket whole none)
    ]

pub none_of_packet : (held : List ℕ) → BeginsNoPacket held → may_be_packet held ≡ false
none_of_packet held none = false_from_ne_true (may_be_packet held) (no_packet held none)

-- what has no NUL stands before it
no_nul_front : (a d more z : List ℕ) → has_no_nul a ≡ true → a ++ more ≡ d ++ 0 ∷ z → (w : List ℕ) × (d ≡ a ++ w)
no_nul_front [] d more z h e = (d, refl)
no_nul_front (b ∷ a) [] more z h e = let none : b ≡ 0 = cc in absurd (no_nul-here b a none h)
no_nul_front (b ∷ a) (c ∷ d) more z h e =
    let same : c ≡ b = cc in
    let rest : a ++ more ≡ d ++ 0 ∷ z = cc in
    let left = no_nul_front a d more z (no_nul-tail b a h) rest in
    (left.0, λ i. same i ∷ left.1 i)

module _ (text : List ℕ) (is : IsPacketText text) where
  abbrev count : ℕ
  count = length text

  digits_positive : is_positive (decimal count) ≡ true
  digits_positive = let some = is.some_byte in let fits = is.fits in positive count (omega arith) (omega arith)

  value_is : digits_value 10 (decimal count) ≡ count
  value_is = value-decimal count is.fits

  front_value : (front w : List ℕ) → decimal count ≡ front ++ w → digits_value 10 front ≤ packet_limit
  front_value front w e =
      let cut : take (length front) (decimal count) ≡ front = ap (take (length front)) e
      ∙ take_at front w (length front) refl in
      let small = digits_value-take-le 10 (decimal count) (length front) (omega arith) in
      let fits = is.fits in
      omega (arith, small, ap (digits_value 10) cut, value_is)

  part_digits : (b : ℕ) (bytes w : List ℕ) → up_to_nul (b ∷ bytes) ≡ b ∷ bytes → decimal count ≡ (b ∷ bytes) ++ w
      → may_be_packet (b ∷ bytes) ≡ true
  part_digits b bytes w up e =
      let held : List ℕ = b ∷ bytes in
      let some : is_positive held ≡ true = positive_front b bytes w (ap is_positive (sym e) ∙ digits_positive) in
      let fits : nat_le (digits_value 10 held) packet_limit ≡ true = le-leb _ _ (front_value held w e) in
      let none : drop (length held + 1 + digits_value 10 held) held ≡ [] = drop_all
      (length held + 1 + digits_value 10 held) held (omega arith) in
      rw (up, some, fits, none) refl

  part_behind : (b : ℕ) (bytes back more : List ℕ) → up_to_nul (b ∷ bytes) ≡ decimal count
      → b ∷ bytes ≡ decimal count ++ 0 ∷ back → length back ≤ count
      → may_be_packet (b ∷ bytes) ≡ true
  part_behind b bytes back more up whole short =
      let fits : nat_le count packet_limit ≡ true = le-leb _ _ is.fits in
      let some = is.some_byte in
      let none : drop (length (decimal count) + 1 + count) (b ∷ bytes) ≡ [] =
      ap (drop (length (decimal count) + 1 + count)) whole ∙ behind_digits count some is.fits back
      ∙ drop_all count back short in
      rw (up, digits_positive, value_is, fits, none) refl

some_more : (more : List ℕ) → more ≢ [] → 1 ≤ length more
some_more [] comes = absurd (comes refl)
some_more (b ∷ more) comes = omega arith

pub part_of_packet : (held : List ℕ) → IsPartialPacket held → may_be_packet held ≡ true
part_of_packet [] p = refl
part_of_packet (b ∷ bytes) p =
    let held : List ℕ = b ∷ bytes in
    let up = up_is held in
    let frame : held ++ p.more ≡ decimal (length p.text) ++ 0 ∷ (p.text ++ 0 ∷ []) = p.whole
    ∙ sym (append-nil (packet_frame p.text)) ∙ packed p.text [] in
    elim up.cases [
      | inl all ↦
          let clean : has_no_nul held ≡ true = subst (λ l. has_no_nul l ≡ true) (sym all) up.no_nul in
          let front = no_nul_front held (decimal (length p.text)) p.more (p.text ++ 0 ∷ []) clean frame in
          part_digits p.text p.is_text b bytes front.0 (sym all) front.1
      | inr cut ↦
          let digits = up_to_nul held in
          let whole : digits ++ 0 ∷ (cut.0 ++ p.more) ≡ decimal (length p.text) ++ 0 ∷ (p.text ++ 0 ∷ []) =
          sym (append_assoc digits (0 ∷ cut.0) p.more) ∙ ap (λ l. l ++ p.more) (sym cut.1) ∙ frame in
          let same = same_text digits (decimal (length p.text)) (cut.0 ++ p.more) (p.text ++ 0 ∷ []) up.no_nul
          (no_nul_number p.text p.is_text) whole in
          let more = some_more p.more p.comes in
          let short : length cut.0 ≤ length p.text =
          omega (arith, ap length same.1, length-append cut.0 p.more, length-append p.text (0 ∷ [])) in
          part_behind p.text p.is_text b bytes cut.0 p.more same.0 (cut.1 ∙ ap (λ l. l ++ 0 ∷ cut.0) same.0) short
    ]
  where
    no_nul_number : (text : List ℕ) → IsPacketText text → has_no_nul (decimal (length text)) ≡ true
    no_nul_number text is = decimal-no_nul (length text) is.fits
