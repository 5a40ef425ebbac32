-- What bytes say of the first head.
use Rattle.std.proofs.Common.{◌≡◌, ◌≢◌, ℕ, zero, suc, ◌+◌, ◌-◌, ◌*◌, ◌<◌, ◌≤◌, ◌⊎◌, inl, inr, List, [], ◌∷◌, ◌++◌, length, take, drop, get_or, refl, sym, ap, ◌∙◌, subst, append_assoc, append-nil, arith, decimal, length-append, length-drop}
use Rattle.std.proofs.lemmas.Fmt.{first_decimal}
use Rattle.std.proofs.lemmas.List.{append_cancel_left, drop_at, take_all, take-append-drop, get_or_append_left, get_or-take, length-take-le, drop_more}
use Rattle.std.proofs.Math.Seq.{take-append-add}
use Rattle.dp_wire.specs.Received.{length_digits}
use Rattle.dp_wire.proofs.LengthLaws.{digit_spelt}
use Rattle.dp_wire.proofs.PacketLaws.{Digits}
use Rattle.dp_bodies.specs.Frames.{body_limit, head, head_end, length_name}
use Rattle.dp_bodies.specs.Received.{PassesLimit}
use Rattle.dp_bodies.specs.declared.heads.Agreement.TheVariants.{Whole, Front, Differs}
use Rattle.dp_bodies.specs.declared.heads.Digits.TheVariants as digits
use Rattle.dp_bodies.specs.declared.heads.Head.TheVariants.{Unfinished, Known, Bad, Passed}
use Rattle.dp_bodies.specs.inner.Heads.{Agrees, AreDigits, IsDigit, IsHead}
use Rattle.dp_bodies.proofs.FrameLaws.{is_wide, are_digits, digits_end, front_le, no_return, name_length, end_length, headed, behind_name, head_length}

-- ---- agreement

-- what differs is not what is wanted, however both go on
pub differs_from : (bytes wanted : List ℕ) (index : ℕ) → Agrees bytes wanted (Differs index) → (z y : List ℕ)
    → take (index + 1) bytes ++ z ≡ wanted ++ y → ⊥
differs_from bytes wanted index d z y e =
    let long : length (take (index + 1) bytes) ≡ index + 1 = length-take-le (index + 1) bytes (omega (arith, d.1)) in
    let left : get_or (take (index + 1) bytes ++ z) index 0 ≡ get_or bytes index 0 =
    get_or_append_left (take (index + 1) bytes) z 0 index (omega (arith, long))
    ∙ get_or-take (index + 1) bytes index 0 (omega arith) in
    let right : get_or (wanted ++ y) index 0 ≡ get_or wanted index 0 = get_or_append_left wanted y 0 index d.0 in
    d.3 (sym left ∙ ap (λ (l : List ℕ). get_or l index 0) e ∙ right)

pub differs_whole : (bytes wanted : List ℕ) (index : ℕ) → Agrees bytes wanted (Differs index) → (y : List ℕ)
    → bytes ≡ wanted ++ y → ⊥
differs_whole bytes wanted index d y e =
    differs_from bytes wanted index d (drop (index + 1) bytes) y (take-append-drop (index + 1) bytes ∙ e)

-- up to the place where the bytes end, or where they differ
pub agreed_front : (bytes wanted : List ℕ) (index : ℕ) → index ≤ length bytes → take index bytes ≡ take index wanted
    → length bytes ≤ index → index < length wanted → Agrees bytes wanted Front
agreed_front bytes wanted index within same ends short = (
  drop index wanted,
  λ e. absurd (omega (arith, ap length e, length-drop index wanted, short)),
  ap (λ l. l ++ drop index wanted) (sym (take_all index bytes ends) ∙ same) ∙ take-append-drop index wanted,
)

-- what a slice to the end of the bytes holds
pub to_end : (n : ℕ) (bytes : List ℕ) → take (length bytes - n) (drop n bytes) ≡ drop n bytes
to_end n bytes = take_all (length bytes - n) (drop n bytes) (omega (arith, length-drop n bytes))

-- ---- the name

one_more : (t : List ℕ) → (more : List ℕ) → 1 ≤ length t → more ++ t ≢ []
one_more t more some e = absurd (omega (arith, some, ap length e, length-append more t))

tail_some : (n : ℕ) → 1 ≤ length (decimal n ++ head_end)
tail_some n = omega (arith, end_length, length-append (decimal n) head_end)

pub name_front : (bytes : List ℕ) → Agrees bytes length_name Front → IsHead bytes Unfinished
name_front bytes a = record {
  number = 1;
  some = omega arith;
  fits = omega arith;
  more = a.0 ++ (decimal 1 ++ head_end);
  comes = one_more (decimal 1 ++ head_end) a.0 (tail_some 1);
  whole = sym (append_assoc bytes a.0 (decimal 1 ++ head_end)) ∙ ap (λ l. l ++ (decimal 1 ++ head_end)) a.2;
}

pub name_bad : (bytes : List ℕ) (index : ℕ) → Agrees bytes length_name (Differs index) → IsHead bytes (Bad index)
name_bad bytes index d = record {
  there = d.1;
  number = 1;
  some = omega arith;
  fits = omega arith;
  more = drop index length_name ++ (decimal 1 ++ head_end);
  before = sym (append_assoc (take index bytes) (drop index length_name) (decimal 1 ++ head_end))
      ∙ ap (λ l. l ++ drop index length_name ++ (decimal 1 ++ head_end)) d.2
      ∙ ap (λ l. l ++ (decimal 1 ++ head_end)) (take-append-drop index length_name);
  comes = one_more (decimal 1 ++ head_end) (drop index length_name) (tail_some 1);
  none = λ n rest behind some fits e. differs_from bytes length_name index d rest
      (decimal n ++ (head_end ++ behind)) (e ∙ headed n behind);
  short = λ n p. differs_whole bytes length_name index d (decimal n ++ p.after) p.whole;
}

-- ---- the number

-- a number begins with a digit from 1 to 9
first_digit : (n : ℕ) (bytes z y : List ℕ) → 1 ≤ n → is_wide n → 0 < length bytes → bytes ++ z ≡ decimal n ++ y
    → (49 ≤ get_or bytes 0 0) × (get_or bytes 0 0 ≤ 57)
first_digit n bytes z y some wide there e =
    go (decimal n) bytes (are_digits n wide) (first_decimal n (omega (arith, some)) (omega (arith, wide))) there e where
      go : (ds bytes : List ℕ) → Digits ds → 48 < get_or ds 0 0 → 0 < length bytes → bytes ++ z ≡ ds ++ y
          → (49 ≤ get_or bytes 0 0) × (get_or bytes 0 0 ≤ 57)
      go [] bytes d first there e = absurd (omega (arith, first))
      go (a ∷ ds) [] d first there e = absurd (omega (arith, there))
      go (a ∷ ds) (b ∷ bs) d first there e =
          let same : b ≡ a = cc in (omega (arith, first, same), omega (arith, d.0.1, same))

named : (bytes more : List ℕ) → (length_name ++ bytes) ++ more ≡ length_name ++ (bytes ++ more)
named bytes more = append_assoc length_name bytes more

pub digits_unfinished : (bytes : List ℕ) → AreDigits bytes digits.Unfinished → IsHead (length_name ++ bytes) Unfinished
digits_unfinished bytes h = go h.0 h.1.0 h.1.1 where
  go : (number : ℕ) → number ≤ body_limit → bytes ≡ length_digits number → IsHead (length_name ++ bytes) Unfinished
  go zero fits e = record {
    number = 1;
    some = omega arith;
    fits = omega arith;
    more = decimal 1 ++ head_end;
    comes = one_more (decimal 1 ++ head_end) [] (tail_some 1);
    whole = named bytes (decimal 1 ++ head_end) ∙ ap (λ l. length_name ++ (l ++ (decimal 1 ++ head_end))) e;
  }
  go (suc n) fits e = record {
    number = suc n;
    some = omega arith;
    fits = fits;
    more = head_end;
    comes = one_more head_end [] (omega (arith, end_length));
    whole = named bytes head_end ∙ ap (λ l. length_name ++ (l ++ head_end)) e;
  }

-- the bytes that are behind the name, up to a place
pub named_take : (bytes : List ℕ) (n : ℕ) → take (16 + n) (length_name ++ bytes) ≡ length_name ++ take n bytes
named_take bytes n = take-append-add length_name bytes n

pub digits_none : (bytes : List ℕ) → AreDigits bytes digits.None → IsHead (length_name ++ bytes) (Bad 16)
digits_none bytes h = record {
  there = omega (arith, name_length, length-append length_name bytes, h.0);
  number = 1;
  some = omega arith;
  fits = omega arith;
  more = decimal 1 ++ head_end;
  before = ap (λ l. l ++ (decimal 1 ++ head_end)) (named_take bytes 0 ∙ append-nil length_name);
  comes = one_more (decimal 1 ++ head_end) [] (tail_some 1);
  none = λ n rest behind some fits e. h.1 (read n rest behind some fits e);
  short = λ n p. h.1 (first_digit n bytes [] p.after (omega (arith, p.passes)) (omega (arith, p.first)) h.0
      (append-nil bytes ∙ append_cancel_left length_name bytes (decimal n ++ p.after) p.whole));
} where
  read : (n : ℕ) (rest behind : List ℕ) → 1 ≤ n → n ≤ body_limit
      → take 17 (length_name ++ bytes) ++ rest ≡ head n ++ behind
      → (49 ≤ get_or bytes 0 0) × (get_or bytes 0 0 ≤ 57)
  read n rest behind some fits e =
      let one : List ℕ = take 1 bytes in
      let long : length one ≡ 1 = length-take-le 1 bytes (omega (arith, h.0)) in
      let first : get_or one 0 0 ≡ get_or bytes 0 0 = get_or-take 1 bytes 0 0 (omega arith) in
      let here = first_digit n one rest (head_end ++ behind) some (omega (arith, fits)) (omega (arith, long))
      (behind_name n (one ++ rest) behind
      (sym (named one rest) ∙ ap (λ l. l ++ rest) (sym (named_take bytes 1)) ∙ e)) in
      (omega (arith, here.0, first), omega (arith, here.1, first))

-- ---- the end of the head

-- digits on both sides: those of one begin those of the other, or a digit stands behind them
digits_or : (ds bs : List ℕ) (s : ℕ) (x w : List ℕ) → Digits bs → ds ++ s ∷ x ≡ bs ++ w
    → ((u : List ℕ) × (ds ≡ bs ++ u)) ⊎ IsDigit s
digits_or ds [] s x w q e = inl (ds, refl)
digits_or [] (b ∷ bs) s x w q e = let same : b ≡ s = cc in inr (subst IsDigit same q.0)
digits_or (a ∷ ds) (b ∷ bs) s x w q e =
    let head : a ≡ b = cc in
    let tail : ds ++ s ∷ x ≡ bs ++ w = cc in
    go head (digits_or ds bs s x w q.1 tail) where
      go : a ≡ b → ((u : List ℕ) × (ds ≡ bs ++ u)) ⊎ IsDigit s → ((u : List ℕ) × (a ∷ ds ≡ b ∷ bs ++ u)) ⊎ IsDigit s
      go head (inl r) = inl (r.0, λ i. head i ∷ r.1 i)
      go head (inr d) = inr d

module _ (bytes : List ℕ) (end number : ℕ) (h : AreDigits bytes (digits.Known end number)) where
  abbrev back : List ℕ
  back = drop end bytes

  some : 1 ≤ number
  some = h.0

  fits : number ≤ body_limit
  fits = h.1

  spelt : bytes ≡ decimal number ++ back
  spelt = sym (take-append-drop end bytes) ∙ ap (λ l. l ++ back) h.3

  long : length (decimal number) ≡ end
  long = ap length (sym h.3) ∙ length-take-le end bytes (omega (arith, h.2))

  whole : (more : List ℕ) → (length_name ++ bytes) ++ more ≡ length_name ++ (decimal number ++ (back ++ more))
  whole more =
      named bytes more
      ∙ ap (λ l. length_name ++ l) (ap (λ l. l ++ more) spelt ∙ append_assoc (decimal number) back more)

  pub end_front : Agrees back head_end Front → IsHead (length_name ++ bytes) Unfinished
  end_front a = record {
    number = number;
    some = some;
    fits = fits;
    more = a.0;
    comes = a.1;
    whole = whole a.0 ∙ ap (λ l. length_name ++ (decimal number ++ l)) a.2;
  }

  pub end_whole : Agrees back head_end Whole → IsHead (length_name ++ bytes) (Known (16 + end + 4) number)
  end_whole a =
      let start : 16 + end + 4 ≡ length (head number) = omega (arith, head_length number, long) in
      let rest : List ℕ = drop 4 back in
      let all : length_name ++ bytes ≡ head number ++ rest =
      sym (append-nil (length_name ++ bytes)) ∙ whole []
      ∙ ap (λ l. length_name ++ (decimal number ++ l)) (append-nil back ∙ a)
      ∙ sym (headed number rest) in (
        some,
        fits,
        start,
        all ∙ ap (λ l. head number ++ l) (sym (ap (drop (16 + end + 4)) all
            ∙ drop_at (head number) rest (16 + end + 4) (sym start))),
      )

  -- the byte behind the digits
  abbrev next : ℕ
  next = get_or bytes end 0

  back_is : back ≡ next ∷ drop (end + 1) bytes
  back_is = drop_more bytes end 0 h.2

  no_other : (n : ℕ) (rest behind : List ℕ) (count : ℕ) → n ≤ body_limit
      → length_name ++ (decimal number ++ (take (count + 1) back ++ rest)) ≡ head n ++ behind
      → take (count + 1) back ++ rest ≡ head_end ++ behind
  no_other n rest behind count small e =
      let more : count + 1 ≡ suc count = omega arith in
      let front : take (count + 1) back ≡ next ∷ take count (drop (end + 1) bytes) =
      ap (λ (n : ℕ). take n back) more ∙ ap (take (suc count)) back_is in
      let parts = digits_end (decimal number) (decimal n) next 13 (take count (drop (end + 1) bytes) ++ rest)
      (10 ∷ 13 ∷ 10 ∷ behind)
      (are_digits number (omega (arith, fits))) (are_digits n (omega (arith, small))) h.4 no_return
      (ap (λ l. decimal number ++ (l ++ rest)) (sym front)
      ∙ behind_name n (decimal number ++ (take (count + 1) back ++ rest)) behind e) in
      ap (λ l. l ++ rest) front ∙ parts.1

  taken : (n : ℕ) → take (16 + end + n) (length_name ++ bytes) ≡ length_name ++ (decimal number ++ take n back)
  taken n =
      let place : 16 + end + n ≡ 16 + (end + n) = omega arith in
      let inner : end + n ≡ length (decimal number) + n = omega (arith, long) in
      ap (λ (k : ℕ). take k (length_name ++ bytes)) place
      ∙ named_take bytes (end + n)
      ∙ ap (λ l. length_name ++ l) (ap (λ (k : ℕ). take k bytes) inner
      ∙ ap (take (length (decimal number) + n)) spelt
      ∙ take-append-add (decimal number) back n)

  not_past : (n : ℕ) → PassesLimit (length_name ++ bytes) n → ⊥
  not_past n p =
      let e : decimal number ++ next ∷ drop (end + 1) bytes ≡ decimal n ++ p.after =
      sym (spelt ∙ ap (λ l. decimal number ++ l) back_is)
      ∙ append_cancel_left length_name bytes (decimal n ++ p.after) p.whole in
      go (digits_or (decimal number) (decimal n) next (drop (end + 1) bytes) p.after
      (are_digits n (omega (arith, p.first))) e) where
        go : ((u : List ℕ) × (decimal number ≡ decimal n ++ u)) ⊎ IsDigit next → ⊥
        go (inl r) =
            let less = front_le number n r.0 (omega (arith, fits)) (omega (arith, p.first)) r.1 in
            omega (arith, less, fits, p.passes)
        go (inr d) = h.4 d

  pub end_bad : (index : ℕ) → Agrees back head_end (Differs index)
      → IsHead (length_name ++ bytes) (Bad (16 + end + index))
  end_bad index d = record {
    there = omega (arith, name_length, length-append length_name bytes, length-drop end bytes, d.1);
    number = number;
    some = some;
    fits = fits;
    more = drop index head_end;
    before = ap (λ l. l ++ drop index head_end) (taken index)
        ∙ named (decimal number ++ take index back) (drop index head_end)
        ∙ ap (λ l. length_name ++ l) (append_assoc (decimal number) (take index back) (drop index head_end)
        ∙ ap (λ l. decimal number ++ l) (ap (λ l. l ++ drop index head_end) d.2 ∙ take-append-drop index head_end));
    comes = λ e. absurd (omega (arith, ap length e, length-drop index head_end, d.0));
    none = λ n rest behind one small e. differs_from back head_end index d rest behind
        (no_other n rest behind index small (sym (named (decimal number ++ take (index + 1) back) rest
        ∙ ap (λ l. length_name ++ l) (append_assoc (decimal number) (take (index + 1) back) rest))
        ∙ ap (λ l. l ++ rest) (sym (with_it ∙ taken (index + 1))) ∙ e));
    short = not_past;
  } where
    with_it : take (16 + end + index + 1) (length_name ++ bytes) ≡ take (16 + end + (index + 1)) (length_name ++ bytes)
    with_it = let place : 16 + end + index + 1 ≡ 16 + end + (index + 1) = omega arith in
        ap (λ (k : ℕ). take k (length_name ++ bytes)) place

-- ---- a byte behind the digits so far

module _ (bytes : List ℕ) (index number byte : ℕ) (there : index < length bytes) (at : byte ≡ get_or bytes index 0)
    (spelt : take index bytes ≡ length_digits number) (fits : number ≤ body_limit) where
  pub passed_digits : (digit : ℕ) → digit < 10 → byte ≡ 48 + digit → 0 < number + digit
      → body_limit < 10 * number + digit → AreDigits bytes (digits.Passed (10 * number + digit))
  passed_digits digit small is some passes = (
    drop (index + 1) bytes,
    sym (take-append-drop (index + 1) bytes)
        ∙ ap (λ l. l ++ drop (index + 1) bytes)
        (digit_spelt bytes index number byte there at spelt fits digit small is some),
    passes,
    omega (arith, small, fits),
  )

pub all_digits : (bytes : List ℕ) (index number : ℕ) → index ≡ length bytes → take index bytes ≡ length_digits number
    → number ≤ body_limit → AreDigits bytes digits.Unfinished
all_digits bytes index number ends spelt fits =
    (number, (fits, sym (take_all index bytes (omega (arith, ends))) ∙ spelt))
