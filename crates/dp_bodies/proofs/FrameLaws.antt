-- Bodies and their heads: what begins what, and that bytes are split in one way.
use Rattle.std.proofs.Common.{◌≡◌, ◌≢◌, ℕ, ◌+◌, ◌-◌, ◌^◌, ◌<◌, ◌≤◌, List, [], ◌∷◌, ◌++◌, length, take, drop, replicate, slice_range, refl, sym, ap, ◌∙◌, subst, append_assoc, append-nil, arith, decimal, length-append, length-drop}
use Rattle.std.specs.List.{flat_map, AllByRecursion}
use Rattle.std.specs.Str.Parse.{digits_value}
use Rattle.std.proofs.lemmas.Str.Parse.{digits_value-take-le}
use Rattle.std.proofs.lemmas.Fmt.{digits_decimal, decimal_is_IsNumeral, decimal_injective, length-decimal-le}
use Rattle.std.proofs.lemmas.List.{append_cancel_left, take_at, drop_at, take-append-drop, drop-drop, length-replicate, length-take-le}
use Rattle.dp_wire.specs.Frames.{Splits}
use Rattle.dp_wire.proofs.PacketLaws.{Digits, numeral_model}
use Rattle.dp_bodies.specs.Frames.{IsBody, body_frame, body_limit, head, head_end, length_name, BeginsBody, IsPartialBody, BeginsNoBody}
use Rattle.dp_bodies.specs.Received.{IsFirstBad, PassesLimit}
use Rattle.dp_bodies.specs.inner.Heads.{IsDigit, HasBadByte, IsHeadFront}

-- ---- digits and what follows them

abbrev pub is_wide : ℕ → Type 0
is_wide n = n < 2 ^ 64

pub are_digits : (n : ℕ) → is_wide n → Digits (decimal n)
are_digits n wide = digits_decimal numeral_model n wide

-- two numbers, each with what is no digit behind it
pub digits_end : (a b : List ℕ) (s t : ℕ) (x y : List ℕ) → Digits a → Digits b → (IsDigit s → ⊥) → (IsDigit t → ⊥)
    → a ++ s ∷ x ≡ b ++ t ∷ y → (a ≡ b) × (s ∷ x ≡ t ∷ y)
digits_end [] [] s t x y p q r w e = (refl, e)
digits_end [] (b ∷ bs) s t x y p q r w e = let same : b ≡ s = cc in absurd (r (subst IsDigit same q.0))
digits_end (a ∷ xs) [] s t x y p q r w e = let same : a ≡ t = cc in absurd (w (subst IsDigit same p.0))
digits_end (a ∷ xs) (b ∷ bs) s t x y p q r w e =
    let head : a ≡ b = cc in
    let tail : xs ++ s ∷ x ≡ bs ++ t ∷ y = cc in
    let rest = digits_end xs bs s t x y p.1 q.1 r w tail in
    (λ i. head i ∷ rest.0 i, rest.1)

-- digits at the front of digits with what is none behind them
pub digits_front : (ds bs : List ℕ) (s : ℕ) (z y : List ℕ) → Digits ds → (IsDigit s → ⊥) → ds ++ z ≡ bs ++ s ∷ y
    → (w : List ℕ) × (bs ≡ ds ++ w)
digits_front [] bs s z y p r e = (bs, refl)
digits_front (a ∷ xs) [] s z y p r e = let same : a ≡ s = cc in absurd (r (subst IsDigit same p.0))
digits_front (a ∷ xs) (b ∷ bs) s z y p r e =
    let head : b ≡ a = cc in
    let tail : xs ++ z ≡ bs ++ s ∷ y = cc in
    let left = digits_front xs bs s z y p.1 r tail in
    (left.0, λ i. head i ∷ left.1 i)

pub front_le : (m n : ℕ) (w : List ℕ) → is_wide m → is_wide n → decimal m ≡ decimal n ++ w → n ≤ m
front_le m n w p q e =
    let front : take (length (decimal n)) (decimal m) ≡ decimal n = ap (take (length (decimal n))) e
    ∙ take_at (decimal n) w (length (decimal n)) refl in
    let small = digits_value-take-le 10 (decimal m) (length (decimal n)) (omega arith) in
    omega (arith, small, ap (digits_value 10) front, (decimal_is_IsNumeral m p).1, (decimal_is_IsNumeral n q).1)

pub no_return : IsDigit 13 → ⊥
no_return d = omega (arith, d.0)

-- ---- heads

-- a head and what follows it, its parts in their places
pub headed : (n : ℕ) (z : List ℕ) → head n ++ z ≡ length_name ++ (decimal n ++ (head_end ++ z))
headed n z =
    append_assoc length_name (decimal n ++ head_end) z
    ∙ ap (λ l. length_name ++ l) (append_assoc (decimal n) head_end z)

pub behind_name : (n : ℕ) (x z : List ℕ) → length_name ++ x ≡ head n ++ z → x ≡ decimal n ++ (head_end ++ z)
behind_name n x z e = append_cancel_left length_name x (decimal n ++ (head_end ++ z)) (e ∙ headed n z)

pub same_head : (m n : ℕ) (x y : List ℕ) → m ≤ body_limit → n ≤ body_limit → head m ++ x ≡ head n ++ y
    → (m ≡ n) × (x ≡ y)
same_head m n x y p q e =
    let parts = digits_end (decimal m) (decimal n) 13 13 (10 ∷ 13 ∷ 10 ∷ x) (10 ∷ 13 ∷ 10 ∷ y)
    (are_digits m (omega arith)) (are_digits n (omega arith)) no_return no_return
    (behind_name n (decimal m ++ (head_end ++ x)) y (sym (headed m x) ∙ e)) in
    let rest : x ≡ y = append_cancel_left head_end x y parts.1 in
    (decimal_injective m n (omega arith) (omega arith) parts.0, rest)

pub name_length : length length_name ≡ 16
name_length = refl

pub end_length : length head_end ≡ 4
end_length = refl

pub head_length : (n : ℕ) → length (head n) ≡ 16 + length (decimal n) + 4
head_length n =
    length-append length_name (decimal n ++ head_end)
    ∙ omega (arith, name_length, end_length, length-append (decimal n) head_end)

pub head_short : (n : ℕ) → n ≤ body_limit → length (head n) ≤ 28
head_short n fits =
    omega (arith, head_length n, length-decimal-le 8 n (omega arith) (omega arith) (omega arith))

-- ---- bodies

pub framed : (text more : List ℕ) → body_frame text ++ more ≡ head (length text) ++ (text ++ more)
framed text more = append_assoc (head (length text)) text more

pub same_length : (a b x y : List ℕ) → length a ≡ length b → a ++ x ≡ b ++ y → (a ≡ b) × (x ≡ y)
same_length a b x y l e = (
  sym (take_at a x (length a) refl) ∙ ap (take (length a)) e ∙ take_at b y (length a) (sym l),
  sym (drop_at a x (length a) refl) ∙ ap (drop (length a)) e ∙ drop_at b y (length a) (sym l),
)

pub same_body : (a b x y : List ℕ) → IsBody a → IsBody b → body_frame a ++ x ≡ body_frame b ++ y → (a ≡ b) × (x ≡ y)
same_body a b x y p q e =
    let heads = same_head (length a) (length b) (a ++ x) (b ++ y) p.fits q.fits
    (sym (framed a x) ∙ e ∙ framed b y) in
    same_length a b x y heads.0 heads.1

pub no_body_begins : (one other more : List ℕ) → IsBody one → IsBody other → body_frame one ++ more ≡ body_frame other
    → (one ≡ other) × (more ≡ [])
no_body_begins one other more p q e = same_body one other more [] p q (e ∙ sym (append-nil (body_frame other)))

-- ---- one split

regroup : (text : List ℕ) (texts : List (List ℕ)) (rest : List ℕ)
    → flat_map body_frame (text ∷ texts) ++ rest ≡ body_frame text ++ (flat_map body_frame texts ++ rest)
regroup text texts rest = append_assoc (body_frame text) (flat_map body_frame texts) rest

abbrev NoMore : List ℕ → Type 0
NoMore rest = (text more : List ℕ) → IsBody text → rest ≡ body_frame text ++ more → ⊥

same_split : (texts others : List (List ℕ)) (rest remains : List ℕ) → AllByRecursion IsBody texts
    → AllByRecursion IsBody others → NoMore rest → NoMore remains
    → flat_map body_frame texts ++ rest ≡ flat_map body_frame others ++ remains
    → (texts ≡ others) × (rest ≡ remains)
same_split [] [] rest remains p q r s e = (refl, e)
same_split [] (other ∷ others) rest remains p q r s e =
    absurd (r other (flat_map body_frame others ++ remains) q.0 (e ∙ regroup other others remains))
same_split (text ∷ texts) [] rest remains p q r s e =
    absurd (s text (flat_map body_frame texts ++ rest) p.0 (sym e ∙ regroup text texts rest))
same_split (text ∷ texts) (other ∷ others) rest remains p q r s e =
    let first = same_body text other _ _ p.0 q.0 (sym (regroup text texts rest) ∙ e ∙ regroup other others remains) in
    let others_too = same_split texts others rest remains p.1 q.1 r s first.1 in
    (λ i. first.0 i ∷ others_too.0 i, others_too.1)

pub one_body_split : (bytes : List ℕ) (texts others : List (List ℕ)) (rest remains : List ℕ)
    → Splits IsBody body_frame bytes texts rest → Splits IsBody body_frame bytes others remains
    → (texts ≡ others) × (rest ≡ remains)
one_body_split bytes texts others rest remains p q =
    same_split texts others rest remains p.each q.each p.no_more q.no_more (sym p.whole ∙ q.whole)

-- ---- what excludes what

nothing : (rest more : List ℕ) → rest ++ more ≡ [] → more ≡ []
nothing [] more e = e
nothing (b ∷ bs) more e = cc

pub begins_partial : (bytes text rest : List ℕ) → BeginsBody bytes text rest → IsPartialBody bytes → ⊥
begins_partial bytes text rest b p =
    let whole : body_frame text ++ (rest ++ p.more) ≡ body_frame p.text ++ [] =
    sym (append_assoc (body_frame text) rest p.more) ∙ ap (λ l. l ++ p.more) (sym b.whole) ∙ p.whole
    ∙ sym (append-nil (body_frame p.text)) in
    p.comes (nothing rest p.more (same_body text p.text (rest ++ p.more) [] b.is_text p.is_text whole).1)

pub begins_refused : (bytes text rest : List ℕ) → BeginsBody bytes text rest → BeginsNoBody bytes → ⊥
begins_refused bytes text rest b none = none text rest [] b.is_text (append-nil bytes ∙ b.whole)

pub partial_refused : (bytes : List ℕ) → IsPartialBody bytes → BeginsNoBody bytes → ⊥
partial_refused bytes p none = none p.text [] p.more p.is_text (p.whole ∙ sym (append-nil (body_frame p.text)))

-- ---- more has to come

some_comes : (more text : List ℕ) → 1 ≤ length text → more ++ text ≢ []
some_comes more text some e = absurd (omega (arith, some, ap length e, length-append more text))

pub front_partial : (bytes : List ℕ) → IsHeadFront bytes → IsPartialBody bytes
front_partial bytes h =
    let text : List ℕ = replicate h.number 0 in
    let long : length text ≡ h.number = length-replicate h.number 0 in
    let some = h.some in
    let fits = h.fits in
    record {
      text = text;
      more = h.more ++ text;
      is_text = record { some_byte = omega (arith, long, some); fits = omega (arith, long, fits) };
      comes = some_comes h.more text (omega (arith, long, some));
      whole = sym (append_assoc bytes h.more text)
          ∙ ap (λ l. l ++ text) h.whole
          ∙ ap (λ (n : ℕ). head n ++ text) (sym long);
    }

pub front_short : (bytes : List ℕ) → IsHeadFront bytes → length bytes ≤ 28
front_short bytes h =
    omega (arith, head_short h.number h.fits, ap length h.whole, length-append bytes h.more)

-- a head stands there
module _ (bytes : List ℕ) (start number : ℕ) (some : 1 ≤ number) (fits : number ≤ body_limit)
    (place : start ≡ length (head number)) (whole : bytes ≡ head number ++ drop start bytes) where
  abbrev back : List ℕ
  back = drop start bytes

  back_length : length bytes ≡ start + length back
  back_length = omega (arith, place, ap length whole, length-append (head number) back)

  pub known_partial : length bytes < start + number → IsPartialBody bytes
  known_partial short =
      let missing : List ℕ = replicate (number - length back) 0 in
      let count : length missing ≡ number - length back = length-replicate (number - length back) 0 in
      let long : length (back ++ missing) ≡ number =
      omega (arith, length-append back missing, count, back_length, short) in
      record {
        text = back ++ missing;
        more = missing;
        is_text = record { some_byte = omega (arith, long, some); fits = omega (arith, long, fits) };
        comes = λ e. absurd (omega (arith, ap length e, count, back_length, short));
        whole = ap (λ l. l ++ missing) whole
            ∙ append_assoc (head number) back missing
            ∙ ap (λ (n : ℕ). head n ++ (back ++ missing)) (sym long);
      }

  pub known_few : length bytes < start + number → length bytes ≤ body_limit + 27
  known_few short = omega (arith, head_short number fits, place, fits, short)

  abbrev text : List ℕ
  text = slice_range bytes start (start + number)

  text_is : text ≡ take number back
  text_is = let count : start + number - start ≡ number = omega arith in ap (λ (n : ℕ). take n back) count

  pub known_begins : start + number ≤ length bytes → BeginsBody bytes text (drop (start + number) bytes)
  known_begins long =
      let within : number ≤ length back = omega (arith, back_length, long) in
      let count : length text ≡ number = ap length text_is ∙ length-take-le number back within in
      record {
        is_text = record { some_byte = omega (arith, count, some); fits = omega (arith, count, fits) };
        whole = whole
            ∙ ap (λ l. head number ++ l) (sym (take-append-drop number back)
            ∙ ap (λ l. l ++ drop number back) (sym text_is)
            ∙ ap (λ l. text ++ l) (drop-drop number start bytes))
            ∙ sym (append_assoc (head number) text (drop (start + number) bytes))
            ∙ ap (λ (n : ℕ). head n ++ text ++ drop (start + number) bytes) (sym count);
      }

-- ---- no frame

pub bad_refused : (bytes : List ℕ) (index : ℕ) → HasBadByte bytes index → BeginsNoBody bytes
bad_refused bytes index h text rest more is e =
    h.none (length text) (drop (index + 1) bytes ++ more) (text ++ rest) is.some_byte is.fits
    (sym (append_assoc (take (index + 1) bytes) (drop (index + 1) bytes) more)
    ∙ ap (λ l. l ++ more) (take-append-drop (index + 1) bytes) ∙ e ∙ framed text rest)

pub bad_first : (bytes : List ℕ) (index : ℕ) → HasBadByte bytes index → IsFirstBad bytes index
bad_first bytes index h = record {
  there = h.there;
  before = front_partial (take index bytes) (record {
    number = h.number;
    some = h.some;
    fits = h.fits;
    more = h.more;
    comes = h.comes;
    whole = h.before;
  });
  none = λ text rest more is e. h.none (length text) more (text ++ rest) is.some_byte is.fits (e ∙ framed text rest);
}

pub passes_refused : (bytes : List ℕ) (number : ℕ) → PassesLimit bytes number → BeginsNoBody bytes
passes_refused bytes number h text rest more is e =
    let small : is_wide number = omega (arith, h.first) in
    let fits = is.fits in
    let whole : decimal number ++ (h.after ++ more) ≡ decimal (length text) ++ (head_end ++ (text ++ rest)) =
    sym (append_assoc (decimal number) h.after more)
    ∙ behind_name (length text) ((decimal number ++ h.after) ++ more) (text ++ rest)
    (sym (append_assoc length_name (decimal number ++ h.after) more) ∙ ap (λ l. l ++ more) (sym h.whole) ∙ e
    ∙ framed text rest) in
    let left = digits_front (decimal number) (decimal (length text)) 13 (h.after ++ more)
    (10 ∷ 13 ∷ 10 ∷ (text ++ rest)) (are_digits number small) no_return whole in
    let less = front_le (length text) number left.0 (omega (arith, fits)) small left.1 in
    omega (arith, less, fits, h.passes)

-- ---- the frame that is dropped

-- what stands behind the frame, and how long it is, where a body is found that ends before this index
pub dropped_is : (bytes found text rest : List ℕ) (end : ℕ) → end ≤ length bytes
    → BeginsBody bytes found (drop end bytes) → BeginsBody bytes text rest
    → (drop end bytes ≡ rest) × (length (body_frame text) ≡ end)
dropped_is bytes found text rest end within here b =
    let same = same_body found text (drop end bytes) rest here.is_text b.is_text (sym here.whole ∙ b.whole) in (
      same.1,
      omega (
        arith,
        within,
        ap length b.whole,
        length-append (body_frame text) rest,
        ap length same.1,
        length-drop end bytes,
      ),
    )
