-- Bytes in hexadecimal: digits with small letters spell bytes exactly where they are how these are spelled.
use Rattle.std.proofs.Common.{◌≡◌, ℕ, zero, suc, ◌+◌, ◌-◌, ◌*◌, ◌/◌, ◌%◌, ◌<◌, ◌≤◌, ◌==◌, Bool, true, false, ◌&&◌, List, [], ◌∷◌, length, nat_le, Option, Some, None, Result, Ok, Err, refl, sym, ap, ◌∙◌, inl, inr, arith, slice_index}
use Rattle.std.specs.Prelude.{if◌then◌else◌}
use Rattle.std.proofs.lemmas.Bool.{and_parts, cases_lt, eqb-true, le-leb, leb-true, or_cases}
use Rattle.std.proofs.lemmas.Bool.Decides.{nat_tests}
use Rattle.std.specs.List.{AllByRecursion, list_all}
use Rattle.std.specs.Result.{result_unwrap_or}
use Rattle.hex.specs.Hex.{IsBytes, decode_of, decode_pairs, digit_or_error, encode_lower, encode_with, hex_digit_value, lower_digits, pair_value, value_at, ◌>>=◌}
use Rattle.hex.specs.declared.error.FromHexError.{FromHexError}
use Rattle.hex.specs.declared.error.FromHexError.TheVariants.{OddLength}
use Rattle.hex.proofs.HexLemmas.{decode_of-encode_lower, decode_pairs-ok, length-encode_with}
use Rattle.dp_records.specs.inner.Audits.{has_no_feed}
use Rattle.dp_records.specs.Records.{IsPiece, piece_limit}
use Rattle.dp_records.specs.inner.Readings.{is_small_digit}

-- ---- bytes

bytes_cons : (b : ℕ) (bs : List ℕ) → b < 256 → IsBytes bs → IsBytes (b ∷ bs)
bytes_cons b bs h hs zero = h
bytes_cons b bs h hs (suc i) = hs i

pub bytes_are : (bs : List ℕ) → AllByRecursion (λ b. b < 256) bs → IsBytes bs
bytes_are [] all = λ i. omega arith
bytes_are (b ∷ bs) all = bytes_cons b bs all.0 (bytes_are bs all.1)

pub bytes_all : (bs : List ℕ) → IsBytes bs → AllByRecursion (λ b. b < 256) bs
bytes_all [] is = tt
bytes_all (b ∷ bs) is = (is 0, bytes_all bs (λ i. is (suc i)))

-- two lists of bytes that are spelled alike are the same
pub one_spelling : (a b : List ℕ) → AllByRecursion (λ c. c < 256) a → AllByRecursion (λ c. c < 256) b
    → encode_lower a ≡ encode_lower b → a ≡ b
one_spelling a b p q same =
    let both : Ok a ≡ Ok b =
    sym (decode_of-encode_lower a (bytes_are a p)) ∙ ap decode_of same ∙ decode_of-encode_lower b (bytes_are b q) in
    ap (λ (r : Result (List ℕ) FromHexError). result_unwrap_or r []) both

-- ---- one digit

abbrev digit : ℕ → ℕ
digit v = if nat_le v 9 then 48 + v else 87 + v

-- a test of each number below one
abbrev all_below : (ℕ → Bool) → ℕ → Bool
all_below test zero = true
all_below test (suc n) = test n && all_below test n

below_at : (test : ℕ → Bool) (n k : ℕ) → all_below test n ≡ true → k < n → test k ≡ true
below_at test zero k h lt = absurd (omega arith)
below_at test (suc n) k h lt =
    let parts = and_parts (test n) (all_below test n) h in
    elim (cases_lt k n) [
      | inl below ↦ below_at test n k parts.1 below
      | inr top ↦ let e : k ≡ n = omega arith in rw e parts.0
    ]

digit_at : (v : ℕ) → v < 16 → slice_index lower_digits v ≡ digit v
digit_at v small =
    eqb-true (slice_index lower_digits v) (digit v)
    (below_at (λ d. slice_index lower_digits d == digit d) 16 v refl small)

small_at : (v : ℕ) → v < 16 → is_small_digit (slice_index lower_digits v) ≡ true
small_at v small = below_at (λ d. is_small_digit (slice_index lower_digits d)) 16 v refl small

value_small : (c v : ℕ) → hex_digit_value c ≡ Some v → v < 16
value_small c v h = grind (arith)

figure : (c v : ℕ) → 48 ≤ c → c ≤ 57 → hex_digit_value c ≡ Some v → v ≡ c - 48
figure c v more less h = grind (arith, nat_tests)

letter : (c v : ℕ) → 97 ≤ c → c ≤ 102 → hex_digit_value c ≡ Some v → v ≡ c - 87
letter c v more less h = grind (arith, nat_tests)

-- a digit with a small letter is the one that spells its value
small_digit : (c v : ℕ) → is_small_digit c ≡ true → hex_digit_value c ≡ Some v → c ≡ slice_index lower_digits v
small_digit c v is h = elim (or_cases (nat_le 48 c && nat_le c 57) (nat_le 97 c && nat_le c 102) is) [
  | inl low ↦
      let parts = and_parts (nat_le 48 c) (nat_le c 57) low in
      let more : 48 ≤ c = leb-true 48 c parts.0 in
      let less : c ≤ 57 = leb-true c 57 parts.1 in
      let value : v ≡ c - 48 = figure c v more less h in
      let small : nat_le v 9 ≡ true = le-leb v 9 (omega (arith, value, less)) in
      let spelled : digit v ≡ 48 + v = rw small refl in
      let whole : c ≡ 48 + v = omega (arith, value, more) in
      whole ∙ sym spelled ∙ sym (digit_at v (value_small c v h))
  | inr high ↦
      let parts = and_parts (nat_le 97 c) (nat_le c 102) high in
      let more : 97 ≤ c = leb-true 97 c parts.0 in
      let less : c ≤ 102 = leb-true c 102 parts.1 in
      let value : v ≡ c - 87 = letter c v more less h in
      let large : nat_le v 9 ≡ false = grind (arith, nat_tests) in
      let spelled : digit v ≡ 87 + v = rw large refl in
      let whole : c ≡ 87 + v = omega (arith, value, more) in
      whole ∙ sym spelled ∙ sym (digit_at v (value_small c v h))
]

-- ---- pairs of digits

bind_ok : {A B : Type 0} (r : Result A FromHexError) (f : A → Result B FromHexError) (y : B)
    → (r >>= f) ≡ Ok y → (x : A) × (r ≡ Ok x) × (f x ≡ Ok y)
bind_ok (Ok x) f y h = (x, refl, h)
bind_ok (Err e) f y h = cc h

digit_read : (c i : ℕ) (o : Option ℕ) (v : ℕ) → digit_or_error c i o ≡ Ok v → o ≡ Some v
digit_read c i (Some w) v h = ap Some (ap (λ (r : Result ℕ FromHexError). result_unwrap_or r 0) h)
digit_read c i None v h = cc h

spelled_pairs : (i : ℕ) (text bytes : List ℕ) → decode_pairs i text ≡ Ok bytes → list_all is_small_digit text ≡ true
    → text ≡ encode_lower bytes
unfolding decode_pairs encode_with
spelled_pairs i [] bytes h all =
    let e : [] ≡ bytes = ap (λ (r : Result (List ℕ) FromHexError). result_unwrap_or r []) h in rw (← e) refl
spelled_pairs i (a ∷ []) bytes h all = cc h
spelled_pairs i (a ∷ b ∷ rest) bytes h all =
    let one = and_parts (is_small_digit a) (is_small_digit b && list_all is_small_digit rest) all in
    let two = and_parts (is_small_digit b) (list_all is_small_digit rest) one.1 in
    let p0 = bind_ok (pair_value a b i) _ bytes h in
    let p1 = bind_ok (value_at a i) _ p0.0 p0.1 in
    let p2 = bind_ok (value_at b (i + 1)) _ p0.0 p1.2 in
    let p3 = bind_ok (decode_pairs (i + 2) rest) _ bytes p0.2 in
    let ih = spelled_pairs (i + 2) rest p3.0 p3.1 two.1 in
    let e : p0.0 ∷ p3.0 ≡ bytes = ap (λ (r : Result (List ℕ) FromHexError). result_unwrap_or r []) p3.2 in
    let va = digit_read a i (hex_digit_value a) p1.0 p1.1 in
    let vb = digit_read b (i + 1) (hex_digit_value b) p2.0 p2.1 in
    let low_small = value_small b p2.0 vb in
    let byte : p1.0 * 16 + p2.0 ≡ p0.0 = ap (λ (r : Result ℕ FromHexError). result_unwrap_or r 0) p2.2 in
    let high : p1.0 ≡ p0.0 / 16 = omega (arith, byte, low_small) in
    let low : p2.0 ≡ p0.0 % 16 = omega (arith, byte, low_small) in
    let first : a ≡ slice_index lower_digits (p0.0 / 16) = small_digit a p1.0 one.0 va ∙ ap (slice_index lower_digits)
    high in
    let second : b ≡ slice_index lower_digits (p0.0 % 16) = small_digit b p2.0 two.0 vb ∙ ap (slice_index lower_digits)
    low in
    rw (← e) (λ j. first j ∷ second j ∷ ih j)

-- digits with small letters that are decoded are how the bytes are spelled
pub spelled_so : (text bytes : List ℕ) → decode_of text ≡ Ok bytes → list_all is_small_digit text ≡ true
    → (text ≡ encode_lower bytes) × IsBytes bytes
spelled_so text bytes h all = by (length text % 2 == 1) refl where
  by : (t : Bool) → (length text % 2 == 1) ≡ t → (text ≡ encode_lower bytes) × IsBytes bytes
  by true e = let never : Err OddLength ≡ Ok bytes = rw e at h in absurd cc
  by false e =
      let pairs : decode_pairs 0 text ≡ Ok bytes = rw e at h in
      (spelled_pairs 0 text bytes pairs all, (decode_pairs-ok 0 text bytes pairs).2)

-- ---- how bytes are spelled

feed_no_digit : (d : ℕ) → is_small_digit d ≡ true → (d == 10) ≡ false
feed_no_digit d is = elim (or_cases (nat_le 48 d && nat_le d 57) (nat_le 97 d && nat_le d 102) is) [
  | inl low ↦ let more = leb-true 48 d (and_parts (nat_le 48 d) (nat_le d 57) low).0 in grind (arith, nat_tests)
  | inr high ↦ let more = leb-true 97 d (and_parts (nat_le 97 d) (nat_le d 102) high).0 in grind (arith, nat_tests)
]

-- by digits with small letters
pub digits_small : (bytes : List ℕ) → AllByRecursion (λ b. b < 256) bytes
    → list_all is_small_digit (encode_lower bytes) ≡ true
unfolding encode_with
digits_small [] all = refl
digits_small (b ∷ bytes) all =
    let small : b < 256 = all.0 in
    rw (small_at (b / 16) (omega (arith, small)), small_at (b % 16) (omega arith), digits_small bytes all.1) refl

no_feed_in : (digits : List ℕ) → list_all is_small_digit digits ≡ true → has_no_feed digits ≡ true
no_feed_in [] all = refl
no_feed_in (d ∷ digits) all =
    let parts = and_parts (is_small_digit d) (list_all is_small_digit digits) all in
    rw (feed_no_digit d parts.0, no_feed_in digits parts.1) refl

pub digits_no_feed : (bytes : List ℕ) → AllByRecursion (λ b. b < 256) bytes → has_no_feed (encode_lower bytes) ≡ true
digits_no_feed bytes all = no_feed_in (encode_lower bytes) (digits_small bytes all)

pub digits_length : (bytes : List ℕ) → length (encode_lower bytes) ≡ 2 * length bytes
digits_length bytes = length-encode_with lower_digits bytes

-- ---- digits that spell a piece

module _ (digits bytes : List ℕ) where
  pub piece_length : IsPiece bytes → digits ≡ encode_lower bytes
      → (0 < length digits) × (length digits ≤ 2 * piece_limit)
  piece_length piece is =
      let more = piece.some_byte in
      let less = piece.fits in
      let same : length digits ≡ 2 * length bytes = ap (λ (l : List ℕ). length l) is ∙ digits_length bytes in
      (omega (arith, same, more), omega (arith, same, less))

  pub piece_small : IsPiece bytes → digits ≡ encode_lower bytes → list_all is_small_digit digits ≡ true
  piece_small piece is = ap (list_all is_small_digit) is ∙ digits_small bytes piece.are_bytes

  pub piece_decoded : IsPiece bytes → digits ≡ encode_lower bytes → decode_of digits ≡ Ok bytes
  piece_decoded piece is = ap decode_of is ∙ decode_of-encode_lower bytes (bytes_are bytes piece.are_bytes)

  pub piece_found : decode_of digits ≡ Ok bytes → list_all is_small_digit digits ≡ true → 0 < length digits
      → length digits ≤ 2 * piece_limit → (digits ≡ encode_lower bytes) × IsPiece bytes
  piece_found decoded small more less =
      let spelled = spelled_so digits bytes decoded small in
      let same : length digits ≡ 2 * length bytes =
      ap (λ (l : List ℕ). length l) spelled.0 ∙ digits_length bytes in (
        spelled.0,
        record {
          some_byte = omega (arith, same, more);
          fits = omega (arith, same, less);
          are_bytes = bytes_all bytes spelled.1;
        },
      )
