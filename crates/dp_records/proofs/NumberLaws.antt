-- The status of a last line is written in decimal, and read as it is written.
use Rattle.std.proofs.Common.{◌≡◌, ℕ, suc, zero, ◌^◌, ◌<◌, ◌≤◌, ◌==◌, true, false, not, ◌&&◌, List, [], ◌∷◌, length}
use Rattle.std.proofs.Common.{get_or, Some, nat_le, codes, decimal, refl, sym, ap, ◌∙◌, inl, inr, arith, rules}
use Rattle.std.proofs.lemmas.Bool.{and_parts, or_cases, leb-true, le-leb, not-true, or_right}
use Rattle.std.proofs.lemmas.Bool.Decides.{nat_tests}
use Rattle.std.proofs.lemmas.Fmt.{digits_decimal, digits_value-decimal, decimal-digits_value, decimal_digit, first_decimal}
use Rattle.std.proofs.lemmas.Option.{cond_some}
use Rattle.std.proofs.lemmas.Slice.Eq.{bytes_eq-Decides}
use Rattle.std.proofs.lemmas.Str.Parse.{IsNumeralModel, numerals_by_value}
use Rattle.std.specs.Char.{is_ascii_digit}
use Rattle.std.specs.List.{list_all}
use Rattle.std.specs.Str.{bytes_eq}
use Rattle.std.specs.Str.Parse.{digits_value}
use Rattle.dp_bytes.specs.Decimals.{is_decimal, decimal_in}
use Rattle.dp_bytes.specs.IntText.{is_positive}
use Rattle.dp_records.specs.inner.Audits.{has_no_feed}

abbrev Digits : List ℕ → Type 0
Digits ds = list_all is_ascii_digit ds ≡ true

own : IsNumeralModel Digits (digits_value 10)
own = numerals_by_value Digits (search rules)

first_not : (ds : List ℕ) → 48 < get_or ds 0 0 → Digits ds → is_positive ds ≡ true
first_not [] first all = absurd (omega arith)
first_not (d ∷ ds) first all = let other : (d == 48) ≡ false = grind (arith, nat_tests) in rw (other, all) refl

positive : (n : ℕ) → 0 < n → n < 2 ^ 64 → is_positive (decimal n) ≡ true
positive n some small = first_not (decimal n) (first_decimal n some small) (digits_decimal own n small)

zero_text : decimal 0 ≡ 48 ∷ []
zero_text = decimal_digit 0 (omega arith)

decimal_decimal : (n : ℕ) → n < 2 ^ 64 → is_decimal (decimal n) ≡ true
decimal_decimal zero small = rw zero_text refl
decimal_decimal (suc n) small =
    or_right (bytes_eq (decimal (suc n)) (codes "0")) (is_positive (decimal (suc n)))
    (positive (suc n) (omega arith) small)

pub number_again : (most n : ℕ) → n ≤ most → most < 2 ^ 64 → decimal_in most (decimal n) ≡ Some n
unfolding decimal_in
number_again most n within small =
    let less : n < 2 ^ 64 = omega arith in
    let value : digits_value 10 (decimal n) ≡ n = digits_value-decimal own n less in
    let fits : nat_le n most ≡ true = le-leb n most within in
    rw (decimal_decimal n less, value, fits) refl

-- two numbers with one text are the same
pub one_number : (n m : ℕ) → n < 2 ^ 64 → m < 2 ^ 64 → decimal n ≡ decimal m → n ≡ m
one_number n m small other same =
    sym (digits_value-decimal own n small) ∙ ap (digits_value 10) same ∙ digits_value-decimal own m other

pub record IsNumber (most : ℕ) (text : List ℕ) (n : ℕ) : Type 0 where
  pub spelled : text ≡ decimal n
  pub within : n ≤ most

positive_digits : (text : List ℕ) → is_positive text ≡ true
    → Digits text × (0 < length text) × (get_or text 0 0 ≡ 48 → length text ≡ 1)
positive_digits [] h = absurd cc
positive_digits (c ∷ cs) h =
    let parts = and_parts (not (c == 48)) (list_all is_ascii_digit (c ∷ cs)) h in
    let other : (c == 48) ≡ false = not-true _ parts.0 in
    (parts.1, omega arith, λ e. let yes : (c == 48) ≡ true = grind (arith, nat_tests) in absurd (cc))

spelled_again : (text : List ℕ) → is_decimal text ≡ true → digits_value 10 text < 2 ^ 64
    → text ≡ decimal (digits_value 10 text)
spelled_again text h small = elim (or_cases (bytes_eq text (codes "0")) (is_positive text) h) [
  | inl none ↦ let same : text ≡ codes "0" = (bytes_eq-Decides text (codes "0")).0 none in rw same (sym zero_text)
  | inr some ↦ let d = positive_digits text some in sym (decimal-digits_value own text d.0 d.1 d.2 small)
]

pub number_is : (most n : ℕ) (text : List ℕ) → most < 2 ^ 64 → decimal_in most text ≡ Some n → IsNumber most text n
unfolding decimal_in
number_is most n text small e =
    let parts = cond_some (is_decimal text && nat_le (digits_value 10 text) most) (digits_value 10 text) n e in
    let tests = and_parts (is_decimal text) (nat_le (digits_value 10 text) most) parts.0 in
    let within : digits_value 10 text ≤ most = leb-true _ _ tests.1 in
    record {
      spelled = spelled_again text tests.0 (omega arith) ∙ ap decimal parts.1;
      within = let same = parts.1 in omega arith;
    }

no_feed_digit : (c : ℕ) → is_ascii_digit c ≡ true → (c == 10) ≡ false
no_feed_digit c d = grind (arith, nat_tests)

no_feeds : (ds : List ℕ) → Digits ds → has_no_feed ds ≡ true
no_feeds [] all = refl
no_feeds (d ∷ ds) all =
    let parts = and_parts (is_ascii_digit d) (list_all is_ascii_digit ds) all in
    rw (no_feed_digit d parts.0, no_feeds ds parts.1) refl

pub number_no_feed : (n : ℕ) → n < 2 ^ 64 → has_no_feed (decimal n) ≡ true
number_no_feed n small = no_feeds (decimal n) (digits_decimal own n small)
