-- Digits of a number that does not begin with 0.
use Rattle.std.proofs.Common.{◌≡◌, ℕ, ◌^◌, ◌<◌, ◌==◌, true, false, not, List, [], ◌∷◌, ◌++◌, length, get_or, decimal, refl, sym, arith, rules}
use Rattle.std.proofs.lemmas.Bool.{and_parts, not-true}
use Rattle.std.proofs.lemmas.Bool.Decides.{nat_tests}
use Rattle.std.proofs.lemmas.Fmt.{digits_decimal, decimal-digits_value, first_decimal}
use Rattle.std.proofs.lemmas.Str.Parse.{IsNumeralModel, numerals_by_value}
use Rattle.std.specs.Char.{is_ascii_digit}
use Rattle.std.specs.List.{list_all}
use Rattle.std.specs.Str.Parse.{digits_value}
use Rattle.dp_bytes.specs.IntText.{is_positive}

abbrev pub Digits : List ℕ → Type 0
Digits ds = list_all is_ascii_digit ds ≡ true

own : IsNumeralModel Digits (digits_value 10)
own = numerals_by_value Digits (search rules)

first_not : (ds : List ℕ) → 48 < get_or ds 0 0 → Digits ds → is_positive ds ≡ true
first_not [] first all = absurd (omega arith)
first_not (d ∷ ds) first all = let other : (d == 48) ≡ false = grind (arith, nat_tests) in rw (other, all) refl

pub positive : (n : ℕ) → 0 < n → n < 2 ^ 64 → is_positive (decimal n) ≡ true
positive n some small = first_not (decimal n) (first_decimal n some small) (digits_decimal own n small)

pub positive_digits : (text : List ℕ) → is_positive text ≡ true
    → Digits text × (0 < length text) × (get_or text 0 0 ≡ 48 → length text ≡ 1)
positive_digits [] h = absurd cc
positive_digits (c ∷ cs) h =
    let parts = and_parts (not (c == 48)) (list_all is_ascii_digit (c ∷ cs)) h in
    let other : (c == 48) ≡ false = not-true _ parts.0 in
    (parts.1, omega arith, λ e. let yes : (c == 48) ≡ true = grind (arith, nat_tests) in absurd (cc))

pub spelled_again : (text : List ℕ) → is_positive text ≡ true → digits_value 10 text < 2 ^ 64
    → text ≡ decimal (digits_value 10 text)
spelled_again text some small =
    let d = positive_digits text some in sym (decimal-digits_value own text d.0 d.1 d.2 small)

-- a front of such digits, with one at least
front_digits : (front more : List ℕ) → Digits (front ++ more) → Digits front
front_digits [] more h = refl
front_digits (c ∷ front) more h =
    let parts = and_parts (is_ascii_digit c) (list_all is_ascii_digit (front ++ more)) h in
    rw (parts.0, front_digits front more parts.1) refl

pub positive_front : (c : ℕ) (front more : List ℕ) → is_positive (c ∷ front ++ more) ≡ true
    → is_positive (c ∷ front) ≡ true
positive_front c front more h =
    let parts = and_parts (not (c == 48)) (list_all is_ascii_digit (c ∷ front ++ more)) h in
    rw (parts.0, front_digits (c ∷ front) more parts.1) refl
