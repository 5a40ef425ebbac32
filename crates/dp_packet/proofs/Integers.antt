-- The decimal of an integer spells that integer, as crates that read what this one writes need it.
use Rattle.std.proofs.Common.{◌≡◌, ℕ, zero, suc, ℤ, pos, negsuc, ◌^◌, ◌<◌, ◌==◌, Bool, true, false, ◌||◌, cond, List, [], ◌∷◌, length, get_or, Some, nat_lt, nat_eq, refl, ap, ◌∙◌, rules, arith, decimal}
use Rattle.std.proofs.lemmas.Bool.Decides.{nat_tests}
use Rattle.std.proofs.lemmas.Bool.{ltb-true}
use Rattle.std.proofs.lemmas.Fmt.{decimal_is_IsNumeral, first_decimal, decimal_digit, digits_decimal, digits_value-decimal}
use Rattle.std.proofs.lemmas.Str.Parse.{IsNumeralModel, numerals_by_value}
use Rattle.std.specs.Char.{is_ascii_digit}
use Rattle.std.specs.Cmp.Lexicographic.{pointwise}
use Rattle.std.specs.List.{list_all}
use Rattle.std.specs.Fmt.{signed_decimal}
use Rattle.std.specs.Str.Parse.{digits_value, signed_digits_value}
use Rattle.dp_bytes.specs.IntText.{is_positive, is_in_64_bits, is_int_form, int_of_text}

pub own : IsNumeralModel (λ ds. list_all is_ascii_digit ds ≡ true) (digits_value 10)
own = numerals_by_value (λ ds. list_all is_ascii_digit ds ≡ true) (search rules)

-- ---- numbers

pub positive : (n : ℕ) → 0 < n → n < 2 ^ 64 → is_positive (decimal n) ≡ true
positive n some small =
    by (decimal n) (digits_decimal own n small) (first_decimal n some small) (decimal_is_IsNumeral n small).0.0 where
      by : (ds : List ℕ) → list_all is_ascii_digit ds ≡ true → 48 < get_or ds 0 0 → 0 < length ds →
          is_positive ds ≡ true
      by [] all first more = absurd (omega arith)
      by (c ∷ cs) all first more =
          let no : (c == 48) ≡ false = grind (arith, nat_tests) in
          rw (no, all) refl

pub or_true : (b : Bool) → (b || true) ≡ true
or_true true = refl
or_true false = refl

pub zero_text : decimal 0 ≡ 48 ∷ []
zero_text = decimal_digit 0 (omega arith)

positive_int : (ds : List ℕ) (n : ℕ) → is_positive ds ≡ true → 48 < get_or ds 0 0 → digits_value 10 ds ≡ n
    → nat_lt n (2 ^ 63) ≡ true → int_of_text ds ≡ Some (pos n)
positive_int [] n form first value within = absurd cc
positive_int (c ∷ cs) n form first value within =
    let minus : (c == 45) ≡ false = grind (arith, nat_tests) in
    let plus : (c == 43) ≡ false = grind (arith, nat_tests) in
    let text : List ℕ = c ∷ cs in
    let is_zero = pointwise nat_eq text (48 ∷ []) in
    let is_form : is_int_form text ≡ true = ap (λ m. is_zero || is_positive (cond m cs text)) minus
    ∙ ap (λ v. is_zero || v) form ∙ or_true is_zero in
    let number : signed_digits_value 10 text ≡ pos n = rw (minus, plus) (ap pos value) in
    rw (is_form, number, within) refl

pub int_is : (i : ℤ) → is_in_64_bits i ≡ true → int_of_text (signed_decimal i) ≡ Some i
int_is (pos zero) within = rw zero_text refl
int_is (pos (suc n)) within =
    let less : suc n < 2 ^ 63 = ltb-true (suc n) (2 ^ 63) within in
    positive_int (decimal (suc n)) (suc n) (positive (suc n) (omega arith) (omega arith))
    (first_decimal (suc n) (omega arith) (omega arith)) (digits_value-decimal own (suc n) (omega arith)) within
int_is (negsuc n) within =
    let less : n < 2 ^ 63 = ltb-true n (2 ^ 63) within in
    let value : digits_value 10 (decimal (suc n)) ≡ suc n = digits_value-decimal own (suc n) (omega arith) in
    let form : is_positive (decimal (suc n)) ≡ true = positive (suc n) (omega arith) (omega arith) in
    rw (form, value, within) refl
