-- What `parse` gives for a text of the form of an integer.
use Rattle.std.proofs.Common.{◌≡◌, ◌≢◌, ℕ, ℤ, pos, negsuc, ◌==◌, Bool, true, false, not, ◌&&◌, ◌||◌, cond, List, [], ◌∷◌, Some, Result, Ok, Err, nat_eq, refl, ap, sym, ◌∙◌, rules, arith, w64}
use Rattle.std.proofs.lemmas.Bool.Decides.{nat_tests, Decides-eqb}
use Rattle.std.proofs.lemmas.Fmt.{IsAscii-from_digits}
use Rattle.std.proofs.lemmas.Slice.Eq.{bytes_eq-Decides}
use Rattle.std.proofs.lemmas.Str.Ascii.{IsAscii-cons}
use Rattle.std.proofs.lemmas.Str.Parse.{IsNumeralModel, numerals_by_value, without_leading_plus_none, not_in_digits}
use Rattle.std.specs.Char.{is_ascii_digit}
use Rattle.std.specs.Cmp.Lexicographic.{pointwise}
use Rattle.std.specs.List.{list_all}
use Rattle.std.specs.Result.{result_ok}
use Rattle.std.specs.Int.RustNames.{FitsSigned}
use Rattle.std.specs.Str.{IsAscii}
use Rattle.std.specs.Str.Parse.{IsNumeral, ParsesSigned, digits_value, signed_digits_value, without_leading_sign}
use Rattle.dp_bytes.specs.IntText.{is_positive, is_int_form, is_in_64_bits, int_of_text}

own : IsNumeralModel (λ ds. list_all is_ascii_digit ds ≡ true) (digits_value 10)
own = numerals_by_value (λ ds. list_all is_ascii_digit ds ≡ true) (search rules)

second : (a b : Bool) → (a && b) ≡ true → b ≡ true
second true b h = h
second false b h = cc

positive_digits : (bs : List ℕ) → is_positive bs ≡ true → IsNumeral 10 bs
positive_digits [] h = cc
positive_digits (c ∷ cs) h =
    (omega arith, own.to (c ∷ cs) (second (not (c == 48)) (list_all is_ascii_digit (c ∷ cs)) h))

zero_digits : (bs : List ℕ) → bs ≡ 48 ∷ [] → IsNumeral 10 bs
zero_digits bs h = rw h (omega arith, own.to (48 ∷ []) refl)

-- the numeral of a text of the form of an integer, and its bytes
record Formed (bs : List ℕ) : Type 0 where
  numeral : IsNumeral 10 (without_leading_sign bs)
  ascii : IsAscii bs

first_digit : (c : ℕ) (cs : List ℕ) → IsNumeral 10 (c ∷ cs) → c ≢ 43
first_digit c cs h = not_in_digits own (c ∷ cs) 43 (own.from (c ∷ cs) h.1) (λ r. omega arith) 0 (omega arith)

without_sign : (c : ℕ) (cs : List ℕ) → c ≢ 45 → IsNumeral 10 (c ∷ cs) → without_leading_sign (c ∷ cs) ≡ c ∷ cs
without_sign c cs h n =
    let minus : (c == 45) ≡ false = grind (arith, nat_tests) in
    rw minus (without_leading_plus_none (c ∷ cs) (first_digit c cs n))

formed_plain : (c : ℕ) (cs : List ℕ) → (c == 45) ≡ false → IsNumeral 10 (c ∷ cs) → Formed (c ∷ cs)
formed_plain c cs minus n =
    let other : c ≢ 45 = λ m. let yes45 : (c == 45) ≡ true = (Decides-eqb c 45).1 m in let never : true ≡ false = sym
    yes45 ∙ minus in cc in
    record { numeral = rw (without_sign c cs other n) n; ascii = IsAscii-from_digits (c ∷ cs) n.1 }

formed_by : (c : ℕ) (cs : List ℕ) (b z : Bool) → (c == 45) ≡ b → pointwise nat_eq (c ∷ cs) (48 ∷ []) ≡ z
    → (z || is_positive (cond b cs (c ∷ cs))) ≡ true → Formed (c ∷ cs)
formed_by c cs true true minus zero h =
    let e : c ∷ cs ≡ 48 ∷ [] = (bytes_eq-Decides (c ∷ cs) (48 ∷ [])).0 zero in
    let first : c ≡ 48 = cc in
    let m : c ≡ 45 = (Decides-eqb c 45).0 minus in
    absurd (omega arith)
formed_by c cs true false minus zero h =
    let m : c ≡ 45 = (Decides-eqb c 45).0 minus in
    let n = positive_digits cs h in
    record { numeral = rw minus n; ascii = IsAscii-cons c cs (omega arith) (IsAscii-from_digits cs n.1) }
formed_by c cs false true minus zero h =
    let e : c ∷ cs ≡ 48 ∷ [] = (bytes_eq-Decides (c ∷ cs) (48 ∷ [])).0 zero in
    formed_plain c cs minus (zero_digits (c ∷ cs) e)
formed_by c cs false false minus zero h = formed_plain c cs minus (positive_digits (c ∷ cs) h)

formed : (bs : List ℕ) → is_int_form bs ≡ true → Formed bs
formed [] h = cc
formed (c ∷ cs) h = formed_by c cs (c == 45) (pointwise nat_eq (c ∷ cs) (48 ∷ [])) refl refl h

pub form-IsAscii : (bs : List ℕ) → is_int_form bs ≡ true → IsAscii bs
form-IsAscii bs h = (formed bs h).ascii

pub in_range_Fits : (z : ℤ) → is_in_64_bits z ≡ true → FitsSigned w64 z
in_range_Fits (pos n) h = search rules
in_range_Fits (negsuc n) h = search rules

pub Fits-in_range : (z : ℤ) → FitsSigned w64 z → is_in_64_bits z ≡ true
Fits-in_range (pos n) h = search rules
Fits-in_range (negsuc n) h = search rules

not_in_range : (bs : List ℕ) (b : Bool) → is_in_64_bits (signed_digits_value 10 bs) ≡ b
    → ¬ (IsNumeral 10 (without_leading_sign bs) × FitsSigned w64 (signed_digits_value 10 bs)) →
    IsNumeral 10 (without_leading_sign bs) → b ≡ false
not_in_range bs false e refused numeral = refl
not_in_range bs true e refused numeral = absurd (refused (numeral, in_range_Fits (signed_digits_value 10 bs) e))

pub parsed_int : {E : Type 0} (bs : List ℕ) (r : Result ℤ E) → is_int_form bs ≡ true → ParsesSigned w64 10 bs r
    → result_ok r ≡ int_of_text bs
parsed_int bs (Ok z) form says = rw (form, Fits-in_range (signed_digits_value 10 bs) says.0.1) (ap Some says.1)
parsed_int bs (Err e) form refused =
    rw (form, not_in_range bs (is_in_64_bits (signed_digits_value 10 bs)) refl refused (formed bs form).numeral)
