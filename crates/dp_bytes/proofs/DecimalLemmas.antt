-- Decimals, as they are parsed and as they are written.
use Rattle.std.proofs.Common.{◌≡◌, ℕ, ◌^◌, ◌<◌, ◌≤◌, ◌==◌, Bool, true, false, not, ◌&&◌, ◌||◌, List, [], ◌∷◌, length, Some, None, Result, Ok, Err, Bor, nat_le, refl, ap, ◌∙◌, rules, arith}
use Rattle.std.proofs.lemmas.Bool.Decides.{nat_tests, Decides-eqb}
use Rattle.std.proofs.lemmas.Fmt.{IsAscii-from_digits}
use Rattle.std.proofs.lemmas.Str.{IsUtf8-from_ascii}
use Rattle.std.proofs.lemmas.Str.Parse.{IsNumeralModel, numerals_by_value, parse_digits}
use Rattle.std.specs.Char.{is_ascii_digit}
use Rattle.std.specs.List.{list_all}
use Rattle.std.proofs.lemmas.Option.{same_Some}
use Rattle.std.specs.Result.{MatchResult, is_ok, result_ok, OkIff}
use Rattle.std.specs.Str.{IsUtf8}
use Rattle.std.specs.Str.Parse.{ParsesUnsigned, digits_value}
use Rattle.std.specs.Str.{bytes_eq}
use Rattle.dp_bytes.specs.Decimals.{is_decimal, decimal_in}

own : IsNumeralModel (λ ds. list_all is_ascii_digit ds ≡ true) (digits_value 10)
own = numerals_by_value (λ ds. list_all is_ascii_digit ds ≡ true) (search rules)

zero_digits : (c : ℕ) (cs : List ℕ) → c ≡ 48 → bytes_eq cs [] ≡ true → list_all is_ascii_digit (c ∷ cs) ≡ true
zero_digits c [] zero end = rw zero refl
zero_digits c (d ∷ cs) zero end = absurd cc

digits_by : (c : ℕ) (cs : List ℕ) (b : Bool) → (c == 48) ≡ b
    → ((b && bytes_eq cs []) || (not b && list_all is_ascii_digit (c ∷ cs))) ≡ true
    → list_all is_ascii_digit (c ∷ cs) ≡ true
digits_by c cs true is h = zero_digits c cs ((Decides-eqb c 48).0 is) (last (bytes_eq cs []) h) where
  last : (b : Bool) → (b || false) ≡ true → b ≡ true
  last true h = refl
  last false h = h
digits_by c cs false is h = h

pub digits_of : (bs : List ℕ) → is_decimal bs ≡ true → list_all is_ascii_digit bs ≡ true
digits_of [] h = absurd cc
digits_of (c ∷ cs) h = digits_by c cs (c == 48) refl h

some_digits : (bs : List ℕ) → is_decimal bs ≡ true → 0 < length bs
some_digits [] h = absurd cc
some_digits (c ∷ cs) h = omega arith

decimal_is_text : (bs : List ℕ) → is_decimal bs ≡ true → IsUtf8 bs
decimal_is_text bs h = IsUtf8-from_ascii bs (IsAscii-from_digits bs (own.to bs (digits_of bs h)))

-- a decimal is a text
pub never : {E : Type 0} (P : E → Type 0) (bs : List ℕ) (r : Result (Bor (List ℕ)) E)
    → MatchResult r (λ s. (s.now ≡ bs) × IsUtf8 bs) (λ e. ¬ (IsUtf8 bs) × P e) → false ≡ is_ok r → is_decimal bs ≡ true
    → ⊥
never P bs (Ok s) says h d = cc
never P bs (Err e) says h d = says.0 (decimal_is_text bs d)

pub same_bytes : {E : Type 0} (P : E → Type 0) (bs : List ℕ) (r : Result (Bor (List ℕ)) E) (t : Bor (List ℕ))
    → MatchResult r (λ s. (s.now ≡ bs) × IsUtf8 bs) (λ e. ¬ (IsUtf8 bs) × P e) → Some t ≡ result_ok r → t.now ≡ bs
same_bytes P bs (Ok s) t says h = ap (λ (x : Bor (List ℕ)). x.now) (same_Some t s h) ∙ says.0
same_bytes P bs (Err e) t says h = absurd cc

too_great : (bs : List ℕ) (most : ℕ) → is_decimal bs ≡ true → most < digits_value 10 bs → decimal_in most bs ≡ None
unfolding decimal_in
too_great bs most h less =
    let no : nat_le (digits_value 10 bs) most ≡ false = grind (arith, nat_tests) in
    rw (h, no) refl

refused_is_great : (bs : List ℕ) → ¬ ((0 < length bs) × (digits_value 10 bs < 2 ^ 64)) → 0 < length bs
    → 2 ^ 64 ≤ digits_value 10 bs
refused_is_great bs refused some = by (digits_value 10 bs) (λ less. refused (some, less)) where
  by : (n : ℕ) → ¬ (n < 2 ^ 64) → 2 ^ 64 ≤ n
  by n not_less = omega arith

pub not_parsed : {E : Type 0} (bs : List ℕ) (most : ℕ) (r : Result ℕ E) → is_decimal bs ≡ true
    → ParsesUnsigned 64 10 bs r → most < 2 ^ 64 → false ≡ is_ok r → decimal_in most bs ≡ None
not_parsed {E} bs most r h says small is = by r (parse_digits own 64 bs r says (digits_of bs h)) is where
  by : (r : Result ℕ E) → OkIff r ((0 < length bs) × (digits_value 10 bs < 2 ^ 64)) (digits_value 10 bs)
      → false ≡ is_ok r → decimal_in most bs ≡ None
  by (Ok n) all is = absurd cc
  by (Err e) refused is = too_great bs most h (omega (arith, refused_is_great bs refused (some_digits bs h)))
