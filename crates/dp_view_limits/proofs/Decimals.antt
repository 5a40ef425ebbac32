-- How long decimals are where they are escaped: no digit is.
use Rattle.std.proofs.Common.{◌≡◌, ℕ, ◌+◌, ◌/◌, ◌%◌, ◌^◌, ◌<◌, ◌≤◌, ◌==◌, List, [], ◌∷◌, ◌++◌, length, false, true, nat_lt, decimal, refl, ap, ◌∙◌, arith, length-append}
use Rattle.std.proofs.lemmas.Bool.Decides.{nat_tests}
use Rattle.std.proofs.lemmas.Fmt.{decimal_by_steps, decimal_digit, decimal_step, length-decimal-le}
use Rattle.dp_markup.specs.Escapes.{escaped}
use Rattle.dp_view_limits.specs.inner.Sizes.{text_size}
use Rattle.dp_view_limits.proofs.Lengths.{text_size-append}

-- a digit stands for itself
itself : (d : ℕ) → d < 10 → escaped (48 + d) ≡ (48 + d) ∷ []
itself d small =
    let a : (48 + d == 38) ≡ false = grind (arith, nat_tests) in
    let b : (48 + d == 60) ≡ false = grind (arith, nat_tests) in
    let c : (48 + d == 62) ≡ false = grind (arith, nat_tests) in
    let e : (48 + d == 34) ≡ false = grind (arith, nat_tests) in
    let f : (48 + d == 39) ≡ false = grind (arith, nat_tests) in
    let g : nat_lt 31 (48 + d) ≡ true = grind (arith, nat_tests) in
    let h : nat_lt (48 + d) 127 ≡ true = grind (arith, nat_tests) in
    rw (a, b, c, e, f, g, h) refl

one_digit : (d : ℕ) → d < 10 → text_size ((48 + d) ∷ []) ≡ 1
one_digit d small = ap (λ (l : List ℕ). length (l ++ [])) (itself d small)

pub digit_size : (n : ℕ) → n < 10 → text_size (decimal n) ≡ 1
digit_size n small = ap text_size (decimal_digit n small) ∙ one_digit n small

pub one_more : (n : ℕ) → 10 ≤ n → n < 2 ^ 64 → text_size (decimal n) ≡ text_size (decimal (n / 10)) + 1
one_more n more small =
    let last : n % 10 < 10 = omega arith in
    let parts = text_size-append (decimal (n / 10)) ((48 + n % 10) ∷ []) in
    omega (arith, ap text_size (decimal_step n more small), parts, one_digit (n % 10) last)

same : (n : ℕ) → n < 2 ^ 64 → text_size (decimal n) ≡ length (decimal n)
same =
    decimal_by_steps (λ n ds. text_size ds ≡ length ds) (λ n small. one_digit n small)
    (λ n ds more is. digits_then n ds is)
  where
    digits_then : (n : ℕ) (ds : List ℕ) → text_size ds ≡ length ds
        → text_size (ds ++ ((48 + n % 10) ∷ [])) ≡ length (ds ++ ((48 + n % 10) ∷ []))
    digits_then n ds is =
        let last : n % 10 < 10 = omega arith in
        omega (
          arith,
          is,
          text_size-append ds ((48 + n % 10) ∷ []),
          one_digit (n % 10) last,
          length-append ds ((48 + n % 10) ∷ []),
        )

pub short : (n : ℕ) → n < 2 ^ 64 → text_size (decimal n) ≤ 20
short n small = omega (arith, same n small, length-decimal-le 20 n (omega arith) (omega arith) small)
