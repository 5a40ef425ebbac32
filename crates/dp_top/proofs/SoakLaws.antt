-- The program of a soak has the name of a file, and the words ask for a number of sessions in its limits.
use Rattle.std.proofs.Common.{◌≡◌, ℕ, zero, suc, ◌<◌, ◌≤◌, Bool, true, false, ◌&&◌, List, [], ◌∷◌, All, Option, Some, None, refl, ap, arith, codes}
use Rattle.std.specs.Prelude.{◌≢◌, cond, nat_le}
use Rattle.std.specs.List.{IsDistinct}
use Rattle.std.specs.Option.{option_map_or}
use Rattle.std.specs.Str.Parse.{digits_value}
use Rattle.std.proofs.lemmas.Bool.Decides.{nat_tests}
use Rattle.std.proofs.lemmas.Str.{IsUtf8-from_ascii}
use Rattle.std.proofs.lemmas.Str.Ascii.{IsAscii-from_all}
use Rattle.dp_bundle.specs.Bundles.{AreForBundle}
use Rattle.dp_tree.specs.FileNames.{IsFileName}
use Rattle.dp_bytes.specs.Decimals.{decimal_in, is_decimal}
use Rattle.dp_words.specs.Words.{not_zero, session_count_of, soak_limit}
use Rattle.dp_top.specs.Soak.{soak_file}

-- ---- the name

all_nil : {A : Type 0} (P : A → Type 0) → All P []
all_nil P k d below = absurd (omega (arith, below))

all_cons : {A : Type 0} (P : A → Type 0) (x : A) (xs : List A) → P x → All P xs → All P (x ∷ xs)
all_cons P x xs h t zero d below = h
all_cons P x xs h t (suc k) d below = t k d (omega (arith, below))

-- what holds of each letter of the name holds of all
all_eight : (P : ℕ → Type 0) → P 115 → P 111 → P 97 → P 107 → P 46 → P 112 → P 104 → P 112 → All P (codes "soak.php")
all_eight P s o a k point p h q =
    all_cons P 115 (111 ∷ 97 ∷ 107 ∷ 46 ∷ 112 ∷ 104 ∷ 112 ∷ []) s
    (all_cons P 111 (97 ∷ 107 ∷ 46 ∷ 112 ∷ 104 ∷ 112 ∷ []) o
    (all_cons P 97 (107 ∷ 46 ∷ 112 ∷ 104 ∷ 112 ∷ []) a
    (all_cons P 107 (46 ∷ 112 ∷ 104 ∷ 112 ∷ []) k
    (all_cons P 46 (112 ∷ 104 ∷ 112 ∷ []) point
    (all_cons P 112 (104 ∷ 112 ∷ []) p
    (all_cons P 104 (112 ∷ []) h
    (all_cons P 112 [] q
    (all_nil P))))))))

is_file_name : IsFileName (codes "soak.php")
is_file_name = record {
  some = omega arith;
  short = omega arith;
  text = IsUtf8-from_ascii (codes "soak.php") (IsAscii-from_all (codes "soak.php")
      (all_eight (λ b. b < 128) (omega arith) (omega arith) (omega arith) (omega arith) (omega arith) (omega arith)
      (omega arith) (omega arith)));
  bare = all_eight (λ b. b ≢ 0) (λ e. omega (arith, e)) (λ e. omega (arith, e)) (λ e. omega (arith, e))
      (λ e. omega (arith, e)) (λ e. omega (arith, e)) (λ e. omega (arith, e)) (λ e. omega (arith, e))
      (λ e. omega (arith, e));
}

pub one_file : AreForBundle (soak_file ∷ [])
unfolding IsDistinct
one_file = record {
  some = omega arith;
  few = omega arith;
  named = all_cons IsFileName (codes "soak.php") [] is_file_name (all_nil IsFileName);
  apart = (tt, tt);
}

-- ---- the number of sessions

both : (a b : Bool) → (a && b) ≡ true → (a ≡ true) × (b ≡ true)
both false b h = absurd cc
both true b h = (refl, h)

pub decimal_below : (most n : ℕ) (word : List ℕ) → decimal_in most word ≡ Some n → n ≤ most
unfolding decimal_in
decimal_below most n word e = by (is_decimal word && nat_le (digits_value 10 word) most) refl e where
  by : (t : Bool) → (is_decimal word && nat_le (digits_value 10 word) most) ≡ t
      → cond t (Some (digits_value 10 word)) None ≡ Some n → n ≤ most
  by false is none = absurd cc
  by true is some =
      let fits : nat_le (digits_value 10 word) most ≡ true = (both (is_decimal word)
      (nat_le (digits_value 10 word) most) is).1 in
      let small : digits_value 10 word ≤ most = grind (arith, nat_tests, fits) in
      let same : digits_value 10 word ≡ n = ap (λ (o : Option ℕ). option_map_or (λ x. x) o 0) some in
      omega (arith, small, same)

pub count_within : (word : List ℕ) (count : ℕ) → session_count_of word ≡ Some count → (1 ≤ count) × (count ≤ soak_limit)
count_within word count e = by (decimal_in soak_limit word) refl e where
  by : (o : Option ℕ) → decimal_in soak_limit word ≡ o → not_zero o ≡ Some count
      → (1 ≤ count) × (count ≤ soak_limit)
  by None is none = absurd cc
  by (Some zero) is none = absurd cc
  by (Some (suc n)) is some =
      let same : suc n ≡ count = ap (λ (o : Option ℕ). option_map_or (λ x. x) o 0) some in
      (omega (arith, same), (let small = decimal_below soak_limit (suc n) word is in omega (arith, small, same)))
