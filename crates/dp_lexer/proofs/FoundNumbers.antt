-- The longest number at the front, its length and its value.
use Rattle.std.proofs.Common.{◌≡◌, ◌≢◌, inl, inr, ℕ, zero, suc, ◌+◌, ◌-◌, ◌*◌, ◌<◌, ◌≤◌, Bool, true, false, ◌&&◌, ◌||◌, ◌==◌, List, [], ◌∷◌, ◌++◌, length, take, drop, sym, refl, ap, ◌∙◌, subst, cond, arith, eqb-true, length-take-le, mul-le-mul, get_or, take-append-drop}
use Rattle.std.specs.Prelude.{nat_le}
use Rattle.std.proofs.lemmas.List.{take_more}
use Rattle.std.proofs.Math.Seq.{take-append_seam}
use Rattle.std.proofs.lemmas.Bool.Decides.{nat_tests}
use Rattle.std.specs.List.{prefix_len, fold}
use Rattle.dp_lexer.specs.Bytes.{is_digit, is_hexadecimal, begins, Each, digit_value, value_in}
use Rattle.dp_lexer.specs.Pieces.{IsDecimal, IsNumber}
use Rattle.dp_lexer.specs.inner.Lexer.{digits_len, hexadecimal_len, ended, zero_at, number_at, hexadecimal_number}
use Rattle.dp_lexer.proofs.Runs.{and_parts, other_test, false_test, two_more, run_at_least, run_within, run_passes, run_some, take_over}

-- ---- values

pub fold_over : (base n : ℕ) (xs ys : List ℕ)
    → fold (λ n d. n * base + digit_value d) n (xs ++ ys) ≡ fold (λ n d. n * base + digit_value d)
    (fold (λ n d. n * base + digit_value d) n xs) ys
fold_over base n [] ys = refl
fold_over base n (x ∷ xs) ys = fold_over base (n * base + digit_value x) xs ys

grows : (base n d : ℕ) → 1 ≤ base → n ≤ n * base + d
grows zero n d le = absurd (omega arith)
grows (suc k) n d le = grind arith

pub fold_from : (base n : ℕ) (ds : List ℕ) → 1 ≤ base → n ≤ fold (λ n d. n * base + digit_value d) n ds
fold_from base n [] le = omega arith
fold_from base n (d ∷ ds) le =
    omega (arith, grows base n (digit_value d) le, fold_from base (n * base + digit_value d) ds le)

pub value_past : (base : ℕ) (xs ys : List ℕ) → 1 ≤ base → value_in base xs ≤ value_in base (xs ++ ys)
value_past base xs ys le = omega (arith, fold_over base 0 xs ys, fold_from base (value_in base xs) ys le)

-- ---- the longest number

abbrev pub marked : ℕ → List ℕ → Bool
marked x t = x == 120 && begins is_hexadecimal t

abbrev pub zero_len : List ℕ → ℕ
zero_len [] = 1
zero_len (x ∷ t) = cond (marked x t) (2 + hexadecimal_len t) 1

abbrev pub zero_value : List ℕ → ℕ
zero_value [] = 0
zero_value (x ∷ t) = cond (marked x t) (value_in 16 (take (hexadecimal_len t) t)) 0

abbrev pub number_len : List ℕ → ℕ
number_len [] = 0
number_len (b ∷ t) = cond (b == 48) (zero_len t) (digits_len (b ∷ t))

abbrev pub number_value : List ℕ → ℕ
number_value [] = 0
number_value (b ∷ t) = cond (b == 48) (zero_value t) (value_in 10 (take (digits_len (b ∷ t)) (b ∷ t)))

drop_two : (b x k : ℕ) (u : List ℕ) → drop k u ≡ drop (2 + k) (b ∷ x ∷ u)
drop_two b x k u = ap (λ n. drop n (b ∷ x ∷ u)) (sym (two_more k))

zero_ended : (b : ℕ) (t : List ℕ) → zero_at t ≡ ended (zero_value t) (zero_len t) (drop (zero_len t) (b ∷ t))
zero_ended b [] = refl
zero_ended b (x ∷ t) = go (marked x t)
  where
    go : (k : Bool) → cond k (hexadecimal_number t) (ended 0 1 (x ∷ t)) ≡ ended
        (cond k (value_in 16 (take (hexadecimal_len t) t)) 0) (cond k (2 + hexadecimal_len t) 1)
        (drop (cond k (2 + hexadecimal_len t) 1) (b ∷ x ∷ t))
    go true =
        ap (λ r. ended (value_in 16 (take (hexadecimal_len t) t)) (2 + hexadecimal_len t) r)
        (drop_two b x (hexadecimal_len t) t)
    go false = refl

pub number_ended : (b : ℕ) (t : List ℕ)
    → number_at (b ∷ t) ≡ ended (number_value (b ∷ t)) (number_len (b ∷ t)) (drop (number_len (b ∷ t)) (b ∷ t))
number_ended b t = go (b == 48)
  where
    go : (k : Bool) → cond k (zero_at t) (ended (value_in 10 (take (digits_len (b ∷ t)) (b ∷ t))) (digits_len (b ∷ t))
        (drop (digits_len (b ∷ t)) (b ∷ t)))
        ≡ ended (cond k (zero_value t) (value_in 10 (take (digits_len (b ∷ t)) (b ∷ t))))
        (cond k (zero_len t) (digits_len (b ∷ t))) (drop (cond k (zero_len t) (digits_len (b ∷ t))) (b ∷ t))
    go true = zero_ended b t
    go false = refl

pub record NumberThere (z : List ℕ) (n len : ℕ) : Type 0 where
  pub spelled : IsNumber n (take len z)
  pub some : 1 ≤ len
  pub within : len ≤ length z

begun : (p : ℕ → Bool) (t : List ℕ) → begins p t ≡ true → 1 ≤ prefix_len p t
begun p [] e = absurd (cc)
begun p (b ∷ t) e = omega (arith, run_some p b t e)

zero_there : (t : List ℕ) → NumberThere (48 ∷ t) (zero_value t) (zero_len t)
zero_there [] = record { spelled = inl ((refl, tt, λ _. refl), refl); some = omega arith; within = omega arith }
zero_there (x ∷ t) = go (marked x t) refl
  where
    go : (k : Bool) → marked x t ≡ k
        → NumberThere (48 ∷ x ∷ t) (cond k (value_in 16 (take (hexadecimal_len t) t)) 0)
        (cond k (2 + hexadecimal_len t) 1)
    go false e = record { spelled = inl ((refl, tt, λ _. refl), refl); some = omega arith; within = omega arith }
    go true e =
        let m = and_parts (x == 120) (begins is_hexadecimal t) e in
        let text_is : take (2 + hexadecimal_len t) (48 ∷ x ∷ t) ≡ 48 ∷ 120
        ∷ take (hexadecimal_len t) t = ap (λ k. take k (48 ∷ x ∷ t)) (two_more (hexadecimal_len t))
        ∙ ap (λ y. 48 ∷ y ∷ take (hexadecimal_len t) t) (eqb-true x 120 m.0) in
        record {
          spelled =
              inr (
                take (hexadecimal_len t) t,
                text_is,
                omega (
                  arith,
                  begun is_hexadecimal t m.1,
                  length-take-le (hexadecimal_len t) t
                      (run_within is_hexadecimal t),
                ),
                run_passes is_hexadecimal t,
                refl,
              );
          some = omega arith;
          within = omega (arith, run_within is_hexadecimal t);
        }

pub number_there : (b : ℕ) (t : List ℕ) → is_digit b ≡ true
    → NumberThere (b ∷ t) (number_value (b ∷ t)) (number_len (b ∷ t))
number_there b t is = go (b == 48) refl
  where
    go : (k : Bool) → (b == 48) ≡ k
        → NumberThere (b ∷ t) (cond k (zero_value t) (value_in 10 (take (digits_len (b ∷ t)) (b ∷ t))))
        (cond k (zero_len t) (digits_len (b ∷ t)))
    go true e = subst (λ x. NumberThere (x ∷ t) (zero_value t) (zero_len t)) (sym (eqb-true b 48 e)) (zero_there t)
    go false e =
        let size = run_some is_digit b t is in
        let decimal : IsDecimal (b ∷ take (digits_len t) t) =
        (is, run_passes is_digit t, λ same. absurd (false_test b 48 e same)) in
        record {
          spelled = inl (subst (λ k. IsDecimal (take k (b ∷ t))) (sym size) decimal, refl);
          some = omega (arith, size);
          within = run_within is_digit (b ∷ t);
        }

-- what a number at the front says of the longest one
pub record NumberMost (n : ℕ) (u z : List ℕ) : Type 0 where
  pub at_least : length u ≤ number_len z
  pub value : length u ≡ number_len z → n ≡ number_value z
  pub no_less : n ≤ number_value z
  pub digit : begins is_digit z ≡ true

zero_most : (more : List ℕ) → NumberMost 0 (48 ∷ []) (48 ∷ more)
zero_most [] = record { at_least = omega arith; value = λ _. refl; no_less = omega arith; digit = refl }
zero_most (x ∷ t) = go (marked x t) refl
  where
    go : (k : Bool) → marked x t ≡ k → NumberMost 0 (48 ∷ []) (48 ∷ x ∷ t)
    go true e = let size : zero_len (x ∷ t) ≡ 2 + hexadecimal_len t = ap (λ k. cond k (2 + hexadecimal_len t) 1) e in
        record {
          at_least = omega (arith, size);
          value = λ s. absurd
              (omega (arith, size, s));
          no_less = omega arith;
          digit = refl;
        }
    go false e = let size : zero_len (x ∷ t) ≡ 1 = ap (λ k. cond k (2 + hexadecimal_len t) 1) e in
        record {
          at_least = omega (arith, size);
          value = λ s. sym
              (ap (λ k. cond k (value_in 16 (take (hexadecimal_len t) t)) 0) e);
          no_less = omega arith;
          digit = refl;
        }

digits_are : (b : ℕ) (bs : List ℕ) → IsDecimal (b ∷ bs) → Each is_digit (b ∷ bs)
digits_are b bs h = (h.0, h.1)

decimal_most : (b : ℕ) (bs more : List ℕ) → IsDecimal (b ∷ bs) → b ≢ 48
    → NumberMost (value_in 10 (b ∷ bs)) (b ∷ bs) ((b ∷ bs) ++ more)
decimal_most b bs more h other =
    let no = other_test b 48 other in
    let z : List ℕ = (b ∷ bs) ++ more in
    let size : number_len ((b ∷ bs) ++ more) ≡ digits_len ((b ∷ bs) ++ more) = ap
    (λ k. cond k (zero_len (bs ++ more)) (digits_len ((b ∷ bs) ++ more))) no in
    let worth : number_value ((b ∷ bs) ++ more) ≡ value_in 10
    (take (digits_len ((b ∷ bs) ++ more)) ((b ∷ bs) ++ more)) = ap
    (λ k. cond k (zero_value (bs ++ more)) (value_in 10 (take (digits_len ((b ∷ bs) ++ more)) ((b ∷ bs) ++ more))))
    no in
    let least = run_at_least is_digit (b ∷ bs) more (digits_are b bs h) in
    let front = take_over (b ∷ bs) more (digits_len ((b ∷ bs) ++ more)) least in
    record {
      at_least = omega (arith, size, least);
      value =
          λ s. sym (worth ∙ ap (λ k. value_in 10 (take k ((b ∷ bs) ++ more))) (sym (s ∙ size))
          ∙ ap (value_in 10) (take-append_seam (b ∷ bs) more));
      no_less =
          omega (
            arith,
            worth,
            ap (value_in 10) front,
            value_past 10 (b ∷ bs)
                (take (digits_len ((b ∷ bs) ++ more) - length (b ∷ bs)) more) (omega arith),
          );
      digit = h.0;
    }

hexadecimal_most : (ds more : List ℕ) → 0 < length ds → Each is_hexadecimal ds
    → NumberMost (value_in 16 ds) (48 ∷ 120 ∷ ds) (48 ∷ 120 ∷ (ds ++ more))
hexadecimal_most [] more some all = absurd (omega arith)
hexadecimal_most (d ∷ ds) more some all =
    let is : marked 120 ((d ∷ ds) ++ more) ≡ true = all.0 in
    let z : List ℕ = (d ∷ ds) ++ more in
    let size : zero_len (120 ∷ ((d ∷ ds) ++ more)) ≡ 2 + hexadecimal_len ((d ∷ ds) ++ more) = ap
    (λ k. cond k (2 + hexadecimal_len ((d ∷ ds) ++ more)) 1) is in
    let worth : zero_value (120 ∷ ((d ∷ ds) ++ more)) ≡ value_in 16
    (take (hexadecimal_len ((d ∷ ds) ++ more)) ((d ∷ ds) ++ more)) = ap
    (λ k. cond k (value_in 16 (take (hexadecimal_len ((d ∷ ds) ++ more)) ((d ∷ ds) ++ more))) 0) is in
    let least = run_at_least is_hexadecimal (d ∷ ds) more all in
    let front = take_over (d ∷ ds) more (hexadecimal_len ((d ∷ ds) ++ more)) least in
    record {
      at_least = omega (arith, size, least);
      value =
          λ s. (let e : hexadecimal_len ((d ∷ ds) ++ more) ≡ length (d ∷ ds) = omega (arith, size, s) in sym
          (worth ∙ ap (λ k. value_in 16 (take k ((d ∷ ds) ++ more))) e
          ∙ ap (value_in 16) (take-append_seam (d ∷ ds) more)));
      no_less =
          omega (
            arith,
            worth,
            ap (value_in 16) front,
            value_past 16 (d ∷ ds)
                (take (hexadecimal_len ((d ∷ ds) ++ more) - length (d ∷ ds)) more) (omega arith),
          );
      digit = refl;
    }

pub number_most : (n : ℕ) (u more : List ℕ) → IsNumber n u → NumberMost n u (u ++ more)
number_most n [] more (inl h) = absurd h.0
number_most n (b ∷ bs) more (inl h) =
    subst (λ k. NumberMost k (b ∷ bs) ((b ∷ bs) ++ more)) (sym h.1) (go (b == 48) refl)
  where
    go : (k : Bool) → (b == 48) ≡ k → NumberMost (value_in 10 (b ∷ bs)) (b ∷ bs) ((b ∷ bs) ++ more)
    go false e = decimal_most b bs more h.0 (false_test b 48 e)
    go true e = let is = eqb-true b 48 e in let none = h.0.2 is in
        subst (λ l. NumberMost (value_in 10 (b ∷ l)) (b ∷ l) ((b ∷ l) ++ more)) (sym none)
        (subst (λ x. NumberMost (value_in 10 (x ∷ [])) (x ∷ []) (x ∷ more)) (sym is) (zero_most more))
number_most n u more (inr h) =
    subst (λ k. NumberMost k u (u ++ more)) (sym h.4) (subst (λ l. NumberMost (value_in 16 h.0) l (l ++ more)) (sym h.1)
    (hexadecimal_most h.0 more h.2 h.3))

-- ---- for the code

pub value_more : (base : ℕ) (ds : List ℕ) (i : ℕ) → i < length ds
    → value_in base (take (i + 1) ds) ≡ value_in base (take i ds) * base + digit_value (get_or ds i 0)
value_more base ds i lt = ap (value_in base) (take_more ds i 0 lt) ∙ fold_over base 0 (take i ds) (get_or ds i 0 ∷ [])

-- digits that are too wide already make the whole too wide
pub value_through : (base : ℕ) (ds : List ℕ) (i : ℕ) → 1 ≤ base → i < length ds
    → value_in base (take i ds) * base + digit_value (get_or ds i 0) ≤ value_in base ds
value_through base ds i le lt =
    omega (
      arith,
      value_more base ds i lt,
      value_past base (take (i + 1) ds) (drop (i + 1) ds) le,
      ap (value_in base) (take-append-drop (i + 1) ds),
    )

pub digits_count : (b : ℕ) → is_digit b ≡ true → is_hexadecimal b ≡ true
digits_count b e = ap (λ k. k || (nat_le 97 b && nat_le b 102) || (nat_le 65 b && nat_le b 70)) e

digit_value-small : (d : ℕ) → is_hexadecimal d ≡ true → digit_value d ≤ 15
digit_value-small d e = grind (arith, nat_tests)

step_small : (base n d m : ℕ) → base ≤ 16 → n ≤ m → d ≤ 15 → n * base + d ≤ m * 16 + 15
step_small base n d m le small digit = omega (arith, mul-le-mul small le)

-- three digits make less than 4096
pub value_small : (base : ℕ) (ds : List ℕ) → base ≤ 16 → length ds ≤ 3 → Each is_hexadecimal ds
    → value_in base ds ≤ 4095
value_small base [] le few all = omega arith
value_small base (a ∷ []) le few all =
    omega (arith, step_small base 0 (digit_value a) 0 le (omega arith) (digit_value-small a all.0))
value_small base (a ∷ b ∷ []) le few all =
    let one = step_small base 0 (digit_value a) 0 le (omega arith) (digit_value-small a all.0) in
    omega (arith, step_small base (0 * base + digit_value a) (digit_value b) 15 le one (digit_value-small b all.1.0))
value_small base (a ∷ b ∷ d ∷ []) le few all =
    let one = step_small base 0 (digit_value a) 0 le (omega arith) (digit_value-small a all.0) in
    let two = step_small base (0 * base + digit_value a) (digit_value b) 15 le one (digit_value-small b all.1.0) in
    omega (
      arith,
      step_small base ((0 * base + digit_value a) * base + digit_value b) (digit_value d) 255 le two
          (digit_value-small d all.1.1.0),
    )
value_small base (a ∷ b ∷ d ∷ e ∷ ds) le few all = absurd (omega arith)
