-- Runs of bytes of a sort, and tests of bytes.
use Rattle.std.proofs.Common.{◌≡◌, ◌≢◌, ◌⊎◌, inl, inr, ℕ, zero, suc, ◌+◌, ◌-◌, ◌<◌, ◌≤◌, Bool, true, false, ◌&&◌, ◌||◌, ◌==◌, List, [], ◌∷◌, ◌++◌, length, take, drop, sym, refl, ap, ◌∙◌, subst, cond, arith, eqb-true, eq-eqb}
use Rattle.std.specs.List.{prefix_len}
use Rattle.dp_lexer.specs.Bytes.{begins, Each}
use Rattle.dp_lexer.specs.inner.Lexer.{up_to}

-- ---- tests

pub and_parts : (a b : Bool) → (a && b) ≡ true → (a ≡ true) × (b ≡ true)
and_parts true b e = (refl, e)
and_parts false b e = absurd (cc)

pub or_parts : (a b : Bool) → (a || b) ≡ true → (a ≡ true) ⊎ (b ≡ true)
or_parts true b e = inl refl
or_parts false b e = inr e

pub or_none : (a b : Bool) → (a || b) ≡ false → (a ≡ false) × (b ≡ false)
or_none true b e = absurd (cc)
or_none false b e = (refl, e)

pub and_false_behind : (a b : Bool) → b ≡ false → (a && b) ≡ false
and_false_behind true b e = e
and_false_behind false b e = refl

pub or_left : (a b : Bool) → a ≡ true → (a || b) ≡ true
or_left a b e = ap (λ k. k || b) e

pub or_right : (a b : Bool) → b ≡ true → (a || b) ≡ true
or_right true b e = refl
or_right false b e = e

pub equal_test : (b m : ℕ) → b ≡ m → (b == m) ≡ true
equal_test b m e = eq-eqb b m e

pub other_test : (b m : ℕ) → b ≢ m → (b == m) ≡ false
other_test b m e = go (b == m) refl
  where
    go : (k : Bool) → (b == m) ≡ k → k ≡ false
    go true t = absurd (e (eqb-true b m t))
    go false t = refl

pub false_test : (b m : ℕ) → (b == m) ≡ false → b ≢ m
false_test b m e same = let t = equal_test b m same in cc

pub not_both : (b m n : ℕ) → b ≡ m → (m == n) ≡ false → b ≢ n
not_both b m n e apart same = false_test m n apart (sym e ∙ same)

pub not_false : (k : Bool) → k ≡ true → k ≡ false → ⊥
not_false k t f = cc

pub first_is : (b x : ℕ) (q u : List ℕ) → b ∷ q ≡ x ∷ u → b ≡ x
first_is b x q u e = cc

pub rest_is : (b x : ℕ) (q u : List ℕ) → b ∷ q ≡ x ∷ u → q ≡ u
rest_is b x q u e = cc

pub one_more : (n : ℕ) → 1 + n ≡ suc n
one_more n = omega arith

pub two_more : (n : ℕ) → 2 + n ≡ suc (suc n)
two_more n = omega arith

-- ---- runs

pub run_at_least : (p : ℕ → Bool) (xs more : List ℕ) → Each p xs → length xs ≤ prefix_len p (xs ++ more)
run_at_least p [] more all = omega arith
run_at_least p (x ∷ xs) more all =
    let e : prefix_len p ((x ∷ xs) ++ more) ≡ 1 + prefix_len p (xs ++ more) = ap
    (λ b. cond b (1 + prefix_len p (xs ++ more)) 0) all.0 in omega (arith, e, run_at_least p xs more all.1)

pub run_within : (p : ℕ → Bool) (xs : List ℕ) → prefix_len p xs ≤ length xs
run_within p [] = omega arith
run_within p (x ∷ xs) = go (run_within p xs) (p x)
  where
    go : prefix_len p xs ≤ length xs → (b : Bool) → cond b (1 + prefix_len p xs) 0 ≤ suc (length xs)
    go ih true = omega (arith, ih)
    go ih false = omega arith

-- so many of a run pass
pub run_front : (p : ℕ → Bool) (xs : List ℕ) (k : ℕ) → k ≤ prefix_len p xs → Each p (take k xs)
run_front p [] zero le = tt
run_front p [] (suc k) le = absurd (omega arith)
run_front p (x ∷ xs) zero le = tt
run_front p (x ∷ xs) (suc k) le = go (λ h. run_front p xs k h) (p x) refl le
  where
    go : (k ≤ prefix_len p xs → Each p (take k xs)) → (b : Bool) → p x ≡ b → suc k ≤ cond b (1 + prefix_len p xs) 0
        → Each p (x ∷ take k xs)
    go ih true e le = (e, ih (omega arith))
    go ih false e le = absurd (omega arith)

pub run_passes : (p : ℕ → Bool) (xs : List ℕ) → Each p (take (prefix_len p xs) xs)
run_passes p xs = run_front p xs (prefix_len p xs) (omega arith)

-- a run that something stops is as long as this
pub run_exact : (p : ℕ → Bool) (xs more : List ℕ) → Each p xs → begins p more ≡ false
    → prefix_len p (xs ++ more) ≡ length xs
run_exact p [] [] all stops = refl
run_exact p [] (b ∷ t) all stops = ap (λ c. cond c (1 + prefix_len p t) 0) stops
run_exact p (x ∷ xs) more all stops =
    ap (λ b. cond b (1 + prefix_len p (xs ++ more)) 0) all.0 ∙ ap (λ n. 1 + n) (run_exact p xs more all.1 stops)
    ∙ one_more (length xs)

-- a run begins where its first byte passes
pub run_some : (p : ℕ → Bool) (b : ℕ) (t : List ℕ) → p b ≡ true → prefix_len p (b ∷ t) ≡ suc (prefix_len p t)
run_some p b t e = ap (λ k. cond k (1 + prefix_len p t) 0) e ∙ one_more (prefix_len p t)

-- ---- runs with a limit

pub up_to_within : (p : ℕ → Bool) (n : ℕ) (xs : List ℕ) → up_to p n xs ≤ length xs
up_to_within p zero xs = omega arith
up_to_within p (suc n) [] = omega arith
up_to_within p (suc n) (x ∷ xs) = go (up_to_within p n xs) (p x)
  where
    go : up_to p n xs ≤ length xs → (b : Bool) → cond b (1 + up_to p n xs) 0 ≤ suc (length xs)
    go ih true = omega arith
    go ih false = omega arith

pub up_to_most : (p : ℕ → Bool) (n : ℕ) (xs : List ℕ) → up_to p n xs ≤ n
up_to_most p zero xs = omega arith
up_to_most p (suc n) [] = omega arith
up_to_most p (suc n) (x ∷ xs) = go (up_to_most p n xs) (p x)
  where
    go : up_to p n xs ≤ n → (b : Bool) → cond b (1 + up_to p n xs) 0 ≤ suc n
    go ih true = omega arith
    go ih false = omega arith

pub up_to_passes : (p : ℕ → Bool) (n : ℕ) (xs : List ℕ) → Each p (take (up_to p n xs) xs)
up_to_passes p zero xs = tt
up_to_passes p (suc n) [] = tt
up_to_passes p (suc n) (x ∷ xs) = go (up_to_passes p n xs) (p x) refl
  where
    go : Each p (take (up_to p n xs) xs) → (b : Bool) → p x ≡ b → Each p (take (cond b (1 + up_to p n xs) 0) (x ∷ xs))
    go ih true e = subst (λ k. Each p (take k (x ∷ xs))) (sym (one_more (up_to p n xs))) (e, ih)
    go ih false e = tt

pub up_to_stops : (p : ℕ → Bool) (n : ℕ) (xs : List ℕ) → up_to p n xs < n → begins p (drop (up_to p n xs) xs) ≡ false
up_to_stops p zero xs lt = absurd (omega arith)
up_to_stops p (suc n) [] lt = refl
up_to_stops p (suc n) (x ∷ xs) lt = go (λ h. up_to_stops p n xs h) (p x) refl lt
  where
    go : (up_to p n xs < n → begins p (drop (up_to p n xs) xs) ≡ false) → (b : Bool) → p x ≡ b
        → cond b (1 + up_to p n xs) 0 < suc n → begins p (drop (cond b (1 + up_to p n xs) 0) (x ∷ xs)) ≡ false
    go ih true e lt = ap (λ k. begins p (drop k (x ∷ xs))) (one_more (up_to p n xs)) ∙ ih (omega arith)
    go ih false e lt = e

pub up_to_exact : (p : ℕ → Bool) (n : ℕ) (xs more : List ℕ) → Each p xs → length xs ≤ n
    → (length xs < n → begins p more ≡ false) → up_to p n (xs ++ more) ≡ length xs
up_to_exact p zero [] more all le stops = refl
up_to_exact p zero (x ∷ xs) more all le stops = absurd (omega arith)
up_to_exact p (suc n) [] [] all le stops = refl
up_to_exact p (suc n) [] (b ∷ t) all le stops = ap (λ c. cond c (1 + up_to p n t) 0) (stops (omega arith))
up_to_exact p (suc n) (x ∷ xs) more all le stops =
    ap (λ b. cond b (1 + up_to p n (xs ++ more)) 0) all.0
    ∙ ap (λ k. 1 + k) (up_to_exact p n xs more all.1 (omega arith) (λ h. stops (omega arith))) ∙ one_more (length xs)

-- ---- fronts of lists

pub take_over : (u more : List ℕ) (k : ℕ) → length u ≤ k → take k (u ++ more) ≡ u ++ take (k - length u) more
take_over [] more k le = let e : k ≡ k - 0 = omega arith in ap (λ n. take n more) e
take_over (x ∷ u) more zero le = absurd (omega arith)
take_over (x ∷ u) more (suc k) le =
    let e : k - length u ≡ suc k - suc (length u) = omega arith in ap (λ l. x ∷ l) (take_over u more k (omega arith))
    ∙ ap (λ n. x ∷ (u ++ take n more)) e

pub all_parts : (p q : ℕ → Bool) → ((b : ℕ) → p b ≡ true → q b ≡ true) → (xs : List ℕ) → Each p xs → Each q xs
all_parts p q wider [] all = tt
all_parts p q wider (x ∷ xs) all = (wider x all.0, all_parts p q wider xs all.1)
