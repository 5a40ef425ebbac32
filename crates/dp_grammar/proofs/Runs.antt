-- Runs of bytes of a sort, and what steps that did not fail have found.
use Rattle.std.proofs.Common.{◌≡◌, ℕ, suc, ◌+◌, ◌≤◌, Bool, true, false, cond, ◌==◌, List, [], ◌∷◌, ◌++◌, length, take, drop, Option, Some, None, refl, sym, ap, subst, ◌∙◌, arith}
use Rattle.std.specs.List.{prefix_len}
use Rattle.std.proofs.lemmas.Bool.{eqb-true}
use Rattle.std.proofs.Math.Seq.{drop-append_seam, take-append_seam}
use Rattle.dp_grammar.specs.Parts.{Each, begins}
use Rattle.dp_grammar.specs.Prefixes.{◌>>=◌, run_at}

-- ---- steps

pub some_is : {A : Type 0} (x y : A) → Some x ≡ Some y → x ≡ y
some_is x y e = cc

abbrev found : {A : Type 0} → Option A → List ℕ → Option (Option A × List ℕ)
found o s = Some (o, s)

pub found_parts : {A : Type 0} (o p : Option A) (s t : List ℕ) → found o s ≡ found p t → (o ≡ p) × (s ≡ t)
found_parts {A} o p s t e =
    let x : Option A × List ℕ = (o, s) in
    let y : Option A × List ℕ = (p, t) in
    let same : x ≡ y = some_is x y e in
    (ap (λ (v : Option A × List ℕ). v.0) same, ap (λ (v : Option A × List ℕ). v.1) same)

-- the value of a step that did not fail
pub bind_some : {A B : Type 0} (r : Option A) (f : A → Option B) (y : B) → (r >>= f) ≡ Some y
    → (x : A) × (r ≡ Some x) × (f x ≡ Some y)
bind_some (Some x) f y e = (x, refl, e)
bind_some None f y e = absurd cc

-- a test that did not fail
pub guard_some : {A : Type 0} (b : Bool) (x : Option A) (y : A) → cond b x None ≡ Some y → (b ≡ true) × (x ≡ Some y)
guard_some true x y e = (refl, e)
guard_some false x y e = absurd cc

pub not_zero : (n : ℕ) → 1 ≤ n → (n == 0) ≡ false
not_zero n le = go (n == 0) refl
  where
    go : (b : Bool) → (n == 0) ≡ b → (n == 0) ≡ false
    go true e = let z : n ≡ 0 = eqb-true n 0 e in absurd (omega arith)
    go false e = e

-- ---- runs

pub one_more : (n : ℕ) → suc n ≡ 1 + n
one_more n = omega arith

pub run_passes : (p : ℕ → Bool) (xs : List ℕ) → Each p (take (prefix_len p xs) xs)
run_passes p [] = tt
run_passes p (x ∷ xs) = go (run_passes p xs) (p x) refl
  where
    go : Each p (take (prefix_len p xs) xs) → (b : Bool) → p x ≡ b
        → Each p (take (cond b (1 + prefix_len p xs) 0) (x ∷ xs))
    go ih true e = subst (λ (n : ℕ). Each p (take n (x ∷ xs))) (one_more (prefix_len p xs)) (e, ih)
    go ih false e = tt

-- a run whose first byte passes is not empty
pub run_some : (p : ℕ → Bool) (xs : List ℕ) → begins p xs ≡ true → 1 ≤ length (take (prefix_len p xs) xs)
run_some p [] e = absurd cc
run_some p (x ∷ xs) e = subst (λ (b : Bool). 1 ≤ length (take (cond b (1 + prefix_len p xs) 0) (x ∷ xs))) (sym e)
    (subst (λ (n : ℕ). 1 ≤ length (take n (x ∷ xs))) (one_more (prefix_len p xs)) (omega arith))

-- a run that something stops is as long as this
pub run_exact : (p : ℕ → Bool) (xs more : List ℕ) → Each p xs → begins p more ≡ false
    → prefix_len p (xs ++ more) ≡ length xs
run_exact p [] [] all stops = refl
run_exact p [] (b ∷ t) all stops = ap (λ c. cond c (1 + prefix_len p t) 0) stops
run_exact p (x ∷ xs) more all stops =
    ap (λ b. cond b (1 + prefix_len p (xs ++ more)) 0) all.0 ∙ ap (λ n. 1 + n) (run_exact p xs more all.1 stops)
    ∙ sym (one_more (length xs))

pub run_again : (p : ℕ → Bool) (xs more : List ℕ) → Each p xs → begins p more ≡ false
    → run_at p (xs ++ more) ≡ (xs, more)
run_again p xs more all stops =
    let e : prefix_len p (xs ++ more) ≡ length xs = run_exact p xs more all stops in
    let pair : List ℕ → List ℕ → List ℕ × List ℕ = λ a b. (a, b) in
    ap (λ n. pair (take n (xs ++ more)) (drop n (xs ++ more))) e
    ∙ ap (λ a. pair a (drop (length xs) (xs ++ more))) (take-append_seam xs more)
    ∙ ap (λ b. pair xs b) (drop-append_seam xs more)

-- bytes that all pass are their own run
pub run_whole : (p : ℕ → Bool) (xs : List ℕ) → Each p xs → (run_at p xs).1 ≡ []
run_whole p [] all = refl
run_whole p (x ∷ xs) all =
    ap (λ b. drop (cond b (1 + prefix_len p xs) 0) (x ∷ xs)) all.0
    ∙ ap (λ n. drop n (x ∷ xs)) (sym (one_more (prefix_len p xs)))
    ∙ run_whole p xs all.1

-- a run behind which nothing stands is all
pub run_all : (p : ℕ → Bool) (xs : List ℕ) → length (run_at p xs).1 ≡ 0 → Each p xs
run_all p [] e = tt
run_all p (x ∷ xs) e = go (run_all p xs) (p x) refl e
  where
    go : (length (run_at p xs).1 ≡ 0 → Each p xs) → (b : Bool) → p x ≡ b
        → length (drop (cond b (1 + prefix_len p xs) 0) (x ∷ xs)) ≡ 0 → (p x ≡ true) × Each p xs
    go ih true is none =
        (is, ih (subst (λ (n : ℕ). length (drop n (x ∷ xs)) ≡ 0) (sym (one_more (prefix_len p xs))) none))
    go ih false is none = absurd (omega arith)
