-- Comments in one line: how far they stay in it, and what stands there.
use Rattle.std.proofs.Common.{◌≡◌, inl, inr, ℕ, zero, suc, ◌+◌, ◌≤◌, Bool, true, false, ◌&&◌, ◌==◌, List, [], ◌∷◌, ◌++◌, length, take, drop, sym, refl, ap, ◌∙◌, subst, cond, arith, eqb-true}
use Rattle.std.specs.Prelude.{not}
use Rattle.std.proofs.Math.Seq.{drop-append_seam}
use Rattle.dp_lexer.specs.declared.fault.Fault.TheVariants as fault
use Rattle.dp_lexer.specs.Bytes.{is_in_line, begins_tag, begins}
use Rattle.dp_lexer.specs.Pieces.{line_comment, OpensLine, StaysInLine}
use Rattle.dp_lexer.specs.inner.Lexer.{Found, found, wrong, line_len, line_of}
use Rattle.dp_lexer.proofs.Runs.{and_parts, and_false_behind, not_false, one_more, two_more}

-- ---- closing tags

pub tag_there : (z : List ℕ) → begins_tag z ≡ true → (t : List ℕ) × (z ≡ 63 ∷ 62 ∷ t)
tag_there [] e = absurd (cc)
tag_there (b ∷ []) e = absurd (cc)
tag_there (b ∷ c ∷ t) e =
    let p = and_parts (b == 63) (c == 62) e in (t, λ i. eqb-true b 63 p.0 i ∷ eqb-true c 62 p.1 i ∷ t)

tag_over : (b : ℕ) (t more : List ℕ) → begins_tag (b ∷ t) ≡ false → begins (λ c. c == 62) more ≡ false
    → begins_tag (b ∷ (t ++ more)) ≡ false
tag_over b [] [] e apart = refl
tag_over b [] (x ∷ more) e apart = and_false_behind (b == 63) (x == 62) apart
tag_over b (x ∷ t) more e apart = e

tag_front : (b n : ℕ) (t : List ℕ) → begins_tag (b ∷ t) ≡ false → begins_tag (b ∷ take n t) ≡ false
tag_front b zero t e = refl
tag_front b (suc n) [] e = refl
tag_front b (suc n) (x ∷ t) e = e

pub tag_in_line : (z : List ℕ) → begins_tag z ≡ true → begins is_in_line z ≡ false → ⊥
tag_in_line z tag ends = let t = tag_there z tag in not_false (begins is_in_line z) (ap (begins is_in_line) t.1) ends

-- ---- the length

abbrev Length : Bool → List ℕ → ℕ
Length k t = cond k (1 + line_len t) 0

line_len-step : (b : ℕ) (t : List ℕ) → is_in_line b ≡ true → begins_tag (b ∷ t) ≡ false
    → line_len (b ∷ t) ≡ suc (line_len t)
line_len-step b t is tag = (λ i. Length (is i && not (tag i)) t) ∙ one_more (line_len t)

not_true : (k : Bool) → not k ≡ true → k ≡ false
not_true true e = absurd (cc)
not_true false e = refl

-- where the line is left
pub line_len-none : (z : List ℕ) → begins is_in_line z ≡ false → line_len z ≡ 0
line_len-none [] e = refl
line_len-none (b ∷ t) e = λ i. Length (e i && not (begins_tag (b ∷ t))) t

pub no_angle : (z : List ℕ) → begins is_in_line z ≡ false → begins (λ b. b == 62) z ≡ false
no_angle [] e = refl
no_angle (b ∷ t) e = go (b == 10) refl e
  where
    go : (k : Bool) → (b == 10) ≡ k → not k ≡ false → (b == 62) ≡ false
    go true f e = ap (λ x. x == 62) (eqb-true b 10 f)
    go false f e = absurd (cc)

pub line_len-exact : (c more : List ℕ) → StaysInLine c → line_len more ≡ 0 → begins (λ b. b == 62) more ≡ false
    → line_len (c ++ more) ≡ length c
line_len-exact [] more h none apart = none
line_len-exact (b ∷ t) more h none apart =
    line_len-step b (t ++ more) h.0 (tag_over b t more h.1 apart)
    ∙ ap (λ n. suc n) (line_len-exact t more h.2 none apart)

pub line_len-least : (c more : List ℕ) → StaysInLine c → begins_tag (drop (line_len (c ++ more)) (c ++ more)) ≡ false
    → length c ≤ line_len (c ++ more)
line_len-least [] more h e = omega arith
line_len-least (b ∷ t) more h e = go (λ f. line_len-least t more h.2 f) (begins_tag (b ∷ (t ++ more))) refl
  where
    here : (n : ℕ) → line_len (b ∷ (t ++ more)) ≡ n → begins_tag (drop n (b ∷ (t ++ more))) ≡ false
    here n same = sym (ap (λ k. begins_tag (drop k (b ∷ (t ++ more)))) same) ∙ e

    go : (begins_tag (drop (line_len (t ++ more)) (t ++ more)) ≡ false → length t ≤ line_len (t ++ more)) → (k : Bool)
        → begins_tag (b ∷ (t ++ more)) ≡ k → suc (length t) ≤ line_len (b ∷ (t ++ more))
    go ih true tag =
        absurd (not_false _ tag (here 0 (ap (λ k. Length k (t ++ more))
        (and_false_behind (is_in_line b) _ (ap not tag)))))
    go ih false tag =
        let step = line_len-step b (t ++ more) h.0 tag in omega
        (arith, step, ih (here (suc (line_len (t ++ more))) step))

pub line_len-front : (z : List ℕ) → StaysInLine (take (line_len z) z)
line_len-front [] = tt
line_len-front (b ∷ t) = go (line_len-front t) (is_in_line b && not (begins_tag (b ∷ t))) refl
  where
    go : StaysInLine (take (line_len t) t) → (k : Bool) → (is_in_line b && not (begins_tag (b ∷ t))) ≡ k
        → StaysInLine (take (Length k t) (b ∷ t))
    go ih true e =
        let both = and_parts (is_in_line b) (not (begins_tag (b ∷ t))) e in
        subst (λ n. StaysInLine (take n (b ∷ t))) (sym (one_more (line_len t)))
        (both.0, tag_front b (line_len t) t (not_true (begins_tag (b ∷ t)) both.1), ih)
    go ih false e = tt

abbrev Stops : List ℕ → Type 0
Stops z = begins_tag z ≡ false → begins is_in_line z ≡ false

-- behind it stands a closing tag, or a line feed or nothing
pub line_len-stops : (z : List ℕ) → begins_tag (drop (line_len z) z) ≡ false
    → begins is_in_line (drop (line_len z) z) ≡ false
line_len-stops [] e = refl
line_len-stops (b ∷ t) e = go (λ f. line_len-stops t f) (is_in_line b) refl (begins_tag (b ∷ t)) refl e
  where
    go : Stops (drop (line_len t) t) → (k : Bool) → is_in_line b ≡ k → (l : Bool) → begins_tag (b ∷ t) ≡ l
        → Stops (drop (Length (k && not l) t) (b ∷ t))
    go ih true is true tag = λ f. absurd (not_false _ tag f)
    go ih true is false tag = subst (λ n. Stops (drop n (b ∷ t))) (sym (one_more (line_len t))) ih
    go ih false is l tag = λ f. is

pub line_len-within : (z : List ℕ) → line_len z ≤ length z
line_len-within [] = omega arith
line_len-within (b ∷ t) = go (line_len-within t) (is_in_line b && not (begins_tag (b ∷ t)))
  where
    go : line_len t ≤ length t → (k : Bool) → Length k t ≤ suc (length t)
    go ih true = omega (arith, ih)
    go ih false = omega arith

-- a comment that stays in its line up to a closing tag
abbrev line_by : ℕ → ℕ → List ℕ → Found
line_by mark len rest = cond (begins_tag rest) (wrong fault.BadByte (mark + len)) (found line_comment (mark + len))

pub line_tagged : (mark : ℕ) (c more : List ℕ) → StaysInLine c
    → line_of mark (c ++ 63 ∷ 62 ∷ more) ≡ wrong fault.BadByte (mark + length c)
line_tagged mark c more h =
    let size : line_len (c ++ 63 ∷ 62 ∷ more) ≡ length c = line_len-exact c (63 ∷ 62 ∷ more) h refl refl in
    (λ i. line_by mark (size i) (drop (size i) (c ++ 63 ∷ 62 ∷ more)))
    ∙ ap (line_by mark (length c)) (drop-append_seam c (63 ∷ 62 ∷ more))

-- ---- where a comment opens

take_one : (b n : ℕ) (r : List ℕ) → take (1 + n) (b ∷ r) ≡ b ∷ take n r
take_one b n r = ap (λ k. take k (b ∷ r)) (one_more n)

drop_one : (b n : ℕ) (r : List ℕ) → drop (1 + n) (b ∷ r) ≡ drop n r
drop_one b n r = ap (λ k. drop k (b ∷ r)) (one_more n)

pub take_two : (b c n : ℕ) (r : List ℕ) → take (2 + n) (b ∷ c ∷ r) ≡ b ∷ c ∷ take n r
take_two b c n r = ap (λ k. take k (b ∷ c ∷ r)) (two_more n)

drop_two : (b c n : ℕ) (r : List ℕ) → drop (2 + n) (b ∷ c ∷ r) ≡ drop n r
drop_two b c n r = ap (λ k. drop k (b ∷ c ∷ r)) (two_more n)

begins_front : (p : ℕ → Bool) (k : ℕ) (r : List ℕ) → begins p r ≡ false → begins p (take k r) ≡ false
begins_front p zero r e = refl
begins_front p (suc k) [] e = refl
begins_front p (suc k) (b ∷ r) e = e

-- the mark of a comment in one line, of so many bytes, stands before these
pub record OpensAt (mark : ℕ) (z q : List ℕ) : Type 0 where
  pub some : 1 ≤ mark
  pub size : mark + length q ≡ length z
  pub behind : (k : ℕ) → drop (mark + k) z ≡ drop k q
  pub opens : (k : ℕ) → OpensLine (take (mark + k) z) (take k q)

pub hash_opens : (b : ℕ) (r : List ℕ) → b ≡ 35 → begins (λ c. c == 91) r ≡ false → OpensAt 1 (b ∷ r) r
hash_opens b r is apart = record {
  some = omega arith;
  size = omega arith;
  behind = λ k. drop_one b k r;
  opens = λ k. inl (take_one b k r ∙ ap (λ y. y ∷ take k r) is, begins_front (λ c. c == 91) k r apart);
}

pub slashes_open : (b c : ℕ) (q : List ℕ) → b ≡ 47 → c ≡ 47 → OpensAt 2 (b ∷ c ∷ q) q
slashes_open b c q is also = record {
  some = omega arith;
  size = omega arith;
  behind = λ k. drop_two b c k q;
  opens = λ k. inr (take_two b c k q ∙ (λ i. is i ∷ also i ∷ take k q));
}
