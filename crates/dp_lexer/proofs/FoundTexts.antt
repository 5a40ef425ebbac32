-- Where a text in quotes ends, and what single quotes stand for.
use Rattle.std.proofs.Common.{◌≡◌, ◌≢◌, ◌⊎◌, inl, inr, ℕ, zero, suc, ◌+◌, ◌-◌, ◌<◌, ◌≤◌, Bool, true, false, ◌&&◌, ◌||◌, ◌==◌, List, [], ◌∷◌, ◌++◌, length, take, drop, Option, Some, None, sym, refl, ap, ◌∙◌, subst, cond, arith, eqb-true, get_or, drop-cons, append_assoc, length-drop}
use Rattle.std.proofs.lemmas.List.{drop-drop}
use Rattle.dp_lexer.specs.Quotes.{IsBody, single_value}
use Rattle.dp_lexer.specs.inner.Lexer.{longer, body_len, single_part, byte_taken}
use Rattle.dp_lexer.proofs.Runs.{equal_test, other_test, false_test, one_more, two_more}

-- ---- the first byte

abbrev sorted : Bool → Bool → Option ℕ → Option ℕ → Option ℕ
sorted pair end two one = cond pair two (cond end (Some 0) one)

pub body_len-pair : (q b : ℕ) (t : List ℕ) → b ≡ 92 → body_len q (b ∷ t) ≡ longer 2 (body_len q (drop 1 t))
body_len-pair q b [] is = ap (λ k. sorted k (b == q) None None) (equal_test b 92 is)
body_len-pair q b (c ∷ t) is =
    ap (λ k. sorted k (b == q) (longer 2 (body_len q t)) (longer 1 (body_len q (c ∷ t)))) (equal_test b 92 is)

pub body_len-end : (q b : ℕ) (t : List ℕ) → b ≢ 92 → b ≡ q → body_len q (b ∷ t) ≡ Some 0
body_len-end q b [] apart is = λ i. sorted (other_test b 92 apart i) (equal_test b q is i) None None
body_len-end q b (c ∷ t) apart is =
    λ i. sorted (other_test b 92 apart i) (equal_test b q is i) (longer 2 (body_len q t))
    (longer 1 (body_len q (c ∷ t)))

pub body_len-plain : (q b : ℕ) (t : List ℕ) → b ≢ 92 → b ≢ q → body_len q (b ∷ t) ≡ longer 1 (body_len q t)
body_len-plain q b [] apart other = λ i. sorted (other_test b 92 apart i) (other_test b q other i) None None
body_len-plain q b (c ∷ t) apart other =
    λ i. sorted (other_test b 92 apart i) (other_test b q other i) (longer 2 (body_len q t))
    (longer 1 (body_len q (c ∷ t)))

-- ---- a body that is there is found

pub body_found : (q : ℕ) (body more : List ℕ) → q ≢ 92 → IsBody q body
    → body_len q (body ++ q ∷ more) ≡ Some (length body)
body_found q [] more apart h = body_len-end q q more apart refl
body_found q (b ∷ []) more apart h =
    body_len-plain q b (q ∷ more) h.0 h.1 ∙ ap (longer 1) (body_len-end q q more apart refl)
body_found q (b ∷ c ∷ t) more apart (inl h) =
    body_len-pair q b (c ∷ (t ++ q ∷ more)) h.0 ∙ ap (longer 2) (body_found q t more apart h.1)
    ∙ ap (λ n. Some n) (two_more (length t))
body_found q (b ∷ c ∷ t) more apart (inr h) =
    body_len-plain q b (c ∷ (t ++ q ∷ more)) h.0 h.1 ∙ ap (longer 1) (body_found q (c ∷ t) more apart h.2)
    ∙ ap (λ n. Some n) (one_more (suc (length t)))

pub record BodyThere (q : ℕ) (r : List ℕ) (n : ℕ) : Type 0 where
  pub body : IsBody q (take n r)
  pub within : n < length r
  pub closed : r ≡ take n r ++ q ∷ drop (suc n) r

some_is : (m n : ℕ) → Some m ≡ Some n → m ≡ n
some_is m n e = cc

three_ways : (q b : ℕ) → (b ≡ 92) ⊎ (((b ≢ 92) × (b ≡ q)) ⊎ ((b ≢ 92) × (b ≢ q)))
three_ways q b = go (b == 92) refl (b == q) refl
  where
    go : (k : Bool) → (b == 92) ≡ k → (l : Bool) → (b == q) ≡ l
        → (b ≡ 92) ⊎ (((b ≢ 92) × (b ≡ q)) ⊎ ((b ≢ 92) × (b ≢ q)))
    go true e l f = inl (eqb-true b 92 e)
    go false e true f = inr (inl (false_test b 92 e, eqb-true b q f))
    go false e false f = inr (inr (false_test b 92 e, false_test b q f))

ends_here : (q b : ℕ) (t : List ℕ) (n : ℕ) → b ≡ q → 0 ≡ n → BodyThere q (b ∷ t) n
ends_here q b t n is e =
    subst (λ k. BodyThere q (b ∷ t) k) e (record { body = tt; within = omega arith; closed = ap (λ x. x ∷ t) is })

plain_here : (q b c : ℕ) (t : List ℕ) (m : ℕ) → b ≢ 92 → b ≢ q → BodyThere q (c ∷ t) m → BodyThere q (b ∷ c ∷ t) (suc m)
plain_here q b c t zero apart other h =
    record { body = (apart, other); within = omega (arith, h.within); closed = ap (λ l. b ∷ l) h.closed }
plain_here q b c t (suc k) apart other h =
    record { body = inr (apart, other, h.body); within = omega (arith, h.within); closed = ap (λ l. b ∷ l) h.closed }

pub body_there : (q : ℕ) (r : List ℕ) (n : ℕ) → body_len q r ≡ Some n → BodyThere q r n
body_there q [] n e = absurd (cc)
body_there q (b ∷ []) n e = go (three_ways q b)
  where
    go : (b ≡ 92) ⊎ (((b ≢ 92) × (b ≡ q)) ⊎ ((b ≢ 92) × (b ≢ q))) → BodyThere q (b ∷ []) n
    go (inl is) = absurd (let f = sym (body_len-pair q b [] is) ∙ e in cc)
    go (inr (inl is)) = ends_here q b [] n is.1 (some_is 0 n (sym (body_len-end q b [] is.0 is.1) ∙ e))
    go (inr (inr is)) = absurd (let f = sym (body_len-plain q b [] is.0 is.1) ∙ e in cc)
body_there q (b ∷ c ∷ t) n e = go (λ m f. body_there q t m f) (λ m f. body_there q (c ∷ t) m f) (three_ways q b)
  where
    two : b ≡ 92 → (o : Option ℕ) → ((m : ℕ) → o ≡ Some m → BodyThere q t m) → longer 2 o ≡ Some n
        → BodyThere q (b ∷ c ∷ t) n
    two is None ih f = absurd (cc)
    two is (Some m) ih f =
        let h = ih m refl in
        let size : suc (suc m) ≡ n = sym (two_more m) ∙ some_is (2 + m) n f in
        subst (λ k. BodyThere q (b ∷ c
        ∷ t) k) size (record {
          body = inl (is, h.body);
          within = omega (arith, h.within);
          closed = ap
              (λ l. b ∷ c ∷ l) h.closed;
        })

    one : (b ≢ 92) × (b ≢ q) → (o : Option ℕ) → ((m : ℕ) → o ≡ Some m → BodyThere q (c ∷ t) m) → longer 1 o ≡ Some n
        → BodyThere q (b ∷ c ∷ t) n
    one is None ih f = absurd (cc)
    one is (Some m) ih f =
        subst (λ k. BodyThere q (b ∷ c ∷ t) k) (sym (one_more m) ∙ some_is (1 + m) n f)
        (plain_here q b c t m is.0 is.1 (ih m refl))

    go : ((m : ℕ) → body_len q t ≡ Some m → BodyThere q t m)
        → ((m : ℕ) → body_len q (c ∷ t) ≡ Some m → BodyThere q (c ∷ t) m)
        → (b ≡ 92) ⊎ (((b ≢ 92) × (b ≡ q)) ⊎ ((b ≢ 92) × (b ≢ q))) → BodyThere q (b ∷ c ∷ t) n
    go far near (inl is) = two is (body_len q t) far (sym (body_len-pair q b (c ∷ t) is) ∙ e)
    go far near (inr (inl is)) =
        ends_here q b (c ∷ t) n is.1 (some_is 0 n (sym (body_len-end q b (c ∷ t) is.0 is.1) ∙ e))
    go far near (inr (inr is)) = one is (body_len q (c ∷ t)) near (sym (body_len-plain q b (c ∷ t) is.0 is.1) ∙ e)

-- ---- for the code

pub longer_again : (m n : ℕ) (o : Option ℕ) → longer m (longer n o) ≡ longer (m + n) o
longer_again m n None = refl
longer_again m n (Some k) = let e : m + (n + k) ≡ (m + n) + k = omega arith in ap (λ x. Some x) e

pub body_len-pair_step : (q : ℕ) (z : List ℕ) (n : ℕ) → n < length z → get_or z n 0 ≡ 92
    → longer (n + 2) (body_len q (drop (n + 2) z)) ≡ longer n (body_len q (drop n z))
body_len-pair_step q z n lt is =
    let far : drop 1 (drop (suc n) z) ≡ drop (n + 2) z = drop-drop 1 (suc n) z
    ∙ (let e : suc n + 1 ≡ n + 2 = omega arith in ap (λ k. drop k z) e) in
    sym (ap (λ l. longer n (body_len q l)) (drop-cons z n 0 lt)
    ∙ ap (longer n) (body_len-pair q (get_or z n 0) (drop (suc n) z) is)
    ∙ ap (λ l. longer n (longer 2 (body_len q l))) far ∙ longer_again n 2 (body_len q (drop (n + 2) z)))

pub body_len-plain_step : (q : ℕ) (z : List ℕ) (n : ℕ) → n < length z → (get_or z n 0 ≡ 92 → ⊥) → (get_or z n 0 ≡ q → ⊥)
    → longer (n + 1) (body_len q (drop (n + 1) z)) ≡ longer n (body_len q (drop n z))
body_len-plain_step q z n lt apart other =
    let near : drop (suc n) z ≡ drop (n + 1) z = (let e : suc n ≡ n + 1 = omega arith in ap (λ k. drop k z) e) in
    sym (ap (λ l. longer n (body_len q l)) (drop-cons z n 0 lt)
    ∙ ap (longer n) (body_len-plain q (get_or z n 0) (drop (suc n) z) apart other)
    ∙ ap (λ l. longer n (longer 1 (body_len q l))) near ∙ longer_again n 1 (body_len q (drop (n + 1) z)))

pub body_len-end_step : (q : ℕ) (z : List ℕ) (n : ℕ) → n < length z → (get_or z n 0 ≡ 92 → ⊥) → get_or z n 0 ≡ q
    → longer n (body_len q (drop n z)) ≡ Some n
body_len-end_step q z n lt apart is =
    ap (λ l. longer n (body_len q l)) (drop-cons z n 0 lt)
    ∙ ap (longer n) (body_len-end q (get_or z n 0) (drop (suc n) z) apart is)
    ∙ (let e : n + 0 ≡ n = omega arith in ap (λ k. Some k) e)

-- ---- single quotes

pub single_value-step : (z : List ℕ) → 0 < length z
    → single_value z ≡ (single_part z).0 ∷ single_value (drop (single_part z).1 z)
single_value-step [] some = absurd (omega arith)
single_value-step (b ∷ []) some = refl
single_value-step (b ∷ c ∷ t) some = go (b == 92 && (c == 39 || c == 92))
  where
    go : (k : Bool) → cond k (c ∷ single_value t) (b ∷ single_value (c ∷ t)) ≡
        (cond k (byte_taken c 2) (byte_taken b 1)).0
        ∷ single_value (drop (cond k (byte_taken c 2) (byte_taken b 1)).1 (b ∷ c ∷ t))
    go true = refl
    go false = refl

-- the bytes from a place on, as the code writes them
pub take_all : (xs : List ℕ) (k : ℕ) → length xs ≤ k → take k xs ≡ xs
take_all [] zero le = refl
take_all [] (suc k) le = refl
take_all (x ∷ xs) zero le = absurd (omega arith)
take_all (x ∷ xs) (suc k) le = ap (λ l. x ∷ l) (take_all xs k (omega arith))

pub whole_rest : (z : List ℕ) (n : ℕ) → take (length z - n) (drop n z) ≡ drop n z
whole_rest z n = take_all (drop n z) (length z - n) (omega (arith, length-drop n z))

pub single_value-more : (z bytes : List ℕ) (n : ℕ) (v : ℕ × ℕ) → n < length z
    → v ≡ single_part (take (length z - n) (drop n z))
    → (bytes ++ v.0 ∷ []) ++ single_value (drop (n + v.1) z) ≡ bytes ++ single_value (drop n z)
single_value-more z bytes n v lt e =
    let some : 0 < length (drop n z) = omega (arith, length-drop n z) in
    let is : v ≡ single_part (drop n z) = e ∙ ap single_part (whole_rest z n) in
    append_assoc bytes (v.0 ∷ []) (single_value (drop (n + v.1) z))
    ∙ ap (λ l. bytes ++ v.0 ∷ single_value l) (sym (drop-drop v.1 n z))
    ∙ ap (λ (x : ℕ × ℕ). bytes ++ x.0 ∷ single_value (drop x.1 (drop n z))) is
    ∙ ap (λ l. bytes ++ l) (sym (single_value-step (drop n z) some))
