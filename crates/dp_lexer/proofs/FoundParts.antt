-- The parts between double quotes, and the bytes that they stand for.
use Rattle.std.proofs.Common.{◌≡◌, ◌≢◌, ◌⊎◌, inl, inr, ℕ, zero, suc, ◌+◌, ◌-◌, ◌<◌, ◌≤◌, Bool, true, false, not, ◌&&◌, ◌==◌, List, [], ◌∷◌, ◌++◌, length, take, drop, Option, Some, None, Ok, Err, sym, refl, ap, ◌∙◌, subst, cond, arith, eqb-true, append_assoc, append-nil, length-append, length-drop, length-take-le, take-append-drop}
use Rattle.std.specs.Prelude.{is_none}
use Rattle.std.proofs.Math.Seq.{take-append_seam, drop-append_seam}
use Rattle.std.proofs.lemmas.List.{drop-drop}
use Rattle.std.proofs.lemmas.Bool.Decides.{nat_tests}
use Rattle.dp_lexer.specs.Bytes.{is_octal, is_hexadecimal, begins, Each}
use Rattle.dp_lexer.specs.Chain.{texts, Come}
use Rattle.dp_lexer.specs.Quotes.{Part, plain, letter, octal, hexadecimal, pair, letter_of, interpolates, stays, IsPart, meaning, Parts, meanings, IsDoubled, IsBadPart, IsBadInside}
use Rattle.dp_lexer.specs.inner.Lexer.{up_to, part_found, octal_at, hexadecimal_at, number_or_pair, escape_by, escape_at, part_at, Doubled, ahead, skipped, joined, doubled, shown_part}
use Rattle.dp_lexer.proofs.FoundTexts.{whole_rest}
use Rattle.dp_lexer.proofs.Runs.{and_parts, equal_test, other_test, false_test, one_more, two_more, up_to_within, up_to_most, up_to_passes, up_to_stops, up_to_exact}

-- ---- a part that is there is found

octal_no_letter : (d : ℕ) → is_octal d ≡ true → letter_of d ≡ None
octal_no_letter d is =
    let low : 48 ≤ d = grind (arith, nat_tests) in
    let high : d ≤ 55 = grind (arith, nat_tests) in
    let far : (m : ℕ) → (m < 48) ⊎ (55 < m)
    → (d == m) ≡ false = λ m h. other_test d m (λ e. outside d m low high h e) in
    λ i. cond (far 110 (inr (omega arith)) i) (Some 10) (cond (far 116 (inr (omega arith)) i) (Some 9)
    (cond (far 114 (inr (omega arith)) i) (Some 13)
    (cond (far 118 (inr (omega arith)) i) (Some 11) (cond (far 101 (inr (omega arith)) i) (Some 27)
    (cond (far 102 (inr (omega arith)) i) (Some 12)
    (cond (far 92 (inr (omega arith)) i) (Some 92) (cond (far 36 (inl (omega arith)) i) (Some 36)
    (cond (far 34 (inl (omega arith)) i) (Some 34) None))))))))
  where
    outside : (d m : ℕ) → 48 ≤ d → d ≤ 55 → (m < 48) ⊎ (55 < m) → d ≡ m → ⊥
    outside d m low high (inl h) e = omega arith
    outside d m low high (inr h) e = omega arith

front_is : (u rest : List ℕ) (n : ℕ) → n ≡ length u → take n (u ++ rest) ≡ u
front_is u rest n e = ap (λ k. take k (u ++ rest)) e ∙ take-append_seam u rest

plain_found : (b : ℕ) (rest : List ℕ) → b ≢ 92 → interpolates b rest ≡ false
    → part_at (b ∷ rest) ≡ part_found (plain b) 1
plain_found b rest other open_not =
    ap (λ k. cond k (escape_at rest) (cond (interpolates b rest) None (part_found (plain b) 1))) (other_test b 92 other)
    ∙ ap (λ k. cond k None (part_found (plain b) 1)) open_not

octal_found : (ds rest : List ℕ) → Each is_octal ds → 1 ≤ length ds → length ds ≤ 3
    → (length ds < 3 → begins is_octal rest ≡ false)
    → part_at (92 ∷ (ds ++ rest)) ≡ part_found (octal ds) (suc (length ds))
octal_found [] rest all some few stops = absurd (omega arith)
octal_found (d ∷ ds) rest all some few stops =
    let size = up_to_exact is_octal 3 (d ∷ ds) rest all few stops in
    ap (λ o. escape_by o d (ds ++ rest)) (octal_no_letter d all.0)
    ∙ ap (λ k. cond k (octal_at ((d ∷ ds) ++ rest)) (cond (d == 120 && begins is_hexadecimal (ds ++ rest))
    (hexadecimal_at (ds ++ rest)) (cond (d == 117) None (part_found (pair d) 2)))) all.0
    ∙ (λ i. part_found (octal (front_is (d ∷ ds) rest (up_to is_octal 3 ((d ∷ ds) ++ rest)) size i)) (1 + size i))
    ∙ ap (λ k. part_found (octal (d ∷ ds)) k) (one_more (length (d ∷ ds)))

hexadecimal_found : (ds rest : List ℕ) → Each is_hexadecimal ds → 1 ≤ length ds → length ds ≤ 2
    → (length ds < 2 → begins is_hexadecimal rest ≡ false)
    → part_at (92 ∷ 120 ∷ (ds ++ rest)) ≡ part_found (hexadecimal ds) (suc (suc (length ds)))
hexadecimal_found [] rest all some few stops = absurd (omega arith)
hexadecimal_found (d ∷ ds) rest all some few stops =
    let size = up_to_exact is_hexadecimal 2 (d ∷ ds) rest all few stops in
    ap (λ k. cond k (hexadecimal_at ((d ∷ ds) ++ rest)) (part_found (pair 120) 2)) all.0
    ∙ (λ i. part_found (hexadecimal (front_is (d ∷ ds) rest (up_to is_hexadecimal 2 ((d ∷ ds) ++ rest)) size i))
    (2 + size i))
    ∙ ap (λ k. part_found (hexadecimal (d ∷ ds)) k) (two_more (length (d ∷ ds)))

none_is : (o : Option ℕ) → is_none o ≡ true → o ≡ None
none_is None e = refl
none_is (Some m) e = absurd (cc)

not_true : (k : Bool) → not k ≡ true → k ≡ false
not_true true e = absurd (cc)
not_true false e = refl

pair_found : (c : ℕ) (rest : List ℕ) → stays c rest ≡ true → part_at (92 ∷ c ∷ rest) ≡ part_found (pair c) 2
pair_found c rest e =
    let a = and_parts _ (not (c == 120 && begins is_hexadecimal rest)) e in
    let b = and_parts _ (not (c == 117)) a.0 in
    let d = and_parts (is_none (letter_of c)) (not (is_octal c)) b.0 in
    ap (λ o. escape_by o c rest) (none_is (letter_of c) d.0)
    ∙ (λ i. cond (not_true (is_octal c) d.1 i) (octal_at (c ∷ rest))
    (cond (not_true (c == 120 && begins is_hexadecimal rest) a.1 i) (hexadecimal_at rest)
    (cond (not_true (c == 117) b.1 i) None (part_found (pair c) 2))))

pub part_is_found : (p : Part) (t rest : List ℕ) → IsPart p t rest → part_at (t ++ rest) ≡ part_found p (length t)
part_is_found (plain b) t rest h =
    ap (λ l. part_at (l ++ rest)) h.0 ∙ plain_found b rest h.1 h.2
    ∙ ap (λ l. part_found (plain b) (length {A = ℕ} l)) (sym h.0)
part_is_found (letter c m) t rest h =
    ap (λ l. part_at (l ++ rest)) h.0 ∙ ap (λ o. escape_by o c rest) h.1
    ∙ ap (λ l. part_found (letter c m) (length {A = ℕ} l)) (sym h.0)
part_is_found (octal ds) t rest h =
    ap (λ l. part_at (l ++ rest)) h.0 ∙ octal_found ds rest h.1 h.2 h.3 h.4
    ∙ ap (λ l. part_found (octal ds) (length {A = ℕ} l)) (sym h.0)
part_is_found (hexadecimal ds) t rest h =
    ap (λ l. part_at (l ++ rest)) h.0 ∙ hexadecimal_found ds rest h.1 h.2 h.3 h.4
    ∙ ap (λ l. part_found (hexadecimal ds) (length {A = ℕ} l)) (sym h.0)
part_is_found (pair c) t rest h =
    ap (λ l. part_at (l ++ rest)) h.0 ∙ pair_found c rest h.1
    ∙ ap (λ l. part_found (pair c) (length {A = ℕ} l)) (sym h.0)

-- ---- a part that is found is there

pub record PartThere (z : List ℕ) (p : Part) (n : ℕ) : Type 0 where
  pub part : IsPart p (take n z) (drop n z)
  pub some : 1 ≤ n
  pub within : n ≤ length z

part_in : Option (Part × ℕ) → Part → Part
part_in None p = p
part_in (Some x) p = x.0

len_in : Option (Part × ℕ) → ℕ
len_in None = 0
len_in (Some x) = x.1

same_part : (z : List ℕ) (p : Part) (n : ℕ) (x : Part × ℕ) → part_found p n ≡ Some x → PartThere z p n
    → PartThere z x.0 x.1
unfolding part_in len_in
same_part z p n x e h =
    subst (λ k. PartThere z k x.1) (ap (λ o. part_in o p) e) (subst (λ m. PartThere z p m) (ap len_in e) h)

octal_there : (b c : ℕ) (u : List ℕ) → b ≡ 92 → is_octal c ≡ true
    → PartThere (b ∷ c ∷ u) (octal (take (up_to is_octal 3 (c ∷ u)) (c ∷ u))) (1 + up_to is_octal 3 (c ∷ u))
octal_there b c u is e =
    let z : List ℕ = c ∷ u in
    let n : ℕ = up_to is_octal 3 (c ∷ u) in
    let some : 1 ≤ up_to is_octal 3 (c ∷ u) = omega (arith, ap (λ k. cond k (1 + up_to is_octal 2 u) 0) e) in
    let size = length-take-le (up_to is_octal 3 (c ∷ u)) (c ∷ u) (up_to_within is_octal 3 (c ∷ u)) in
    let behind : drop (1 + up_to is_octal 3 (c ∷ u)) (b ∷ c ∷ u) ≡ drop (up_to is_octal 3 (c ∷ u)) (c ∷ u) = ap
    (λ k. drop k (b ∷ c ∷ u)) (one_more (up_to is_octal 3 (c ∷ u))) in
    record {
      part = (
        ap (λ k. take k (b ∷ c ∷ u)) (one_more (up_to is_octal 3 (c ∷ u)))
            ∙ ap (λ x. x ∷ take (up_to is_octal 3 (c ∷ u)) (c ∷ u)) is,
        up_to_passes is_octal 3 (c ∷ u),
        omega (arith, some, size),
        omega (arith, size, up_to_most is_octal 3 (c ∷ u)),
        λ few. ap (begins is_octal) behind ∙ up_to_stops is_octal 3 (c ∷ u) (omega (arith, few, size)),
      );
      some = omega arith;
      within = omega (arith, up_to_within is_octal 3 (c ∷ u));
    }

begun : (t : List ℕ) → begins is_hexadecimal t ≡ true → 1 ≤ up_to is_hexadecimal 2 t
begun [] e = absurd (cc)
begun (d ∷ t) e = omega (arith, ap (λ k. cond k (1 + up_to is_hexadecimal 1 t) 0) e)

hexadecimal_there : (b c : ℕ) (u : List ℕ) → b ≡ 92 → c ≡ 120 → begins is_hexadecimal u ≡ true
    → PartThere (b ∷ c ∷ u) (hexadecimal (take (up_to is_hexadecimal 2 u) u)) (2 + up_to is_hexadecimal 2 u)
hexadecimal_there b c u is x e =
    let some = begun u e in
    let size = length-take-le (up_to is_hexadecimal 2 u) u (up_to_within is_hexadecimal 2 u) in
    let behind : drop (2 + up_to is_hexadecimal 2 u) (b ∷ c ∷ u) ≡ drop (up_to is_hexadecimal 2 u) u = ap
    (λ k. drop k (b ∷ c ∷ u)) (two_more (up_to is_hexadecimal 2 u)) in
    record {
      part = (
        ap (λ k. take k (b ∷ c ∷ u)) (two_more (up_to is_hexadecimal 2 u))
            ∙ (λ i. is i ∷ x i ∷ take (up_to is_hexadecimal 2 u) u),
        up_to_passes is_hexadecimal 2 u,
        omega (arith, some, size),
        omega (arith, size, up_to_most is_hexadecimal 2 u),
        λ few. ap (begins is_hexadecimal) behind ∙ up_to_stops is_hexadecimal 2 u (omega (arith, few, size)),
      );
      some = omega arith;
      within = omega (arith, up_to_within is_hexadecimal 2 u);
    }

stays_is : (c : ℕ) (u : List ℕ) → letter_of c ≡ None → is_octal c ≡ false
    → (c == 120 && begins is_hexadecimal u) ≡ false → (c == 117) ≡ false → stays c u ≡ true
stays_is c u l o h x = λ i. is_none (l i) && not (o i) && not (x i) && not (h i)

number_or_pair_there : (b c : ℕ) (u : List ℕ) (x : Part × ℕ) → b ≡ 92 → letter_of c ≡ None → number_or_pair c u ≡ Some x
    → PartThere (b ∷ c ∷ u) x.0 x.1
number_or_pair_there b c u x is l e = go (is_octal c) refl (c == 120 && begins is_hexadecimal u) refl (c == 117) refl e
  where
    go : (o : Bool) → is_octal c ≡ o → (h : Bool) → (c == 120 && begins is_hexadecimal u) ≡ h → (y : Bool)
        → (c == 117) ≡ y
        → cond o (octal_at (c ∷ u)) (cond h (hexadecimal_at u) (cond y None (part_found (pair c) 2))) ≡ Some x
        → PartThere (b ∷ c ∷ u) x.0 x.1
    go true f h g y k e = same_part (b ∷ c ∷ u) _ _ x e (octal_there b c u is f)
    go false f true g y k e =
        let m = and_parts (c == 120) (begins is_hexadecimal u) g in same_part (b ∷ c ∷ u) _ _ x e
        (hexadecimal_there b c u is (eqb-true c 120 m.0) m.1)
    go false f false g true k e = absurd (cc)
    go false f false g false k e =
        same_part (b ∷ c
        ∷ u) (pair c) 2 x e (record {
          part = (ap (λ y. y ∷ c ∷ []) is, stays_is c u l f g k);
          some = omega arith;
          within
              = omega arith;
        })

escape_there : (b c : ℕ) (u : List ℕ) (x : Part × ℕ) → b ≡ 92 → escape_at (c ∷ u) ≡ Some x
    → PartThere (b ∷ c ∷ u) x.0 x.1
escape_there b c u x is e = go (letter_of c) refl e
  where
    go : (o : Option ℕ) → letter_of c ≡ o → escape_by o c u ≡ Some x → PartThere (b ∷ c ∷ u) x.0 x.1
    go (Some m) l e =
        same_part (b ∷ c
        ∷ u) (letter c m) 2 x e (record {
          part = (ap (λ y. y ∷ c ∷ []) is, l);
          some = omega arith;
          within = omega arith;
        })
    go None l e = number_or_pair_there b c u x is l e

pub part_there : (b : ℕ) (t : List ℕ) (x : Part × ℕ) → part_at (b ∷ t) ≡ Some x → PartThere (b ∷ t) x.0 x.1
part_there b t x e = go t (b == 92) refl e
  where
    go : (t : List ℕ) (k : Bool) → (b == 92) ≡ k
        → cond k (escape_at t) (cond (interpolates b t) None (part_found (plain b) 1)) ≡ Some x
        → PartThere (b ∷ t) x.0 x.1
    go [] true f e = absurd (cc)
    go (c ∷ u) true f e = escape_there b c u x (eqb-true b 92 f) e
    go t false f e = open_or (interpolates b t) refl e
      where
        open_or : (l : Bool) → interpolates b t ≡ l → cond l None (part_found (plain b) 1) ≡ Some x
            → PartThere (b ∷ t) x.0 x.1
        open_or true g e = absurd (cc)
        open_or false g e =
            same_part (b
            ∷ t) (plain b) 1 x e (record {
              part = (refl, false_test b 92 f, g);
              some = omega arith;
              within = omega arith;
            })

-- ---- where no part is found none begins

not_is : (k : Bool) → k ≡ true → not k ≡ false
not_is k e = ap not e

number_or_pair_none : (c : ℕ) (u : List ℕ) → number_or_pair c u ≡ None → (c == 117) ≡ true
number_or_pair_none c u e = go (is_octal c) (c == 120 && begins is_hexadecimal u) (c == 117) refl e
  where
    go : (o h y : Bool) → (c == 117) ≡ y
        → cond o (octal_at (c ∷ u)) (cond h (hexadecimal_at u) (cond y None (part_found (pair c) 2))) ≡ None
        → (c == 117) ≡ true
    go true h y k e = absurd (cc)
    go false true y k e = absurd (cc)
    go false false true k e = k
    go false false false k e = absurd (cc)

escape_none : (t : List ℕ) → escape_at t ≡ None → begins (λ c. not (c == 117)) t ≡ false
escape_none [] e = refl
escape_none (c ∷ u) e = go (letter_of c) e
  where
    go : (o : Option ℕ) → escape_by o c u ≡ None → not (c == 117) ≡ false
    go (Some m) e = absurd (cc)
    go None e = not_is (c == 117) (number_or_pair_none c u e)

pub part_none : (b : ℕ) (t : List ℕ) → part_at (b ∷ t) ≡ None → IsBadPart (b ∷ t)
part_none b t e = go (b == 92) refl e
  where
    go : (k : Bool) → (b == 92) ≡ k
        → cond k (escape_at t) (cond (interpolates b t) None (part_found (plain b) 1)) ≡ None → IsBadPart (b ∷ t)
    go true f e = inl (eqb-true b 92 f, escape_none t e)
    go false f e = open_or (interpolates b t) refl e
      where
        open_or : (l : Bool) → interpolates b t ≡ l → cond l None (part_found (plain b) 1) ≡ None → IsBadPart (b ∷ t)
        open_or true g e = inr (false_test b 92 f, g)
        open_or false g e = absurd (cc)

not_false : (k : Bool) → not k ≡ false → k ≡ true
not_false true e = refl
not_false false e = absurd (cc)

escape_bad : (t : List ℕ) → begins (λ c. not (c == 117)) t ≡ false → escape_at t ≡ None
escape_bad [] e = refl
escape_bad (c ∷ u) e = ap (λ x. escape_at (x ∷ u)) (eqb-true c 117 (not_false (c == 117) e))

pub bad_part : (z : List ℕ) → IsBadPart z → part_at z ≡ None
bad_part [] h = absurd h
bad_part (b ∷ t) (inl h) =
    ap (λ k. cond k (escape_at t) (cond (interpolates b t) None (part_found (plain b) 1))) (equal_test b 92 h.0)
    ∙ escape_bad t h.1
bad_part (b ∷ t) (inr h) =
    ap (λ k. cond k (escape_at t) (cond (interpolates b t) None (part_found (plain b) 1))) (other_test b 92 h.0)
    ∙ ap (λ k. cond k None (part_found (plain b) 1)) h.1

-- ---- part after part

pub ahead_none : (d : Doubled) → ahead [] 0 d ≡ d
ahead_none (Ok v) = refl
ahead_none (Err k) = let e : 0 + k ≡ k = omega arith in ap (λ n. Err n) e

pub ahead_again : (xs ys : List ℕ) (m n : ℕ) (d : Doubled) → ahead xs m (ahead ys n d) ≡ ahead (xs ++ ys) (m + n) d
ahead_again xs ys m n (Ok v) = ap (λ l. Ok l) (sym (append_assoc xs ys v))
ahead_again xs ys m n (Err k) = let e : m + (n + k) ≡ (m + n) + k = omega arith in ap (λ x. Err x) e

doubled_skip : (k : ℕ) (z : List ℕ) → k ≤ length z → doubled k z ≡ ahead [] k (doubled 0 (drop k z))
unfolding doubled
doubled_skip zero z le = sym (ahead_none (doubled 0 z))
doubled_skip (suc k) [] le = absurd (omega arith)
doubled_skip (suc k) (b ∷ t) le =
    ap (ahead [] 1) (doubled_skip k t (omega arith)) ∙ ahead_again [] [] 1 k (doubled 0 (drop k t))
    ∙ ap (λ n. ahead [] n (doubled 0 (drop k t))) (one_more k)

pub doubled_step : (b : ℕ) (t : List ℕ) (x : Part × ℕ) → part_at (b ∷ t) ≡ Some x
    → doubled 0 (b ∷ t) ≡ ahead (meaning x.0) x.1 (doubled 0 (drop x.1 (b ∷ t)))
unfolding doubled
doubled_step b t x e =
    let h = part_there b t x e in
    let less : x.1 - 1 ≤ length t = omega (arith, h.within) in
    let size : 1 + (x.1 - 1) ≡ x.1 = omega (arith, h.some) in
    let more : suc (x.1 - 1) ≡ x.1 = omega (arith, h.some) in
    ap (λ o. joined o (doubled (skipped o) t)) e
    ∙ ap (ahead (meaning x.0) 1) (doubled_skip (x.1 - 1) t less)
    ∙ ahead_again (meaning x.0) [] 1 (x.1 - 1) (doubled 0 (drop (x.1 - 1) t))
    ∙ (λ i. ahead (append-nil (meaning x.0) i) (size i) (doubled 0 (drop (more i) (b ∷ t))))

pub doubled_bad : (b : ℕ) (t : List ℕ) → part_at (b ∷ t) ≡ None → doubled 0 (b ∷ t) ≡ Err 0
unfolding doubled
doubled_bad b t e = ap (λ o. joined o (doubled (skipped o) t)) e

doubled_end : doubled 0 [] ≡ Ok []
unfolding doubled
doubled_end = refl

one_step : (z : List ℕ) (p : Part) (n : ℕ) → part_at z ≡ part_found p n
    → doubled 0 z ≡ ahead (meaning p) n (doubled 0 (drop n z))
one_step [] p n e = absurd (cc)
one_step (b ∷ t) p n e = let x : Part × ℕ = (p, n) in doubled_step b t x e

doubled_parts : (ps : Parts) (rest : List ℕ) → Come IsPart ps rest
    → doubled 0 (texts ps ++ rest) ≡ ahead (meanings ps) (length (texts ps)) (doubled 0 rest)
doubled_parts [] rest come = sym (ahead_none (doubled 0 rest))
doubled_parts (p ∷ ps) rest come =
    let whole = append_assoc p.1 (texts ps) rest in
    let size : length p.1 + length (texts ps) ≡ length (p.1 ++ texts ps) = omega
    (arith, length-append p.1 (texts ps)) in
    ap (doubled 0) whole
    ∙ one_step (p.1 ++ (texts ps ++ rest)) p.0 (length p.1) (part_is_found p.0 p.1 (texts ps ++ rest) come.0)
    ∙ ap (λ l. ahead (meaning p.0) (length p.1) (doubled 0 l)) (drop-append_seam p.1 (texts ps ++ rest))
    ∙ ap (ahead (meaning p.0) (length p.1)) (doubled_parts ps rest come.1)
    ∙ ahead_again (meaning p.0) (meanings ps) (length p.1) (length (texts ps)) (doubled 0 rest)
    ∙ ap (λ n. ahead (meaning p.0 ++ meanings ps) n (doubled 0 rest)) size

pub doubled_found : (body v : List ℕ) → IsDoubled body v → doubled 0 body ≡ Ok v
doubled_found body v h =
    ap (doubled 0) (sym h.whole ∙ sym (append-nil (texts h.parts))) ∙ doubled_parts h.parts [] h.each
    ∙ ap (ahead (meanings h.parts) (length (texts h.parts))) doubled_end
    ∙ ap (λ l. Ok l) (append-nil (meanings h.parts) ∙ sym h.is)

bad_at : (z : List ℕ) → IsBadPart z → doubled 0 z ≡ Err 0
bad_at [] h = absurd h
bad_at (b ∷ t) h = doubled_bad b t (bad_part (b ∷ t) h)

pub doubled_refused : (body : List ℕ) (at : ℕ) → IsBadInside body at → doubled 0 body ≡ Err at
doubled_refused body at h =
    ap (doubled 0) (sym h.whole) ∙ doubled_parts h.parts h.rest h.each
    ∙ ap (ahead (meanings h.parts) (length (texts h.parts))) (bad_at h.rest h.bad)
    ∙ (let e : length (texts h.parts) + 0 ≡ at = omega (arith, h.is) in ap (λ n. Err n) e)

-- what is read between double quotes is there
abbrev pub DoubledThere : List ℕ → Doubled → Type 0
DoubledThere z (Ok v) = IsDoubled z v
DoubledThere z (Err at) = IsBadInside z at

part_before : (z : List ℕ) (p : Part) (n : ℕ) → PartThere z p n → (d : Doubled) → DoubledThere (drop n z) d
    → DoubledThere z (ahead (meaning p) n d)
part_before z p n h (Ok v) there =
    let behind : texts there.parts ++ [] ≡ drop n z = append-nil (texts there.parts) ∙ there.whole in
    record {
      parts = (p, take n z) ∷ there.parts;
      whole = ap (λ l. take n z ++ l) there.whole ∙ take-append-drop n z;
      each = (subst (λ l. IsPart p (take n z) l) (sym behind) h.part, there.each);
      is = ap (λ l. meaning p ++ l) there.is;
    }
part_before z p n h (Err at) there =
    let size = length-take-le n z h.within in
    record {
      parts = (p, take n z) ∷ there.parts;
      rest = there.rest;
      whole =
          append_assoc (take n z) (texts there.parts) there.rest ∙ ap (λ l. take n z ++ l) there.whole
          ∙ take-append-drop n z;
      each = (subst (λ l. IsPart p (take n z) l) (sym there.whole) h.part, there.each);
      bad = there.bad;
      is = omega (arith, there.is, size, length-append (take n z) (texts there.parts));
    }

doubled_there_by : (n : ℕ) (z : List ℕ) → length z ≤ n → DoubledThere z (doubled 0 z)
doubled_there_by n [] le =
    subst (DoubledThere []) (sym doubled_end) (record { parts = []; whole = refl; each = tt; is = refl })
doubled_there_by zero (b ∷ t) le = absurd (omega arith)
doubled_there_by (suc n) (b ∷ t) le = go (λ z h. doubled_there_by n z h) (part_at (b ∷ t)) refl
  where
    go : ((z : List ℕ) → length z ≤ n → DoubledThere z (doubled 0 z)) → (o : Option (Part × ℕ)) → part_at (b ∷ t) ≡ o
        → DoubledThere (b ∷ t) (doubled 0 (b ∷ t))
    go ih None e =
        subst (DoubledThere (b ∷ t)) (sym (doubled_bad b t e))
        (record { parts = []; rest = b ∷ t; whole = refl; each = tt; bad = part_none b t e; is = refl })
    go ih (Some x) e =
        let h = part_there b t x e in
        let left : length (drop x.1 (b ∷ t)) ≤ n = omega (arith, h.some, length-drop x.1 (b ∷ t)) in
        subst (DoubledThere (b ∷ t)) (sym (doubled_step b t x e))
        (part_before (b ∷ t) x.0 x.1 h (doubled 0 (drop x.1 (b ∷ t))) (ih (drop x.1 (b ∷ t)) left))

pub doubled_there : (z : List ℕ) → DoubledThere z (doubled 0 z)
doubled_there z = doubled_there_by (length z) z (omega arith)

-- ---- for the code

bytes_in : Option (List ℕ × ℕ) → List ℕ
bytes_in None = []
bytes_in (Some x) = x.0

size_in : Option (List ℕ × ℕ) → ℕ
size_in None = 0
size_in (Some x) = x.1

pub shown_none : (o : Option (Part × ℕ)) → None ≡ shown_part o → o ≡ None
shown_none None e = refl
shown_none (Some x) e = absurd (cc)

abbrev pub bytes_taken : List ℕ → ℕ → Option (List ℕ × ℕ)
bytes_taken v n = Some (v, n)

shown_some : (v : List ℕ) (n : ℕ) (o : Option (Part × ℕ)) → bytes_taken v n ≡ shown_part o
    → (x : Part × ℕ) × (o ≡ Some x) × (v ≡ meaning x.0) × (n ≡ x.1)
unfolding bytes_in size_in
shown_some v n None e = absurd (cc)
shown_some v n (Some x) e = (x, refl, ap bytes_in e, ap size_in e)

read_some : (z : List ℕ) (x : Part × ℕ) → part_at z ≡ Some x
    → doubled 0 z ≡ ahead (meaning x.0) x.1 (doubled 0 (drop x.1 z))
read_some [] x e = absurd (cc)
read_some (b ∷ t) x e = doubled_step b t x e

pub doubled-more : (z bytes v : List ℕ) (n len : ℕ)
    → bytes_taken v len ≡ shown_part (part_at (take (length z - n) (drop n z)))
    → ahead (bytes ++ v) (n + len) (doubled 0 (drop (n + len) z)) ≡ ahead bytes n (doubled 0 (drop n z))
doubled-more z bytes v n len e =
    let h = shown_some v len (part_at (drop n z)) (e ∙ ap (λ l. shown_part (part_at l)) (whole_rest z n)) in
    sym (ap (ahead bytes n) (read_some (drop n z) h.0 h.1)
    ∙ ahead_again bytes (meaning h.0.0) n h.0.1 (doubled 0 (drop h.0.1 (drop n z)))
    ∙ ap (λ l. ahead (bytes ++ meaning h.0.0) (n + h.0.1) (doubled 0 l)) (drop-drop h.0.1 n z)
    ∙ (λ i. ahead (bytes ++ sym h.2 i) (n + sym h.3 i) (doubled 0 (drop (n + sym h.3 i) z))))

read_none : (z : List ℕ) → 0 < length z → part_at z ≡ None → doubled 0 z ≡ Err 0
read_none [] some e = absurd (omega arith)
read_none (b ∷ t) some e = doubled_bad b t e

pub doubled-stop : (z bytes : List ℕ) (n : ℕ) → n < length z
    → None ≡ shown_part (part_at (take (length z - n) (drop n z))) → ahead bytes n (doubled 0 (drop n z)) ≡ Err n
doubled-stop z bytes n lt e =
    let h = shown_none (part_at (drop n z)) (e ∙ ap (λ l. shown_part (part_at l)) (whole_rest z n)) in
    ap (ahead bytes n) (read_none (drop n z) (omega (arith, length-drop n z)) h)
    ∙ (let e : n + 0 ≡ n = omega arith in ap (λ k. Err k) e)

drop_past : (z : List ℕ) (n : ℕ) → length z ≤ n → drop n z ≡ []
drop_past [] zero le = refl
drop_past [] (suc n) le = refl
drop_past (x ∷ z) zero le = absurd (omega arith)
drop_past (x ∷ z) (suc n) le = drop_past z n (omega arith)

pub doubled-end : (z bytes : List ℕ) (n : ℕ) → length z ≤ n → ahead bytes n (doubled 0 (drop n z)) ≡ Ok bytes
doubled-end z bytes n le =
    ap (λ l. ahead bytes n (doubled 0 l)) (drop_past z n le) ∙ ap (ahead bytes n) doubled_end
    ∙ ap (λ l. Ok l) (append-nil bytes)
