-- A piece that is spelled at the front: what is found there.
use Rattle.std.proofs.Common.{◌≡◌, ◌⊎◌, inl, inr, ℕ, zero, suc, ◌+◌, ◌≤◌, Bool, true, false, ◌&&◌, ◌||◌, ◌==◌, List, [], ◌∷◌, ◌++◌, length, take, drop, Option, Some, None, Ok, Err, sym, refl, ap, ◌∙◌, subst, append_assoc, cond, arith, eqb-true, take-append-drop, nat_lt, ltb-true, length-take-le, length-append}
use Rattle.std.proofs.Math.Seq.{take-append_seam, drop-append_seam}
use Rattle.dp_lexer.specs.declared.class.Class.{Class}
use Rattle.dp_lexer.specs.declared.class.Class.TheVariants as class
use Rattle.dp_lexer.specs.declared.token.Word.{Word}
use Rattle.dp_lexer.specs.declared.fault.Fault.TheVariants as fault
use Rattle.dp_lexer.specs.Bytes.{is_digit, is_start, is_part, is_in_line, begins_tag, runs_on, begins, Each}
use Rattle.dp_lexer.specs.Quotes.{IsBody, enclosed, single_value, IsDoubled}
use Rattle.dp_lexer.specs.Operators.{one_byte, two_bytes, three_bytes, operator_of}
use Rattle.dp_lexer.specs.Pieces.{Piece, space, line_comment, block_comment, name, variable, number, text, operator, IsName, IsNumber, Closes, OpensLine, StaysInLine, IsPiece, widest, longest_name, IsNext}
use Rattle.dp_lexer.specs.inner.Lexer.{class_of, Found, found, wrong, bad, longer, name_len, ended, line_len, line_of, close_len, comment_of, doubled, doubled_of, single_of, double_of, is_split, single_operator, double_operator, triple_operator, operator_at, piece_by, piece_at}
use Rattle.dp_lexer.proofs.Runs.{and_parts, or_parts, equal_test, false_test, not_false, one_more, run_at_least, run_within, run_front, run_passes, run_some}
use Rattle.dp_lexer.proofs.LineComments.{tag_in_line, line_len-none, no_angle, line_len-exact, line_len-least}
use Rattle.dp_lexer.proofs.FoundNumbers.{number_len, number_value, number_ended, number_there, number_most}
use Rattle.dp_lexer.proofs.FoundTexts.{body_found}
use Rattle.dp_lexer.proofs.FoundParts.{doubled_found}
use Rattle.dp_lexer.proofs.FoundOperators.{class_of_name, class_of_number, class_of_space, one_byte-class, two_bytes-class, three_bytes-class}

pub at_class : (b : ℕ) (r : List ℕ) (c : Class) → class_of b ≡ c → piece_at (b ∷ r) ≡ piece_by c b r
unfolding piece_at
at_class b r c e = ap (λ k. piece_by k b r) e

-- What is found where a piece is spelled: one that is as long, and the same if it is just as long; or nothing, and
-- then this is not the piece that comes next.
abbrev pub AtPiece : Piece → List ℕ → List ℕ → Found → Type 0
AtPiece q u more (Ok x) = (length u ≤ x.1) × (length u ≡ x.1 → x.0 ≡ q)
AtPiece q u more (Err e) = IsNext q u more → ⊥

-- ---- names

start_is_part : (b : ℕ) → is_start b ≡ true → is_part b ≡ true
start_is_part b is = ap (λ c. c || is_digit b) is

pub name_parts : (b : ℕ) (bs : List ℕ) → IsName (b ∷ bs) → Each is_part (b ∷ bs)
name_parts b bs h = (start_is_part b h.0, h.1)

-- the front of a run that begins a name is a name
pub name_front : (b : ℕ) (t : List ℕ) (k : ℕ) → is_start b ≡ true → suc k ≤ name_len (b ∷ t)
    → IsName (take (suc k) (b ∷ t))
name_front b t k is le = (is, run_front is_part t k (omega (arith, run_some is_part b t (start_is_part b is))))

pub name_whole : (b : ℕ) (t : List ℕ) → is_start b ≡ true → IsName (take (name_len (b ∷ t)) (b ∷ t))
name_whole b t is =
    let size = run_some is_part b t (start_is_part b is) in subst (λ k. IsName (take k (b ∷ t))) (sym size)
    (is, run_passes is_part t)

same_front : (u more : List ℕ) (k : ℕ) → length u ≡ k → take k (u ++ more) ≡ u
same_front u more k e = ap (λ n. take n (u ++ more)) (sym e) ∙ take-append_seam u more

-- a name that is longer than this one is no piece that comes next
at_name : (b : ℕ) (bs more : List ℕ) → IsName (b ∷ bs)
    → AtPiece (name (b ∷ bs)) (b ∷ bs) more (piece_at ((b ∷ bs) ++ more))
at_name b bs more h =
    subst (AtPiece (name (b ∷ bs)) (b ∷ bs) more) (sym (at_class b (bs ++ more) class.Name (class_of_name b h.0)))
    (go (nat_lt longest_name (name_len ((b ∷ bs) ++ more))) refl)
  where
    least : length (b ∷ bs) ≤ name_len ((b ∷ bs) ++ more)
    least = run_at_least is_part (b ∷ bs) more (name_parts b bs h)

    go : (k : Bool) → nat_lt longest_name (name_len ((b ∷ bs) ++ more)) ≡ k
        → AtPiece (name (b ∷ bs)) (b
        ∷ bs) more (cond k (wrong fault.BadByte 255) (found
        (name (take (name_len ((b ∷ bs) ++ more)) ((b ∷ bs) ++ more))) (name_len ((b ∷ bs) ++ more))))
    go true e = λ next.
        let n : ℕ = name_len ((b ∷ bs) ++ more) in
        let z : List ℕ = (b ∷ bs) ++ more in
        let run : List ℕ = take (name_len ((b ∷ bs) ++ more)) ((b ∷ bs) ++ more) in
        let no_longer = next.longest (name run) run (drop (name_len ((b ∷ bs) ++ more)) ((b ∷ bs) ++ more))
        (refl, name_whole b (bs ++ more) h.0) (take-append-drop (name_len ((b ∷ bs) ++ more)) ((b ∷ bs) ++ more)) in
        omega (
          arith,
          next.allowed,
          no_longer,
          ltb-true _ _ e,
          length-take-le (name_len ((b ∷ bs) ++ more)) ((b ∷ bs) ++ more) (run_within is_part ((b ∷ bs) ++ more)),
        )
    go false e = (least, λ same. ap (λ l. name l) (same_front (b ∷ bs) more (name_len ((b ∷ bs) ++ more)) same))

at_variable : (b : ℕ) (bs more : List ℕ) → IsName (b ∷ bs)
    → AtPiece (variable (b ∷ bs)) (36 ∷ b ∷ bs) more (piece_at (36 ∷ ((b ∷ bs) ++ more)))
at_variable b bs more h =
    subst (AtPiece (variable (b ∷ bs)) (36 ∷ b ∷ bs) more) (sym
    (at_class 36 ((b ∷ bs) ++ more) class.Dollar refl
    ∙ ap (λ k. cond k (cond (nat_lt longest_name (name_len ((b ∷ bs) ++ more))) (wrong fault.BadByte 256)
    (found (variable (take (name_len ((b ∷ bs) ++ more)) ((b ∷ bs) ++ more))) (1 + name_len ((b ∷ bs) ++ more))))
    bad) h.0)) (go (nat_lt longest_name (name_len ((b ∷ bs) ++ more))) refl)
  where
    least : length (b ∷ bs) ≤ name_len ((b ∷ bs) ++ more)
    least = run_at_least is_part (b ∷ bs) more (name_parts b bs h)

    go : (k : Bool) → nat_lt longest_name (name_len ((b ∷ bs) ++ more)) ≡ k
        → AtPiece (variable (b ∷ bs)) (36 ∷ b
        ∷ bs) more (cond k (wrong fault.BadByte 256) (found
        (variable (take (name_len ((b ∷ bs) ++ more)) ((b ∷ bs) ++ more))) (1 + name_len ((b ∷ bs) ++ more))))
    go true e = λ next.
        let run : List ℕ = take (name_len ((b ∷ bs) ++ more)) ((b ∷ bs) ++ more) in
        let no_longer = next.longest (variable run) (36 ∷ run) (drop (name_len ((b ∷ bs) ++ more)) ((b ∷ bs) ++ more))
        (refl, name_whole b (bs ++ more) h.0) (ap (λ l. 36 ∷ l)
        (take-append-drop (name_len ((b ∷ bs) ++ more)) ((b ∷ bs) ++ more))) in
        omega (
          arith,
          next.allowed,
          no_longer,
          ltb-true _ _ e,
          length-take-le (name_len ((b ∷ bs) ++ more)) ((b ∷ bs) ++ more) (run_within is_part ((b ∷ bs) ++ more)),
        )
    go false e = (
      omega (arith, least),
      λ same. (let size : length (b ∷ bs) ≡ name_len ((b ∷ bs) ++ more) = omega
          (arith, same) in ap (λ l. variable l) (same_front (b ∷ bs) more (name_len ((b ∷ bs) ++ more)) size)),
    )

-- ---- numbers

at_ended : (n v len : ℕ) (u more rest : List ℕ) → length u ≤ len → (length u ≡ len → v ≡ n)
    → (IsNext (number n) u more → (v ≤ widest) × (begins runs_on rest ≡ false))
    → AtPiece (number n) u more (ended v len rest)
at_ended n v len u more rest least value allowed = go (nat_lt widest v) refl (begins runs_on rest) refl
  where
    go : (k : Bool) → nat_lt widest v ≡ k → (l : Bool) → begins runs_on rest ≡ l
        → AtPiece (number n) u more (cond k (wrong fault.WideNumber 0)
        (cond l (wrong fault.BadByte len) (found (number v) len)))
    go true e l f = λ next. omega (arith, (allowed next).0, ltb-true _ _ e)
    go false e true f = λ next. not_false (begins runs_on rest) f (allowed next).1
    go false e false f = (least, λ same. ap (λ x. number x) (value same))

first_digit : (z : List ℕ) → begins is_digit z ≡ true → (b : ℕ) × (t : List ℕ) × (z ≡ b ∷ t) × (is_digit b ≡ true)
first_digit [] e = absurd (cc)
first_digit (b ∷ t) e = (b, t, refl, e)

-- what is found where a number begins
pub number_is : (z : List ℕ) → begins is_digit z ≡ true
    → piece_at z ≡ ended (number_value z) (number_len z) (drop (number_len z) z)
number_is z e =
    let d = first_digit z e in
    subst (λ l. piece_at l ≡ ended (number_value l) (number_len l) (drop (number_len l) l)) (sym d.2)
    (at_class d.0 d.1 class.Number (class_of_number d.0 d.3) ∙ number_ended d.0 d.1)

pub record NumberHere (z : List ℕ) : Type 0 where
  pub spelled : IsNumber (number_value z) (take (number_len z) z)
  pub within : number_len z ≤ length z
  pub some : 1 ≤ number_len z

pub number_here : (z : List ℕ) → begins is_digit z ≡ true → NumberHere z
number_here z e =
    let d = first_digit z e in
    let h = number_there d.0 d.1 d.3 in
    subst NumberHere (sym d.2) (record { spelled = h.spelled; within = h.within; some = h.some })

at_number : (n : ℕ) (u more : List ℕ) → IsNumber n u → AtPiece (number n) u more (piece_at (u ++ more))
at_number n u more h =
    let m = number_most n u more h in
    let here = number_here (u ++ more) m.digit in
    subst (AtPiece (number n) u more) (sym (number_is (u ++ more) m.digit))
    (at_ended n (number_value (u ++ more)) (number_len (u ++ more)) u more
    (drop (number_len (u ++ more)) (u ++ more)) m.at_least (λ same. sym (m.value same)) (λ next. (
    let no_longer = next.longest (number (number_value (u ++ more))) (take (number_len (u ++ more)) (u ++ more))
    (drop (number_len (u ++ more)) (u ++ more)) here.spelled
    (take-append-drop (number_len (u ++ more)) (u ++ more)) in
    let size : length u ≡ number_len (u
    ++ more) = omega (arith, no_longer, m.at_least, length-take-le (number_len (u ++ more)) (u ++ more) here.within)
    in
    let value = m.value size in
    let behind : drop (number_len (u ++ more)) (u ++ more) ≡ more = ap (λ k. drop k (u ++ more)) (sym size)
    ∙ drop-append_seam u more in
    (omega (arith, value, next.allowed.0), ap (begins runs_on) behind ∙ next.allowed.1))))

-- ---- comments

line_after : (more : List ℕ) → begins (λ b. b == 91) more ≡ true → begins is_in_line more ≡ false → ⊥
line_after [] e f = cc
line_after (b ∷ t) e f =
    let is = eqb-true b 91 e in let g : is_in_line b ≡ true = ap is_in_line is in not_false (is_in_line b) g f

at_line_of : (mark : ℕ) (u c more : List ℕ) → length u ≡ mark + length c → StaysInLine c
    → AtPiece line_comment u more (line_of mark (c ++ more))
at_line_of mark u c more size all = go (begins_tag (drop (line_len (c ++ more)) (c ++ more))) refl
  where
    go : (k : Bool) → begins_tag (drop (line_len (c ++ more)) (c ++ more)) ≡ k
        → AtPiece line_comment u more (cond k (wrong fault.BadByte (mark + line_len (c ++ more)))
        (found line_comment (mark + line_len (c ++ more))))
    go true e = λ next.
        let ends : line_len (c ++ more) ≡ length c = line_len-exact c more all (line_len-none more next.allowed)
        (no_angle more next.allowed) in
        let tag : begins_tag more ≡ true = ap begins_tag (sym (drop-append_seam c more))
        ∙ ap (λ n. begins_tag (drop n (c ++ more))) (sym ends) ∙ e in
        tag_in_line more tag next.allowed
    go false e = (omega (arith, size, line_len-least c more all e), λ same. refl)

at_hash : (c more : List ℕ) → begins (λ b. b == 91) c ≡ false → StaysInLine c
    → AtPiece line_comment (35 ∷ c) more (piece_at (35 ∷ (c ++ more)))
at_hash c more first all =
    subst (AtPiece line_comment (35 ∷ c) more) (sym (at_class 35 (c ++ more) class.Hash refl))
    (go c first all (begins (λ b. b == 91) (c ++ more)) refl)
  where
    go : (c : List ℕ) → begins (λ b. b == 91) c ≡ false → StaysInLine c → (k : Bool)
        → begins (λ b. b == 91) (c ++ more) ≡ k
        → AtPiece line_comment (35 ∷ c) more (cond k bad (line_of 1 (c ++ more)))
    go c first all false e = at_line_of 1 (35 ∷ c) c more (omega arith) all
    go [] first all true e = λ next. line_after more e next.allowed
    go (x ∷ c) first all true e = absurd (not_false (x == 91) e first)

at_slashes : (c more : List ℕ) → StaysInLine c
    → AtPiece line_comment (47 ∷ 47 ∷ c) more (piece_at (47 ∷ 47 ∷ (c ++ more)))
at_slashes c more all =
    subst (AtPiece line_comment (47 ∷ 47 ∷ c) more) (sym (at_class 47 (47 ∷ (c ++ more)) class.Slash refl))
    (at_line_of 2 (47 ∷ 47 ∷ c) c more (omega arith) all)

both : (b c m n : ℕ) → (b == m && c == n) ≡ true → (b ≡ m) × (c ≡ n)
both b c m n e = let p = and_parts (b == m) (c == n) e in (eqb-true b m p.0, eqb-true c n p.1)

neither : (b c m n : ℕ) → (b == m && c == n) ≡ false → (b ≡ m) × (c ≡ n) → ⊥
neither b c m n e h =
    let x = equal_test b m h.0 in let y = equal_test c n h.1 in let z : (b == m && c == n) ≡ true =
    (λ i. x i && y i) in cc

pub closes_found : (u more : List ℕ) → Closes u → close_len (u ++ more) ≡ Some (length u)
closes_found [] more h = absurd h
closes_found (b ∷ []) more h = absurd h
closes_found (b ∷ c ∷ t) more (inl h) =
    let x : (b ∷ c ∷ t) ++ more ≡ 42 ∷ 47 ∷ more = (λ i. h.0.0 i ∷ h.0.1 i ∷ (h.1 i ++ more)) in ap close_len x
    ∙ ap (λ l. Some (length {A = ℕ} (b ∷ c ∷ l))) (sym h.1)
closes_found (b ∷ c ∷ t) more (inr h) = go (b == 42 && c == 47) refl (closes_found (c ∷ t) more h.1)
  where
    go : (k : Bool) → (b == 42 && c == 47) ≡ k → close_len ((c ∷ t) ++ more) ≡ Some (length (c ∷ t))
        → cond k (Some 2) (longer 1 (close_len ((c ∷ t) ++ more))) ≡ Some (length (b ∷ c ∷ t))
    go true e ih = absurd (h.0 (both b c 42 47 e))
    go false e ih = ap (λ o. longer 1 o) ih ∙ ap (λ n. Some n) (one_more (suc (length t)))

pub closes_there : (q : List ℕ) (n : ℕ) → close_len q ≡ Some n → (n ≤ length q) × Closes (take n q) × (2 ≤ n)
closes_there [] n is = absurd (cc)
closes_there (b ∷ []) n is = absurd (cc)
closes_there (b ∷ c ∷ t) n is = go (λ m e. closes_there (c ∷ t) m e) (b == 42 && c == 47) refl is
  where
    some_one : (x y : ℕ) → Some x ≡ Some y → x ≡ y
    some_one x y e = cc

    step : (o : Option ℕ) → ((m : ℕ) → o ≡ Some m → (m ≤ length (c ∷ t)) × Closes (take m (c ∷ t)) × (2 ≤ m))
        → (b == 42 && c == 47) ≡ false → longer 1 o ≡ Some n
        → (n ≤ length (b ∷ c ∷ t)) × Closes (take n (b ∷ c ∷ t)) × (2 ≤ n)
    step None ih e is = absurd (cc)
    step (Some zero) ih e is = let h = ih 0 refl in absurd (omega (arith, h.2))
    step (Some (suc m)) ih e is =
        let h = ih (suc m) refl in
        let same : suc (suc m) ≡ n = sym (one_more (suc m)) ∙ some_one (1 + suc m) n is in
        subst (λ k. (k ≤ length (b ∷ c ∷ t)) × Closes (take k (b ∷ c ∷ t)) × (2 ≤ k)) same
        (omega (arith, h.0), inr (neither b c 42 47 e, h.1), omega (arith, h.2))

    go : ((m : ℕ) → close_len (c ∷ t) ≡ Some m → (m ≤ length (c ∷ t)) × Closes (take m (c ∷ t)) × (2 ≤ m)) → (k : Bool)
        → (b == 42 && c == 47) ≡ k → cond k (Some 2) (longer 1 (close_len (c ∷ t))) ≡ Some n
        → (n ≤ length (b ∷ c ∷ t)) × Closes (take n (b ∷ c ∷ t)) × (2 ≤ n)
    go ih true e is =
        let same : 2 ≡ n = cc in
        subst (λ k. (k ≤ length (b ∷ c ∷ t)) × Closes (take k (b ∷ c ∷ t)) × (2 ≤ k)) same
        (omega arith, inl (both b c 42 47 e, refl), omega arith)
    go ih false e is = step (close_len (c ∷ t)) ih e is

at_block : (c more : List ℕ) → Closes c → AtPiece block_comment (47 ∷ 42 ∷ c) more (piece_at (47 ∷ 42 ∷ (c ++ more)))
at_block c more h =
    subst (AtPiece block_comment (47 ∷ 42 ∷ c) more) (sym (at_class 47 (42 ∷ (c ++ more)) class.Slash refl
    ∙ ap comment_of (closes_found c more h))) (omega arith, λ same. refl)

-- ---- texts

enclosed_more : (q : ℕ) (body more : List ℕ) → enclosed q body ++ more ≡ q ∷ (body ++ q ∷ more)
enclosed_more q body more = ap (λ l. q ∷ l) (append_assoc body (q ∷ []) more)

pub enclosed_len : (q : ℕ) (body : List ℕ) → length (enclosed q body) ≡ 2 + length body
enclosed_len q body = omega (arith, length-append body (q ∷ []))

pub single_is : (body more : List ℕ) → IsBody 39 body
    → piece_at (enclosed 39 body ++ more) ≡ found (text (single_value body)) (2 + length body)
single_is body more h =
    ap piece_at (enclosed_more 39 body more) ∙ at_class 39 (body ++ 39 ∷ more) class.Quote refl
    ∙ ap (λ o. single_of o (body ++ 39 ∷ more)) (body_found 39 body more (false_test 39 92 refl) h)
    ∙ ap (λ l. found (text (single_value l)) (2 + length body)) (take-append_seam body (39 ∷ more))

pub double_is : (body more : List ℕ) → IsBody 34 body
    → piece_at (enclosed 34 body ++ more) ≡ doubled_of (doubled 0 body) (length body)
double_is body more h =
    ap piece_at (enclosed_more 34 body more) ∙ at_class 34 (body ++ 34 ∷ more) class.Quote refl
    ∙ ap (λ o. double_of o (body ++ 34 ∷ more)) (body_found 34 body more (false_test 34 92 refl) h)
    ∙ ap (λ l. doubled_of (doubled 0 l) (length body)) (take-append_seam body (34 ∷ more))

at_text : (v u more : List ℕ) (n : ℕ) → length u ≡ n → piece_at (u ++ more) ≡ found (text v) n
    → AtPiece (text v) u more (piece_at (u ++ more))
at_text v u more n size e = subst (AtPiece (text v) u more) (sym e) (omega (arith, size), λ same. refl)

at_single : (body v u more : List ℕ) → u ≡ enclosed 39 body → IsBody 39 body → v ≡ single_value body
    → AtPiece (text v) u more (piece_at (u ++ more))
at_single body v u more is h value =
    at_text v u more (2 + length body) (ap (λ l. length {A = ℕ} l) is ∙ enclosed_len 39 body)
    (ap (λ l. piece_at (l ++ more)) is ∙ single_is body more h ∙ ap (λ l. found (text l) (2 + length body)) (sym value))

at_double : (body v u more : List ℕ) → u ≡ enclosed 34 body → IsBody 34 body → IsDoubled body v
    → AtPiece (text v) u more (piece_at (u ++ more))
at_double body v u more is h value =
    at_text v u more (2 + length body) (ap (λ l. length {A = ℕ} l) is ∙ enclosed_len 34 body)
    (ap (λ l. piece_at (l ++ more)) is ∙ double_is body more h
    ∙ ap (λ d. doubled_of d (length body)) (doubled_found body v value))

-- ---- operators

split_not : (k : Word) (b : ℕ) (more : List ℕ) → IsNext (operator k) (b ∷ []) more → is_split b more ≡ true → ⊥
split_not k b more next e = go (or_parts (b == 46 && begins is_digit more) (b == 63 && begins (λ c. c == 62) more) e)
  where
    go : ((b == 46 && begins is_digit more) ≡ true) ⊎ ((b == 63 && begins (λ c. c == 62) more) ≡ true) → ⊥
    go (inl h) =
        let m = and_parts (b == 46) (begins is_digit more) h in not_false (begins is_digit more) m.1
        (next.allowed.0 (ap (λ x. x ∷ []) (eqb-true b 46 m.0)))
    go (inr h) =
        let m = and_parts (b == 63) (begins (λ c. c == 62) more) h in not_false (begins (λ c. c == 62) more) m.1
        (next.allowed.1 (ap (λ x. x ∷ []) (eqb-true b 63 m.0)))

at_single_operator : (k : Word) (b : ℕ) (more : List ℕ) → one_byte b ≡ Some k
    → AtPiece (operator k) (b ∷ []) more (single_operator (one_byte b) b more)
at_single_operator k b more e =
    subst (λ o. AtPiece (operator k) (b ∷ []) more (single_operator o b more)) (sym e) (go (is_split b more) refl)
  where
    go : (s : Bool) → is_split b more ≡ s → AtPiece (operator k) (b ∷ []) more (cond s bad (found (operator k) 1))
    go true f = λ next. split_not k b more next f
    go false f = (omega arith, λ same. refl)

at_double_operator : (k : Word) (b : ℕ) (more : List ℕ) (o : Option Word) → one_byte b ≡ Some k
    → AtPiece (operator k) (b ∷ []) more (double_operator o b more)
at_double_operator k b more None e = at_single_operator k b more e
at_double_operator k b more (Some j) e = (omega arith, λ same. absurd (omega arith))

at_one_byte : (k : Word) (b : ℕ) (more : List ℕ) → one_byte b ≡ Some k
    → AtPiece (operator k) (b ∷ []) more (operator_at b more)
at_one_byte k b [] e = at_single_operator k b [] e
at_one_byte k b (c ∷ []) e = at_double_operator k b (c ∷ []) (two_bytes b c) e
at_one_byte k b (c ∷ d ∷ t) e = go (three_bytes b c d)
  where
    go : (o : Option Word) → AtPiece (operator k) (b ∷ []) (c ∷ d ∷ t) (triple_operator o b c (d ∷ t))
    go None = at_double_operator k b (c ∷ d ∷ t) (two_bytes b c) e
    go (Some j) = (omega arith, λ same. absurd (omega arith))

at_two_bytes : (k : Word) (b c : ℕ) (more : List ℕ) → two_bytes b c ≡ Some k
    → AtPiece (operator k) (b ∷ c ∷ []) more (operator_at b (c ∷ more))
at_two_bytes k b c [] e =
    subst (λ o. AtPiece (operator k) (b ∷ c ∷ []) [] (double_operator o b (c ∷ []))) (sym e) (omega arith, λ same. refl)
at_two_bytes k b c (d ∷ t) e = go (three_bytes b c d)
  where
    go : (o : Option Word) → AtPiece (operator k) (b ∷ c ∷ []) (d ∷ t) (triple_operator o b c (d ∷ t))
    go None =
        subst (λ o. AtPiece (operator k) (b ∷ c ∷ []) (d ∷ t) (double_operator o b (c ∷ d ∷ t))) (sym e)
        (omega arith, λ same. refl)
    go (Some j) = (omega arith, λ same. absurd (omega arith))

at_three_bytes : (k : Word) (b c d : ℕ) (more : List ℕ) → three_bytes b c d ≡ Some k
    → AtPiece (operator k) (b ∷ c ∷ d ∷ []) more (operator_at b (c ∷ d ∷ more))
at_three_bytes k b c d more e =
    subst (λ o. AtPiece (operator k) (b ∷ c ∷ d ∷ []) more (triple_operator o b c (d ∷ more))) (sym e)
    (omega arith, λ same. refl)

at_operator : (k : Word) (u more : List ℕ) → operator_of u ≡ Some k
    → AtPiece (operator k) u more (piece_at (u ++ more))
at_operator k [] more e = absurd (cc)
at_operator k (b ∷ []) more e =
    subst (AtPiece (operator k) (b ∷ []) more) (sym (at_class b more class.Other (one_byte-class b k e)))
    (at_one_byte k b more e)
at_operator k (b ∷ c ∷ []) more e =
    subst (AtPiece (operator k) (b ∷ c ∷ []) more) (sym (at_class b (c ∷ more) class.Other (two_bytes-class b c k e)))
    (at_two_bytes k b c more e)
at_operator k (b ∷ c ∷ d ∷ []) more e =
    subst (AtPiece (operator k) (b ∷ c ∷ d
    ∷ []) more) (sym (at_class b (c ∷ d ∷ more) class.Other (three_bytes-class b c d k e)))
    (at_three_bytes k b c d more e)
at_operator k (b ∷ c ∷ d ∷ x ∷ t) more e = absurd (cc)

-- ---- any piece

at_line : (u c more : List ℕ) → OpensLine u c → StaysInLine c → AtPiece line_comment u more (piece_at (u ++ more))
at_line u c more (inl h) all =
    subst (λ l. AtPiece line_comment l more (piece_at (l ++ more))) (sym h.0) (at_hash c more h.1 all)
at_line u c more (inr h) all =
    subst (λ l. AtPiece line_comment l more (piece_at (l ++ more))) (sym h) (at_slashes c more all)

pub at_piece : (q : Piece) (u more : List ℕ) → IsPiece q u → AtPiece q u more (piece_at (u ++ more))
at_piece space u more h =
    subst (λ l. AtPiece space l more (piece_at (l ++ more))) (sym h.1)
    (subst (AtPiece space (h.0 ∷ []) more) (sym (at_class h.0 more class.Space (class_of_space h.0 h.2)))
    (omega arith, λ same. refl))
at_piece line_comment u more h = at_line u h.0 more h.1 h.2
at_piece block_comment u more h =
    subst (λ l. AtPiece block_comment l more (piece_at (l ++ more))) (sym h.1) (at_block h.0 more h.2)
at_piece (name n) u more h = subst (λ l. AtPiece (name n) l more (piece_at (l ++ more))) (sym h.0) (go n h.1)
  where
    go : (m : List ℕ) → IsName m → AtPiece (name m) m more (piece_at (m ++ more))
    go [] none = absurd none
    go (b ∷ bs) is = at_name b bs more is
at_piece (variable n) u more h = subst (λ l. AtPiece (variable n) l more (piece_at (l ++ more))) (sym h.0) (go n h.1)
  where
    go : (m : List ℕ) → IsName m → AtPiece (variable m) (36 ∷ m) more (piece_at (36 ∷ (m ++ more)))
    go [] none = absurd none
    go (b ∷ bs) is = at_variable b bs more is
at_piece (number n) u more h = at_number n u more h
at_piece (text v) u more (inl h) = at_single h.0 v u more h.1 h.2 h.3
at_piece (text v) u more (inr h) = at_double h.0 v u more h.1 h.2 h.3
at_piece (operator k) u more h = at_operator k u more h
