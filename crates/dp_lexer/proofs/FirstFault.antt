-- What is wrong where no piece is found, and nothing else.
use Rattle.std.proofs.Common.{◌≡◌, ◌≢◌, ◌⊎◌, inl, inr, ℕ, suc, ◌+◌, ◌≤◌, Bool, true, false, ◌&&◌, ◌==◌, List, [], ◌∷◌, ◌++◌, length, take, drop, Option, Some, None, Ok, Err, sym, refl, ap, ◌∙◌, subst, append_assoc, cond, arith, eqb-true, take-append-drop, nat_lt, ltb-true, length-take-le}
use Rattle.dp_lexer.specs.declared.class.Class.{Class}
use Rattle.dp_lexer.specs.declared.class.Class.TheVariants as class
use Rattle.dp_lexer.specs.declared.token.Word.{Word}
use Rattle.dp_lexer.specs.declared.fault.Fault.{Fault}
use Rattle.dp_lexer.specs.declared.fault.Fault.TheVariants as fault
use Rattle.dp_lexer.specs.Bytes.{is_space, is_digit, is_start, is_part, begins_tag, runs_on, begins}
use Rattle.dp_lexer.specs.Quotes.{IsBody, enclosed}
use Rattle.dp_lexer.specs.Operators.{one_byte, two_bytes, three_bytes, operator_of}
use Rattle.dp_lexer.specs.Pieces.{Piece, space, line_comment, block_comment, name, variable, number, text, operator, IsName, IsPiece, widest, longest_name}
use Rattle.dp_lexer.specs.Tokens.{stray, attribute, closing_tag, point, behind_number, long_name, long_variable, comment_tag, inside_text, IsFault}
use Rattle.dp_lexer.specs.inner.Lexer.{class_of, Found, found, wrong, bad, name_len, name_at, dollar_at, ended, number_at, line_len, line_of, close_len, comment_of, hash_at, slash_at, body_len, Doubled, doubled, doubled_of, single_of, double_of, quote_at, is_split, single_operator, double_operator, triple_operator, operator_at, piece_by, piece_at}
use Rattle.dp_lexer.proofs.Runs.{and_parts, or_parts, equal_test, other_test, false_test, not_both, not_false, first_is, rest_is, run_within}
use Rattle.dp_lexer.proofs.LineComments.{tag_there, line_len-front, line_len-within, OpensAt, hash_opens, slashes_open}
use Rattle.dp_lexer.proofs.FoundNumbers.{number_len, number_value, number_ended, number_most}
use Rattle.dp_lexer.proofs.FoundTexts.{body_there, body_found}
use Rattle.dp_lexer.proofs.FoundParts.{DoubledThere, doubled_there}
use Rattle.dp_lexer.proofs.FoundOperators.{IsOfClass, OtherByte, is_of_class, operator_first}
use Rattle.dp_lexer.proofs.FoundPieces.{at_class, name_front, number_here, closes_found}

fault_in : Found → Fault → Fault
fault_in (Err y) f = y.0
fault_in (Ok y) f = f

place_in : Found → ℕ → ℕ
place_in (Err y) d = y.1
place_in (Ok y) d = d

-- the same fault in the same place
as_wrong : (z : List ℕ) (f g : Fault) (d n : ℕ) → wrong g n ≡ wrong f d → IsFault z g n → IsFault z f d
unfolding fault_in place_in
as_wrong z f g d n e h =
    subst (λ k. IsFault z k d) (ap (λ o. fault_in o f) e) (subst (λ k. IsFault z g k) (ap (λ o. place_in o d) e) h)

not_found : (p : Piece) (n : ℕ) (f : Fault) (d : ℕ) → found p n ≡ wrong f d → ⊥
not_found p n f d e = cc

-- ---- bytes with which no piece begins

pub record Idle (b : ℕ) (r : List ℕ) : Type 0 where
  pub start : is_start b ≡ false
  pub digit : is_digit b ≡ false
  pub space : is_space b ≡ false
  pub hash : b ≢ 35
  pub slash : b ≡ 47 → (begins (λ c. c == 47) r ≡ false) × (begins (λ c. c == 42) r ≡ false)
  pub dollar : b ≡ 36 → begins is_start r ≡ false
  pub single : b ≢ 39
  pub double : b ≢ 34
  pub operators : (u more : List ℕ) (k : Word) → operator_of u ≡ Some k → u ++ more ≡ b ∷ r → ⊥

second_is : (b c x y : ℕ) (q u : List ℕ) → b ∷ c ∷ q ≡ x ∷ y ∷ u → c ≡ y
second_is b c x y q u e = cc

-- the first byte of a list that begins so
head_is : (b : ℕ) (r u more t : List ℕ) (x : ℕ) → u ≡ x ∷ t → u ++ more ≡ b ∷ r → b ≡ x
head_is b r u more t x is same = sym (first_is x b (t ++ more) r (sym (ap (λ l. l ++ more) is) ∙ same))

tail_is : (b : ℕ) (r u more t : List ℕ) (x : ℕ) → u ≡ x ∷ t → u ++ more ≡ b ∷ r → r ≡ t ++ more
tail_is b r u more t x is same = sym (rest_is x b (t ++ more) r (sym (ap (λ l. l ++ more) is) ∙ same))

begins_with : (p : ℕ → Bool) (c : ℕ) (r t : List ℕ) → r ≡ c ∷ t → p c ≡ true → begins p r ≡ false → ⊥
begins_with p c r t is yes_is no_is = not_false (p c) yes_is (sym (ap (begins p) is) ∙ no_is)

pub idle_none : (b : ℕ) (r : List ℕ) → Idle b r → (q : Piece) (u more : List ℕ) → IsPiece q u → u ++ more ≡ b ∷ r → ⊥
idle_none b r idle space u more h same =
    not_false (is_space b) (ap is_space (head_is b r u more [] h.0 h.1 same) ∙ h.2) idle.space
idle_none b r idle line_comment u more (c, inl h, all) same = idle.hash (head_is b r u more c 35 h.0 same)
idle_none b r idle line_comment u more (c, inr h, all) same =
    let is = head_is b r u more (47 ∷ c) 47 h same in begins_with (λ x. x == 47) 47 r (c ++ more)
    (tail_is b r u more (47 ∷ c) 47 h same) refl (idle.slash is).0
idle_none b r idle block_comment u more h same =
    let is = head_is b r u more (42 ∷ h.0) 47 h.1 same in begins_with (λ x. x == 42) 42 r (h.0 ++ more)
    (tail_is b r u more (42 ∷ h.0) 47 h.1 same) refl (idle.slash is).1
idle_none b r idle (name n) u more h same = go n h.0 h.1
  where
    go : (m : List ℕ) → u ≡ m → IsName m → ⊥
    go [] is none = none
    go (x ∷ m) is named = not_false (is_start b) (ap is_start (head_is b r u more m x is same) ∙ named.0) idle.start
idle_none b r idle (variable n) u more h same = go n h.0 h.1
  where
    go : (m : List ℕ) → u ≡ 36 ∷ m → IsName m → ⊥
    go [] is none = none
    go (x ∷ m) is named =
        begins_with is_start x r (m ++ more) (tail_is b r u more (x ∷ m) 36 is same) named.0
        (idle.dollar (head_is b r u more (x ∷ m) 36 is same))
idle_none b r idle (number n) u more h same =
    not_false (is_digit b) (sym (ap (begins is_digit) same) ∙ (number_most n u more h).digit) idle.digit
idle_none b r idle (text v) u more (inl h) same = idle.single (head_is b r u more _ 39 h.1 same)
idle_none b r idle (text v) u more (inr h) same = idle.double (head_is b r u more _ 34 h.1 same)
idle_none b r idle (operator k) u more h same = idle.operators u more k h same

is_stray : (b : ℕ) (r : List ℕ) → Idle b r → IsFault (b ∷ r) fault.BadByte 0
is_stray b r idle =
    stray b r refl refl idle.single idle.double (λ q same. begins_with (λ c. c == 42) 42 r q
    (rest_is b 47 r (42 ∷ q) same) refl (idle.slash (first_is b 47 r (42 ∷ q) same)).1)
    (λ q u more h same. idle_none b r idle q u more h same)

-- no operator begins with a byte of another class
no_operator : (b : ℕ) (r : List ℕ) (c : Class) → class_of b ≡ c → (c ≡ class.Other → ⊥)
    → (u more : List ℕ) (k : Word) → operator_of u ≡ Some k → u ++ more ≡ b ∷ r → ⊥
no_operator b r c is apart u more k e same =
    let h = operator_first u k e in
    apart (sym is ∙ ap class_of (head_is b r u more h.1 h.0 h.2 same) ∙ h.3)

idle_slash : (b : ℕ) (r : List ℕ) → b ≡ 47 → begins (λ c. c == 47) r ≡ false → begins (λ c. c == 42) r ≡ false
    → Idle b r
idle_slash b r is slash star = record {
  start = ap is_start is;
  digit = ap is_digit is;
  space = ap is_space is;
  hash = not_both b 47 35 is refl;
  slash = λ e. (slash, star);
  dollar = λ e. absurd (not_both b 47 36 is refl e);
  single = not_both b 47 39 is refl;
  double = not_both b 47 34 is refl;
  operators = no_operator b r class.Slash (ap class_of is) (λ e. cc);
}

idle_dollar : (b : ℕ) (r : List ℕ) → b ≡ 36 → begins is_start r ≡ false → Idle b r
idle_dollar b r is start = record {
  start = ap is_start is;
  digit = ap is_digit is;
  space = ap is_space is;
  hash = not_both b 36 35 is refl;
  slash = λ e. absurd (not_both b 36 47 is refl e);
  dollar = λ e. start;
  single = not_both b 36 39 is refl;
  double = not_both b 36 34 is refl;
  operators = no_operator b r class.Dollar (ap class_of is) (λ e. cc);
}

idle_other : (b : ℕ) (r : List ℕ) → OtherByte b
    → ((u more : List ℕ) (k : Word) → operator_of u ≡ Some k → u ++ more ≡ b ∷ r → ⊥) → Idle b r
idle_other b r h none = record {
  start = h.start;
  digit = h.digit;
  space = h.space;
  hash = h.hash;
  slash = λ e. absurd (h.slash e);
  dollar = λ e. absurd (h.dollar e);
  single = h.single;
  double = h.double;
  operators = none;
}

-- ---- what is wrong, by the first byte

wrong_name : (b : ℕ) (r : List ℕ) (f : Fault) (d : ℕ) → is_start b ≡ true → name_at (b ∷ r) ≡ wrong f d
    → IsFault (b ∷ r) f d
wrong_name b r f d is e = go (nat_lt longest_name (name_len (b ∷ r))) refl e
  where
    go : (k : Bool) → nat_lt longest_name (name_len (b ∷ r)) ≡ k
        → cond k (wrong fault.BadByte 255) (found (name (take (name_len (b ∷ r)) (b ∷ r))) (name_len (b ∷ r))) ≡ wrong f
        d → IsFault (b ∷ r) f d
    go false t e = absurd (not_found _ _ f d e)
    go true t e =
        let long : 256 ≤ name_len (b ∷ r) = omega (arith, ltb-true _ _ t) in
        as_wrong (b
        ∷ r) f fault.BadByte d 255 e (long_name (take 256 (b ∷ r)) (drop 256 (b ∷ r)) refl
        (sym (take-append-drop 256 (b ∷ r))) (name_front b r 255 is long)
        (length-take-le 256 (b ∷ r) (omega (arith, long, run_within is_part (b ∷ r)))))

first_of : (p : ℕ → Bool) (r : List ℕ) → begins p r ≡ true → (b : ℕ) × (t : List ℕ) × (r ≡ b ∷ t) × (p b ≡ true)
first_of p [] e = absurd (cc)
first_of p (b ∷ t) e = (b, t, refl, e)

wrong_ended : (z : List ℕ) (f : Fault) (d : ℕ) → begins is_digit z ≡ true
    → ended (number_value z) (number_len z) (drop (number_len z) z) ≡ wrong f d → IsFault z f d
wrong_ended z f d is e = go (nat_lt widest (number_value z)) refl (begins runs_on (drop (number_len z) z)) refl e
  where
    go : (k : Bool) → nat_lt widest (number_value z) ≡ k → (l : Bool) → begins runs_on (drop (number_len z) z) ≡ l
        → cond k (wrong fault.WideNumber 0) (cond l (wrong fault.BadByte (number_len z))
        (found (number (number_value z)) (number_len z))) ≡ wrong f d → IsFault z f d
    go true t l s e =
        let here = number_here z is in as_wrong z f fault.WideNumber d 0 e (
          refl,
          (
            number_value z,
            take (number_len z) z,
            drop (number_len z) z,
            sym (take-append-drop (number_len z) z),
            here.spelled,
            ltb-true _ _ t,
          ),
        )
    go false t true s e =
        let here = number_here z is in
        let behind = first_of runs_on (drop (number_len z) z) s in
        let size = length-take-le (number_len z) z here.within in
        let whole : take (number_len z) z ++ behind.0
        ∷ behind.1 ≡ z = ap (λ l. take (number_len z) z ++ l) (sym behind.2) ∙ take-append-drop (number_len z) z in
        as_wrong z f fault.BadByte d (number_len z) e (behind_number (number_value z) behind.0
        (take (number_len z) z) behind.1 (sym size) (sym whole)
        (record {
          spelled = here.spelled;
          longest = λ m u more h same.
              (let most = number_most m u more h in omega (arith, most.at_least, ap number_len (same ∙ whole), size));
        })
        behind.3)
    go false t false s e = absurd (not_found _ _ f d e)

wrong_number : (b : ℕ) (r : List ℕ) (f : Fault) (d : ℕ) → is_digit b ≡ true → number_at (b ∷ r) ≡ wrong f d
    → IsFault (b ∷ r) f d
wrong_number b r f d is e = wrong_ended (b ∷ r) f d is (sym (number_ended b r) ∙ e)

wrong_line : (mark : ℕ) (z q : List ℕ) (f : Fault) (d : ℕ) → OpensAt mark z q → line_of mark q ≡ wrong f d
    → IsFault z f d
wrong_line mark z q f d h e = go (begins_tag (drop (line_len q) q)) refl e
  where
    go : (k : Bool) → begins_tag (drop (line_len q) q) ≡ k
        → cond k (wrong fault.BadByte (mark + line_len q)) (found line_comment (mark + line_len q)) ≡ wrong f d
        → IsFault z f d
    go false t e = absurd (not_found _ _ f d e)
    go true t e =
        let tag = tag_there (drop (line_len q) q) t in
        let size = length-take-le (mark + line_len q) z (omega (arith, h.size, line_len-within q)) in
        let whole = sym (take-append-drop (mark + line_len q) z)
        ∙ ap (λ l. take (mark + line_len q) z ++ l) (h.behind (line_len q) ∙ tag.1) in
        as_wrong z f fault.BadByte d (mark + line_len q) e (comment_tag (take (mark + line_len q) z) tag.0
        (sym size) whole (take (line_len q) q, h.opens (line_len q), line_len-front q))

wrong_hash : (b : ℕ) (r : List ℕ) (f : Fault) (d : ℕ) → b ≡ 35 → hash_at r ≡ wrong f d → IsFault (b ∷ r) f d
wrong_hash b r f d is e = go (begins (λ c. c == 91) r) refl e
  where
    go : (k : Bool) → begins (λ c. c == 91) r ≡ k → cond k bad (line_of 1 r) ≡ wrong f d → IsFault (b ∷ r) f d
    go false t e = wrong_line 1 (b ∷ r) r f d (hash_opens b r is t) e
    go true t e =
        let h = first_of (λ c. c == 91) r t in as_wrong (b ∷ r) f fault.BadByte d 0 e
        (attribute h.1 refl (λ i. is i ∷ (h.2 ∙ ap (λ y. y ∷ h.1) (eqb-true h.0 91 h.3)) i))

clash_len : (o : Option ℕ) (n : ℕ) → o ≡ Some n → o ≡ None → ⊥
clash_len o n e f = cc

wrong_slash : (b : ℕ) (r : List ℕ) (f : Fault) (d : ℕ) → b ≡ 47 → slash_at r ≡ wrong f d → IsFault (b ∷ r) f d
wrong_slash b [] f d is e = as_wrong (b ∷ []) f fault.BadByte d 0 e (is_stray b [] (idle_slash b [] is refl refl))
wrong_slash b (c ∷ q) f d is e = go (c == 47) refl (c == 42) refl e
  where
    closed : c ≡ 42 → (o : Option ℕ) → close_len q ≡ o → comment_of o ≡ wrong f d → IsFault (b ∷ c ∷ q) f d
    closed t (Some n) g e = absurd (not_found _ _ f d e)
    closed t None g e =
        as_wrong (b ∷ c
        ∷ q) f fault.OpenComment d 0 e (
          refl,
          (
            q,
            (λ i. is i ∷ t i ∷ q),
            λ u more h same. clash_len (close_len (u ++ more)) (length u) (closes_found u more h)
                (ap close_len same ∙ g),
          ),
        )

    go : (k : Bool) → (c == 47) ≡ k → (l : Bool) → (c == 42) ≡ l
        → cond k (line_of 2 q) (cond l (comment_of (close_len q)) bad) ≡ wrong f d → IsFault (b ∷ c ∷ q) f d
    go true t l s e = wrong_line 2 (b ∷ c ∷ q) q f d (slashes_open b c q is (eqb-true c 47 t)) e
    go false t true s e = closed (eqb-true c 42 s) (close_len q) refl e
    go false t false s e = as_wrong (b ∷ c ∷ q) f fault.BadByte d 0 e (is_stray b (c ∷ q) (idle_slash b (c ∷ q) is t s))

front_name : (r : List ℕ) → begins is_start r ≡ true → 256 ≤ name_len r → IsName (take 256 r)
front_name r e long =
    let h = first_of is_start r e in subst (λ l. IsName (take 256 l)) (sym h.2)
    (name_front h.0 h.1 255 h.3 (subst (λ l. 256 ≤ name_len l) h.2 long))

wrong_dollar : (b : ℕ) (r : List ℕ) (f : Fault) (d : ℕ) → b ≡ 36 → dollar_at r ≡ wrong f d → IsFault (b ∷ r) f d
wrong_dollar b r f d is e = go (begins is_start r) refl (nat_lt longest_name (name_len r)) refl e
  where
    go : (k : Bool) → begins is_start r ≡ k → (l : Bool) → nat_lt longest_name (name_len r) ≡ l
        → cond k (cond l (wrong fault.BadByte 256) (found (variable (take (name_len r) r)) (1 + name_len r))) bad ≡
        wrong f d → IsFault (b ∷ r) f d
    go false t l s e = as_wrong (b ∷ r) f fault.BadByte d 0 e (is_stray b r (idle_dollar b r is t))
    go true t false s e = absurd (not_found _ _ f d e)
    go true t true s e =
        let long : 256 ≤ name_len r = omega (arith, ltb-true _ _ s) in
        as_wrong (b
        ∷ r) f fault.BadByte d 256 e (long_variable (take 256 r) (drop 256 r) refl
        (λ i. is i ∷ sym (take-append-drop 256 r) i) (front_name r t long)
        (length-take-le 256 r (omega (arith, long, run_within is_part r))))

-- an enclosed text at the front
enclosed_at : (q : ℕ) (body more : List ℕ) (b : ℕ) (r : List ℕ) → enclosed q body ++ more ≡ b ∷ r → r ≡ body ++ q ∷ more
enclosed_at q body more b r same = sym (rest_is q b _ r same) ∙ append_assoc body (q ∷ []) more

no_body : (q : ℕ) (b : ℕ) (r : List ℕ) → q ≢ 92 → body_len q r ≡ None → (body more : List ℕ) → IsBody q body
    → enclosed q body ++ more ≡ b ∷ r → ⊥
no_body q b r apart e body more h same =
    clash_len (body_len q r) (length body) (ap (body_len q) (enclosed_at q body more b r same)
    ∙ body_found q body more apart h) e

open_text : (b q : ℕ) (r : List ℕ) (f : Fault) (d : ℕ) → (q ≡ 39) ⊎ (q ≡ 34) → q ≢ 92 → b ≡ q → body_len q r ≡ None
    → wrong fault.OpenString 0 ≡ wrong f d → IsFault (b ∷ r) f d
open_text b q r f d kinds apart is g e =
    as_wrong (b
    ∷ r) f fault.OpenString d 0 e (
      refl,
      (
        q,
        r,
        kinds,
        ap (λ x. x ∷ r) is,
        λ body more h same. no_body q b r apart g body more h same,
      ),
    )

wrong_single : (b : ℕ) (r : List ℕ) (f : Fault) (d : ℕ) → b ≡ 39 → (o : Option ℕ) → body_len 39 r ≡ o
    → single_of o r ≡ wrong f d → IsFault (b ∷ r) f d
wrong_single b r f d is (Some n) g e = absurd (not_found _ _ f d e)
wrong_single b r f d is None g e = open_text b 39 r f d (inl refl) (false_test 39 92 refl) is g e

wrong_double : (b : ℕ) (r : List ℕ) (f : Fault) (d : ℕ) → b ≡ 34 → (o : Option ℕ) → body_len 34 r ≡ o
    → double_of o r ≡ wrong f d → IsFault (b ∷ r) f d
wrong_double b r f d is None g e = open_text b 34 r f d (inr refl) (false_test 34 92 refl) is g e
wrong_double b r f d is (Some n) g e = go (doubled 0 (take n r)) (doubled_there (take n r)) e
  where
    go : (k : Doubled) → DoubledThere (take n r) k → doubled_of k n ≡ wrong f d → IsFault (b ∷ r) f d
    go (Ok v) there e = absurd (not_found _ _ f d e)
    go (Err at) there e =
        let h = body_there 34 r n g in
        let whole : b ∷ r ≡ enclosed 34 (take n r)
        ++ drop (suc n) r = (λ i. is i ∷ (h.closed ∙ sym (append_assoc (take n r) (34 ∷ []) (drop (suc n) r))) i) in
        as_wrong (b
        ∷ r) f fault.BadByte d (1 + at) e (inside_text (take n r) (drop (suc n) r) at refl whole h.body there)

wrong_quote : (b : ℕ) (r : List ℕ) (f : Fault) (d : ℕ) → (b ≡ 39) ⊎ (b ≡ 34) → quote_at b r ≡ wrong f d
    → IsFault (b ∷ r) f d
wrong_quote b r f d (inl is) e =
    wrong_single b r f d is (body_len 39 r) refl (sym (ap (λ k. cond k (single_of (body_len 39 r) r)
    (double_of (body_len 34 r) r)) (equal_test b 39 is)) ∙ e)
wrong_quote b r f d (inr is) e =
    wrong_double b r f d is (body_len 34 r) refl (sym (ap (λ k. cond k (single_of (body_len 39 r) r)
    (double_of (body_len 34 r) r)) (other_test b 39 (not_both b 34 39 is refl))) ∙ e)

-- ---- operators

clash_kind : (o : Option Word) (k : Word) → o ≡ Some k → o ≡ None → ⊥
clash_kind o k e f = cc

split_is : (b : ℕ) (r : List ℕ) → is_split b r ≡ true → IsFault (b ∷ r) fault.BadByte 0
split_is b r e = go (or_parts (b == 46 && begins is_digit r) (b == 63 && begins (λ c. c == 62) r) e)
  where
    go : ((b == 46 && begins is_digit r) ≡ true) ⊎ ((b == 63 && begins (λ c. c == 62) r) ≡ true)
        → IsFault (b ∷ r) fault.BadByte 0
    go (inl h) =
        let m = and_parts (b == 46) (begins is_digit r) h in let x = first_of is_digit r m.1 in point x.0 x.1 refl
        (λ i. eqb-true b 46 m.0 i ∷ x.2 i) x.3
    go (inr h) =
        let m = and_parts (b == 63) (begins (λ c. c == 62) r) h in let x = first_of
        (λ c. c == 62) r m.1 in closing_tag x.1 refl (λ i. eqb-true b 63 m.0 i
        ∷ (x.2 ∙ ap (λ y. y ∷ x.1) (eqb-true x.0 62 x.3)) i)

-- where no operator is found none is spelled
abbrev None_at : ℕ → List ℕ → Type 0
None_at b r = (u more : List ℕ) (k : Word) → operator_of u ≡ Some k → u ++ more ≡ b ∷ r → ⊥

third_is : (b c d x y z : ℕ) (q u : List ℕ) → b ∷ c ∷ d ∷ q ≡ x ∷ y ∷ z ∷ u → d ≡ z
third_is b c d x y z q u e = cc

none_one : (b : ℕ) → one_byte b ≡ None → None_at b []
none_one b e [] more k h same = cc
none_one b e (x ∷ []) more k h same = clash_kind (one_byte b) k (ap one_byte (sym (first_is x b more [] same)) ∙ h) e
none_one b e (x ∷ y ∷ t) more k h same = let two : y ∷ (t ++ more) ≡ [] = rest_is x b (y ∷ (t ++ more)) [] same in cc

none_two : (b c : ℕ) → one_byte b ≡ None → two_bytes b c ≡ None → None_at b (c ∷ [])
none_two b c e f [] more k h same = cc
none_two b c e f (x ∷ []) more k h same =
    clash_kind (one_byte b) k (ap one_byte (sym (first_is x b more (c ∷ []) same)) ∙ h) e
none_two b c e f (x ∷ y ∷ []) more k h same =
    clash_kind (two_bytes b c) k ((λ i. two_bytes (sym (first_is x b (y ∷ more) (c ∷ []) same) i)
    (sym (second_is x y b c more [] same) i)) ∙ h) f
none_two b c e f (x ∷ y ∷ z ∷ t) more k h same =
    let two : z ∷ (t ++ more) ≡ [] = rest_is y c (z ∷ (t ++ more)) []
    (rest_is x b (y ∷ z ∷ (t ++ more)) (c ∷ []) same) in cc

none_three : (b c d : ℕ) (r : List ℕ) → one_byte b ≡ None → two_bytes b c ≡ None → three_bytes b c d ≡ None
    → None_at b (c ∷ d ∷ r)
none_three b c d r e f g [] more k h same = cc
none_three b c d r e f g (x ∷ []) more k h same =
    clash_kind (one_byte b) k (ap one_byte (sym (first_is x b more (c ∷ d ∷ r) same)) ∙ h) e
none_three b c d r e f g (x ∷ y ∷ []) more k h same =
    clash_kind (two_bytes b c) k ((λ i. two_bytes (sym (first_is x b (y ∷ more) (c ∷ d ∷ r) same) i)
    (sym (second_is x y b c more (d ∷ r) same) i)) ∙ h) f
none_three b c d r e f g (x ∷ y ∷ z ∷ []) more k h same =
    clash_kind (three_bytes b c d) k ((λ i. three_bytes (sym (first_is x b (y ∷ z ∷ more) (c ∷ d ∷ r) same) i)
    (sym (second_is x y b c (z ∷ more) (d ∷ r) same) i) (sym (third_is x y z b c d more r same) i)) ∙ h) g
none_three b c d r e f g (x ∷ y ∷ z ∷ w ∷ t) more k h same = cc

wrong_single_operator : (b : ℕ) (r : List ℕ) (f : Fault) (d : ℕ) → OtherByte b → (o : Option Word) → one_byte b ≡ o
    → (one_byte b ≡ None → None_at b r) → single_operator o b r ≡ wrong f d → IsFault (b ∷ r) f d
wrong_single_operator b r f d h None t none e =
    as_wrong (b ∷ r) f fault.BadByte d 0 e (is_stray b r (idle_other b r h (none t)))
wrong_single_operator b r f d h (Some k) t none e = go (is_split b r) refl e
  where
    go : (s : Bool) → is_split b r ≡ s → cond s bad (found (operator k) 1) ≡ wrong f d → IsFault (b ∷ r) f d
    go true g e = as_wrong (b ∷ r) f fault.BadByte d 0 e (split_is b r g)
    go false g e = absurd (not_found _ _ f d e)

wrong_double_operator : (b c : ℕ) (t : List ℕ) (f : Fault) (d : ℕ) → OtherByte b → (o : Option Word)
    → two_bytes b c ≡ o → (one_byte b ≡ None → two_bytes b c ≡ None → None_at b (c ∷ t))
    → double_operator o b (c ∷ t) ≡ wrong f d → IsFault (b ∷ c ∷ t) f d
wrong_double_operator b c t f d h None g none e =
    wrong_single_operator b (c ∷ t) f d h (one_byte b) refl (λ one. none one g) e
wrong_double_operator b c t f d h (Some k) g none e = absurd (not_found _ _ f d e)

wrong_triple_operator : (b c x : ℕ) (t : List ℕ) (f : Fault) (d : ℕ) → OtherByte b → (o : Option Word)
    → three_bytes b c x ≡ o → triple_operator o b c (x ∷ t) ≡ wrong f d → IsFault (b ∷ c ∷ x ∷ t) f d
wrong_triple_operator b c x t f d h None g e =
    wrong_double_operator b c (x ∷ t) f d h (two_bytes b c) refl (λ one two. none_three b c x t one two g) e
wrong_triple_operator b c x t f d h (Some k) g e = absurd (not_found _ _ f d e)

wrong_operator : (b : ℕ) (r : List ℕ) (f : Fault) (d : ℕ) → OtherByte b → operator_at b r ≡ wrong f d
    → IsFault (b ∷ r) f d
wrong_operator b [] f d h e = wrong_single_operator b [] f d h (one_byte b) refl (none_one b) e
wrong_operator b (c ∷ []) f d h e = wrong_double_operator b c [] f d h (two_bytes b c) refl (none_two b c) e
wrong_operator b (c ∷ x ∷ t) f d h e = wrong_triple_operator b c x t f d h (three_bytes b c x) refl e

wrong_by : (b : ℕ) (r : List ℕ) (f : Fault) (d : ℕ) → (c : Class) → IsOfClass c b → piece_by c b r ≡ wrong f d
    → IsFault (b ∷ r) f d
wrong_by b r f d class.Name h e = wrong_name b r f d h e
wrong_by b r f d class.Number h e = wrong_number b r f d h e
wrong_by b r f d class.Space h e = absurd (not_found space 1 f d e)
wrong_by b r f d class.Hash h e = wrong_hash b r f d h e
wrong_by b r f d class.Slash h e = wrong_slash b r f d h e
wrong_by b r f d class.Dollar h e = wrong_dollar b r f d h e
wrong_by b r f d class.Quote h e = wrong_quote b r f d h e
wrong_by b r f d class.Other h e = wrong_operator b r f d h e

pub wrong_is : (b : ℕ) (r : List ℕ) (f : Fault) (d : ℕ) → piece_at (b ∷ r) ≡ wrong f d → IsFault (b ∷ r) f d
wrong_is b r f d e =
    wrong_by b r f d (class_of b) (is_of_class b (class_of b) refl) (sym (at_class b r (class_of b) refl) ∙ e)
