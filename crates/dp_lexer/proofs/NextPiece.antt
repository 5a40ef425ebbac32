-- What is found at the front is the piece that comes next.
use Rattle.std.proofs.Common.{◌≡◌, ◌⊎◌, inl, inr, ℕ, suc, ◌+◌, ◌<◌, ◌≤◌, Bool, true, false, ◌&&◌, ◌==◌, List, [], ◌∷◌, ◌++◌, length, take, drop, Option, Some, None, Ok, Err, sym, refl, ap, ◌∙◌, subst, append_assoc, cond, arith, eqb-true, take-append-drop, nat_lt, ltb-false, length-take-le, length-append}
use Rattle.std.proofs.Math.Seq.{take-append_seam}
use Rattle.dp_lexer.specs.declared.class.Class.{Class}
use Rattle.dp_lexer.specs.declared.class.Class.TheVariants as class
use Rattle.dp_lexer.specs.declared.token.Word.{Word}
use Rattle.dp_lexer.specs.declared.fault.Fault.{Fault}
use Rattle.dp_lexer.specs.declared.fault.Fault.TheVariants as fault
use Rattle.dp_lexer.specs.Bytes.{is_digit, is_start, is_part, is_in_line, begins_tag, runs_on, begins}
use Rattle.dp_lexer.specs.Quotes.{enclosed, single_value}
use Rattle.dp_lexer.specs.Operators.{one_byte, two_bytes, three_bytes}
use Rattle.dp_lexer.specs.Pieces.{Piece, space, line_comment, block_comment, name, variable, number, text, operator, IsName, IsNumber, IsPiece, IsAllowed, widest, longest_name, IsNext}
use Rattle.dp_lexer.specs.inner.Lexer.{class_of, Found, found, wrong, bad, name_len, name_at, dollar_at, ended, number_at, line_len, line_of, close_len, comment_of, hash_at, slash_at, body_len, Doubled, doubled, doubled_of, single_of, double_of, quote_at, is_split, single_operator, double_operator, triple_operator, operator_at, piece_by, piece_at}
use Rattle.dp_lexer.proofs.Runs.{or_none, or_left, equal_test, other_test, not_both, first_is, one_more, two_more, run_within, run_some}
use Rattle.dp_lexer.proofs.LineComments.{line_len-front, line_len-stops, line_len-within, take_two, OpensAt, hash_opens, slashes_open}
use Rattle.dp_lexer.proofs.FoundNumbers.{number_len, number_value, number_ended, number_there}
use Rattle.dp_lexer.proofs.FoundTexts.{body_there}
use Rattle.dp_lexer.proofs.FoundParts.{DoubledThere, doubled_there}
use Rattle.dp_lexer.proofs.FoundOperators.{IsOfClass, is_of_class}
use Rattle.dp_lexer.proofs.FoundPieces.{AtPiece, at_piece, name_whole, closes_there}

pub record PieceThere (z : List ℕ) (p : Piece) (n : ℕ) : Type 0 where
  pub spelled : IsPiece p (take n z)
  pub allowed : IsAllowed p (take n z) (drop n z)
  pub some : 1 ≤ n
  pub within : n ≤ length z

piece_in : Found → Piece → Piece
piece_in (Ok x) p = x.0
piece_in (Err x) p = p

len_in : Found → ℕ
len_in (Ok x) = x.1
len_in (Err x) = 0

same_found : (z : List ℕ) (p : Piece) (n : ℕ) (x : Piece × ℕ) → found p n ≡ Ok x → PieceThere z p n
    → PieceThere z x.0 x.1
unfolding piece_in len_in
same_found z p n x e h =
    subst (λ k. PieceThere z k x.1) (ap (λ o. piece_in o p) e) (subst (λ m. PieceThere z p m) (ap len_in e) h)

not_wrong : (f : Fault) (n : ℕ) (x : Piece × ℕ) → wrong f n ≡ Ok x → ⊥
not_wrong f n x e = cc

-- ---- each class

there_name : (b : ℕ) (r : List ℕ) (x : Piece × ℕ) → is_start b ≡ true → name_at (b ∷ r) ≡ Ok x
    → PieceThere (b ∷ r) x.0 x.1
there_name b r x is e = go (nat_lt longest_name (name_len (b ∷ r))) refl e
  where
    go : (k : Bool) → nat_lt longest_name (name_len (b ∷ r)) ≡ k
        → cond k (wrong fault.BadByte 255) (found (name (take (name_len (b ∷ r)) (b ∷ r))) (name_len (b ∷ r))) ≡ Ok x
        → PieceThere (b ∷ r) x.0 x.1
    go true t e = absurd (not_wrong fault.BadByte 255 x e)
    go false t e =
        let within = run_within is_part (b ∷ r) in
        let part : is_part b ≡ true = or_left (is_start b) (is_digit b) is in
        same_found (b ∷ r) (name (take (name_len (b ∷ r)) (b ∷ r))) (name_len (b ∷ r)) x e (record {
          spelled = (refl, name_whole b r is);
          allowed = omega (arith, length-take-le (name_len (b ∷ r)) (b ∷ r) within, ltb-false _ _ t);
          some = omega (arith, run_some is_part b r part);
          within = within;
        })

there_ended : (z : List ℕ) (n len : ℕ) (x : Piece × ℕ) → IsNumber n (take len z) → 1 ≤ len → len ≤ length z
    → ended n len (drop len z) ≡ Ok x → PieceThere z x.0 x.1
there_ended z n len x spelled some within e = go (nat_lt widest n) refl (begins runs_on (drop len z)) refl e
  where
    go : (k : Bool) → nat_lt widest n ≡ k → (l : Bool) → begins runs_on (drop len z) ≡ l
        → cond k (wrong fault.WideNumber 0) (cond l (wrong fault.BadByte len) (found (number n) len)) ≡ Ok x
        → PieceThere z x.0 x.1
    go true t l s e = absurd (not_wrong fault.WideNumber 0 x e)
    go false t true s e = absurd (not_wrong fault.BadByte len x e)
    go false t false s e =
        same_found z (number n) len x e (record {
          spelled = spelled;
          allowed =
              (ltb-false _ _ t, s);
          some = some;
          within = within;
        })

there_number : (b : ℕ) (r : List ℕ) (x : Piece × ℕ) → is_digit b ≡ true → number_at (b ∷ r) ≡ Ok x
    → PieceThere (b ∷ r) x.0 x.1
there_number b r x is e =
    let h = number_there b r is in
    there_ended (b ∷ r) (number_value (b ∷ r)) (number_len (b ∷ r)) x h.spelled h.some h.within
    (sym (number_ended b r) ∙ e)

there_line : (mark : ℕ) (z q : List ℕ) (x : Piece × ℕ) → OpensAt mark z q → line_of mark q ≡ Ok x → PieceThere z x.0 x.1
there_line mark z q x h e = go (begins_tag (drop (line_len q) q)) refl e
  where
    go : (k : Bool) → begins_tag (drop (line_len q) q) ≡ k
        → cond k (wrong fault.BadByte (mark + line_len q)) (found line_comment (mark + line_len q)) ≡ Ok x
        → PieceThere z x.0 x.1
    go true t e = absurd (not_wrong fault.BadByte (mark + line_len q) x e)
    go false t e = same_found z line_comment (mark + line_len q) x e (record {
      spelled = (take (line_len q) q, h.opens (line_len q), line_len-front q);
      allowed = ap (begins is_in_line) (h.behind (line_len q)) ∙ line_len-stops q t;
      some = omega (arith, h.some);
      within = omega (arith, h.size, line_len-within q);
    })

there_hash : (b : ℕ) (r : List ℕ) (x : Piece × ℕ) → b ≡ 35 → hash_at r ≡ Ok x → PieceThere (b ∷ r) x.0 x.1
there_hash b r x is e = go (begins (λ c. c == 91) r) refl e
  where
    go : (k : Bool) → begins (λ c. c == 91) r ≡ k → cond k bad (line_of 1 r) ≡ Ok x → PieceThere (b ∷ r) x.0 x.1
    go true t e = absurd (not_wrong fault.BadByte 0 x e)
    go false t e = there_line 1 (b ∷ r) r x (hash_opens b r is t) e

there_slash : (b : ℕ) (r : List ℕ) (x : Piece × ℕ) → b ≡ 47 → slash_at r ≡ Ok x → PieceThere (b ∷ r) x.0 x.1
there_slash b [] x is e = absurd (not_wrong fault.BadByte 0 x e)
there_slash b (c ∷ q) x is e = go (c == 47) refl (c == 42) refl e
  where
    closed : c ≡ 42 → (o : Option ℕ) → close_len q ≡ o → comment_of o ≡ Ok x → PieceThere (b ∷ c ∷ q) x.0 x.1
    closed t None f e = absurd (not_wrong fault.OpenComment 0 x e)
    closed t (Some n) f e = let h = closes_there q n f in same_found (b ∷ c ∷ q) block_comment (2 + n) x e (record {
      spelled = (take n q, take_two b c n q ∙ (λ i. is i ∷ t i ∷ take n q), h.1);
      allowed = tt;
      some = omega arith;
      within = omega (arith, h.0);
    })

    go : (k : Bool) → (c == 47) ≡ k → (l : Bool) → (c == 42) ≡ l
        → cond k (line_of 2 q) (cond l (comment_of (close_len q)) bad) ≡ Ok x → PieceThere (b ∷ c ∷ q) x.0 x.1
    go true t l s e = there_line 2 (b ∷ c ∷ q) q x (slashes_open b c q is (eqb-true c 47 t)) e
    go false t true s e = closed (eqb-true c 42 s) (close_len q) refl e
    go false t false s e = absurd (not_wrong fault.BadByte 0 x e)

first_start : (r : List ℕ) → begins is_start r ≡ true → (b : ℕ) × (t : List ℕ) × (r ≡ b ∷ t) × (is_start b ≡ true)
first_start [] e = absurd (cc)
first_start (b ∷ t) e = (b, t, refl, e)

pub name_of_run : (r : List ℕ) → begins is_start r ≡ true → IsName (take (name_len r) r)
name_of_run r e =
    let d = first_start r e in subst (λ l. IsName (take (name_len l) l)) (sym d.2) (name_whole d.0 d.1 d.3)

there_dollar : (b : ℕ) (r : List ℕ) (x : Piece × ℕ) → b ≡ 36 → dollar_at r ≡ Ok x → PieceThere (b ∷ r) x.0 x.1
there_dollar b r x is e = go (begins is_start r) refl (nat_lt longest_name (name_len r)) refl e
  where
    go : (k : Bool) → begins is_start r ≡ k → (l : Bool) → nat_lt longest_name (name_len r) ≡ l
        → cond k (cond l (wrong fault.BadByte 256) (found (variable (take (name_len r) r)) (1 + name_len r))) bad ≡ Ok x
        → PieceThere (b ∷ r) x.0 x.1
    go false t l s e = absurd (not_wrong fault.BadByte 0 x e)
    go true t true s e = absurd (not_wrong fault.BadByte 256 x e)
    go true t false s e =
        let within = run_within is_part r in
        same_found (b ∷ r) (variable (take (name_len r) r)) (1 + name_len r) x e (record {
          spelled = (
            ap (λ k. take k (b ∷ r)) (one_more (name_len r))
                ∙ ap (λ y. y ∷ take (name_len r) r) is,
            name_of_run r t,
          );
          allowed = omega (arith, length-take-le (name_len r) r within, ltb-false _ _ s);
          some = omega arith;
          within = omega (arith, within);
        })

-- a text up to its closing quote
take_closed : (q n : ℕ) (r : List ℕ) → n < length r → r ≡ take n r ++ q ∷ drop (suc n) r
    → take (suc n) r ≡ take n r ++ q ∷ []
take_closed q n r lt e =
    let whole : r ≡ (take n r ++ q ∷ []) ++ drop (suc n) r = e
    ∙ sym (append_assoc (take n r) (q ∷ []) (drop (suc n) r)) in
    let size : suc n ≡ length (take n r ++ q
    ∷ []) = omega (arith, length-append (take n r) (q ∷ []), length-take-le n r (omega arith)) in
    ap (λ k. take k r) size ∙ ap (take (length (take n r ++ q ∷ []))) whole
    ∙ take-append_seam (take n r ++ q ∷ []) (drop (suc n) r)

text_taken : (b q n : ℕ) (r : List ℕ) → b ≡ q → n < length r → r ≡ take n r ++ q ∷ drop (suc n) r
    → take (2 + n) (b ∷ r) ≡ enclosed q (take n r)
text_taken b q n r is lt e = ap (λ k. take k (b ∷ r)) (two_more n) ∙ (λ i. is i ∷ take_closed q n r lt e i)

there_single : (b : ℕ) (r : List ℕ) (x : Piece × ℕ) → b ≡ 39 → (o : Option ℕ) → body_len 39 r ≡ o → single_of o r ≡ Ok x
    → PieceThere (b ∷ r) x.0 x.1
there_single b r x is None f e = absurd (not_wrong fault.OpenString 0 x e)
there_single b r x is (Some n) f e =
    let h = body_there 39 r n f in same_found (b ∷ r) (text (single_value (take n r))) (2 + n) x e (record {
      spelled = inl (take n r, text_taken b 39 n r is h.within h.closed, h.body, refl);
      allowed = tt;
      some = omega arith;
      within = omega (arith, h.within);
    })

there_double : (b : ℕ) (r : List ℕ) (x : Piece × ℕ) → b ≡ 34 → (o : Option ℕ) → body_len 34 r ≡ o → double_of o r ≡ Ok x
    → PieceThere (b ∷ r) x.0 x.1
there_double b r x is None f e = absurd (not_wrong fault.OpenString 0 x e)
there_double b r x is (Some n) f e = go (doubled 0 (take n r)) (doubled_there (take n r)) e
  where
    go : (d : Doubled) → DoubledThere (take n r) d → doubled_of d n ≡ Ok x → PieceThere (b ∷ r) x.0 x.1
    go (Err k) there e = absurd (not_wrong fault.BadByte (1 + k) x e)
    go (Ok v) there e = let h = body_there 34 r n f in same_found (b ∷ r) (text v) (2 + n) x e (record {
      spelled = inr (take n r, text_taken b 34 n r is h.within h.closed, h.body, there);
      allowed = tt;
      some = omega arith;
      within = omega (arith, h.within);
    })

there_quote : (b : ℕ) (r : List ℕ) (x : Piece × ℕ) → (b ≡ 39) ⊎ (b ≡ 34) → quote_at b r ≡ Ok x
    → PieceThere (b ∷ r) x.0 x.1
there_quote b r x (inl is) e =
    there_single b r x is (body_len 39 r) refl (sym (ap (λ k. cond k (single_of (body_len 39 r) r)
    (double_of (body_len 34 r) r)) (equal_test b 39 is)) ∙ e)
there_quote b r x (inr is) e =
    there_double b r x is (body_len 34 r) refl (sym (ap (λ k. cond k (single_of (body_len 39 r) r)
    (double_of (body_len 34 r) r)) (other_test b 39 (not_both b 34 39 is refl))) ∙ e)

there_single_operator : (b : ℕ) (r : List ℕ) (x : Piece × ℕ) (o : Option Word) → one_byte b ≡ o
    → single_operator o b r ≡ Ok x → PieceThere (b ∷ r) x.0 x.1
there_single_operator b r x None t e = absurd (not_wrong fault.BadByte 0 x e)
there_single_operator b r x (Some k) t e = go (is_split b r) refl e
  where
    go : (s : Bool) → is_split b r ≡ s → cond s bad (found (operator k) 1) ≡ Ok x → PieceThere (b ∷ r) x.0 x.1
    go true f e = absurd (not_wrong fault.BadByte 0 x e)
    go false f e =
        let neither = or_none (b == 46 && begins is_digit r) (b == 63 && begins (λ c. c == 62) r) f in
        same_found (b ∷ r) (operator k) 1 x e (record {
          spelled = t;
          allowed = (
            λ is. sym (ap (λ l. l && begins is_digit r) (equal_test b 46 (first_is b 46 [] [] is))) ∙ neither.0,
            λ is. sym (ap (λ l. l && begins (λ c. c == 62) r) (equal_test b 63 (first_is b 63 [] [] is))) ∙ neither.1,
          );
          some = omega arith;
          within = omega arith;
        })

longer_text : (b c x : ℕ) (t : List ℕ) → b ∷ c ∷ t ≡ x ∷ [] → ⊥
longer_text b c x t e = cc

there_double_operator : (b c : ℕ) (t : List ℕ) (x : Piece × ℕ) (o : Option Word) → two_bytes b c ≡ o
    → double_operator o b (c ∷ t) ≡ Ok x → PieceThere (b ∷ c ∷ t) x.0 x.1
there_double_operator b c t x None f e = there_single_operator b (c ∷ t) x (one_byte b) refl e
there_double_operator b c t x (Some k) f e =
    same_found (b ∷ c
    ∷ t) (operator k) 2 x e (record {
      spelled = f;
      allowed = (
        λ is. absurd (longer_text b c 46 _ is),
        λ is. absurd (longer_text b c 63 _ is),
      );
      some = omega arith;
      within = omega arith;
    })

there_triple_operator : (b c d : ℕ) (t : List ℕ) (x : Piece × ℕ) (o : Option Word) → three_bytes b c d ≡ o
    → triple_operator o b c (d ∷ t) ≡ Ok x → PieceThere (b ∷ c ∷ d ∷ t) x.0 x.1
there_triple_operator b c d t x None f e = there_double_operator b c (d ∷ t) x (two_bytes b c) refl e
there_triple_operator b c d t x (Some k) f e =
    same_found (b ∷ c ∷ d
    ∷ t) (operator k) 3 x e (record {
      spelled = f;
      allowed = (
        λ is. absurd (longer_text b c 46 _ is),
        λ is. absurd (longer_text b c 63 _ is),
      );
      some = omega arith;
      within = omega arith;
    })

there_operator : (b : ℕ) (r : List ℕ) (x : Piece × ℕ) → operator_at b r ≡ Ok x → PieceThere (b ∷ r) x.0 x.1
there_operator b [] x e = there_single_operator b [] x (one_byte b) refl e
there_operator b (c ∷ []) x e = there_double_operator b c [] x (two_bytes b c) refl e
there_operator b (c ∷ d ∷ t) x e = there_triple_operator b c d t x (three_bytes b c d) refl e

there_by : (b : ℕ) (r : List ℕ) (x : Piece × ℕ) → (c : Class) → IsOfClass c b → piece_by c b r ≡ Ok x
    → PieceThere (b ∷ r) x.0 x.1
there_by b r x class.Name h e = there_name b r x h e
there_by b r x class.Number h e = there_number b r x h e
there_by b r x class.Space h e =
    same_found (b
    ∷ r) space 1 x e (record { spelled = (b, refl, h); allowed = tt; some = omega arith; within = omega arith })
there_by b r x class.Hash h e = there_hash b r x h e
there_by b r x class.Slash h e = there_slash b r x h e
there_by b r x class.Dollar h e = there_dollar b r x h e
there_by b r x class.Quote h e = there_quote b r x h e
there_by b r x class.Other h e = there_operator b r x e

pub piece_there : (z : List ℕ) (x : Piece × ℕ) → piece_at z ≡ Ok x → PieceThere z x.0 x.1
unfolding piece_at
piece_there [] x e = absurd (cc)
piece_there (b ∷ r) x e = there_by b r x (class_of b) (is_of_class b (class_of b) refl) e

-- ---- what is found comes next, and what comes next is found

at_found : (q : Piece) (u more : List ℕ) (x : Piece × ℕ) → IsPiece q u → piece_at (u ++ more) ≡ Ok x
    → (length u ≤ x.1) × (length u ≡ x.1 → x.0 ≡ q)
at_found q u more x h e = subst (AtPiece q u more) e (at_piece q u more h)

pub found_next : (z : List ℕ) (x : Piece × ℕ) → piece_at z ≡ Ok x → IsNext x.0 (take x.1 z) (drop x.1 z)
found_next z x e =
    let there = piece_there z x e in
    record {
      spelled = there.spelled;
      longest = λ q u more is same. (
          let whole : u ++ more ≡ z = same ∙ take-append-drop x.1 z in
          let h = at_found q u more x is (ap piece_at whole ∙ e) in
          omega (arith, h.0, length-take-le x.1 z there.within));
      allowed = there.allowed;
    }

next_by : (p : Piece) (t r : List ℕ) → IsNext p t r → (o : Found) → piece_at (t ++ r) ≡ o → AtPiece p t r o
    → o ≡ found p (length t)
next_by p t r next (Err e) is at = absurd (at next)
next_by p t r next (Ok x) is at =
    let there = piece_there (t ++ r) x is in
    let no_longer = next.longest x.0 (take x.1 (t ++ r)) (drop x.1 (t ++ r)) there.spelled
    (take-append-drop x.1 (t ++ r)) in
    let size : x.1 ≡ length t = omega (arith, no_longer, at.0, length-take-le x.1 (t ++ r) there.within) in
    (λ i. found (at.1 (sym size) i) (size i))

pub next_found : (p : Piece) (t r : List ℕ) → IsNext p t r → piece_at (t ++ r) ≡ found p (length t)
next_found p t r next = next_by p t r next (piece_at (t ++ r)) refl (at_piece p t r next.spelled)
