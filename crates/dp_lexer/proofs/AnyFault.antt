-- Each fault at the front is what is answered there, unless a number before it is too wide.
use Rattle.std.proofs.Common.{◌≡◌, ◌≢◌, ◌⊎◌, inl, inr, ℕ, suc, ◌+◌, ◌<◌, ◌≤◌, Bool, true, false, ◌==◌, List, [], ◌∷◌, ◌++◌, length, take, drop, Option, Some, None, sym, refl, ap, ◌∙◌, subst, append_assoc, cond, arith, eqb-true, take-append-drop, nat_lt, length-take-le}
use Rattle.std.proofs.Math.Seq.{drop-append_seam}
use Rattle.std.proofs.lemmas.Bool.Decides.{nat_tests}
use Rattle.dp_lexer.specs.declared.class.Class.{Class}
use Rattle.dp_lexer.specs.declared.class.Class.TheVariants as class
use Rattle.dp_lexer.specs.declared.token.Word.{Word}
use Rattle.dp_lexer.specs.declared.token.Word.TheVariants as word
use Rattle.dp_lexer.specs.declared.fault.Fault.{Fault}
use Rattle.dp_lexer.specs.declared.fault.Fault.TheVariants as fault
use Rattle.dp_lexer.specs.Bytes.{is_digit, is_start, is_part, runs_on, begins}
use Rattle.dp_lexer.specs.Quotes.{IsBody, enclosed}
use Rattle.dp_lexer.specs.Operators.{one_byte, two_bytes, three_bytes}
use Rattle.dp_lexer.specs.Pieces.{Piece, space, line_comment, name, variable, number, operator, IsName, IsNumber, Closes, OpensLine, StaysInLine, IsPiece, widest, longest_name}
use Rattle.dp_lexer.specs.Tokens.{IsLongestNumber, IsBadByte, stray, attribute, closing_tag, point, behind_number, long_name, long_variable, comment_tag, inside_text, IsFault}
use Rattle.dp_lexer.specs.inner.Lexer.{class_of, found, wrong, bad, name_len, dollar_at, ended, line_of, close_len, comment_of, slash_at, body_len, doubled_of, single_of, double_of, single_operator, double_operator, triple_operator, operator_at, piece_by, piece_at}
use Rattle.dp_lexer.proofs.Runs.{or_left, run_at_least}
use Rattle.dp_lexer.proofs.LineComments.{line_tagged}
use Rattle.dp_lexer.proofs.FoundNumbers.{number_len, number_value, number_most}
use Rattle.dp_lexer.proofs.FoundTexts.{body_there}
use Rattle.dp_lexer.proofs.FoundParts.{doubled_refused}
use Rattle.dp_lexer.proofs.FoundOperators.{IsOfClass, is_of_class, class_of_name}
use Rattle.dp_lexer.proofs.FoundPieces.{at_class, name_parts, number_is, number_here, closes_there, double_is}

abbrev pub IsAnswered : List ℕ → Fault → ℕ → Type 0
IsAnswered z f n = (piece_at z ≡ wrong f n) ⊎ ((piece_at z ≡ wrong fault.WideNumber 0) × (1 ≤ n))

abbrev NoPiece : ℕ → List ℕ → Type 0
NoPiece b t = (q : Piece) (u more : List ℕ) → IsPiece q u → u ++ more ≡ b ∷ t → ⊥

-- ---- stray bytes

stray_slash : (b : ℕ) (t : List ℕ) → b ≡ 47 → ((q : List ℕ) → b ∷ t ≡ 47 ∷ 42 ∷ q → ⊥) → NoPiece b t → slash_at t ≡ bad
stray_slash b [] is comment none = refl
stray_slash b (c ∷ q) is comment none = go (c == 47) refl (c == 42) refl
  where
    go : (k : Bool) → (c == 47) ≡ k → (l : Bool) → (c == 42) ≡ l
        → cond k (line_of 2 q) (cond l (comment_of (close_len q)) bad) ≡ bad
    go true e l f =
        absurd (none line_comment (47 ∷ 47 ∷ []) q ([], inr refl, tt) (λ i. sym is i ∷ sym (eqb-true c 47 e) i ∷ q))
    go false e true f = absurd (comment q (λ i. is i ∷ eqb-true c 42 f i ∷ q))
    go false e false f = refl

first_start : (r : List ℕ) → begins is_start r ≡ true → (b : ℕ) × (t : List ℕ) × (r ≡ b ∷ t) × (is_start b ≡ true)
first_start [] e = absurd (cc)
first_start (b ∷ t) e = (b, t, refl, e)

stray_dollar : (b : ℕ) (t : List ℕ) → b ≡ 36 → NoPiece b t → dollar_at t ≡ bad
stray_dollar b t is none = go (begins is_start t) refl
  where
    go : (k : Bool) → begins is_start t ≡ k
        → cond k (cond (nat_lt longest_name (name_len t)) (wrong fault.BadByte 256)
        (found (variable (take (name_len t) t)) (1 + name_len t))) bad ≡ bad
    go true e =
        let h = first_start t e in absurd (none (variable (h.0 ∷ [])) (36 ∷ h.0 ∷ []) h.1 (refl, (h.3, tt))
        (λ i. sym is i ∷ sym h.2 i))
    go false e = refl

stray_single_operator : (b : ℕ) (t : List ℕ) → NoPiece b t → (o : Option Word) → one_byte b ≡ o
    → single_operator o b t ≡ bad
stray_single_operator b t none None e = refl
stray_single_operator b t none (Some k) e = absurd (none (operator k) (b ∷ []) t e refl)

stray_double_operator : (b c : ℕ) (t : List ℕ) → NoPiece b (c ∷ t) → (o : Option Word) → two_bytes b c ≡ o
    → double_operator o b (c ∷ t) ≡ bad
stray_double_operator b c t none None e = stray_single_operator b (c ∷ t) none (one_byte b) refl
stray_double_operator b c t none (Some k) e = absurd (none (operator k) (b ∷ c ∷ []) t e refl)

stray_triple_operator : (b c d : ℕ) (t : List ℕ) → NoPiece b (c ∷ d ∷ t) → (o : Option Word)
    → three_bytes b c d ≡ o → triple_operator o b c (d ∷ t) ≡ bad
stray_triple_operator b c d t none None e = stray_double_operator b c (d ∷ t) none (two_bytes b c) refl
stray_triple_operator b c d t none (Some k) e = absurd (none (operator k) (b ∷ c ∷ d ∷ []) t e refl)

stray_operator : (b : ℕ) (t : List ℕ) → NoPiece b t → operator_at b t ≡ bad
stray_operator b [] none = stray_single_operator b [] none (one_byte b) refl
stray_operator b (c ∷ []) none = stray_double_operator b c [] none (two_bytes b c) refl
stray_operator b (c ∷ d ∷ t) none = stray_triple_operator b c d t none (three_bytes b c d) refl

stray_by : (b : ℕ) (t : List ℕ) → (c : Class) → IsOfClass c b → b ≢ 39 → b ≢ 34
    → ((q : List ℕ) → b ∷ t ≡ 47 ∷ 42 ∷ q → ⊥)
    → NoPiece b t → piece_by c b t ≡ bad
stray_by b t class.Name h single double comment none = absurd (none (name (b ∷ [])) (b ∷ []) t (refl, (h, tt)) refl)
stray_by b t class.Number h single double comment none =
    let here = number_here (b
    ∷ t) h in absurd (none (number (number_value (b ∷ t))) (take (number_len (b ∷ t)) (b ∷ t))
    (drop (number_len (b ∷ t)) (b ∷ t)) here.spelled (take-append-drop (number_len (b ∷ t)) (b ∷ t)))
stray_by b t class.Space h single double comment none = absurd (none space (b ∷ []) t (b, refl, h) refl)
stray_by b t class.Hash h single double comment none =
    absurd (none line_comment (35 ∷ []) t ([], inl (refl, refl), tt) (λ i. sym h i ∷ t))
stray_by b t class.Slash h single double comment none = stray_slash b t h comment none
stray_by b t class.Dollar h single double comment none = stray_dollar b t h none
stray_by b t class.Quote (inl h) single double comment none = absurd (single h)
stray_by b t class.Quote (inr h) single double comment none = absurd (double h)
stray_by b t class.Other h single double comment none = stray_operator b t none

stray_answered : (b : ℕ) (t : List ℕ) → b ≢ 39 → b ≢ 34
    → ((q : List ℕ) → b ∷ t ≡ 47 ∷ 42 ∷ q → ⊥) → NoPiece b t
    → piece_at (b ∷ t) ≡ bad
stray_answered b t single double comment none =
    at_class b t (class_of b) refl ∙ stray_by b t (class_of b)
    (is_of_class b (class_of b) refl) single double comment none

-- ---- the other bad bytes

attribute_answered : (t : List ℕ) → piece_at (35 ∷ 91 ∷ t) ≡ bad
attribute_answered t = at_class 35 (91 ∷ t) class.Hash refl

closing_tag_answered : (t : List ℕ) → piece_at (63 ∷ 62 ∷ t) ≡ bad
closing_tag_answered [] = at_class 63 (62 ∷ []) class.Other refl
closing_tag_answered (d ∷ t) = at_class 63 (62 ∷ d ∷ t) class.Other refl

point_single : (d : ℕ) (t : List ℕ) → is_digit d ≡ true → double_operator (two_bytes 46 d) 46 (d ∷ t) ≡ bad
point_single d t is =
    let apart : (d == 61) ≡ false = grind (arith, nat_tests) in
    ap (λ k. double_operator (cond k (Some word.ConcatAssign) None) 46 (d ∷ t)) apart
    ∙ ap (λ k. cond k bad (found (operator word.Dot) 1)) (or_left (is_digit d) false is)

point_answered : (d : ℕ) (t : List ℕ) → is_digit d ≡ true → piece_at (46 ∷ d ∷ t) ≡ bad
point_answered d [] is = at_class 46 (d ∷ []) class.Other refl ∙ point_single d [] is
point_answered d (x ∷ t) is = at_class 46 (d ∷ x ∷ t) class.Other refl ∙ point_single d (x ∷ t) is

behind_answered : (n b : ℕ) (t more z : List ℕ) → z ≡ t ++ b ∷ more → IsLongestNumber n t (b ∷ more) → runs_on b ≡ true
    → IsAnswered z fault.BadByte (length t)
behind_answered n b t more z is h runs =
    let most = number_most n t (b ∷ more) h.spelled in
    let here = number_here (t ++ b ∷ more) most.digit in
    let no_longer = h.longest (number_value (t ++ b ∷ more)) (take (number_len (t ++ b ∷ more)) (t ++ b ∷ more))
    (drop (number_len (t ++ b ∷ more)) (t ++ b ∷ more)) here.spelled
    (take-append-drop (number_len (t ++ b ∷ more)) (t ++ b ∷ more)) in
    let size : number_len (t ++ b
    ∷ more) ≡ length t = omega (
      arith,
      no_longer,
      most.at_least,
      length-take-le (number_len (t ++ b ∷ more)) (t ++ b ∷ more) here.within,
    ) in
    let behind : drop (number_len (t ++ b ∷ more)) (t ++ b ∷ more) ≡ b ∷ more = ap (λ k. drop k (t ++ b ∷ more)) size
    ∙ drop-append_seam t (b ∷ more) in
    let answer : piece_at z ≡ ended (number_value (t ++ b ∷ more)) (length t) (b ∷ more) = ap piece_at is
    ∙ number_is (t ++ b ∷ more) most.digit ∙ (λ i. ended (number_value (t ++ b ∷ more)) (size i) (behind i)) in
    go (nat_lt widest (number_value (t ++ b ∷ more))) (answer
    ∙ ap (λ l. cond (nat_lt widest (number_value (t ++ b ∷ more))) (wrong fault.WideNumber 0)
    (cond l (wrong fault.BadByte (length t)) (found (number (number_value (t ++ b ∷ more))) (length t)))) runs)
    (omega (arith, size, here.some))
  where
    go : (k : Bool) → piece_at z ≡ cond k (wrong fault.WideNumber 0) (wrong fault.BadByte (length t)) → 1 ≤ length t
        → IsAnswered z fault.BadByte (length t)
    go true e long = inr (e, long)
    go false e long = inl e

long_run : (n more : List ℕ) → IsName n → length n ≡ 256 → nat_lt longest_name (name_len (n ++ more)) ≡ true
long_run [] more h size = absurd h
long_run (b ∷ bs) more h size =
    let least = run_at_least is_part (b ∷ bs) more (name_parts b bs h) in let long : longest_name < name_len
    ((b ∷ bs) ++ more) = omega (arith, least, size) in grind (arith, nat_tests)

long_name_answered : (n more : List ℕ) → IsName n → length n ≡ 256 → piece_at (n ++ more) ≡ wrong fault.BadByte 255
long_name_answered [] more h size = absurd h
long_name_answered (b ∷ bs) more h size =
    at_class b (bs ++ more) class.Name (class_of_name b h.0)
    ∙ ap (λ k. cond k (wrong fault.BadByte 255) (found (name (take (name_len ((b ∷ bs) ++ more)) ((b ∷ bs) ++ more)))
    (name_len ((b ∷ bs) ++ more)))) (long_run (b ∷ bs) more h size)

long_variable_answered : (n more : List ℕ) → IsName n → length n ≡ 256
    → piece_at (36 ∷ (n ++ more)) ≡ wrong fault.BadByte 256
long_variable_answered [] more h size = absurd h
long_variable_answered (b ∷ bs) more h size =
    at_class 36 ((b ∷ bs) ++ more) class.Dollar refl
    ∙ ap (λ k. cond k (cond (nat_lt longest_name (name_len ((b ∷ bs) ++ more))) (wrong fault.BadByte 256)
    (found (variable (take (name_len ((b ∷ bs) ++ more)) ((b ∷ bs) ++ more))) (1 + name_len ((b ∷ bs) ++ more))))
    bad) h.0
    ∙ ap (λ k. cond k (wrong fault.BadByte 256) (found (variable
    (take (name_len ((b ∷ bs) ++ more)) ((b ∷ bs) ++ more))) (1 + name_len ((b ∷ bs) ++ more))))
    (long_run (b ∷ bs) more h size)

no_bracket : (c more : List ℕ) → begins (λ b. b == 91) c ≡ false → begins (λ b. b == 91) (c ++ 63 ∷ 62 ∷ more) ≡ false
no_bracket [] more e = refl
no_bracket (x ∷ c) more e = e

comment_tag_answered : (t c more : List ℕ) → OpensLine t c → StaysInLine c
    → piece_at (t ++ 63 ∷ 62 ∷ more) ≡ wrong fault.BadByte (length t)
comment_tag_answered t c more (inl h) all =
    ap (λ l. piece_at (l ++ 63 ∷ 62 ∷ more)) h.0 ∙ at_class 35 (c ++ 63 ∷ 62 ∷ more) class.Hash refl
    ∙ ap (λ k. cond k bad (line_of 1 (c ++ 63 ∷ 62 ∷ more))) (no_bracket c more h.1)
    ∙ line_tagged 1 c more all
    ∙ (let size : 1 + length c ≡ length t = omega (arith, ap length h.0) in ap (λ n. wrong fault.BadByte n) size)
comment_tag_answered t c more (inr h) all =
    ap (λ l. piece_at (l ++ 63 ∷ 62 ∷ more)) h ∙ at_class 47 (47 ∷ (c ++ 63 ∷ 62 ∷ more)) class.Slash refl
    ∙ line_tagged 2 c more all
    ∙ (let size : 2 + length c ≡ length t = omega (arith, ap length h) in ap (λ n. wrong fault.BadByte n) size)

same_place : (z : List ℕ) (f : Fault) (m n : ℕ) → n ≡ m → piece_at z ≡ wrong f m → IsAnswered z f n
same_place z f m n e h = inl (h ∙ ap (λ k. wrong f k) (sym e))

bad_byte_answered : (z : List ℕ) (at : ℕ) → IsBadByte z at → IsAnswered z fault.BadByte at
bad_byte_answered z at (stray b t here is single double comment none) =
    same_place z fault.BadByte 0 at here (ap piece_at is
    ∙ stray_answered b t single double (λ q same. comment q (is ∙ same))
    (λ q u more h same. none q u more h (same ∙ sym is)))
bad_byte_answered z at (attribute t here is) =
    same_place z fault.BadByte 0 at here (ap piece_at is ∙ attribute_answered t)
bad_byte_answered z at (closing_tag t here is) =
    same_place z fault.BadByte 0 at here (ap piece_at is ∙ closing_tag_answered t)
bad_byte_answered z at (point d t here is digit) =
    same_place z fault.BadByte 0 at here (ap piece_at is ∙ point_answered d t digit)
bad_byte_answered z at (behind_number n b t more here is longest runs) =
    subst (λ k. IsAnswered z fault.BadByte k) (sym here) (behind_answered n b t more z is longest runs)
bad_byte_answered z at (long_name n more here is named size) =
    same_place z fault.BadByte 255 at here (ap piece_at is ∙ long_name_answered n more named size)
bad_byte_answered z at (long_variable n more here is named size) =
    same_place z fault.BadByte 256 at here (ap piece_at is ∙ long_variable_answered n more named size)
bad_byte_answered z at (comment_tag t more here is h) =
    same_place z fault.BadByte (length t) at here (ap piece_at is ∙ comment_tag_answered t h.0 more h.1 h.2)
bad_byte_answered z at (inside_text body more inner here is h inside) =
    same_place z fault.BadByte (1 + inner) at here (ap piece_at is ∙ double_is body more h
    ∙ ap (λ d. doubled_of d (length body)) (doubled_refused body inner inside))

-- ---- open texts and comments, wide numbers

closed_whole : (q n : ℕ) (r : List ℕ) → r ≡ take n r ++ q ∷ drop (suc n) r
    → enclosed q (take n r) ++ drop (suc n) r ≡ q ∷ r
closed_whole q n r e = ap (λ l. q ∷ l) (append_assoc (take n r) (q ∷ []) (drop (suc n) r) ∙ sym e)

open_len : (q : ℕ) (r : List ℕ) → ((body more : List ℕ) → IsBody q body → enclosed q body ++ more ≡ q ∷ r → ⊥)
    → body_len q r ≡ None
open_len q r none = go (body_len q r) refl
  where
    go : (o : Option ℕ) → body_len q r ≡ o → o ≡ None
    go None e = refl
    go (Some n) e =
        let h = body_there q r n e in absurd (none (take n r) (drop (suc n) r) h.body (closed_whole q n r h.closed))

open_answered : (q : ℕ) (r : List ℕ) → (q ≡ 39) ⊎ (q ≡ 34)
    → ((body more : List ℕ) → IsBody q body → enclosed q body ++ more ≡ q ∷ r → ⊥)
    → piece_at (q ∷ r) ≡ wrong fault.OpenString 0
open_answered q r (inl is) none =
    ap (λ x. piece_at (x ∷ r)) is ∙ at_class 39 r class.Quote refl
    ∙ ap (λ o. single_of o r) (sym (ap (λ x. body_len x r) is) ∙ open_len q r none)
open_answered q r (inr is) none =
    ap (λ x. piece_at (x ∷ r)) is ∙ at_class 34 r class.Quote refl
    ∙ ap (λ o. double_of o r) (sym (ap (λ x. body_len x r) is) ∙ open_len q r none)

open_close : (r : List ℕ) → ((c more : List ℕ) → Closes c → c ++ more ≡ r → ⊥) → close_len r ≡ None
open_close r none = go (close_len r) refl
  where
    go : (o : Option ℕ) → close_len r ≡ o → o ≡ None
    go None e = refl
    go (Some n) e = absurd (none (take n r) (drop n r) (closes_there r n e).1 (take-append-drop n r))

wide_answered : (n : ℕ) (t more : List ℕ) → IsNumber n t → widest < n → piece_at (t ++ more) ≡ wrong fault.WideNumber 0
wide_answered n t more h wide =
    let most = number_most n t more h in
    let wider : widest < number_value (t ++ more) = omega (arith, most.no_less) in
    let test : nat_lt widest (number_value (t ++ more)) ≡ true = grind (arith, nat_tests) in
    number_is (t ++ more) most.digit
    ∙ ap (λ k. cond k (wrong fault.WideNumber 0) (cond (begins runs_on (drop (number_len (t ++ more)) (t ++ more)))
    (wrong fault.BadByte (number_len (t ++ more))) (found (number (number_value (t ++ more)))
    (number_len (t ++ more))))) test

pub any_fault : (z : List ℕ) (f : Fault) (n : ℕ) → IsFault z f n → IsAnswered z f n
any_fault z fault.BadByte n h = bad_byte_answered z n h
any_fault z fault.OpenString n h =
    let w = h.1 in
    same_place z fault.OpenString 0 n h.0 (ap piece_at w.3
    ∙ open_answered w.0 w.1 w.2 (λ body more is same. w.4 body more is (same ∙ sym w.3)))
any_fault z fault.OpenComment n h =
    let w = h.1 in
    same_place z fault.OpenComment 0 n h.0 (ap piece_at w.1 ∙ at_class 47 (42 ∷ w.0) class.Slash refl
    ∙ ap comment_of (open_close w.0 w.2))
any_fault z fault.WideNumber n h =
    let w = h.1 in
    same_place z fault.WideNumber 0 n h.0 (ap piece_at w.3 ∙ wide_answered w.0 w.1 w.2 w.4 w.5)

-- ---- nothing is wrong at the end

no_number : (n : ℕ) → IsNumber n [] → ⊥
no_number n (inl h) = h.0
no_number n (inr h) = let e = h.1 in cc

nothing_before : (t more : List ℕ) (b : ℕ) → [] ≡ t ++ b ∷ more → ⊥
nothing_before [] more b e = cc
nothing_before (x ∷ t) more b e = cc

no_name : (n more : List ℕ) → IsName n → [] ≡ n ++ more → ⊥
no_name [] more h e = h
no_name (x ∷ n) more h e = cc

no_bad_byte : (n : ℕ) → IsBadByte [] n → ⊥
no_bad_byte n (stray b t here is single double comment none) = cc
no_bad_byte n (attribute t here is) = cc
no_bad_byte n (closing_tag t here is) = cc
no_bad_byte n (point d t here is digit) = cc
no_bad_byte n (behind_number m b t more here is longest runs) = nothing_before t more b is
no_bad_byte n (long_name m more here is named size) = no_name m more named is
no_bad_byte n (long_variable m more here is named size) = cc
no_bad_byte n (comment_tag t more here is h) = nothing_before t (62 ∷ more) 63 is
no_bad_byte n (inside_text body more inner here is h inside) = cc

no_text : (q : ℕ) (r : List ℕ) → [] ≡ q ∷ r → ⊥
no_text q r e = cc

none_of_both : (t more : List ℕ) (n : ℕ) → IsNumber n t → [] ≡ t ++ more → ⊥
none_of_both [] more n h e = no_number n h
none_of_both (x ∷ t) more n h e = cc

pub no_fault : (f : Fault) (n : ℕ) → IsFault [] f n → ⊥
no_fault fault.BadByte n h = no_bad_byte n h
no_fault fault.OpenString n h = let w = h.1 in no_text w.0 w.1 w.3
no_fault fault.OpenComment n h = let w = h.1 in no_text 47 (42 ∷ w.0) w.1
no_fault fault.WideNumber n h = let w = h.1 in none_of_both w.1 w.2 w.0 w.4 w.3
