-- The lexer's steps from piece to piece.
use Rattle.std.proofs.Common.{Bool, true, false, cond, ◌≡◌, ◌⊎◌, inl, inr, ℕ, suc, ◌+◌, ◌-◌, ◌<◌, ◌≤◌, List, [], ◌∷◌, ◌++◌, length, take, drop, Option, Result, Ok, Err, sym, refl, ap, ◌∙◌, subst, append_assoc, append-nil, length-append, arith, take-append-drop, length-take-le}
use Rattle.std.specs.Prelude.{◌==◌}
use Rattle.std.proofs.Math.Seq.{take-append_seam, drop-append_seam}
use Rattle.dp_lexer.specs.declared.token.Token.{Token}
use Rattle.dp_lexer.specs.declared.token.TokenKind.{TokenKind}
use Rattle.dp_lexer.specs.declared.fault.Fault.{Fault}
use Rattle.dp_lexer.specs.declared.fault.Fault.TheVariants as fault
use Rattle.dp_lexer.specs.Chain.{texts, Come}
use Rattle.dp_lexer.specs.Quotes.{enclosed}
use Rattle.dp_lexer.specs.Pieces.{Piece, IsNext, Pieces}
use Rattle.dp_lexer.specs.Tokens.{kind_of, feeds, token_at, tokens_of, AreTokensFrom, IsFault, IsBadByte, stray, attribute, closing_tag, point, behind_number, long_name, long_variable, comment_tag, inside_text, IsRefusedFrom}
use Rattle.dp_lexer.specs.inner.Lexed.{IsLexed}
use Rattle.dp_lexer.specs.inner.Lexer.{Found, found, wrong, bad, shown, piece_at}
use Rattle.dp_lexer.proofs.FoundPieces.{enclosed_len}
use Rattle.dp_lexer.proofs.NextPiece.{piece_there, found_next, next_found}
use Rattle.dp_lexer.proofs.FirstFault.{wrong_is}
use Rattle.dp_lexer.proofs.AnyFault.{IsAnswered, any_fault, no_fault}

abbrev One : Piece → List ℕ → Pieces
One p t = (p, t) ∷ []

texts_more : (ps : Pieces) (p : Piece) (t : List ℕ) → texts (ps ++ One p t) ≡ texts ps ++ t
texts_more [] p t = append-nil t
texts_more (q ∷ ps) p t = ap (λ l. q.1 ++ l) (texts_more ps p t) ∙ sym (append_assoc q.1 (texts ps) t)

come_more : (ps : Pieces) (p : Piece) (t rest : List ℕ) → Come IsNext ps (t ++ rest) → IsNext p t rest
    → Come IsNext (ps ++ One p t) rest
come_more [] p t rest come next = (next, tt)
come_more (q ∷ ps) p t rest come next = (
  subst (λ l. IsNext q.0 q.1 l) (sym (append_assoc (texts ps) t rest)
      ∙ ap (λ l. l ++ rest) (sym (texts_more ps p t))) come.0,
  come_more ps p t rest come.1 next,
)

pub feeds_over : (xs ys : List ℕ) → feeds (xs ++ ys) ≡ feeds xs + feeds ys
feeds_over [] ys = omega arith
feeds_over (x ∷ xs) ys = omega (arith, feeds_over xs ys)

pub feeds_within : (xs : List ℕ) → feeds xs ≤ length xs
feeds_within [] = omega arith
feeds_within (x ∷ xs) = go (x == 10) (feeds_within xs)
  where
    go : (k : Bool) → feeds xs ≤ length xs → cond k 1 0 + feeds xs ≤ suc (length xs)
    go true h = omega arith
    go false h = omega arith

pub line_within : (at : ℕ) (bytes rest : List ℕ) (ts : List Token) (line : ℕ) → IsLexed at bytes ts line rest
    → line + length rest ≤ 1 + length bytes
line_within at bytes rest ts line l =
    omega (arith, l.lines, feeds_within (texts l.pieces), ap length l.whole, length-append (texts l.pieces) rest)

pub rest_within : (at : ℕ) (bytes rest : List ℕ) (ts : List Token) (line : ℕ) → IsLexed at bytes ts line rest
    → length rest ≤ length bytes
rest_within at bytes rest ts line l = omega (arith, ap length l.whole, length-append (texts l.pieces) rest)

tokens_more : (at line : ℕ) (ps : Pieces) (p : Piece) (t : List ℕ)
    → tokens_of at line (ps ++ One p t) ≡ tokens_of at line ps
    ++ token_at (at + length (texts ps)) (line + feeds (texts ps)) (kind_of p) (length t)
tokens_more at line [] p t =
    append-nil _ ∙ (let x : at ≡ at + 0 = omega arith in let y : line ≡ line + 0 = omega arith in λ i. token_at (x i)
    (y i) (kind_of p) (length t))
tokens_more at line (q ∷ ps) p t =
    let x : (at + length q.1) + length (texts ps) ≡ at + length (q.1 ++ texts ps) = omega
    (arith, length-append q.1 (texts ps)) in
    let y : (line + feeds q.1) + feeds (texts ps) ≡ line + feeds (q.1 ++ texts ps) = omega
    (arith, feeds_over q.1 (texts ps)) in
    ap (λ l. token_at at line (kind_of q.0) (length q.1) ++ l) (tokens_more (at + length q.1) (line + feeds q.1) ps p t)
    ∙ sym (append_assoc (token_at at line (kind_of q.0) (length q.1))
    (tokens_of (at + length q.1) (line + feeds q.1) ps) (token_at ((at + length q.1) + length (texts ps))
    ((line + feeds q.1) + feeds (texts ps)) (kind_of p) (length t)))
    ∙ (λ i. (token_at at line (kind_of q.0) (length q.1) ++ tokens_of (at + length q.1) (line + feeds q.1) ps)
    ++ token_at (x i) (y i) (kind_of p) (length t))

-- ---- what was found

abbrev Shown : Type 0
Shown = Result (Option TokenKind × ℕ) (Fault × ℕ)

len_shown : Shown → ℕ
len_shown (Ok x) = x.1
len_shown (Err x) = 0

kind_shown : Shown → Option TokenKind → Option TokenKind
kind_shown (Ok x) k = x.0
kind_shown (Err x) k = k

at_shown : Shown → ℕ
at_shown (Ok x) = 0
at_shown (Err x) = x.1

fault_shown : Shown → Fault → Fault
fault_shown (Ok x) f = f
fault_shown (Err x) f = x.0

pub shown_ok : (f : Found) (k : Option TokenKind) (n : ℕ) (s : Shown) → s ≡ Ok (k, n) → shown f ≡ s
    → (p : Piece) × (f ≡ found p n) × (kind_of p ≡ k)
unfolding len_shown kind_shown
shown_ok (Ok x) k n s is e =
    let both = e ∙ is in (x.0, ap (λ m. found x.0 m) (ap len_shown both), ap (λ r. kind_shown r k) both)
shown_ok (Err x) k n s is e = absurd (cc)

pub shown_err : (g : Found) (f : Fault) (n : ℕ) (s : Shown) → s ≡ Err (f, n) → shown g ≡ s → g ≡ wrong f n
unfolding at_shown fault_shown
shown_err (Ok x) f n s is e = absurd (cc)
shown_err (Err x) f n s is e = let both = e ∙ is in (λ i. wrong (ap (λ r. fault_shown r f) both i) (ap at_shown both i))

-- ---- pieces that come one after the other are the only ones

-- nothing comes next
abbrev pub Ends : List ℕ → Type 0
Ends rest = (rest ≡ []) ⊎ ((f : Fault) × (d : ℕ) × (piece_at rest ≡ wrong f d))

piece_at-end : piece_at [] ≡ bad
unfolding piece_at
piece_at-end = refl

not_both_found : (o : Found) (p : Piece) (n : ℕ) (f : Fault) (d : ℕ) → o ≡ found p n → o ≡ wrong f d → ⊥
not_both_found o p n f d e w = cc

ended : (rest : List ℕ) (p : Piece) (n : ℕ) → Ends rest → piece_at rest ≡ found p n → ⊥
ended rest p n (inl none) e = not_both_found (piece_at rest) p n fault.BadByte 0 e (ap piece_at none ∙ piece_at-end)
ended rest p n (inr w) e = not_both_found (piece_at rest) p n w.0 w.1 e w.2

no_next : (rest t r : List ℕ) (p : Piece) → Ends rest → IsNext p t r → rest ≡ t ++ r → ⊥
no_next rest t r p ends next same = ended rest p (length t) ends (ap piece_at same ∙ next_found p t r next)

piece_in : Found → Piece → Piece
piece_in (Ok y) d = y.0
piece_in (Err y) d = d

len_of : Found → ℕ
len_of (Ok y) = y.1
len_of (Err y) = 0

pub meet : (ps qs : Pieces) (r s : List ℕ) → Come IsNext ps r → Come IsNext qs s → texts ps ++ r ≡ texts qs ++ s
    → Ends r → Ends s → (ps ≡ qs) × (r ≡ s)
unfolding piece_in len_of
meet [] [] r s come others same end other = (refl, same)
meet [] (q ∷ qs) r s come others same end other =
    absurd (no_next r q.1 (texts qs ++ s) q.0 end others.0 (same ∙ append_assoc q.1 (texts qs) s))
meet (p ∷ ps) [] r s come others same end other =
    absurd (no_next s p.1 (texts ps ++ r) p.0 other come.0 (sym same ∙ append_assoc p.1 (texts ps) r))
meet (p ∷ ps) (q ∷ qs) r s come others same end other =
    let whole : p.1 ++ (texts ps ++ r) ≡ q.1 ++ (texts qs ++ s) = sym (append_assoc p.1 (texts ps) r) ∙ same
    ∙ append_assoc q.1 (texts qs) s in
    let both : found p.0 (length p.1) ≡ found q.0 (length q.1) = sym (next_found p.0 p.1 (texts ps ++ r) come.0)
    ∙ ap piece_at whole ∙ next_found q.0 q.1 (texts qs ++ s) others.0 in
    let piece : p.0 ≡ q.0 = ap (λ o. piece_in o p.0) both in
    let size : length p.1 ≡ length q.1 = ap len_of both in
    let text_is : p.1 ≡ q.1 = sym (take-append_seam p.1 (texts ps ++ r)) ∙ (λ i. take (size i) (whole i))
    ∙ take-append_seam q.1 (texts qs ++ s) in
    let left : texts ps ++ r ≡ texts qs ++ s = sym (drop-append_seam p.1 (texts ps ++ r))
    ∙ (λ i. drop (size i) (whole i)) ∙ drop-append_seam q.1 (texts qs ++ s) in
    let more = meet ps qs r s come.1 others.1 left end other in
    ((λ i. (piece i, text_is i) ∷ more.0 i), more.1)

-- ---- a step

pub next_lexed : (at : ℕ) (bytes rest : List ℕ) (ts : List Token) (line : ℕ) (k : Option TokenKind) (n : ℕ)
    → IsLexed at bytes ts line rest → shown (piece_at rest) ≡ Ok (k, n)
    → IsLexed at bytes (ts ++ token_at (at + (length bytes - length rest)) line k n) (line + feeds (take n rest))
    (drop n rest)
next_lexed at bytes rest ts line k n l e =
    let f = shown_ok (piece_at rest) k n _ refl e in
    let x : Piece × ℕ = (f.0, n) in
    let there = piece_there rest x f.1 in
    let next = found_next rest x f.1 in
    let size = length-take-le n rest there.within in
    let start : at + length (texts l.pieces) ≡ at + (length bytes - length rest) = omega
    (arith, ap length l.whole, length-append (texts l.pieces) rest) in
    record {
      pieces = l.pieces ++ One f.0 (take n rest);
      whole =
          ap (λ t. t ++ drop n rest) (texts_more l.pieces f.0 (take n rest))
          ∙ append_assoc (texts l.pieces) (take n rest) (drop n rest)
          ∙ ap (λ t. texts l.pieces ++ t) (take-append-drop n rest) ∙ l.whole;
      each =
          come_more l.pieces f.0 (take n rest) (drop n rest) (subst (λ r. Come IsNext l.pieces r)
          (sym (take-append-drop n rest)) l.each) next;
      tokens =
          sym (tokens_more at 1 l.pieces f.0 (take n rest)
          ∙ (λ i. sym l.tokens i ++ token_at (start i) (sym l.lines i) (f.2 i) (size i)));
      lines =
          omega (
            arith,
            l.lines,
            feeds_over (texts l.pieces) (take n rest),
            ap feeds (texts_more l.pieces f.0 (take n rest)),
          );
    }

pub takes_some : (rest : List ℕ) (k : Option TokenKind) (n : ℕ) → shown (piece_at rest) ≡ Ok (k, n)
    → (1 ≤ n) × (n ≤ length rest)
takes_some rest k n e =
    let f = shown_ok (piece_at rest) k n _ refl e in let x : Piece
    × ℕ = (f.0, n) in let there = piece_there rest x f.1 in (there.some, there.within)

whole_tokens : (at : ℕ) (bytes : List ℕ) (ts : List Token) (o : AreTokensFrom at bytes ts)
    → texts o.pieces ++ [] ≡ bytes
whole_tokens at bytes ts o = append-nil (texts o.pieces) ∙ o.whole

pub only_lexed : (at : ℕ) (bytes : List ℕ) (ts others : List Token) (line : ℕ) → IsLexed at bytes ts line []
    → AreTokensFrom at bytes others → ts ≡ others
only_lexed at bytes ts others line l o =
    let same = meet o.pieces l.pieces [] [] o.each l.each (whole_tokens at bytes others o ∙ sym l.whole) (inl refl)
    (inl refl) in
    sym (o.tokens ∙ ap (λ p. tokens_of at 1 p) same.0 ∙ sym l.tokens)

nonempty : (rest : List ℕ) → 0 < length rest → rest ≡ [] → ⊥
nonempty rest some e = omega (arith, ap length e)

pub none_lexed : (at : ℕ) (bytes rest : List ℕ) (ts others : List Token) (line : ℕ) (f : Fault) (d : ℕ)
    → IsLexed at bytes ts line rest → 0 < length rest → shown (piece_at rest) ≡ Err (f, d)
    → AreTokensFrom at bytes others → ⊥
none_lexed at bytes rest ts others line f d l some e o =
    let same = meet o.pieces l.pieces [] rest o.each l.each (whole_tokens at bytes others o ∙ sym l.whole) (inl refl)
    (inr (f, d, shown_err (piece_at rest) f d _ refl e)) in
    nonempty rest some (sym same.1)

fault_in : Found → Fault → Fault
fault_in (Err y) f = y.0
fault_in (Ok y) f = f

place_in : Found → ℕ
place_in (Err y) = y.1
place_in (Ok y) = 0

fault_is : (o : Found) (f g : Fault) (d n : ℕ) → o ≡ wrong f d → o ≡ wrong g n → f ≡ g
unfolding fault_in
fault_is o f g d n e w = ap (λ k. fault_in k f) (sym e ∙ w)

place_is : (o : Found) (f g : Fault) (d n : ℕ) → o ≡ wrong f d → o ≡ wrong g n → d ≡ n
unfolding place_in
place_is o f g d n e w = ap place_in (sym e ∙ w)

-- a fault found is no further than any other
least_fault : (rest : List ℕ) (f g : Fault) (d n : ℕ) → piece_at rest ≡ wrong f d → IsFault rest g n → d ≤ n
least_fault rest f g d n e h = go (any_fault rest g n h)
  where
    go : IsAnswered rest g n → d ≤ n
    go (inl w) = omega (arith, place_is (piece_at rest) f g d n e w)
    go (inr w) = omega (arith, place_is (piece_at rest) f fault.WideNumber d 0 e w.0)

pub refused_lexed : (at : ℕ) (bytes rest : List ℕ) (ts : List Token) (line : ℕ) (f : Fault) (d : ℕ)
    → IsLexed at bytes ts line rest → 0 < length rest → shown (piece_at rest) ≡ Err (f, d)
    → IsRefusedFrom at bytes f (at + (length bytes - length rest) + d)
refused_lexed at bytes [] ts line f d l some e = absurd (omega arith)
refused_lexed at bytes (b ∷ r) ts line f d l some e =
    let is = shown_err (piece_at (b ∷ r)) f d _ refl e in
    record {
      pieces = l.pieces;
      rest = b
          ∷ r;
      whole = l.whole;
      each = l.each;
      at = d;
      wrong = wrong_is b r f d is;
      is = omega
          (arith, ap length l.whole, length-append (texts l.pieces) (b ∷ r));
      least = λ g n h. least_fault
          (b ∷ r) f g d n is h;
    }

answer_ends : (rest : List ℕ) (f : Fault) (n : ℕ) → IsAnswered rest f n → Ends rest
answer_ends rest f n (inl w) = inr (f, n, w)
answer_ends rest f n (inr w) = inr (fault.WideNumber, 0, w.0)

wide_is : (rest : List ℕ) → 0 < length rest → piece_at rest ≡ wrong fault.WideNumber 0 → IsFault rest fault.WideNumber 0
wide_is [] some e = absurd (omega arith)
wide_is (b ∷ r) some e = wrong_is b r fault.WideNumber 0 e

-- whatever is refused is refused so
pub same_refusal : (at : ℕ) (bytes rest : List ℕ) (ts : List Token) (line : ℕ) (f g : Fault) (d o : ℕ)
    → IsLexed at bytes ts line rest → 0 < length rest → shown (piece_at rest) ≡ Err (f, d) → IsRefusedFrom at bytes g o
    → (f ≡ g) × (at + (length bytes - length rest) + d ≡ o)
same_refusal at bytes rest ts line f g d o l some e h = go (any_fault h.rest g h.at h.wrong)
  where
    found_here : piece_at rest ≡ wrong f d
    found_here = shown_err (piece_at rest) f d _ refl e

    start : (r : List ℕ) → r ≡ rest → length (texts h.pieces) + length r ≡ length bytes
    start r same =
        omega (arith, ap length h.whole, length-append (texts h.pieces) h.rest, ap length same, ap length left)
      where
        left : h.rest ≡ rest
        left =
            (meet h.pieces l.pieces h.rest rest h.each l.each (h.whole ∙ sym l.whole)
            (answer_ends h.rest g h.at (any_fault h.rest g h.at h.wrong)) (inr (f, d, found_here))).1

    rest_same : h.rest ≡ rest
    rest_same =
        (meet h.pieces l.pieces h.rest rest h.each l.each (h.whole ∙ sym l.whole)
        (answer_ends h.rest g h.at (any_fault h.rest g h.at h.wrong)) (inr (f, d, found_here))).1

    go : IsAnswered h.rest g h.at → (f ≡ g) × (at + (length bytes - length rest) + d ≡ o)
    go (inl w) =
        let there : piece_at rest ≡ wrong g h.at = ap piece_at (sym rest_same) ∙ w in
        let place = place_is (piece_at rest) f g d h.at found_here there in
        (fault_is (piece_at rest) f g d h.at found_here there, omega (arith, place, h.is, start rest refl))
    go (inr w) =
        let wide : IsFault rest fault.WideNumber 0 = wide_is rest some (ap piece_at (sym rest_same) ∙ w.0) in
        let least = h.least fault.WideNumber 0 (subst (λ z. IsFault z fault.WideNumber 0) (sym rest_same) wide) in
        absurd (omega (arith, least, w.1))

pub no_refusal : (at : ℕ) (bytes : List ℕ) (ts : List Token) (line : ℕ) (g : Fault) (o : ℕ)
    → IsLexed at bytes ts line [] → IsRefusedFrom at bytes g o → ⊥
no_refusal at bytes ts line g o l h =
    let same = meet h.pieces l.pieces h.rest [] h.each l.each (h.whole ∙ sym l.whole)
    (answer_ends h.rest g h.at (any_fault h.rest g h.at h.wrong)) (inl refl) in
    no_fault g h.at (subst (λ z. IsFault z g h.at) same.1 h.wrong)

-- the place of a fault is within the bytes
bad_byte_within : (z : List ℕ) (n : ℕ) → IsBadByte z n → n ≤ length z
bad_byte_within z n (stray b t here is single double comment none) = omega arith
bad_byte_within z n (attribute t here is) = omega arith
bad_byte_within z n (closing_tag t here is) = omega arith
bad_byte_within z n (point d t here is digit) = omega arith
bad_byte_within z n (behind_number m b t more here is longest runs) =
    omega (arith, here, ap length is, length-append t (b ∷ more))
bad_byte_within z n (long_name m more here is named size) =
    omega (arith, here, size, ap length is, length-append m more)
bad_byte_within z n (long_variable m more here is named size) =
    omega (arith, here, size, ap length is, length-append m more)
bad_byte_within z n (comment_tag t more here is h) = omega (arith, here, ap length is, length-append t (63 ∷ 62 ∷ more))
bad_byte_within z n (inside_text body more inner here is h inside) =
    omega (
      arith,
      here,
      inside.is,
      ap length inside.whole,
      length-append (texts inside.parts) inside.rest,
      ap length is,
      length-append (enclosed 34 body) more,
      enclosed_len 34 body,
    )

fault_within : (z : List ℕ) (f : Fault) (n : ℕ) → IsFault z f n → n ≤ length z
fault_within z fault.BadByte n h = bad_byte_within z n h
fault_within z fault.OpenString n h = omega (arith, h.0)
fault_within z fault.OpenComment n h = omega (arith, h.0)
fault_within z fault.WideNumber n h = omega (arith, h.0)

pub wrong_within : (rest : List ℕ) (f : Fault) (d : ℕ) → 0 < length rest → shown (piece_at rest) ≡ Err (f, d)
    → d ≤ length rest
wrong_within [] f d some e = absurd (omega arith)
wrong_within (b ∷ r) f d some e =
    fault_within (b ∷ r) f d (wrong_is b r f d (shown_err (piece_at (b ∷ r)) f d _ refl e))
