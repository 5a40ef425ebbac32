-- The function from bytes to tokens tells exactly the tokens that bytes have.
use Rattle.std.proofs.Common.{◌≡◌, ℕ, zero, suc, ◌+◌, ◌≤◌, List, [], ◌∷◌, ◌++◌, length, take, drop, Option, Some, None, Ok, Err, sym, refl, ap, ◌∙◌, subst, append-nil, length-append, arith, take-append-drop, length-take-le}
use Rattle.std.proofs.Math.Seq.{take-append_seam, drop-append_seam}
use Rattle.dp_lexer.specs.declared.token.Token.{Token}
use Rattle.dp_lexer.specs.Chain.{texts, Come}
use Rattle.dp_lexer.specs.Pieces.{Piece, IsNext, Pieces}
use Rattle.dp_lexer.specs.Tokens.{kind_of, feeds, token_at, tokens_of}
use Rattle.dp_lexer.specs.ExpressionTokens.{before, on_with, tokens_within, expression_tokens, IsExact}
use Rattle.dp_lexer.specs.inner.Lexer.{Found, found, piece_at}
use Rattle.dp_lexer.proofs.NextPiece.{piece_there, found_next, next_found}

-- pieces that come one after the other up to the end, and their tokens
record AreRead (at line : ℕ) (z : List ℕ) (ts : List Token) : Type 0 where
  pub pieces : Pieces
  pub whole : texts pieces ≡ z
  pub each : Come IsNext pieces []
  pub tokens : ts ≡ tokens_of at line pieces

-- ---- what is told

told_none : (ts : List Token) → None ≡ Some ts → ⊥
told_none ts e = cc

told_some : (us ts : List Token) → Some us ≡ Some ts → us ≡ ts
told_some us ts e = cc

read_more : (at line : ℕ) (z : List ℕ) (ts : List Token) (x : Piece × ℕ) → piece_at z ≡ Ok x
    → AreRead (at + x.1) (line + feeds (take x.1 z)) (drop x.1 z) ts
    → AreRead at line z (token_at at line (kind_of x.0) x.1 ++ ts)
read_more at line z ts x e h =
    let next = found_next z x e in
    let size = length-take-le x.1 z (piece_there z x e).within in
    record {
      pieces = (x.0, take x.1 z) ∷ h.pieces;
      whole = ap (λ l. take x.1 z ++ l) h.whole ∙ take-append-drop x.1 z;
      each = (subst (IsNext x.0 (take x.1 z)) (sym (append-nil (texts h.pieces) ∙ h.whole)) next, h.each);
      tokens =
          ap (λ l. token_at at line (kind_of x.0) x.1 ++ l) h.tokens
          ∙ (λ i. token_at at line (kind_of x.0) (sym size i)
          ++ tokens_of (at + sym size i) (line + feeds (take x.1 z)) h.pieces);
    }

told_read : (count at line : ℕ) (z : List ℕ) (ts : List Token) → tokens_within count at line z ≡ Some ts
    → AreRead at line z ts
unfolding tokens_within
told_read count at line [] ts e = record { pieces = []; whole = refl; each = tt; tokens = sym (told_some [] ts e) }
told_read zero at line (b ∷ t) ts e = absurd (told_none ts e)
told_read (suc count) at line (b ∷ t) ts e =
    go (piece_at (b ∷ t)) refl (λ x more told. told_read count (at + x.1) (line + feeds (take x.1 (b ∷ t)))
    (drop x.1 (b ∷ t)) more told) e
  where
    some : (x : Piece × ℕ) → piece_at (b ∷ t) ≡ Ok x → (o : Option (List Token))
        → ((more : List Token) → o ≡ Some more
        → AreRead (at + x.1) (line + feeds (take x.1 (b ∷ t))) (drop x.1 (b ∷ t)) more)
        → before (token_at at line (kind_of x.0) x.1) o ≡ Some ts → AreRead at line (b ∷ t) ts
    some x is None read e = absurd (told_none ts e)
    some x is (Some more) read e =
        subst (AreRead at line (b ∷ t)) (told_some _ ts e) (read_more at line (b ∷ t) more x is (read more refl))

    go : (o : Found) → piece_at (b ∷ t) ≡ o
        → ((x : Piece × ℕ) (more : List Token)
        → tokens_within count (at + x.1) (line + feeds (take x.1 (b ∷ t))) (drop x.1 (b ∷ t)) ≡ Some more
        → AreRead (at + x.1) (line + feeds (take x.1 (b ∷ t))) (drop x.1 (b ∷ t)) more)
        → on_with (tokens_within count) at line (b ∷ t) o ≡ Some ts → AreRead at line (b ∷ t) ts
    go (Err w) is read e = absurd (told_none ts e)
    go (Ok x) is read e =
        some x is (tokens_within count (at + x.1) (line + feeds (take x.1 (b ∷ t))) (drop x.1 (b ∷ t))) (read x) e

-- ---- what is there is told

step : (count at line b : ℕ) (t : List ℕ) (o : Found) → piece_at (b ∷ t) ≡ o
    → tokens_within (suc count) at line (b ∷ t) ≡ on_with (tokens_within count) at line (b ∷ t) o
unfolding tokens_within
step count at line b t o e = ap (λ o. on_with (tokens_within count) at line (b ∷ t) o) e

none_told : (count at line : ℕ) → tokens_within count at line [] ≡ Some []
unfolding tokens_within
none_told count at line = refl

read_told : (count at line : ℕ) (ps : Pieces) → Come IsNext ps [] → length (texts ps) ≤ count
    → tokens_within count at line (texts ps) ≡ Some (tokens_of at line ps)
read_told count at line [] come few = none_told count at line
read_told count at line ((p, []) ∷ ps) come few =
    let is = next_found p [] (texts ps ++ []) come.0 in
    absurd (omega (arith, (piece_there (texts ps ++ []) (p, 0) is).some))
read_told zero at line ((p, b ∷ u) ∷ ps) come few = absurd (omega arith)
read_told (suc count) at line ((p, b ∷ u) ∷ ps) come few =
    let z : List ℕ = (b ∷ u) ++ texts ps in
    let is : piece_at ((b ∷ u) ++ texts ps) ≡ found p (length (b ∷ u)) = ap (λ l. piece_at ((b ∷ u) ++ l))
    (sym (append-nil (texts ps))) ∙ next_found p (b ∷ u) (texts ps ++ []) come.0 in
    let more = read_told count (at + length (b ∷ u)) (line + feeds (b ∷ u)) ps come.1
    (omega (arith, few, length-append (b ∷ u) (texts ps))) in
    step count at line b (u ++ texts ps) (found p (length (b ∷ u))) is
    ∙ (λ i. before (token_at at line (kind_of p) (length (b ∷ u)))
    (tokens_within count (at + length (b ∷ u)) (line + feeds (take-append_seam (b ∷ u) (texts ps) i))
    (drop-append_seam (b ∷ u) (texts ps) i)))
    ∙ ap (before (token_at at line (kind_of p) (length (b ∷ u)))) more

pub tokens_told : IsExact expression_tokens
tokens_told bytes ts = (
  λ e. (let h = told_read (length bytes) 0 1 bytes ts e in record
      { pieces = h.pieces; whole = h.whole; each = h.each; tokens = h.tokens }),
  λ h. (
      let size : length (texts h.pieces) ≤ length bytes = omega (arith, ap length h.whole) in
      ap (tokens_within (length bytes) 0 1) (sym h.whole) ∙ read_told (length bytes) 0 1 h.pieces h.each size
      ∙ ap (λ l. Some l) (sym h.tokens)),
)
