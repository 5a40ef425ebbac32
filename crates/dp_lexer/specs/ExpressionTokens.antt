-- The tokens of an expression as a function of its bytes: what the lexer finds, piece by piece.
-- That these are exactly the tokens that bytes have is a law (`IsExact`, proved by
-- `tokens_are_exact`).
use Rattle.std.specs.Prelude.{◌≡◌, ◌↔◌, ℕ, zero, suc, ◌+◌, List, [], ◌∷◌, ◌++◌, length, take, drop, Option, Some, None, Ok, Err}
use Rattle.dp_lexer.specs.declared.token.Token.{Token}
use Rattle.dp_lexer.specs.Tokens.{kind_of, feeds, token_at, AreTokens}
use Rattle.dp_lexer.specs.inner.Lexer.{Found, piece_at}

-- these tokens before those, if there are any
abbrev pub before : List Token → Option (List Token) → Option (List Token)
before ts None = None
before ts (Some more) = Some (ts ++ more)

-- the tokens of bytes that begin with the piece that was found, by the tokens of what is behind it
abbrev pub on_with : (ℕ → ℕ → List ℕ → Option (List Token)) → ℕ → ℕ → List ℕ → Found
    → Option (List Token)
on_with behind at line z (Err e) = None
on_with behind at line z (Ok x) =
    before (token_at at line (kind_of x.0) x.1)
    (behind (at + x.1) (line + feeds (take x.1 z)) (drop x.1 z))

-- the tokens of at most so many pieces, at this offset and on this line
unfoldable pub tokens_within : ℕ → ℕ → ℕ → List ℕ → Option (List Token)
tokens_within count at line [] = Some []
tokens_within zero at line (b ∷ t) = None
tokens_within (suc count) at line (b ∷ t) =
    on_with (tokens_within count) at line (b ∷ t) (piece_at (b ∷ t))

-- the tokens of an expression, if it has any
abbrev pub expression_tokens : List ℕ → Option (List Token)
expression_tokens bytes = tokens_within (length bytes) 0 1 bytes

-- gives exactly the tokens that bytes have, and none where they have none
abbrev pub IsExact : (List ℕ → Option (List Token)) → Type 0
IsExact read =
    (bytes : List ℕ) (tokens : List Token) → (read bytes ≡ Some tokens) ↔ AreTokens bytes tokens
