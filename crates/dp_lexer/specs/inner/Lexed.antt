-- What the lexer keeps: the tokens of the pieces so far, and the line of what is left.
use Rattle.std.specs.Prelude.{◌≡◌, ℕ, ◌+◌, ◌<◌, ◌^◌, List, ◌++◌}
use Rattle.dp_lexer.specs.declared.token.Token.{Token}
use Rattle.dp_lexer.specs.declared.fault.Wrong.{Wrong}
use Rattle.dp_lexer.specs.declared.fault.Wrong.TheVariants as wrong
use Rattle.dp_lexer.specs.declared.errors.LexError.{LexError}
use Rattle.dp_lexer.specs.declared.errors.LexError.TheVariants as error
use Rattle.dp_lexer.specs.Chain.{texts, Come}
use Rattle.dp_lexer.specs.Pieces.{IsNext, Pieces}
use Rattle.dp_lexer.specs.Tokens.{feeds, tokens_of, error_of}

pub record IsLexed (at : ℕ) (bytes : List ℕ) (ts : List Token) (line : ℕ) (rest : List ℕ)
    : Type 0 where
  pub pieces : Pieces
  pub whole : texts pieces ++ rest ≡ bytes
  pub each : Come IsNext pieces rest
  pub tokens : ts ≡ tokens_of at 1 pieces
  pub lines : line ≡ 1 + feeds (texts pieces)

abbrev pub IsPlacedWithin : Wrong → ℕ → Type 0
IsPlacedWithin (wrong.Fault fault at) start = start + at < 2 ^ 32
IsPlacedWithin wrong.Memory start = Unit {0}

abbrev pub placed_at : Wrong → ℕ → LexError
placed_at (wrong.Fault fault at) start = error_of fault (start + at)
placed_at wrong.Memory start = error.Memory
