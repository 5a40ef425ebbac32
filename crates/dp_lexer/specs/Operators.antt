-- The operators, by the number of their bytes.
use Rattle.std.specs.Prelude.{ℕ, ◌&&◌, ◌==◌, if◌then◌else◌, List, [], ◌∷◌, Option, Some, None}
use Rattle.dp_lexer.specs.declared.token.Word.{Word}
use Rattle.dp_lexer.specs.declared.token.Word.TheVariants as word

abbrev pub look_up : ℕ → List (ℕ × Word) → Option Word
look_up b [] = None
look_up b (row ∷ rows) = if b == row.0 then Some row.1 else look_up b rows

abbrev pub look_up_two : ℕ → ℕ → List (ℕ × ℕ × Word) → Option Word
look_up_two b c [] = None
look_up_two b c (row ∷ rows) = if b == row.0 && c == row.1 then Some row.2 else look_up_two b c rows

abbrev pub look_up_three : ℕ → ℕ → ℕ → List (ℕ × ℕ × ℕ × Word) → Option Word
look_up_three b c d [] = None
look_up_three b c d (row ∷ rows) =
    if b == row.0 && c == row.1 && d == row.2 then Some row.3 else look_up_three b c d rows

-- = < > + - * % . ! ? : , ; ( ) [ ] { }
abbrev pub one_byte_operators : List (ℕ × Word)
one_byte_operators =
    (61, word.Assign) ∷ (60, word.Less) ∷ (62, word.Greater) ∷ (43, word.Plus) ∷ (45, word.Minus)
    ∷ (42, word.Star) ∷ (37, word.Percent) ∷ (46, word.Dot) ∷ (33, word.Bang) ∷ (63, word.Question)
    ∷ (58, word.Colon) ∷ (44, word.Comma) ∷ (59, word.Semicolon) ∷ (40, word.OpenParenthesis)
    ∷ (41, word.CloseParenthesis) ∷ (91, word.OpenBracket) ∷ (93, word.CloseBracket)
    ∷ (123, word.OpenBrace) ∷ (125, word.CloseBrace) ∷ []

-- == != <= >= && || ?? ++ -- += -= *= .= %= =>
abbrev pub two_byte_operators : List (ℕ × ℕ × Word)
two_byte_operators =
    (61, 61, word.Equal) ∷ (33, 61, word.NotEqual) ∷ (60, 61, word.LessOrEqual)
    ∷ (62, 61, word.GreaterOrEqual) ∷ (38, 38, word.BothOf) ∷ (124, 124, word.EitherOf)
    ∷ (63, 63, word.Coalesce) ∷ (43, 43, word.Increment) ∷ (45, 45, word.Decrement)
    ∷ (43, 61, word.AddAssign) ∷ (45, 61, word.SubtractAssign) ∷ (42, 61, word.MultiplyAssign)
    ∷ (46, 61, word.ConcatAssign) ∷ (37, 61, word.RemainderAssign) ∷ (61, 62, word.Arrow) ∷ []

-- === !== <=> ??=
abbrev pub three_byte_operators : List (ℕ × ℕ × ℕ × Word)
three_byte_operators =
    (61, 61, 61, word.Identical) ∷ (33, 61, 61, word.NotIdentical) ∷ (60, 61, 62, word.Spaceship)
    ∷ (63, 63, 61, word.CoalesceAssign) ∷ []

abbrev pub one_byte : ℕ → Option Word
one_byte b = look_up b one_byte_operators

abbrev pub two_bytes : ℕ → ℕ → Option Word
two_bytes b c = look_up_two b c two_byte_operators

abbrev pub three_bytes : ℕ → ℕ → ℕ → Option Word
three_bytes b c d = look_up_three b c d three_byte_operators

-- the operator that bytes spell
abbrev pub operator_of : List ℕ → Option Word
operator_of [] = None
operator_of (b ∷ []) = one_byte b
operator_of (b ∷ c ∷ []) = two_bytes b c
operator_of (b ∷ c ∷ d ∷ []) = three_bytes b c d
operator_of (b ∷ c ∷ d ∷ e ∷ t) = None
