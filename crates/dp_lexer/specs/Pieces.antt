-- The pieces of a program text: tokens, and what stands between tokens. How each is spelled, and
-- which comes next.
use Rattle.std.specs.Prelude.{◌≡◌, ◌⊎◌, ℕ, ◌<◌, ◌≤◌, true, false, ◌==◌, List, [], ◌∷◌, ◌++◌, length, codes, Some}
use Rattle.dp_lexer.specs.declared.token.Word.{Word}
use Rattle.dp_lexer.specs.Bytes.{is_space, is_digit, is_hexadecimal, is_start, is_part, is_in_line, begins_tag, runs_on, begins, Each, value_in}
use Rattle.dp_lexer.specs.Quotes.{IsBody, enclosed, single_value, IsDoubled}
use Rattle.dp_lexer.specs.Operators.{operator_of}

pub data Piece : Type 0 where
  space : Piece
  line_comment : Piece
  block_comment : Piece
  name : List ℕ → Piece
  variable : List ℕ → Piece
  number : ℕ → Piece
  text : List ℕ → Piece
  operator : Word → Piece

abbrev pub IsName : List ℕ → Type 0
IsName [] = ⊥
IsName (b ∷ bs) = (is_start b ≡ true) × Each is_part bs

-- a decimal: 0, or a digit from 1 to 9 and more digits
abbrev pub IsDecimal : List ℕ → Type 0
IsDecimal [] = ⊥
IsDecimal (b ∷ bs) = (is_digit b ≡ true) × Each is_digit bs × (b ≡ 48 → bs ≡ [])

-- 0x and hexadecimal digits
abbrev pub IsNumber : ℕ → List ℕ → Type 0
IsNumber n t =
    (IsDecimal t × (n ≡ value_in 10 t))
    ⊎ ((ds : List ℕ) × (t ≡ codes "0x" ++ ds) × (0 < length ds) × Each is_hexadecimal ds
    × (n ≡ value_in 16 ds))

-- behind the opening mark of a block comment: up to the first closing mark
abbrev pub Closes : List ℕ → Type 0
Closes [] = ⊥
Closes (b ∷ []) = ⊥
Closes (b ∷ c ∷ t) =
    (((b ≡ 42) × (c ≡ 47)) × (t ≡ [])) ⊎ (((b ≡ 42) × (c ≡ 47) → ⊥) × Closes (c ∷ t))

-- the mark of a comment in one line: # before what does not begin with [, or //
abbrev pub OpensLine : List ℕ → List ℕ → Type 0
OpensLine t c = ((t ≡ codes "#" ++ c) × (begins (λ b. b == 91) c ≡ false)) ⊎ (t ≡ codes "//" ++ c)

-- behind that mark: no line feed, and no `?>`
abbrev pub StaysInLine : List ℕ → Type 0
StaysInLine [] = Unit {0}
StaysInLine (b ∷ t) = (is_in_line b ≡ true) × (begins_tag (b ∷ t) ≡ false) × StaysInLine t

-- how each piece is spelled
abbrev pub IsPiece : Piece → List ℕ → Type 0
IsPiece space t = (b : ℕ) × (t ≡ b ∷ []) × (is_space b ≡ true)
IsPiece line_comment t = (c : List ℕ) × OpensLine t c × StaysInLine c
IsPiece block_comment t = (c : List ℕ) × (t ≡ codes "/*" ++ c) × Closes c
IsPiece (name n) t = (t ≡ n) × IsName n
IsPiece (variable n) t = (t ≡ codes "$" ++ n) × IsName n
IsPiece (number n) t = IsNumber n t
IsPiece (text v) t =
    ((body : List ℕ) × (t ≡ enclosed 39 body) × IsBody 39 body × (v ≡ single_value body))
    ⊎ ((body : List ℕ) × (t ≡ enclosed 34 body) × IsBody 34 body × IsDoubled body v)
IsPiece (operator k) t = operator_of t ≡ Some k

abbrev pub widest : ℕ
widest = 9223372036854775807

-- the most bytes of a name
abbrev pub longest_name : ℕ
longest_name = 255

-- The limits of a piece, and what may stand directly behind it: behind a comment in one line a line
-- feed or the end, a name has at most 255 bytes, a number is at most 2^63 - 1 and has no digit,
-- letter, underscore or point behind it, a point has no digit behind it, and a question mark no >.
abbrev pub IsAllowed : Piece → List ℕ → List ℕ → Type 0
IsAllowed space t rest = Unit {0}
IsAllowed line_comment t rest = begins is_in_line rest ≡ false
IsAllowed block_comment t rest = Unit {0}
IsAllowed (name n) t rest = length n ≤ longest_name
IsAllowed (variable n) t rest = length n ≤ longest_name
IsAllowed (number n) t rest = (n ≤ widest) × (begins runs_on rest ≡ false)
IsAllowed (text v) t rest = Unit {0}
IsAllowed (operator k) t rest =
    (t ≡ codes "." → begins is_digit rest ≡ false)
    × (t ≡ codes "?" → begins (λ b. b == 62) rest ≡ false)

-- The piece that comes next: of all that are spelled here the longest, within its limits.
pub record IsNext (piece : Piece) (t rest : List ℕ) : Type 0 where
  pub spelled : IsPiece piece t
  pub longest : (other : Piece) (u more : List ℕ) → IsPiece other u → u ++ more ≡ t ++ rest
      → length u ≤ length t
  pub allowed : IsAllowed piece t rest

abbrev pub Pieces : Type 0
Pieces = List (Piece × List ℕ)
