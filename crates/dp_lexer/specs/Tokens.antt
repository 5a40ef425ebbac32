-- The tokens of bytes, and what is wrong with bytes that have none.
use Rattle.std.specs.Prelude.{◌≡◌, ◌≢◌, ◌⊎◌, ℕ, pos, ◌+◌, ◌<◌, ◌≤◌, true, ◌==◌, if◌then◌else◌, List, [], ◌∷◌, ◌++◌, length, codes, Option, Some, None}
use Rattle.std.specs.Str.{str_to_ascii_lowercase}
use Rattle.dp_lexer.specs.declared.token.Token.{Token}
use Rattle.dp_lexer.specs.declared.token.TokenKind.{TokenKind}
use Rattle.dp_lexer.specs.declared.token.TokenKind.TheVariants as kind
use Rattle.dp_lexer.specs.declared.fault.Fault.{Fault}
use Rattle.dp_lexer.specs.declared.fault.Fault.TheVariants as fault
use Rattle.dp_lexer.specs.declared.errors.LexError.{LexError}
use Rattle.dp_lexer.specs.declared.errors.LexError.TheVariants as error
use Rattle.dp_lexer.specs.Bytes.{is_space, is_digit, runs_on, begins}
use Rattle.dp_lexer.specs.Keywords.{word_of}
use Rattle.dp_lexer.specs.Quotes.{IsBody, enclosed, IsBadInside}
use Rattle.dp_lexer.specs.Chain.{texts, Come}
use Rattle.dp_lexer.specs.Pieces.{Piece, space, line_comment, block_comment, name, variable, number, text, operator, IsName, IsNumber, Closes, IsPiece, IsNext, Pieces, longest_name, widest}

-- ---- tokens

-- the kind of the token that a piece is, if it is one
abbrev pub kind_of : Piece → Option TokenKind
kind_of space = None
kind_of line_comment = None
kind_of block_comment = None
kind_of (name n) = Some (word_of n)
kind_of (variable n) = Some (kind.Variable n)
kind_of (number n) = Some (kind.Number (pos n))
kind_of (text v) = Some (kind.Text v)
kind_of (operator w) = Some (kind.Word w)

-- how many line feeds there are
abbrev pub feeds : List ℕ → ℕ
feeds [] = 0
feeds (b ∷ t) = (if b == 10 then 1 else 0) + feeds t

abbrev pub token_at : ℕ → ℕ → Option TokenKind → ℕ → List Token
token_at start line None len = []
token_at start line (Some k) len =
    (record { kind = k; start = start; end = start + len; line = line }) ∷ []

-- the tokens of pieces of which the first is at this offset and on this line
abbrev pub tokens_of : ℕ → ℕ → Pieces → List Token
tokens_of at line [] = []
tokens_of at line (p ∷ ps) =
    token_at at line (kind_of p.0) (length p.1) ++ tokens_of (at + length p.1) (line + feeds p.1) ps

-- the tokens of bytes that stand at this offset, on line 1
pub record AreTokensFrom (at : ℕ) (bytes : List ℕ) (ts : List Token) : Type 0 where
  pub pieces : Pieces
  pub whole : texts pieces ≡ bytes
  pub each : Come IsNext pieces []
  pub tokens : ts ≡ tokens_of at 1 pieces

-- ---- what is wrong

-- the longest number that is spelled at the front
pub record IsLongestNumber (n : ℕ) (t rest : List ℕ) : Type 0 where
  pub spelled : IsNumber n t
  pub longest : (m : ℕ) (u more : List ℕ) → IsNumber m u → u ++ more ≡ t ++ rest
      → length u ≤ length t

-- at which byte of the rest there is one that no token may have there
pub data IsBadByte (rest : List ℕ) (at : ℕ) : Type 0 where
  -- no piece begins here, and neither an open text nor an open comment
  stray : (b : ℕ) (t : List ℕ) → at ≡ 0 → rest ≡ b ∷ t → b ≢ 39 → b ≢ 34
      → ((q : List ℕ) → rest ≡ codes "/*" ++ q → ⊥)
      → ((piece : Piece) (u more : List ℕ) → IsPiece piece u → u ++ more ≡ rest → ⊥)
      → IsBadByte rest at
  -- # before [
  attribute : (t : List ℕ) → at ≡ 0 → rest ≡ codes "#[" ++ t → IsBadByte rest at
  -- ? before >
  closing_tag : (t : List ℕ) → at ≡ 0 → rest ≡ codes "?>" ++ t → IsBadByte rest at
  -- a point before a digit
  point : (d : ℕ) (t : List ℕ) → at ≡ 0 → rest ≡ codes "." ++ d ∷ t → is_digit d ≡ true
      → IsBadByte rest at
  -- a digit, a letter, an underscore or a point directly behind a number
  behind_number : (n b : ℕ) (t more : List ℕ) → at ≡ length t → rest ≡ t ++ b ∷ more
      → IsLongestNumber n t (b ∷ more) → runs_on b ≡ true → IsBadByte rest at
  -- the first byte of a name past the longest
  long_name : (n more : List ℕ) → at ≡ longest_name → rest ≡ n ++ more → IsName n
      → length n ≡ longest_name + 1 → IsBadByte rest at
  long_variable : (n more : List ℕ) → at ≡ longest_name + 1 → rest ≡ codes "$" ++ n ++ more
      → IsName n → length n ≡ longest_name + 1 → IsBadByte rest at
  -- the first ?> in a comment in one line, at its question mark
  comment_tag : (t more : List ℕ) → at ≡ length t → rest ≡ t ++ 63 ∷ 62 ∷ more
      → IsPiece line_comment t → IsBadByte rest at
  -- in a text in double quotes that has an end
  inside_text : (body more : List ℕ) (inner : ℕ) → at ≡ 1 + inner
      → rest ≡ enclosed 34 body ++ more → IsBody 34 body → IsBadInside body inner
      → IsBadByte rest at

-- what is wrong with the rest, and at which of its bytes
abbrev pub IsFault : List ℕ → Fault → ℕ → Type 0
IsFault rest fault.BadByte at = IsBadByte rest at
IsFault rest fault.OpenString at =
    (at ≡ 0) × ((quote : ℕ) × (q : List ℕ) × ((quote ≡ 39) ⊎ (quote ≡ 34)) × (rest ≡ quote ∷ q)
    × ((body more : List ℕ) → IsBody quote body → enclosed quote body ++ more ≡ rest → ⊥))
IsFault rest fault.OpenComment at =
    (at ≡ 0) × ((q : List ℕ) × (rest ≡ codes "/*" ++ q)
    × ((c more : List ℕ) → Closes c → c ++ more ≡ q → ⊥))
IsFault rest fault.WideNumber at =
    (at ≡ 0) × ((n : ℕ) × (t : List ℕ) × (more : List ℕ) × (rest ≡ t ++ more) × IsNumber n t
    × (widest < n))

-- Of the faults of what is left behind the pieces, the one at the least place.
pub record IsRefusedFrom (start : ℕ) (bytes : List ℕ) (why : Fault) (offset : ℕ) : Type 0 where
  pub pieces : Pieces
  pub rest : List ℕ
  pub whole : texts pieces ++ rest ≡ bytes
  pub each : Come IsNext pieces rest
  pub at : ℕ
  pub wrong : IsFault rest why at
  pub is : offset ≡ start + length (texts pieces) + at
  pub least : (other : Fault) (place : ℕ) → IsFault rest other place → at ≤ place

abbrev pub error_of : Fault → ℕ → LexError
error_of fault.BadByte offset = error.BadByte offset
error_of fault.OpenString offset = error.OpenString offset
error_of fault.OpenComment offset = error.OpenComment offset
error_of fault.WideNumber offset = error.WideNumber offset

-- ---- files, and expressions without a tag

-- The tag, in any case of letters, and white space or the end directly behind it.
pub record HasTag (bytes rest : List ℕ) : Type 0 where
  pub tag : List ℕ
  pub whole : tag ++ rest ≡ bytes
  pub spelled : str_to_ascii_lowercase tag ≡ codes "<?php"
  pub apart : (rest ≡ []) ⊎ (begins is_space rest ≡ true)

-- the tokens of a file, and of an expression
pub record AreFileTokens (bytes : List ℕ) (ts : List Token) : Type 0 where
  pub rest : List ℕ
  pub tag : HasTag bytes rest
  pub tokens : AreTokensFrom 5 rest ts

abbrev pub AreTokens : List ℕ → List Token → Type 0
AreTokens bytes ts = AreTokensFrom 0 bytes ts

-- why a file has no tokens, and at which offset: its tag is wrong, or what stands behind it
pub data IsFileRefused (bytes : List ℕ) (why : Fault) (offset : ℕ) : Type 0 where
  no_tag : why ≡ fault.BadByte → offset ≡ 0 → ((rest : List ℕ) → HasTag bytes rest → ⊥)
      → IsFileRefused bytes why offset
  behind_tag : (rest : List ℕ) → HasTag bytes rest → IsRefusedFrom 5 rest why offset
      → IsFileRefused bytes why offset

abbrev pub IsRefused : List ℕ → Fault → ℕ → Type 0
IsRefused bytes why offset = IsRefusedFrom 0 bytes why offset
