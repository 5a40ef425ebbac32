-- What the functions of the lexer find, each by the first byte.
use Rattle.std.specs.Prelude.{◌≡◌, ℕ, zero, suc, ◌+◌, ◌-◌, ◌<◌, Bool, not, ◌&&◌, ◌||◌, ◌==◌, nat_lt, if◌then◌else◌, List, [], ◌∷◌, ◌++◌, take, drop, codes, Option, Some, None, Result, Ok, Err}
use Rattle.std.specs.List.{prefix_len}
use Rattle.dp_lexer.specs.declared.spelling.Spelling.{Spelling}
use Rattle.dp_lexer.specs.declared.class.Class.{Class}
use Rattle.dp_lexer.specs.declared.class.Class.TheVariants as class
use Rattle.dp_lexer.specs.declared.token.TokenKind.{TokenKind}
use Rattle.dp_lexer.specs.declared.token.Word.{Word}
use Rattle.dp_lexer.specs.declared.fault.Fault.{Fault}
use Rattle.dp_lexer.specs.declared.fault.Fault.TheVariants as fault
use Rattle.dp_lexer.specs.declared.fault.Wrong.{Wrong}
use Rattle.dp_lexer.specs.declared.fault.Wrong.TheVariants as wrongs
use Rattle.dp_lexer.specs.declared.quotes.Meant.{Meant}
use Rattle.dp_lexer.specs.declared.quotes.Meant.TheVariants as meant
use Rattle.dp_lexer.specs.Bytes.{is_space, is_digit, is_octal, is_hexadecimal, is_start, is_part, is_in_line, begins_tag, runs_on, begins, value_in}
use Rattle.dp_lexer.specs.Quotes.{Part, plain, letter, octal, hexadecimal, pair, letter_of, interpolates, meaning, single_value}
use Rattle.dp_lexer.specs.Operators.{one_byte, two_bytes, three_bytes}
use Rattle.dp_lexer.specs.Pieces.{Piece, space, line_comment, block_comment, name, variable, number, text, operator, widest, longest_name}
use Rattle.dp_lexer.specs.Tokens.{kind_of}

abbrev pub class_of : ℕ → Class
class_of b =
    if is_start b then class.Name
    else (if is_digit b then class.Number
    else (if is_space b then class.Space
    else (if b == 35 then class.Hash
    else (if b == 47 then class.Slash
    else (if b == 36 then class.Dollar
    else (if b == 39 || b == 34 then class.Quote
    else class.Other))))))

-- a piece and its length, or what is wrong and where
abbrev pub Found : Type 0
Found = Result (Piece × ℕ) (Fault × ℕ)

abbrev pub found : Piece → ℕ → Found
found piece n = Ok (piece, n)

abbrev pub wrong : Fault → ℕ → Found
wrong why at = Err (why, at)

abbrev pub bad : Found
bad = wrong fault.BadByte 0

abbrev pub longer : ℕ → Option ℕ → Option ℕ
longer n None = None
longer n (Some m) = Some (n + m)

-- how many bytes of a sort stand at the front, at most so many
abbrev pub up_to : (ℕ → Bool) → ℕ → List ℕ → ℕ
up_to sort zero z = 0
up_to sort (suc n) [] = 0
up_to sort (suc n) (b ∷ t) = if sort b then 1 + up_to sort n t else 0

-- ---- names

abbrev pub name_len : List ℕ → ℕ
name_len = prefix_len is_part

abbrev pub name_at : List ℕ → Found
name_at z =
    if nat_lt longest_name (name_len z) then wrong fault.BadByte longest_name
    else found (name (take (name_len z) z)) (name_len z)

abbrev pub dollar_at : List ℕ → Found
dollar_at r =
    if begins is_start r then
    (if nat_lt longest_name (name_len r) then wrong fault.BadByte (longest_name + 1)
    else found (variable (take (name_len r) r)) (1 + name_len r))
    else bad

-- ---- numbers

abbrev pub digits_len : List ℕ → ℕ
digits_len = prefix_len is_digit

abbrev pub hexadecimal_len : List ℕ → ℕ
hexadecimal_len = prefix_len is_hexadecimal

-- a number of this value and length, before this rest
abbrev pub ended : ℕ → ℕ → List ℕ → Found
ended n len rest =
    if nat_lt widest n then wrong fault.WideNumber 0
    else (if begins runs_on rest then wrong fault.BadByte len else found (number n) len)

abbrev pub hexadecimal_number : List ℕ → Found
hexadecimal_number t =
    ended (value_in 16 (take (hexadecimal_len t) t)) (2 + hexadecimal_len t)
    (drop (hexadecimal_len t) t)

-- behind a 0
abbrev pub zero_at : List ℕ → Found
zero_at [] = ended 0 1 []
zero_at (x ∷ t) =
    if x == 120 && begins is_hexadecimal t then hexadecimal_number t else ended 0 1 (x ∷ t)

abbrev pub decimal_number : List ℕ → Found
decimal_number z =
    ended (value_in 10 (take (digits_len z) z)) (digits_len z) (drop (digits_len z) z)

abbrev pub number_at : List ℕ → Found
number_at [] = bad
number_at (b ∷ t) = if b == 48 then zero_at t else decimal_number (b ∷ t)

-- ---- comments

-- how long a comment stays in its line, up to the first closing tag
abbrev pub line_len : List ℕ → ℕ
line_len [] = 0
line_len (b ∷ t) = if is_in_line b && not (begins_tag (b ∷ t)) then 1 + line_len t else 0

-- a comment in one line whose opening mark has so many bytes
abbrev pub line_of : ℕ → List ℕ → Found
line_of mark z =
    if begins_tag (drop (line_len z) z) then wrong fault.BadByte (mark + line_len z)
    else found line_comment (mark + line_len z)

-- how long a block comment goes on behind its opening mark
abbrev pub close_len : List ℕ → Option ℕ
close_len [] = None
close_len (b ∷ []) = None
close_len (b ∷ c ∷ t) = if b == 42 && c == 47 then Some 2 else longer 1 (close_len (c ∷ t))

abbrev pub comment_of : Option ℕ → Found
comment_of None = wrong fault.OpenComment 0
comment_of (Some n) = found block_comment (2 + n)

abbrev pub hash_at : List ℕ → Found
hash_at r = if begins (λ b. b == 91) r then bad else line_of 1 r

abbrev pub slash_at : List ℕ → Found
slash_at [] = bad
slash_at (c ∷ q) =
    if c == 47 then line_of 2 q
    else (if c == 42 then comment_of (close_len q) else bad)

-- ---- texts

-- the first byte of a text in single quotes, and how many bytes it takes
abbrev pub byte_taken : ℕ → ℕ → ℕ × ℕ
byte_taken b n = (b, n)

abbrev pub single_part : List ℕ → ℕ × ℕ
single_part [] = byte_taken 0 1
single_part (b ∷ []) = byte_taken b 1
single_part (b ∷ c ∷ t) = if b == 92 && (c == 39 || c == 92) then byte_taken c 2 else byte_taken b 1

-- how long a text goes on behind its opening quote, without its closing quote
abbrev pub body_len : ℕ → List ℕ → Option ℕ
body_len quote [] = None
body_len quote (b ∷ []) = if b == 92 then None else (if b == quote then Some 0 else None)
body_len quote (b ∷ c ∷ t) =
    if b == 92 then longer 2 (body_len quote t)
    else (if b == quote then Some 0 else longer 1 (body_len quote (c ∷ t)))

abbrev pub part_found : Part → ℕ → Option (Part × ℕ)
part_found part n = Some (part, n)

abbrev pub octal_at : List ℕ → Option (Part × ℕ)
octal_at z = part_found (octal (take (up_to is_octal 3 z) z)) (1 + up_to is_octal 3 z)

abbrev pub hexadecimal_at : List ℕ → Option (Part × ℕ)
hexadecimal_at t =
    part_found (hexadecimal (take (up_to is_hexadecimal 2 t) t)) (2 + up_to is_hexadecimal 2 t)

-- behind a backslash, a byte that is no letter of an escape
abbrev pub number_or_pair : ℕ → List ℕ → Option (Part × ℕ)
number_or_pair c t =
    if is_octal c then octal_at (c ∷ t)
    else (if c == 120 && begins is_hexadecimal t then hexadecimal_at t
    else (if c == 117 then None else part_found (pair c) 2))

abbrev pub escape_by : Option ℕ → ℕ → List ℕ → Option (Part × ℕ)
escape_by (Some m) c t = part_found (letter c m) 2
escape_by None c t = number_or_pair c t

abbrev pub escape_at : List ℕ → Option (Part × ℕ)
escape_at [] = None
escape_at (c ∷ t) = escape_by (letter_of c) c t

-- the next part between double quotes, and its length
abbrev pub part_at : List ℕ → Option (Part × ℕ)
part_at [] = None
part_at (b ∷ t) =
    if b == 92 then escape_at t
    else (if interpolates b t then None else part_found (plain b) 1)

-- the bytes that are meant, or the place of what is bad
abbrev pub Doubled : Type 0
Doubled = Result (List ℕ) ℕ

abbrev pub ahead : List ℕ → ℕ → Doubled → Doubled
ahead bytes n (Ok value) = Ok (bytes ++ value)
ahead bytes n (Err at) = Err (n + at)

abbrev pub skipped : Option (Part × ℕ) → ℕ
skipped None = 0
skipped (Some x) = x.1 - 1

abbrev pub joined : Option (Part × ℕ) → Doubled → Doubled
joined None d = Err 0
joined (Some x) d = ahead (meaning x.0) 1 d

-- what bytes between double quotes mean, behind so many that were read
unfoldable pub doubled : ℕ → List ℕ → Doubled
doubled n [] = Ok []
doubled (suc n) (b ∷ t) = ahead [] 1 (doubled n t)
doubled zero (b ∷ t) = joined (part_at (b ∷ t)) (doubled (skipped (part_at (b ∷ t))) t)

abbrev pub doubled_of : Doubled → ℕ → Found
doubled_of (Ok value) n = found (text value) (2 + n)
doubled_of (Err at) n = wrong fault.BadByte (1 + at)

abbrev pub single_of : Option ℕ → List ℕ → Found
single_of None r = wrong fault.OpenString 0
single_of (Some n) r = found (text (single_value (take n r))) (2 + n)

abbrev pub double_of : Option ℕ → List ℕ → Found
double_of None r = wrong fault.OpenString 0
double_of (Some n) r = doubled_of (doubled 0 (take n r)) n

abbrev pub quote_at : ℕ → List ℕ → Found
quote_at b r = if b == 39 then single_of (body_len 39 r) r else double_of (body_len 34 r) r

-- ---- operators

-- a point before a digit, or a question mark before >
abbrev pub is_split : ℕ → List ℕ → Bool
is_split b r = (b == 46 && begins is_digit r) || (b == 63 && begins (λ c. c == 62) r)

abbrev pub single_operator : Option Word → ℕ → List ℕ → Found
single_operator None b r = bad
single_operator (Some k) b r = if is_split b r then bad else found (operator k) 1

abbrev pub double_operator : Option Word → ℕ → List ℕ → Found
double_operator None b r = single_operator (one_byte b) b r
double_operator (Some k) b r = found (operator k) 2

abbrev pub triple_operator : Option Word → ℕ → ℕ → List ℕ → Found
triple_operator None b c t = double_operator (two_bytes b c) b (c ∷ t)
triple_operator (Some k) b c t = found (operator k) 3

abbrev pub operator_at : ℕ → List ℕ → Found
operator_at b [] = single_operator (one_byte b) b []
operator_at b (c ∷ []) = double_operator (two_bytes b c) b (c ∷ [])
operator_at b (c ∷ d ∷ t) = triple_operator (three_bytes b c d) b c (d ∷ t)

-- ---- any piece

abbrev pub piece_by : Class → ℕ → List ℕ → Found
piece_by class.Name b r = name_at (b ∷ r)
piece_by class.Number b r = number_at (b ∷ r)
piece_by class.Space b r = found space 1
piece_by class.Hash b r = hash_at r
piece_by class.Slash b r = slash_at r
piece_by class.Dollar b r = dollar_at r
piece_by class.Quote b r = quote_at b r
piece_by class.Other b r = operator_at b r

unfoldable pub piece_at : List ℕ → Found
piece_at [] = bad
piece_at (b ∷ r) = piece_by (class_of b) b r

-- ---- what the functions of the lexer ensure

abbrev pub meant_bytes : Meant → List ℕ
meant_bytes (meant.Byte b) = b ∷ []
meant_bytes (meant.Pair c) = codes "\\" ++ c ∷ []

abbrev pub shown_part : Option (Part × ℕ) → Option (List ℕ × ℕ)
shown_part None = None
shown_part (Some x) = Some (meaning x.0, x.1)

abbrev pub shown_meant : Option (Meant × ℕ) → Option (List ℕ × ℕ)
shown_meant None = None
shown_meant (Some x) = Some (meant_bytes x.0, x.1)

-- the kind of the token that the piece is, and its length
abbrev pub shown : Found → Result (Option TokenKind × ℕ) (Fault × ℕ)
shown (Ok x) = Ok (kind_of x.0, x.1)
shown (Err x) = Err x

-- unless memory fails
abbrev pub Finds : Found → Result (Option TokenKind × ℕ) Wrong → Type 0
Finds read (Ok x) = shown read ≡ Ok x
Finds read (Err (wrongs.Fault f d)) = shown read ≡ Err (f, d)
Finds read (Err wrongs.Memory) = Unit {0}

-- unless memory fails: the value, or the place of what is bad
abbrev pub Decodes : Doubled → Result Spelling Wrong → Type 0
Decodes read (Ok v) = read ≡ Ok v
Decodes read (Err (wrongs.Fault f d)) = (f ≡ fault.BadByte) × (read ≡ Err d)
Decodes read (Err wrongs.Memory) = Unit {0}

abbrev pub IsFaultWithin : Wrong → ℕ → Type 0
IsFaultWithin (wrongs.Fault f at) n = at < n
IsFaultWithin wrongs.Memory n = Unit {0}
