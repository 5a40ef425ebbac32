-- Texts in quotes: where they end, and the bytes that they stand for.
use Rattle.std.specs.Prelude.{◌≡◌, ◌≢◌, ◌⊎◌, ℕ, ◌<◌, ◌≤◌, ◌%◌, Bool, true, false, not, ◌&&◌, ◌||◌, ◌==◌, if◌then◌else◌, List, [], ◌∷◌, ◌++◌, length, codes, Option, Some, None, is_none}
use Rattle.dp_lexer.specs.Bytes.{is_start, is_octal, is_hexadecimal, begins, Each, value_in}
use Rattle.dp_lexer.specs.Chain.{texts, Come}

-- What stands between two quotes of this kind: a backslash and the byte behind it are a pair,
-- whatever they are, and no other byte is the quote.
abbrev pub IsBody : ℕ → List ℕ → Type 0
IsBody quote [] = Unit {0}
IsBody quote (b ∷ []) = (b ≢ 92) × (b ≢ quote)
IsBody quote (b ∷ c ∷ t) =
    ((b ≡ 92) × IsBody quote t) ⊎ ((b ≢ 92) × (b ≢ quote) × IsBody quote (c ∷ t))

-- a text in quotes: its opening quote, what stands between, its closing quote
abbrev pub enclosed : ℕ → List ℕ → List ℕ
enclosed quote body = quote ∷ (body ++ (quote ∷ []))

-- Single quotes: a backslash before a quote or a backslash is left out, and every other byte stands
-- for itself.
abbrev pub single_value : List ℕ → List ℕ
single_value [] = []
single_value (b ∷ []) = b ∷ []
single_value (b ∷ c ∷ t) =
    if b == 92 && (c == 39 || c == 92) then c ∷ single_value t else b ∷ single_value (c ∷ t)

-- ---- double quotes

-- what one letter behind a backslash stands for: \n \t \r \v \e \f \\ \$ \"
abbrev pub letter_of : ℕ → Option ℕ
letter_of c =
    if c == 110 then Some 10
    else (if c == 116 then Some 9
    else (if c == 114 then Some 13
    else (if c == 118 then Some 11
    else (if c == 101 then Some 27
    else (if c == 102 then Some 12
    else (if c == 92 then Some 92
    else (if c == 36 then Some 36
    else (if c == 34 then Some 34
    else None))))))))

-- the parts of a text in double quotes
pub data Part : Type 0 where
  plain : ℕ → Part
  letter : ℕ → ℕ → Part
  octal : List ℕ → Part
  hexadecimal : List ℕ → Part
  pair : ℕ → Part

-- Where PHP would put in a variable: a dollar before a name or before a brace, and a brace before a
-- dollar.
abbrev pub interpolates : ℕ → List ℕ → Bool
interpolates b rest =
    (b == 36 && begins (λ c. is_start c || c == 123) rest)
    || (b == 123 && begins (λ c. c == 36) rest)

-- a backslash and this byte stay as they are, before this rest
abbrev pub stays : ℕ → List ℕ → Bool
stays c rest =
    is_none (letter_of c) && not (is_octal c) && not (c == 117)
    && not (c == 120 && begins is_hexadecimal rest)

-- How each part is spelled, before this rest: an octal escape has one to three digits, a
-- hexadecimal one or two, and takes as many as there are.
abbrev pub IsPart : Part → List ℕ → List ℕ → Type 0
IsPart (plain b) t rest = (t ≡ b ∷ []) × (b ≢ 92) × (interpolates b rest ≡ false)
IsPart (letter c m) t rest = (t ≡ codes "\\" ++ c ∷ []) × (letter_of c ≡ Some m)
IsPart (octal ds) t rest =
    (t ≡ codes "\\" ++ ds) × Each is_octal ds × (1 ≤ length ds) × (length ds ≤ 3)
    × (length ds < 3 → begins is_octal rest ≡ false)
IsPart (hexadecimal ds) t rest =
    (t ≡ codes "\\x" ++ ds) × Each is_hexadecimal ds × (1 ≤ length ds) × (length ds ≤ 2)
    × (length ds < 2 → begins is_hexadecimal rest ≡ false)
IsPart (pair c) t rest = (t ≡ codes "\\" ++ c ∷ []) × (stays c rest ≡ true)

-- the bytes that a part stands for; a number is taken modulo 256
abbrev pub meaning : Part → List ℕ
meaning (plain b) = b ∷ []
meaning (letter c m) = m ∷ []
meaning (octal ds) = (value_in 8 ds % 256) ∷ []
meaning (hexadecimal ds) = (value_in 16 ds % 256) ∷ []
meaning (pair c) = codes "\\" ++ c ∷ []

abbrev pub Parts : Type 0
Parts = List (Part × List ℕ)

abbrev pub meanings : Parts → List ℕ
meanings [] = []
meanings (p ∷ ps) = meaning p.0 ++ meanings ps

-- the bytes that stand between double quotes, and the bytes that they stand for
pub record IsDoubled (body value : List ℕ) : Type 0 where
  pub parts : Parts
  pub whole : texts parts ≡ body
  pub each : Come IsPart parts []
  pub is : value ≡ meanings parts

-- No part begins here: a backslash with nothing but a `u` behind it, or a place where PHP would put
-- in a variable.
abbrev pub IsBadPart : List ℕ → Type 0
IsBadPart [] = ⊥
IsBadPart (b ∷ t) =
    ((b ≡ 92) × (begins (λ c. not (c == 117)) t ≡ false)) ⊎ ((b ≢ 92) × (interpolates b t ≡ true))

-- between double quotes, the place at which no part begins
pub record IsBadInside (body : List ℕ) (at : ℕ) : Type 0 where
  pub parts : Parts
  pub rest : List ℕ
  pub whole : texts parts ++ rest ≡ body
  pub each : Come IsPart parts rest
  pub bad : IsBadPart rest
  pub is : at ≡ length (texts parts)
