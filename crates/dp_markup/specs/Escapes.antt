-- How a byte of a value or a text is written: as itself, or as a reference (XML 1.0, 4.1 and 4.6).
use Rattle.std.specs.Prelude.{ℕ, ◌+◌, ◌/◌, ◌%◌, List, [], ◌∷◌, ◌++◌, ◌==◌, nat_lt, ◌&&◌, if◌then◌else◌, codes}
use Rattle.std.specs.List.{flat_map}

-- the decimal number of a byte, without leading zeros
abbrev pub decimal : ℕ → List ℕ
decimal b =
    if nat_lt b 10 then (48 + b) ∷ []
    else if nat_lt b 100 then (48 + b / 10) ∷ (48 + b % 10) ∷ []
    else (48 + b / 100) ∷ (48 + b / 10 % 10) ∷ (48 + b % 10) ∷ []

-- a byte that has no name: itself from 0x20 to 0x7e, else by its number
abbrev pub plain_or_number : ℕ → List ℕ
plain_or_number b =
    if nat_lt 31 b && nat_lt b 127 then b ∷ [] else codes "&#" ++ decimal b ++ codes ";"

-- a byte of a value or a text
abbrev pub escaped : ℕ → List ℕ
escaped b =
    if b == 38 then codes "&amp;"
    else if b == 60 then codes "&lt;"
    else if b == 62 then codes "&gt;"
    else if b == 34 then codes "&quot;"
    else if b == 39 then codes "&#39;"
    else plain_or_number b

abbrev pub escaped_all : List ℕ → List ℕ
escaped_all bytes = flat_map escaped bytes
