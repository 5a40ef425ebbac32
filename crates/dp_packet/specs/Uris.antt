-- The URIs of files (RFC 8089), percent-encoded (RFC 3986, 2.1 to 2.3).
use Rattle.std.specs.Prelude.{ℕ, ◌+◌, ◌/◌, ◌%◌, Bool, ◌&&◌, ◌||◌, ◌==◌, nat_le, nat_lt, if◌then◌else◌, [], ◌∷◌, ◌++◌, codes, flat_map}
use Rattle.dp_bytes.specs.Names.{without_slash}
use Rattle.dp_packet.specs.Parts.{Text}

-- what stands for itself: letters, digits, `-`, `.`, `_`, `~`, and `/` between the parts of a path
abbrev pub stands_for_itself : ℕ → Bool
stands_for_itself b =
    (nat_le 65 b && nat_le b 90) || (nat_le 97 b && nat_le b 122) || (nat_le 48 b && nat_le b 57)
    || b == 45 || b == 46 || b == 95 || b == 126 || b == 47

-- 0 to 9, then A to F
abbrev pub hexadecimal : ℕ → ℕ
hexadecimal digit = if nat_lt digit 10 then 48 + digit else 55 + digit

-- itself, or `%` and two digits
abbrev pub encoded : ℕ → Text
encoded b =
    if stands_for_itself b then b ∷ []
    else codes "%" ++ hexadecimal (b / 16) ∷ hexadecimal (b % 16) ∷ []

-- the URI of the file with this name
unfoldable pub file_uri : Text → Text
file_uri name = codes "file:///" ++ flat_map encoded (without_slash name)
