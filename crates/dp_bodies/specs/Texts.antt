-- PHP's texts are bytes, and JSON's are characters: a byte of a PHP text is the character of its
-- number.
use Rattle.std.specs.Prelude.{ℕ, nat_le, List, Option, Some, None, if◌then◌else◌}
use Rattle.std.specs.List.{list_all}
use Rattle.std.specs.Str.{chars, encode_utf8_all}

-- the characters of a PHP text, in UTF-8
abbrev pub json_text : List ℕ → List ℕ
json_text bytes = encode_utf8_all bytes

-- the bytes that these characters stand for; a character above U+00FF stands for none
abbrev pub low_bytes : List ℕ → Option (List ℕ)
low_bytes characters = if list_all (λ c. nat_le c 255) characters then Some characters else None

-- the PHP text that a JSON text is
abbrev pub php_text : List ℕ → Option (List ℕ)
php_text text = low_bytes (chars text)
