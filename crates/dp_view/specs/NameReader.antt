-- The path that bytes name, as it is found from left to right. A part is its value and the bytes
-- behind it, or none. By `names_have_one_path` it is the one path that they spell by the grammar,
-- so nothing here need be believed.
use Rattle.std.specs.Prelude.{ℕ, ◌&&◌, ◌||◌, ◌==◌, nat_le, Bool, if◌then◌else◌, List, [], ◌∷◌, length, drop, Option, Some, None}
use Rattle.std.specs.List.{prefix_len}
use Rattle.dp_lexer.specs.Bytes.{is_digit, is_start, is_part, begins}
use Rattle.dp_lexer.specs.Pieces.{longest_name}
use Rattle.dp_state.specs.declared.moments.Path.{Path}
use Rattle.dp_value.specs.declared.key.Key.{Key}
use Rattle.dp_value.specs.declared.key.Key.TheVariants as a_key
use Rattle.dp_bytes.specs.IntText.{int_of_text}
use Rattle.dp_value.specs.KeyOf.{key_of_text}
use Rattle.dp_view.specs.Grammar.{pair_of}
pub use Rattle.dp_grammar.specs.Prefixes.{◌>>=◌, run_at, onward}
unfoldable pub use Rattle.dp_grammar.specs.Prefixes.{items_at}

-- what an integer consists of
abbrev pub is_int_byte : ℕ → Bool
is_int_byte b = is_digit b || b == 45

-- what stands behind this byte
abbrev pub behind : ℕ → List ℕ → Option (List ℕ)
behind b [] = None
behind b (c ∷ rest) = if c == b then Some rest else None

-- without a `$` at the front
abbrev pub without_dollar : List ℕ → List ℕ
without_dollar [] = []
without_dollar (b ∷ rest) = if b == 36 then rest else b ∷ rest

unfoldable pub name_at : List ℕ → Option (List ℕ × List ℕ)
name_at bytes =
    if begins is_start bytes
    && nat_le (prefix_len is_part bytes) longest_name then Some (run_at is_part bytes) else None

-- the byte that a pair stands for, behind its backslash
abbrev pub pair_at : ℕ → List ℕ → Option (Option ℕ × List ℕ)
pair_at quote [] = None
pair_at quote (c ∷ rest) = pair_of quote c >>= λ b. Some (Some b, rest)

-- a byte between quotes, where none is at the closing quote and at the end
unfoldable pub byte_at : ℕ → List ℕ → Option (Option ℕ × List ℕ)
byte_at quote [] = Some (None, [])
byte_at quote (b ∷ rest) =
    if b == quote then Some (None, b ∷ rest) else if b == 92 then pair_at quote rest else if b == 0
    then None else Some (Some b, rest)

-- the key whose opening quote stands before these bytes
unfoldable pub quoted_at : ℕ → List ℕ → Option (Key × List ℕ)
quoted_at quote bytes = do
  value ← items_at (byte_at quote) (length bytes) bytes
  rest ← behind quote value.1
  Some (key_of_text value.0, rest)

unfoldable pub int_at : List ℕ → Option (Key × List ℕ)
int_at bytes =
    int_of_text (run_at is_int_byte bytes).0
    >>= λ n. Some (a_key.Int n, (run_at is_int_byte bytes).1)

-- the key whose opening bracket stands before these bytes
unfoldable pub key_at : List ℕ → Option (Key × List ℕ)
key_at bytes =
    if begins (λ b. b == 34) bytes then quoted_at 34 (drop 1 bytes)
    else if begins (λ b. b == 39) bytes then quoted_at 39 (drop 1 bytes)
    else int_at bytes

-- an index, where none is at the end
unfoldable pub index_at : List ℕ → Option (Option Key × List ℕ)
index_at [] = Some (None, [])
index_at (b ∷ bytes) = do
  inner ← behind 91 (b ∷ bytes)
  key ← key_at inner
  rest ← behind 93 key.1
  Some (Some key.0, rest)

-- the keys of indices up to the end
unfoldable pub keys_at : List ℕ → Option (List Key)
keys_at bytes =
    items_at index_at (length bytes) bytes >>= λ found. if length found.1 == 0 then Some found.0
    else None

-- the path that bytes name
unfoldable pub path_at : List ℕ → Option Path
path_at bytes = do
  name ← name_at (without_dollar bytes)
  keys ← keys_at name.1
  Some (record { name = name.0; keys = keys })
