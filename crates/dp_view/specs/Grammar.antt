-- The names of properties that are read: DBGp 1.0, "Properties, variables and values", on
-- `fullname`. Single quotes, the missing `$` and the escapes are this engine's own.
use Rattle.std.specs.Prelude.{◌≡◌, ℕ, ℤ, ◌≤◌, true, Bool, not, ◌&&◌, ◌⊎◌, ◌==◌, if◌then◌else◌, List, [], ◌∷◌, ◌++◌, length, codes, Option, Some, None}
use Rattle.std.specs.List.{AllByRecursion}
use Rattle.dp_lexer.specs.Pieces.{IsName, longest_name}
use Rattle.dp_state.specs.declared.moments.Path.{Path}
use Rattle.dp_value.specs.declared.key.Key.{Key}
use Rattle.dp_value.specs.declared.key.Key.TheVariants.{Int, Text}
use Rattle.dp_bytes.specs.IntText.{int_of_text, is_in_64_bits}
use Rattle.dp_value.specs.KeyOf.{key_of_text}
use Rattle.dp_grammar.specs.Parts.{Part}
pub use Rattle.dp_grammar.specs.Parts.{Joined, ◌>>◌, Mark, Repeated}

-- a `$`, or nothing
abbrev pub Dollar : Part ℕ
Dollar bytes = (bytes ≡ codes "$") ⊎ (bytes ≡ [])

-- the name of a variable, as the tokens of a program have it, of at most 255 bytes
abbrev pub IsVariableName : List ℕ → Type 0
IsVariableName name = IsName name × (length name ≤ longest_name)

abbrev pub Name : List ℕ → Part ℕ
Name name bytes = IsVariableName name × (bytes ≡ name)

-- the two quotes
abbrev pub IsQuote : ℕ → Type 0
IsQuote quote = (quote ≡ 34) ⊎ (quote ≡ 39)

-- what stands for itself between quotes: any byte but that quote, a backslash and NUL
abbrev pub is_plain : ℕ → ℕ → Bool
is_plain quote b = not (b == quote) && not (b == 92) && not (b == 0)

-- what a backslash and this byte stand for: `\"`, `\\`, `\0`, and `\'` between single quotes
abbrev pub pair_of : ℕ → ℕ → Option ℕ
pair_of quote c =
    if c == 34 then Some 34 else if c == 92 then Some 92 else if c == 48 then Some 0
    else if c == quote then Some quote else None

-- a byte between quotes, as itself or as a pair
abbrev pub Within : ℕ → ℕ → Part ℕ
Within quote b bytes =
    ((is_plain quote b ≡ true) × (bytes ≡ b ∷ []))
    ⊎ ((c : ℕ) × (pair_of quote c ≡ Some b) × (bytes ≡ codes "\\" ++ c ∷ []))

-- a text between quotes
abbrev pub Quoted : ℕ → List ℕ → Part ℕ
Quoted quote value = Mark (quote ∷ []) >> Repeated (Within quote) value >> Mark (quote ∷ [])

-- what may stand between brackets for a key: an integer of 64 bits in its shortest form, or a text
-- between quotes, which becomes a key as an index does
abbrev pub Inner : Key → Part ℕ
Inner key bytes =
    ((n : ℤ) × (int_of_text bytes ≡ Some n) × (key ≡ Int n))
    ⊎ ((quote : ℕ) × (value : List ℕ) × IsQuote quote × Quoted quote value bytes
    × (key ≡ key_of_text value))

abbrev pub Index : Key → Part ℕ
Index key = Mark (codes "[") >> Inner key >> Mark (codes "]")

-- these bytes name this path: [ "$" ] name *( "[" key "]" )
abbrev pub spelt : List ℕ → Path → Type 0
spelt bytes path = (Dollar >> Name path.name >> Repeated Index path.keys) bytes

-- ---- the paths that have a name

-- A key that an index names: an integer of 64 bits, or a text that is no integer.
abbrev pub HasIndex : Key → Type 0
HasIndex (Int n) = is_in_64_bits n ≡ true
HasIndex (Text bytes) = int_of_text bytes ≡ None

pub record HasFullName (path : Path) : Type 0 where
  pub name : IsVariableName path.name
  pub keys : AllByRecursion HasIndex path.keys
