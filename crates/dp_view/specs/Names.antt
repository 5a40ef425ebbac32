-- The names of properties: DBGp 1.0, "Properties, variables and values", on `name` and `fullname`.
-- The escapes of a key are this engine's own.
use Rattle.std.specs.Prelude.{ℕ, ℤ, ◌-◌, ◌==◌, if◌then◌else◌, length, slice_get, List, [], ◌++◌, codes, Option, option_map}
use Rattle.std.specs.Fmt.{signed_decimal}
use Rattle.std.specs.List.{flat_map}
use Rattle.std.specs.Option.{option_map_or}
use Rattle.dp_state.specs.declared.moments.Path.{Path}
use Rattle.dp_value.specs.declared.key.Key.{Key}
use Rattle.dp_bytes.specs.Quotes.{in_quotes}
use Rattle.dp_value.specs.declared.key.Key.TheVariants.{Int, Text}

-- what stands before the names of a context: nothing before those of constants
abbrev pub sigil : ℕ → List ℕ
sigil id = if id == 2 then [] else codes "$"

-- `$` and its name, for a variable; a constant is called by its name
abbrev pub variable_name : ℕ → List ℕ → List ℕ
variable_name id name = sigil id ++ name

-- the text of its key, for an entry
abbrev pub key_text : Key → List ℕ
key_text (Int n) = signed_decimal n
key_text (Text bytes) = bytes

-- an integer between brackets
abbrev pub int_index : ℤ → List ℕ
int_index n = codes "[" ++ signed_decimal n ++ codes "]"

-- a text between brackets and quotes
abbrev pub text_index : List ℕ → List ℕ
text_index bytes = codes "[\"" ++ flat_map in_quotes bytes ++ codes "\"]"

-- the index by which an entry is named
abbrev pub index_of : Key → List ℕ
index_of (Int n) = int_index n
index_of (Text bytes) = text_index bytes

abbrev pub last_key : Path → Option Key
last_key path = slice_get path.keys (length path.keys - 1)

-- what a user calls what stands at a path in a context: the text of the last key, or the variable
-- where there is no key
abbrev pub own_name : ℕ → Path → List ℕ
own_name id path = option_map_or key_text (last_key path) (variable_name id path.name)

-- the name by which a command can ask for what stands at a path in a context
abbrev pub full_name : ℕ → Path → List ℕ
full_name id path = variable_name id path.name ++ flat_map index_of path.keys

-- the full name of an entry, where that of its array is known
abbrev pub entry_name : Option (List ℕ) → Key → Option (List ℕ)
entry_name full key = option_map (λ name. name ++ index_of key) full
