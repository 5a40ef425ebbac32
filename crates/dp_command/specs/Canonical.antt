-- The one spelling of a line that is written, and the lines that have one.
use Rattle.std.specs.Prelude.{◌≡◌, ℕ, true, Bool, if◌then◌else◌, not, ◌||◌, ◌&&◌, ◌==◌, List, [], ◌∷◌, ◌++◌, length, codes, Option, Some, None, IfSome}
use Rattle.std.specs.List.{flat_map, AllByRecursion}
use Rattle.base64.specs.Engines.{standard}
use Rattle.base64.specs.GeneralPurpose.{encode_of, IsBytes}
use Rattle.dp_bytes.specs.Quotes.{in_quotes}
use Rattle.dp_command.specs.declared.line.Line.{Line}
use Rattle.dp_command.specs.Sorts.{is_letter, is_bare}
use Rattle.dp_command.specs.Grammar.{IsName}

-- each byte may stand without quotes
abbrev pub all_bare : List ℕ → Bool
all_bare [] = true
all_bare (b ∷ t) = is_bare b && all_bare t

-- quotes stand exactly where the value is empty or holds a space, NUL or a quote
abbrev pub needs_quotes : List ℕ → Bool
needs_quotes value = (length value == 0) || not (all_bare value)

-- a value between quotes
abbrev pub quoted : List ℕ → List ℕ
quoted value = codes "\"" ++ flat_map in_quotes value ++ codes "\""

abbrev pub canonical_value : List ℕ → List ℕ
canonical_value value = if needs_quotes value then quoted value else value

abbrev pub canonical_option : ℕ × List ℕ → List ℕ
canonical_option o = codes " -" ++ o.0 ∷ (codes " " ++ canonical_value o.1)

abbrev pub canonical_payload : Option (List ℕ) → List ℕ
canonical_payload None = []
canonical_payload (Some payload) = codes " -- " ++ encode_of standard payload

abbrev pub canonical : Line → List ℕ
canonical line =
    line.name ++ flat_map canonical_option line.options ++ canonical_payload line.payload

-- the line has a spelling
pub record IsWellFormed (line : Line) : Type 0 where
  pub name : IsName line.name
  pub letters : AllByRecursion (λ o. is_letter o.0 ≡ true) line.options
  pub payload : IfSome line.payload IsBytes
