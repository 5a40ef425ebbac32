-- The grammar of command lines: DBGp 1.0, "Command Line Format" under "IDE to debugger engine
-- communications"; the pairs of quoted values and repeated spaces are this engine's own.
use Rattle.std.specs.Prelude.{◌≡◌, ℕ, ◌≤◌, true, ◌⊎◌, List, [], ◌∷◌, ◌++◌, length, codes, Option, Some, None}
use Rattle.base64.specs.Engines.{standard}
use Rattle.base64.specs.GeneralPurpose.{encode_of, IsBytes}
use Rattle.dp_bytes.specs.Quotes.{in_quotes}
use Rattle.dp_command.specs.declared.line.Line.{Line}
use Rattle.dp_grammar.specs.Parts.{Part}
use Rattle.dp_command.specs.Sorts.{is_space, is_name_byte, is_letter, is_bare, Each}
pub use Rattle.dp_grammar.specs.Parts.{Joined, ◌>>◌, Mark, Repeated}

-- which bytes a part of a line may be
abbrev pub Rule : Type 1
Rule = Part ℕ

-- *SP
abbrev pub Spaces : Rule
Spaces bytes = Each is_space bytes

-- 1*SP
abbrev pub SomeSpaces : Rule
SomeSpaces bytes = Each is_space bytes × (1 ≤ length bytes)

-- the most bytes of the name of a command
abbrev pub command_name_limit : ℕ
command_name_limit = 64

-- 1 to 64 of a-z, 0-9, "_"
abbrev pub IsName : List ℕ → Type 0
IsName name = Each is_name_byte name × (1 ≤ length name) × (length name ≤ command_name_limit)

abbrev pub Name : List ℕ → Rule
Name name bytes = IsName name × (bytes ≡ name)

-- 1*( byte but SP, NUL, quote )
abbrev pub Bare : List ℕ → Rule
Bare value bytes = Each is_bare value × (1 ≤ length value) × (bytes ≡ value)

-- plain | pair
abbrev pub InQuotes : ℕ → Rule
InQuotes b = Mark (in_quotes b)

-- quote *( plain | pair ) quote
abbrev pub Quoted : List ℕ → Rule
Quoted value = Mark (codes "\"") >> Repeated InQuotes value >> Mark (codes "\"")

abbrev pub Value : List ℕ → Rule
Value value bytes = Bare value bytes ⊎ Quoted value bytes

-- "-" letter 1*SP value
abbrev pub Argument : ℕ × List ℕ → Rule
Argument o bytes =
    (is_letter o.0 ≡ true) × (Mark (codes "-" ++ o.0 ∷ []) >> SomeSpaces >> Value o.1) bytes

-- 1*SP option
abbrev pub Given : ℕ × List ℕ → Rule
Given o = SomeSpaces >> Argument o

-- base64 of RFC 4648, section 4, with padding: the one encoding of the bytes
abbrev pub Payload : List ℕ → Rule
Payload payload bytes = IsBytes payload × (bytes ≡ encode_of standard payload)

-- [ 1*SP "--" 1*SP payload ] *SP
abbrev pub Ending : Option (List ℕ) → Rule
Ending None = Spaces
Ending (Some payload) = SomeSpaces >> Mark (codes "--") >> SomeSpaces >> Payload payload >> Spaces

-- these bytes spell this line: name *( 1*SP option ) [ 1*SP "--" 1*SP payload ] *SP
abbrev pub spelt : List ℕ → Line → Type 0
spelt bytes line = (Name line.name >> Repeated Given line.options >> Ending line.payload) bytes
