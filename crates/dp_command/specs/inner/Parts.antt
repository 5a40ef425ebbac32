-- How the code reads a line, from left to right: a part is its value and the bytes behind it, or
-- none. Nothing here need be believed: `line_of_is_spelt` says what it comes to.
use Rattle.std.specs.Prelude.{ℕ, ◌&&◌, ◌==◌, nat_le, Bool, if◌then◌else◌, List, [], ◌∷◌, length, drop, Option, Some, None}
use Rattle.std.specs.List.{prefix_len}
use Rattle.dp_command.specs.declared.sort.Sort.{Sort}
use Rattle.dp_command.specs.declared.sort.Sort.TheVariants.{Space, Name, Bare, Text}
use Rattle.dp_command.specs.Grammar.{command_name_limit}
use Rattle.dp_command.specs.Sorts.{is_space, is_name_byte, is_letter, is_bare, is_text, begins}
pub use Rattle.dp_grammar.specs.Prefixes.{◌>>=◌, run_at, onward}
unfoldable pub use Rattle.dp_grammar.specs.Prefixes.{items_at}

abbrev pub test_of : Sort → ℕ → Bool
test_of Space = is_space
test_of Name = is_name_byte
test_of Bare = is_bare
test_of Text = is_text

unfoldable pub spaces_at : List ℕ → Option (List ℕ)
spaces_at bytes = if begins is_space bytes then Some (run_at is_space bytes).1 else None

unfoldable pub name_at : List ℕ → Option (List ℕ × List ℕ)
name_at bytes =
    if nat_le 1 (prefix_len is_name_byte bytes)
    && nat_le (prefix_len is_name_byte bytes) command_name_limit
    then Some (run_at is_name_byte bytes) else None

-- a byte between quotes, where none is at the closing quote and at the end
abbrev pub pair_at : List ℕ → Option (Option ℕ × List ℕ)
pair_at [] = None
pair_at (c ∷ rest) = if c == 34 then Some (Some 34, rest)
    else (if c == 92 then Some (Some 92, rest) else (if c == 48 then Some (Some 0, rest) else None))

unfoldable pub byte_at : List ℕ → Option (Option ℕ × List ℕ)
byte_at [] = Some (None, [])
byte_at (b ∷ rest) = if b == 34 then Some (None, b ∷ rest)
    else (if b == 92 then pair_at rest else (if b == 0 then None else Some (Some b, rest)))

unfoldable pub quoted_at : List ℕ → Option (List ℕ × List ℕ)
quoted_at bytes = do
  value ← items_at byte_at (length bytes) bytes
  if begins (λ b. b == 34) value.1 then Some (value.0, drop 1 value.1) else None

unfoldable pub bare_at : List ℕ → Option (List ℕ × List ℕ)
bare_at bytes = if begins is_bare bytes then Some (run_at is_bare bytes) else None

unfoldable pub value_at : List ℕ → Option (List ℕ × List ℕ)
value_at bytes = if begins (λ b. b == 34) bytes then quoted_at (drop 1 bytes) else bare_at bytes

-- the letter of an option
abbrev pub letter_of : List ℕ → Option (ℕ × List ℕ)
letter_of [] = None
letter_of (dash ∷ []) = None
letter_of (dash ∷ letter ∷ rest) =
    if dash == 45 && is_letter letter then Some (letter, rest) else None

unfoldable pub letter_at : List ℕ → Option (ℕ × List ℕ)
letter_at bytes = spaces_at bytes >>= letter_of

-- an option, where none is if no letter stands here
abbrev pub argument_of : Option (ℕ × List ℕ) → List ℕ → Option (Option (ℕ × List ℕ) × List ℕ)
argument_of None bytes = Some (None, bytes)
argument_of (Some letter) bytes = do
  text ← spaces_at letter.1
  value ← value_at text
  Some (Some (letter.0, value.0), value.1)

unfoldable pub option_at : List ℕ → Option (Option (ℕ × List ℕ) × List ℕ)
option_at bytes = argument_of (letter_at bytes) bytes

unfoldable pub options_at : List ℕ → Option (List (ℕ × List ℕ) × List ℕ)
options_at bytes = items_at option_at (length bytes) bytes

-- the text of a payload, up to the end
unfoldable pub text_at : List ℕ → Option (List ℕ)
text_at bytes = do
  text ← spaces_at bytes
  let found = run_at is_text text in if length (run_at is_space found.1).1 == 0 then Some found.0
      else None

abbrev pub dashed : List ℕ → Option (List ℕ)
dashed [] = None
dashed (a ∷ []) = None
dashed (a ∷ b ∷ rest) = if a == 45 && b == 45 then Some rest else None

-- the text of the payload where there is one, up to the end
unfoldable pub ending_at : List ℕ → Option (Option (List ℕ))
ending_at bytes = if length (run_at is_space bytes).1 == 0 then Some None else do
  dashes ← spaces_at bytes
  rest ← dashed dashes
  text ← text_at rest
  Some (Some text)

-- the same of a text that may not be there
abbrev pub seen_text : {X : Type 0} → (X → List ℕ) → Option X → Option (List ℕ)
seen_text view None = None
seen_text view (Some x) = Some (view x)

-- the name, the options, and the text of the payload where there is one
unfoldable pub parts_at : List ℕ → Option (List ℕ × List (ℕ × List ℕ) × Option (List ℕ))
parts_at bytes = do
  name ← name_at bytes
  options ← options_at name.1
  text ← ending_at options.1
  Some (name.0, options.0, text)
