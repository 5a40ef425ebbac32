-- The key that a value becomes: an integer is itself, a bool is 0 or 1, null is the empty text, a
-- text that spells an integer is that integer, another text is itself; an array is no key. Source:
-- the PHP manual, "Arrays".
use Rattle.std.specs.Prelude.{pos, cond, List, ℕ, [], Option, Some, None}
use Rattle.std.specs.Option.{option_map_or}
use Rattle.dp_value.specs.declared.key.Key.{Key}
use Rattle.dp_value.specs.declared.key.Key.TheVariants.{Int, Text}
use Rattle.dp_value.specs.Data.{Data, null, boolean, integer, text, array}
use Rattle.dp_bytes.specs.IntText.{int_of_text}

abbrev pub key_of_text : List ℕ → Key
key_of_text bytes = option_map_or Int (int_of_text bytes) (Text bytes)

abbrev pub key_of_data : Data → Option Key
key_of_data null = Some (Text [])
key_of_data (boolean b) = Some (Int (cond b (pos 1) (pos 0)))
key_of_data (integer n) = Some (Int n)
key_of_data (text bytes) = Some (key_of_text bytes)
key_of_data (array es largest) = None

-- the value is a text
abbrev pub IsText : Data → Type 0
IsText null = ⊥
IsText (boolean b) = ⊥
IsText (integer n) = ⊥
IsText (text bytes) = Unit {0}
IsText (array es largest) = ⊥
