-- The reading of an entry by an index. Source: the PHP manual, "Arrays", "Strings" and "isset".
use Rattle.std.specs.Prelude.{ℕ, ℤ, pos, negsuc, suc, ◌-◌, Bool, cond, if◌then◌else◌, nat_le, List, [], ◌∷◌, length, Option, None, option_map, slice_get, unwrap_or, Result, Ok, Err}
use Rattle.std.specs.Option.{option_map_or}
use Rattle.dp_value.specs.declared.errors.ValueError.{ValueError}
use Rattle.dp_value.specs.declared.errors.ValueError.TheVariants.{BadKey, Unsupported}
use Rattle.dp_value.specs.Data.{Data, null, boolean, integer, text, array, pairs_of}
use Rattle.dp_value.specs.KeyOf.{key_of_data}
use Rattle.dp_value.specs.Table.{value_at}

-- a byte of a text by its position, which is counted from the end where it is negative
abbrev pub byte_at : List ℕ → ℤ → Option ℕ
byte_at bytes (pos n) = slice_get bytes n
byte_at bytes (negsuc n) =
    cond (nat_le (suc n) (length bytes)) (slice_get bytes (length bytes - suc n)) None

-- the text of one byte of a text; only an integer has a position
abbrev pub letter_at : List ℕ → Data → Option Data
letter_at bytes null = None
letter_at bytes (boolean b) = None
letter_at bytes (integer n) = option_map (λ byte. text (byte ∷ [])) (byte_at bytes n)
letter_at bytes (text index) = None
letter_at bytes (array es largest) = None

-- what isset finds under an index: an array has what is under its key, a text its byte, and any
-- other value nothing
abbrev pub found_under : Data → Data → Result (Option Data) ValueError
found_under null index = Ok None
found_under (boolean b) index = Ok None
found_under (integer n) index = Ok None
found_under (text bytes) index = Ok (letter_at bytes index)
found_under (array es largest) index =
    option_map_or (λ key. Ok (value_at (record { pairs = pairs_of es; largest = largest }) key))
    (key_of_data index) (Err BadKey)

abbrev pub or_null : Result (Option Data) ValueError → Result Data ValueError
or_null (Ok found) = Ok (unwrap_or found null)
or_null (Err e) = Err e

-- the value read under an index: null where there is none, but a text has one byte under each index
abbrev pub indexed : Data → Data → Result Data ValueError
indexed (text bytes) index = option_map_or Ok (letter_at bytes index) (Err Unsupported)
indexed holder index = or_null (found_under holder index)

-- the value that isset finds under an index: null where there is none
abbrev pub looked_up : Data → Data → Result Data ValueError
looked_up holder index = or_null (found_under holder index)

abbrev pub then_under : Result Data ValueError → (Data → Result Data ValueError)
    → Result Data ValueError
then_under (Ok d) f = f d
then_under (Err e) f = Err e

-- what a reading gives under indices, one after another
abbrev pub read_by : (Data → Data → Result Data ValueError) → List Data → Data
    → Result Data ValueError
read_by under [] d = Ok d
read_by under (index ∷ indices) d = then_under (under d index) (read_by under indices)

-- the value read under indices
abbrev pub indexed_by : List Data → Data → Result Data ValueError
indexed_by indices d = read_by indexed indices d

-- the value that isset finds under indices: null where there is none
abbrev pub found_by : List Data → Data → Result Data ValueError
found_by indices d = read_by looked_up indices d

-- ---- one reading or the other
-- a reading: a plain one, or as isset finds
abbrev pub reading : Bool → Data → Data → Result Data ValueError
reading plain holder index = if plain then indexed holder index else looked_up holder index
