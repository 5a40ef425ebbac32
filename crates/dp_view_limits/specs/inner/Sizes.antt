-- How much text properties take, as it is counted from values: by the lengths of names, and not by
-- names.
use Rattle.std.specs.Prelude.{ℕ, zero, suc, ◌+◌, List, length, sum_by, take, codes, decimal, Option, Some, None, option_map}
use Rattle.std.specs.Fmt.{signed_decimal}
use Rattle.std.specs.Option.{option_map_or}
use Rattle.dp_markup.specs.Escapes.{escaped_all}
use Rattle.dp_packet.specs.Parts.{base64}
use Rattle.dp_state.specs.declared.vars.Slot.{Slot}
use Rattle.dp_state.specs.Variables.{Variables}
use Rattle.dp_value.specs.declared.key.Key.{Key}
use Rattle.dp_value.specs.Data.{Data, null, boolean, integer, text, array, pairs_of}
use Rattle.dp_value.specs.Value.{data_of}
use Rattle.dp_view.specs.declared.paging.Paging.{Paging}
use Rattle.dp_view.specs.Names.{index_of, key_text, variable_name}
use Rattle.dp_view.specs.Properties.{page_of, variable_value}

-- ---- names

-- how many bytes a text has between tags or quotes
abbrev pub text_size : List ℕ → ℕ
text_size bytes = length (escaped_all bytes)

-- the length of the full name of an entry, where that of its array is known
abbrev pub full_behind : Option ℕ → Key → Option ℕ
full_behind full key = option_map (λ n. n + text_size (index_of key)) full

-- a property without attributes and content, and its names without their values
abbrev pub property_frame : ℕ
property_frame = length (codes "<property></property>")

abbrev pub name_frame : ℕ
name_frame = length (codes " name=\"\"")

abbrev pub full_frame : ℕ
full_frame = length (codes " fullname=\"\"")

-- an attribute that may be missing, of which this much is no value
abbrev pub given_size : ℕ → Option ℕ → ℕ
given_size around None = 0
given_size around (Some n) = around + n

-- ---- values

abbrev pub front_size : ℕ → List ℕ → ℕ
front_size most bytes =
    length (codes " type=\"string\" size=\"\" encoding=\"base64\"")
    + text_size (decimal (length bytes)) + text_size (base64 (take most bytes))

abbrev pub array_size : ℕ → ℕ → ℕ → ℕ
array_size count page size =
    length (codes " type=\"array\" children=\"1\" numchildren=\"\" page=\"\" pagesize=\"\"")
    + text_size (decimal count) + text_size (decimal page) + text_size (decimal size)

-- the attributes and the content of a value, of which this many bytes are nested
abbrev pub value_size : Paging → ℕ → (List (Key × Data) → ℕ) → Data → ℕ
value_size p page nest null = length (codes " type=\"null\"")
value_size p page nest (boolean b) = length (codes " type=\"bool\"") + 1
value_size p page nest (integer n) = length (codes " type=\"int\"") + text_size (signed_decimal n)
value_size p page nest (text bytes) = front_size p.bytes bytes
value_size p page nest (array es largest) =
    array_size (length (pairs_of es)) page p.children + nest (page_of page p.children (pairs_of es))

-- ---- properties

abbrev pub entry_size : Paging → (Option ℕ → List (Key × Data) → ℕ) → Option ℕ → Key × Data → ℕ
entry_size p nest full e =
    property_frame + name_frame + text_size (key_text e.0)
    + given_size full_frame (full_behind full e.0)
    + value_size p 0 (nest (full_behind full e.0)) e.1

-- those of entries, of which so many levels are shown
abbrev pub entries_size : Paging → ℕ → Option ℕ → List (Key × Data) → ℕ
entries_size p zero full es = 0
entries_size p (suc levels) full es = sum_by (entry_size p (entries_size p levels) full) es

-- that of a value whose names have these lengths
abbrev pub named_size : Paging → Option ℕ → Option ℕ → Data → ℕ
named_size p name full d =
    property_frame + given_size name_frame name + given_size full_frame full
    + value_size p p.page (entries_size p p.depth full) d

-- that of a variable of a context, if it has a value
abbrev pub variable_size : ℕ → Paging → Variables → List ℕ × Slot → ℕ
variable_size id p globals v =
    let name = text_size (variable_name id v.0) in
    option_map_or (λ value. named_size p (Some name) (Some name) (data_of value))
    (variable_value globals v) 0
