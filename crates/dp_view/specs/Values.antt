-- What property_value shows of a value: DBGp 1.0, "property_value". Its response has the type, and
-- of a text its whole length; the text of the response is the value, of a text its first bytes in
-- base64, and nothing of an array.
use Rattle.std.specs.Prelude.{ℕ, List, [], codes, length, take, Option, Some, None}
use Rattle.std.specs.Fmt.{signed_decimal}
use Rattle.dp_packet.specs.Parts.{Text, Attributes, base64, flag}
use Rattle.dp_packet.specs.Properties.{text_attributes, type_of}
use Rattle.dp_value.specs.Data.{Data, null, boolean, integer, text, array}
use Rattle.dp_view.specs.declared.values.ShownValue.{ShownValue}

-- the first bytes of a text, at most so many, or all
abbrev pub front_of : Option ℕ → List ℕ → List ℕ
front_of None bytes = bytes
front_of (Some most) bytes = take most bytes

abbrev pub attributes_of : Data → Attributes
attributes_of null = type_of (codes "null")
attributes_of (boolean b) = type_of (codes "bool")
attributes_of (integer n) = type_of (codes "int")
attributes_of (text bytes) = text_attributes (length bytes)
attributes_of (array es largest) = type_of (codes "array")

abbrev pub text_of : Option ℕ → Data → Text
text_of most null = []
text_of most (boolean b) = flag b
text_of most (integer n) = signed_decimal n
text_of most (text bytes) = base64 (front_of most bytes)
text_of most (array es largest) = []

abbrev pub value_shown : Option ℕ → Data → ShownValue
value_shown most d = record { attributes = attributes_of d; text = text_of most d }
