-- The text of a value, and texts joined. Source: the PHP manual, "Strings".
use Rattle.std.specs.Prelude.{ℕ, true, false, cond, List, [], ◌++◌, length, codes, nat_le, Result, Ok, Err}
use Rattle.std.specs.Fmt.{signed_decimal}
use Rattle.dp_value.specs.declared.errors.ValueError.{ValueError}
use Rattle.dp_value.specs.declared.errors.ValueError.TheVariants.{TooHeavy}
use Rattle.dp_value.specs.Data.{Data, null, boolean, integer, text, array}
use Rattle.dp_value.specs.Table.{weight_limit}

-- an integer in decimal, true as `1`, false and null as nothing, an array as `Array`
abbrev pub text_of : Data → List ℕ
text_of null = []
text_of (boolean true) = codes "1"
text_of (boolean false) = []
text_of (integer n) = signed_decimal n
text_of (text bytes) = bytes
text_of (array es largest) = codes "Array"

-- a text, where it is not too heavy
abbrev pub light_text : List ℕ → Result Data ValueError
light_text bytes = cond (nat_le (length bytes) weight_limit) (Ok (text bytes)) (Err TooHeavy)

abbrev pub joined : Data → Data → Result Data ValueError
joined a b = light_text (text_of a ++ text_of b)
