-- How long the parts of an element's text are. Only proofs speak of these.
use Rattle.std.specs.Prelude.{ℕ, ◌+◌, [], ◌∷◌, length}
use Rattle.dp_markup.specs.Escapes.{escaped_all}
use Rattle.dp_packet.specs.Parts.{Text, Attributes}

abbrev pub attribute_size : Text × Text → ℕ
attribute_size a = 4 + length a.0 + length (escaped_all a.1)

abbrev pub attributes_size : Attributes → ℕ
attributes_size [] = 0
attributes_size (a ∷ more) = attribute_size a + attributes_size more
