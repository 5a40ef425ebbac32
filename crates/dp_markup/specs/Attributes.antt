-- The attributes of a tag: names with their values, in their order.
use Rattle.std.specs.Prelude.{List}
use Rattle.dp_grammar.specs.Texts.{Text}

abbrev pub Attributes : Type 0
Attributes = List (Text × Text)
