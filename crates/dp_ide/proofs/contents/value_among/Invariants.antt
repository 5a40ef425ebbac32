use Rattle.std.proofs.Common.{◌≡◌, drop}
use Rattle.dp_markup.specs.Grammar.{value_of}
use Rattle.dp_ide.proofs.contents.value_among.Given as goal

abbrev pub invariant-loop-attribute : goal.invariant-loop-attribute
invariant-loop-attribute l = value_of (drop l.attribute-index l.attributes) l.name ≡ value_of l.attributes l.name
