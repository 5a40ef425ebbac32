use Rattle.std.proofs.Common.{◌≡◌, drop}
use Rattle.dp_markup.specs.Grammar.{value_of}
use Rattle.dp_reply.proofs.contents.find.Given as goal

abbrev pub invariant-loop-attribute : goal.invariant-loop-attribute
invariant-loop-attribute l = value_of l.e.attributes l.name ≡ value_of (drop l.attribute-index l.e.attributes) l.name
