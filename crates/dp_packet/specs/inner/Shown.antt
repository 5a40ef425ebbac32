-- What a writer is given as attributes. Only proofs and private contracts speak of it.
use Rattle.std.specs.Prelude.{List, [], ◌∷◌, ◌++◌, codes, decimal}
use Rattle.std.specs.List.{flat_map}
use Rattle.dp_markup.specs.Texts.{attribute_text}
use Rattle.dp_packet.specs.declared.attributes.Attribute.{Attribute}
use Rattle.dp_packet.specs.declared.attributes.Attribute.TheVariants.{Text, Value, Number, Given, GivenNumber, Mark, Pairs}
use Rattle.dp_packet.specs.declared.packet.BreakLine.{BreakLine}
use Rattle.dp_packet.specs.Breakpoints.{given_number}
use Rattle.dp_packet.specs.Parts.{Attributes, Text as Bytes, given, mark}

abbrev pub shown : Attribute → Attributes
shown (Text name value) = (name.now, value.now) ∷ []
shown (Value name value) = (name.now, value.now) ∷ []
shown (Number name n) = (name.now, decimal n) ∷ []
shown (Given name value) = given name.now value.now
shown (GivenNumber name value) = given_number name.now value
shown (Mark name holds) = mark name.now holds
shown (Pairs pairs) = pairs.now

abbrev pub shown_text : Attribute → Bytes
shown_text attribute = flat_map attribute_text (shown attribute)

abbrev pub all_shown : List Attribute → Attributes
all_shown attributes = flat_map shown attributes

-- a start tag
abbrev pub tag_text : Bytes → Attributes → Bytes
tag_text name attributes = codes "<" ++ name ++ flat_map attribute_text attributes ++ codes ">"

-- what a breakpoint's tag has, as it is put: its kind, its state, the rule of its hits, and whether
-- it is temporary are texts already
abbrev pub break_list : BreakLine → Bytes → Bytes → Bytes → Bytes → Attributes
break_list b kind state rule temporary =
    (codes "id", decimal b.id) ∷ (codes "type", kind) ∷ (codes "state", state)
    ∷ (given (codes "filename") b.uri ++ (given_number (codes "lineno") b.line
    ++ (given (codes "function") b.function
    ++ ((codes "hit_count", decimal b.hits) ∷ (codes "hit_value", decimal b.hit_value)
    ∷ (codes "hit_condition", rule) ∷ (codes "temporary", temporary)
    ∷ (mark (codes "resolved") b.resolved ++ [])))))
