-- The parts of a property, by those of its shape.
use Rattle.std.specs.Prelude.{◌++◌, codes}
use Rattle.std.specs.List.{flat_map}
use Rattle.dp_markup.specs.Texts.{attribute_text, nodes_text}
use Rattle.dp_packet.specs.declared.property.Property.{Property}
use Rattle.dp_packet.specs.declared.property.Shape.{Shape, fold-Shape}
use Rattle.dp_markup.specs.declared.tree.Node.{Node}
use Rattle.dp_packet.specs.Parts.{Attributes, Text, given, rest_text}
use Rattle.dp_packet.specs.Properties.{Part, property_layer, value_part}

abbrev pub shape_part : Shape → Part
shape_part = fold-Shape Part Node value_part property_layer

-- the names of a property, those that it has
abbrev pub names_of : Property → Attributes
names_of p = given (codes "name") p.name ++ given (codes "fullname") p.fullname

-- the start tag of a property: its names, and what it tells of the value
abbrev pub front_text : Attributes → Attributes → Text
front_text names more = codes "<property" ++ flat_map attribute_text names ++ rest_text more

abbrev pub property_text : Property → Text
property_text p =
    front_text (names_of p) (shape_part p.shape).0 ++ nodes_text (shape_part p.shape).1
    ++ codes "</property>"
