-- The element of a property, one level at a time.
use Rattle.std.proofs.Common.{◌≡◌, ℕ, ℤ, Bool, List, sym, ap, ◌∙◌, map}
use Rattle.dp_markup.specs.declared.tree.Node.{Node}
use Rattle.dp_packet.specs.declared.property.Property.{Property}
use Rattle.dp_packet.specs.declared.property.Shape.TheVariants as shape
use Rattle.dp_packet.specs.declared.property.Shape.TheOpen.{Shape-F}
use Rattle.dp_packet.specs.declared.property.Shape.TheFolds.{fold-roll-Shape}
use Rattle.dp_packet.specs.Parts.{Text}
use Rattle.dp_packet.specs.Properties.{Part, value_part, property_layer, property_node}
use Rattle.dp_packet.specs.inner.Shapes.{shape_part}

pub null_part : shape_part shape.Null ≡ value_part Shape-F.Null
null_part = ap shape_part (sym shape.rolls-Null) ∙ fold-roll-Shape Part Node value_part property_layer Shape-F.Null

pub bool_part : (b : Bool) → shape_part (shape.Bool b) ≡ value_part (Shape-F.Bool b)
bool_part b =
    ap shape_part (sym (shape.rolls-Bool b)) ∙ fold-roll-Shape Part Node value_part property_layer (Shape-F.Bool b)

pub int_part : (i : ℤ) → shape_part (shape.Int i) ≡ value_part (Shape-F.Int i)
int_part i =
    ap shape_part (sym (shape.rolls-Int i)) ∙ fold-roll-Shape Part Node value_part property_layer (Shape-F.Int i)

pub text_part : (size : ℕ) (front : Text) → shape_part (shape.Text size front) ≡ value_part (Shape-F.Text size front)
text_part size front =
    ap shape_part (sym (shape.rolls-Text size front))
    ∙ fold-roll-Shape Part Node value_part property_layer (Shape-F.Text size front)

pub array_part : (count page pagesize : ℕ) (nested : List Property)
    → shape_part (shape.Array count page pagesize nested) ≡ value_part
    (Shape-F.Array count page pagesize (map property_node nested))
array_part count page pagesize nested =
    ap shape_part (sym (shape.rolls-Array count page pagesize nested))
    ∙ fold-roll-Shape Part Node value_part property_layer (Shape-F.Array count page pagesize nested)
