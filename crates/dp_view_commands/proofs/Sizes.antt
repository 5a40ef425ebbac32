-- How long responses are.
use Rattle.std.proofs.Common.{◌≡◌, ◌+◌, List, [], ◌∷◌, length, codes, arith}
use Rattle.dp_markup.specs.Texts.{attribute_text, nodes_text}
use Rattle.dp_packet.specs.declared.packet.Body.{Body}
use Rattle.dp_packet.specs.declared.packet.Body.TheVariants as body
use Rattle.dp_packet.specs.declared.packet.Packet.TheVariants as packet
use Rattle.dp_packet.specs.declared.packet.Response.{Response}
use Rattle.dp_packet.specs.declared.property.Property.{Property}
use Rattle.dp_packet.specs.inner.Sizes.{attribute_size, attributes_size}
use Rattle.dp_packet.specs.Packets.{body_nodes, response_element}
use Rattle.dp_packet.specs.Parts.{Attributes, Text}
use Rattle.dp_packet.specs.Properties.{property_node}
use Rattle.dp_packet.specs.Text.{text}
use Rattle.dp_packet.proofs.SizeLaws.{alone_length, attribute_length, packet_length, written_length}
use Rattle.dp_view_limits.specs.Limits.{properties_size, property_size}
use Rattle.dp_view_commands.specs.Views.{response_with}
use Rattle.dp_view_commands.specs.inner.Responses.{around}

whole_is : (command id : Text) (attributes : Attributes) (b : Body)
    → length (text (packet.Response (response_with command id (attributes, b))))
    ≡ 98 + attribute_size (codes "command", command) + attribute_size
    (codes "transaction_id", id) + attributes_size attributes + length (nodes_text (body_nodes b))
whole_is command id attributes b =
    let r : Response = response_with command id (attributes, b) in
    omega (arith, packet_length (packet.Response r), written_length (response_element r))

-- with its properties
pub filled_is : (command id : Text) (attributes : Attributes) (shown : List Property)
    → length (text (packet.Response (response_with command id (attributes, body.Properties shown)))) ≡ around command id
    attributes + properties_size shown
unfolding around
filled_is command id attributes shown =
    omega (
      arith,
      whole_is command id attributes (body.Properties shown),
      whole_is command id attributes (body.Properties []),
    )

pub bare_is : (command id : Text)
    → around command id [] ≡ 98 + length (attribute_text (codes "command", command)) + length
    (attribute_text (codes "transaction_id", id))
unfolding around
bare_is command id =
    omega (
      arith,
      whole_is command id [] (body.Properties []),
      attribute_length (codes "command") command,
      attribute_length (codes "transaction_id") id,
    )

pub one_more : (command id name value : Text)
    → around command id ((name, value) ∷ []) ≡ around command id [] + length (attribute_text (name, value))
unfolding around
one_more command id name value =
    omega (
      arith,
      whole_is command id ((name, value) ∷ []) (body.Properties []),
      whole_is command id [] (body.Properties []),
      attribute_length name value,
    )

pub one_is : (q : Property) → properties_size (q ∷ []) ≡ property_size q
one_is q = alone_length (property_node q)

-- with one property
pub one_filled : (command id : Text) (q : Property)
    → length (text (packet.Response (response_with command id ([], body.Properties (q ∷ []))))) ≡ around command id
    [] + property_size q
one_filled command id q = omega (arith, filled_is command id [] (q ∷ []), one_is q)
