-- Responses as the code makes them.
use Rattle.std.specs.Prelude.{ℕ, [], length}
use Rattle.dp_packet.specs.declared.packet.Body.TheVariants as body
use Rattle.dp_packet.specs.declared.packet.Packet.TheVariants as packet
use Rattle.dp_packet.specs.Parts.{Attributes, Text}
use Rattle.dp_packet.specs.Text.{text}
use Rattle.dp_view_commands.specs.Views.{response_with}

-- how many bytes a response has without the properties in it
unfoldable pub around : Text → Text → Attributes → ℕ
around command id attributes =
    length (text (packet.Response (response_with command id (attributes, body.Properties []))))
