-- Responses that are sent as they are.
use Rattle.std.specs.Prelude.{◌≢◌, ℕ, ◌≤◌, length}
use Rattle.dp_packet.specs.declared.packet.Body.TheVariants as body
use Rattle.dp_packet.specs.declared.packet.Packet.TheVariants as packet
use Rattle.dp_packet.specs.declared.packet.Response.{Response}
use Rattle.dp_packet.specs.Packets.{HasMessage}
use Rattle.dp_packet.specs.Text.{text}
use Rattle.dp_wire.specs.Frames.{packet_limit}

-- a packet can be made of it, and it tells no error
pub record IsSent (r : Response) : Type 0 where
  pub known : HasMessage (packet.Response r)
  pub short : length (text (packet.Response r)) ≤ packet_limit
  pub no_error : (code : ℕ) → r.body ≢ body.Fault code
