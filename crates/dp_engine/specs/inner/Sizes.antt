-- Requests, news and responses that are short enough for a packet.
use Rattle.std.specs.Prelude.{◌≤◌, length}
use Rattle.dp_command.specs.declared.command.Request.{Request}
use Rattle.dp_command.specs.declared.command.Request.TheVariants.{Session}
use Rattle.dp_command.specs.declared.command.SessionRequest.{SessionRequest}
use Rattle.dp_command.specs.declared.command.SessionRequest.TheVariants.{FeatureGet, FeatureSet}
use Rattle.dp_packet.specs.declared.packet.Notify.{Notify}
use Rattle.dp_packet.specs.declared.packet.Packet.TheVariants as packet
use Rattle.dp_packet.specs.declared.packet.Response.{Response}
use Rattle.dp_packet.specs.Packets.{HasMessage}
use Rattle.dp_packet.specs.Text.{text}
use Rattle.dp_wire.specs.Frames.{command_limit, packet_limit}
use Rattle.dp_engine.specs.Responses.{response_text}

-- the names that a request holds and its response repeats
abbrev pub AreShortNames : SessionRequest → Type 0
AreShortNames (FeatureGet name) = length name ≤ command_limit
AreShortNames (FeatureSet name value) = length name ≤ command_limit
AreShortNames other = Unit {0}

abbrev pub IsShortRequest : Request → Type 0
IsShortRequest (Session r) = AreShortNames r
IsShortRequest other = Unit {0}

-- a packet has room for these news
abbrev pub HasRoom : Notify → Type 0
HasRoom n = length (text (packet.Notify n)) ≤ packet_limit

-- a packet can be made of it
pub record Fits (r : Response) : Type 0 where
  pub known : HasMessage (packet.Response r)
  pub short : length (response_text r) ≤ packet_limit
