-- What is left of a packet that is written and read again, and which packets are read again.
use Rattle.std.specs.Prelude.{◌≡◌, ℕ, nat_le, nat_lt, Bool, true, ◌&&◌, [], length, Option, Some, None}
use Rattle.std.specs.List.{list_all}
use Rattle.dp_bytes.specs.IntText.{is_in_64_bits}
use Rattle.dp_markup.specs.Grammar.{limit}
use Rattle.dp_markup.specs.Readable.{IsReadable}
use Rattle.dp_packet.specs.declared.packet.Packet.{Packet}
use Rattle.dp_packet.specs.declared.packet.Packet.TheVariants as packet
use Rattle.dp_packet.specs.declared.packet.Response.{Response}
use Rattle.dp_packet.specs.declared.packet.StackLine.{StackLine}
use Rattle.dp_packet.specs.declared.packet.BreakLine.{BreakLine}
use Rattle.dp_packet.specs.declared.packet.Body.{Body}
use Rattle.dp_packet.specs.declared.packet.Body.TheVariants as body
use Rattle.dp_packet.specs.declared.packet.ProxyReply.{ProxyReply}
use Rattle.dp_packet.specs.declared.packet.ProxyReply.TheVariants.{Started, Stopped, Refused}
use Rattle.dp_packet.specs.declared.property.Property.{Property, fold-Property}
use Rattle.dp_packet.specs.declared.property.Shape.TheOpen.{Shape-F, Property-F}
use Rattle.dp_packet.specs.Parts.{Text}
use Rattle.dp_packet.specs.Packets.{element_of, HasMessage}
use Rattle.dp_reply.specs.Contents.{most_8, most_16, most_32, most_64}
use Rattle.dp_reply.specs.Readings.{is_own}

-- ---- what is read again

-- An empty text and empty lists put nothing between the tags.
abbrev pub norm_body : Body → Body
norm_body (body.Plain []) = body.Nothing
norm_body (body.Stacks []) = body.Nothing
norm_body (body.Contexts []) = body.Nothing
norm_body (body.Properties []) = body.Nothing
norm_body (body.Breakpoints []) = body.Nothing
norm_body other = other

abbrev pub norm_response : Response → Response
norm_response r =
    record { command = r.command; id = r.id; attributes = r.attributes; body = norm_body r.body }

-- the packet, with nothing in place of an empty body
abbrev pub norm : Packet → Packet
norm (packet.Response r) = packet.Response (norm_response r)
norm other = other

-- ---- which packets are read again

abbrev pub are_bytes : Text → Bool
are_bytes text = list_all (λ b. nat_lt b 256) text

abbrev pub is_within : ℕ → Option ℕ → Bool
is_within most None = true
is_within most (Some n) = nat_le n most

-- the numbers of a value are those of their types, and no more of a text is shown than there is
abbrev pub is_shape : Shape-F Bool Bool → Bool
is_shape Shape-F.Null = true
is_shape (Shape-F.Bool b) = true
is_shape (Shape-F.Int i) = is_in_64_bits i
is_shape (Shape-F.Text size front) =
    nat_le size most_64 && nat_le (length front) size && are_bytes front
is_shape (Shape-F.Array count page pagesize nested) =
    nat_le count most_64 && nat_le page most_64 && nat_le pagesize most_64
    && list_all (λ b. b) nested

abbrev pub has_shape : Property-F Bool Bool → Bool
has_shape p = p.shape

-- the same of the value of a property and of all below it
abbrev pub is_property : Property → Bool
is_property = fold-Property Bool Bool is_shape has_shape

abbrev pub is_stack_line : StackLine → Bool
is_stack_line s = nat_le s.level most_32 && nat_le s.line most_32

abbrev pub is_context : Text × ℕ → Bool
is_context c = nat_le c.1 most_32

abbrev pub is_break_line : BreakLine → Bool
is_break_line b =
    nat_le b.id most_32 && is_within most_32 b.line && nat_le b.hits most_64
    && nat_le b.hit_value most_32

abbrev pub is_body : Body → Bool
is_body body.Nothing = true
is_body (body.Plain text) = true
is_body (body.Fault code) = nat_le code most_16
is_body (body.Stacks lines) = list_all is_stack_line lines
is_body (body.Contexts contexts) = list_all is_context contexts
is_body (body.Properties properties) = list_all is_property properties
is_body (body.Breakpoints lines) = list_all is_break_line lines

abbrev pub is_notified : Option BreakLine → Bool
is_notified None = true
is_notified (Some line) = is_break_line line

abbrev pub is_reply : ProxyReply → Bool
is_reply (Started key host port) = nat_le port most_16
is_reply (Stopped key) = true
is_reply (Refused stopping id) = nat_le id most_8

-- each number is one of its type, no more of a text is shown than there is, and the attributes of a
-- response are its own
abbrev pub is_packet : Packet → Bool
is_packet (packet.Init i) = true
is_packet (packet.Response r) = list_all is_own r.attributes && is_body r.body
is_packet (packet.Stream bytes) = are_bytes bytes
is_packet (packet.Notify n) = is_notified n.breakpoint
is_packet (packet.Proxy reply) = is_reply reply

-- the packet is one of DBGp's, and its element nests within the limit and has what markup can say
pub record IsRereadable (p : Packet) : Type 0 where
  pub message : HasMessage p
  pub sound : is_packet p ≡ true
  pub readable : IsReadable limit (element_of p)
