-- The element that a packet is, with its attributes in order (DBGp 1.0; the order is our own).
use Rattle.std.specs.Prelude.{◌≡◌, ℕ, Bool, true, false, List, [], ◌∷◌, Option, Some, None, codes, decimal, map}
use Rattle.dp_markup.specs.declared.tree.Element.{Element}
use Rattle.dp_markup.specs.declared.tree.Node.{Node}
use Rattle.dp_packet.specs.declared.packet.Packet.{Packet}
use Rattle.dp_packet.specs.declared.packet.Packet.TheVariants as packet
use Rattle.dp_packet.specs.declared.packet.Init.{Init}
use Rattle.dp_packet.specs.declared.packet.Response.{Response}
use Rattle.dp_packet.specs.declared.packet.Notify.{Notify}
use Rattle.dp_packet.specs.declared.packet.StackLine.{StackLine}
use Rattle.dp_packet.specs.declared.packet.BreakLine.{BreakLine}
use Rattle.dp_packet.specs.declared.packet.Body.{Body}
use Rattle.dp_packet.specs.declared.packet.Body.TheVariants as body
use Rattle.dp_packet.specs.declared.packet.ProxyReply.{ProxyReply}
use Rattle.dp_packet.specs.declared.packet.ProxyReply.TheVariants.{Started, Stopped, Refused}
use Rattle.dp_packet.specs.Parts.{Attributes, Text, element, child, text_nodes, base64, namespace}
use Rattle.dp_packet.specs.Properties.{property_node}
use Rattle.dp_packet.specs.Breakpoints.{breakpoint_node}
use Rattle.dp_packet.specs.Messages.{message_of, reason_of, is_some_text}

abbrev pub init_element : Init → Element
init_element i =
    element (codes "init")
    (namespace ∷ (codes "appid", codes "dbgp") ∷ (codes "idekey", i.idekey) ∷ (codes "session", [])
    ∷ (codes "thread", codes "1") ∷ (codes "parent", []) ∷ (codes "language", codes "PHP")
    ∷ (codes "protocol_version", codes "1.0") ∷ (codes "fileuri", i.fileuri) ∷ [])
    []

abbrev pub message_node : Text → Node
message_node text = child (codes "message") [] (text_nodes text)

abbrev pub error_node : ℕ → Node
error_node code =
    child (codes "error") ((codes "code", decimal code) ∷ []) (message_node (message_of code) ∷ [])

abbrev pub stack_node : StackLine → Node
stack_node s =
    child (codes "stack")
    ((codes "level", decimal s.level) ∷ (codes "type", codes "file") ∷ (codes "filename", s.uri)
    ∷ (codes "lineno", decimal s.line) ∷ (codes "where", s.place) ∷ [])
    []

abbrev pub context_node : Text × ℕ → Node
context_node c = child (codes "context") ((codes "name", c.0) ∷ (codes "id", decimal c.1) ∷ []) []

abbrev pub body_nodes : Body → List Node
body_nodes body.Nothing = []
body_nodes (body.Plain text) = text_nodes text
body_nodes (body.Fault code) = error_node code ∷ []
body_nodes (body.Stacks lines) = map stack_node lines
body_nodes (body.Contexts contexts) = map context_node contexts
body_nodes (body.Properties properties) = map property_node properties
body_nodes (body.Breakpoints lines) = map breakpoint_node lines

abbrev pub response_element : Response → Element
response_element r =
    element (codes "response")
    (namespace ∷ (codes "command", r.command) ∷ (codes "transaction_id", r.id) ∷ r.attributes)
    (body_nodes r.body)

abbrev pub stream_element : Text → Element
stream_element bytes =
    element (codes "stream")
    (namespace ∷ (codes "type", codes "stdout") ∷ (codes "encoding", codes "base64") ∷ [])
    (text_nodes (base64 bytes))

abbrev pub notified_nodes : Option BreakLine → List Node
notified_nodes None = []
notified_nodes (Some line) = breakpoint_node line ∷ []

abbrev pub notify_element : Notify → Element
notify_element n =
    element (codes "notify") (namespace ∷ (codes "name", n.name) ∷ []) (notified_nodes n.breakpoint)

abbrev pub refusal_name : Bool → Text
refusal_name true = codes "proxystop"
refusal_name false = codes "proxyinit"

abbrev pub refusal_node : ℕ → Node
refusal_node id =
    child (codes "error") ((codes "id", decimal id) ∷ []) (message_node (reason_of id) ∷ [])

abbrev pub proxy_element : ProxyReply → Element
proxy_element (Started key host port) =
    element (codes "proxyinit")
    ((codes "success", codes "1") ∷ (codes "idekey", key) ∷ (codes "address", host)
    ∷ (codes "port", decimal port) ∷ [])
    []
proxy_element (Stopped key) =
    element (codes "proxystop") ((codes "success", codes "1") ∷ (codes "idekey", key) ∷ []) []
proxy_element (Refused stopping id) =
    element (refusal_name stopping) ((codes "success", codes "0") ∷ []) (refusal_node id ∷ [])

-- a response to the command of this name with this transaction id
abbrev pub response : Text → Text → Attributes → Body → Response
response command id attributes what =
    record { command = command; id = id; attributes = attributes; body = what }

-- the element that a packet is
abbrev pub element_of : Packet → Element
element_of (packet.Init i) = init_element i
element_of (packet.Response r) = response_element r
element_of (packet.Stream bytes) = stream_element bytes
element_of (packet.Notify n) = notify_element n
element_of (packet.Proxy reply) = proxy_element reply

-- ---- the packets whose messages are known

abbrev pub has_words : Body → Bool
has_words (body.Fault code) = is_some_text (message_of code)
has_words b = true

abbrev pub has_reason : ProxyReply → Bool
has_reason (Refused stopping id) = is_some_text (reason_of id)
has_reason reply = true

-- an error has a code with a message, and a proxy's refusal one of its reasons, 1 to 5
abbrev pub HasMessage : Packet → Type 0
HasMessage (packet.Response r) = has_words r.body ≡ true
HasMessage (packet.Proxy reply) = has_reason reply ≡ true
HasMessage p = Unit {0}
