-- Which element is which packet (DBGp 1.0). Each part of a packet is found in its place; what a
-- packet does not keep is not looked at.
use Rattle.std.specs.Prelude.{◌≡◌, ℕ, zero, suc, nat_le, Bool, true, false, not, ◌||◌, if◌then◌else◌, List, [], ◌∷◌, length, Option, Some, None, option_map, codes, filter}
use Rattle.std.specs.Option.{option_or}
use Rattle.dp_bytes.specs.IntText.{int_of_text}
use Rattle.dp_markup.specs.declared.tree.Element.{Element}
use Rattle.dp_markup.specs.Grammar.{same_text, limit}
use Rattle.dp_packet.specs.declared.packet.Packet.{Packet}
use Rattle.dp_packet.specs.declared.packet.Packet.TheVariants as packet
use Rattle.dp_packet.specs.declared.packet.Init.{Init}
use Rattle.dp_packet.specs.declared.packet.Response.{Response}
use Rattle.dp_packet.specs.declared.packet.Notify.{Notify}
use Rattle.dp_packet.specs.declared.packet.StackLine.{StackLine}
use Rattle.dp_packet.specs.declared.packet.BreakLine.{BreakLine}
use Rattle.dp_packet.specs.declared.packet.BreakKind.{BreakKind}
use Rattle.dp_packet.specs.declared.packet.BreakKind.TheVariants as kind
use Rattle.dp_packet.specs.declared.packet.HitRule.{HitRule}
use Rattle.dp_packet.specs.declared.packet.HitRule.TheVariants as rule
use Rattle.dp_packet.specs.declared.packet.Body.{Body}
use Rattle.dp_packet.specs.declared.packet.Body.TheVariants as body
use Rattle.dp_packet.specs.declared.packet.ProxyReply.{ProxyReply}
use Rattle.dp_packet.specs.declared.packet.ProxyReply.TheVariants.{Started, Stopped, Refused}
use Rattle.dp_packet.specs.declared.property.Property.{Property}
use Rattle.dp_packet.specs.declared.property.Shape.{Shape}
use Rattle.dp_packet.specs.declared.property.Shape.TheVariants as shape
use Rattle.dp_packet.specs.Parts.{Text}
use Rattle.dp_reply.specs.Contents.{◌>>=◌, each, most_8, most_16, most_32, most_64, flag_in, bytes_in, attribute, number_at, optional_number, is_named, is_namespace, words, elements, text_in, elements_in, only, only_in}

-- ---- properties

-- a text of which not more is shown than there is
abbrev pub shown : ℕ → Text → Option Shape
shown size front = if nat_le (length front) size then Some (shape.Text size front) else None

abbrev pub bool_in : Element → Option Shape
bool_in e = do
  text ← text_in e
  b ← flag_in text
  Some (shape.Bool b)

abbrev pub int_in : Element → Option Shape
int_in e = do
  text ← text_in e
  i ← int_of_text text
  Some (shape.Int i)

abbrev pub string_in : Element → Option Shape
string_in e = do
  size ← number_at (codes "size") most_64 e
  text ← text_in e
  front ← bytes_in text
  shown size front

-- an array, where what stands in it is read by `inner`
abbrev pub array_in : (Element → Option Property) → Element → Option Shape
array_in inner e = do
  count ← number_at (codes "numchildren") most_64 e
  page ← number_at (codes "page") most_64 e
  pagesize ← number_at (codes "pagesize") most_64 e
  entries ← elements_in e
  nested ← each inner entries
  Some (shape.Array count page pagesize nested)

-- the value of a property of this type
abbrev pub shape_in : (Element → Option Property) → Text → Element → Option Shape
shape_in inner type e =
    if same_text type (codes "null") then Some shape.Null
    else if same_text type (codes "bool") then bool_in e
    else if same_text type (codes "int") then int_in e
    else if same_text type (codes "string") then string_in e
    else if same_text type (codes "array") then array_in inner e
    else None

abbrev pub property_of : Element → Shape → Property
property_of e s =
    record {
      name = attribute (codes "name") e;
      fullname = attribute (codes "fullname") e;
      shape = s;
    }

abbrev pub property_around : (Element → Option Property) → Element → Option Property
property_around inner e = if is_named (codes "property") e
    then attribute (codes "type") e >>= (λ type. shape_in inner type e)
    >>= (λ s. Some (property_of e s))
    else None

-- a property of at most so many levels of properties
unfoldable pub property_within : ℕ → Element → Option Property
property_within zero e = None
property_within (suc level) e = property_around (property_within level) e

-- Nothing that is read nests deeper.
abbrev pub property_in : Element → Option Property
property_in = property_within limit

-- ---- breakpoints

abbrev pub kind_in : Text → Option BreakKind
kind_in text =
    if same_text text (codes "line") then Some kind.Line
    else if same_text text (codes "call") then Some kind.Call
    else if same_text text (codes "return") then Some kind.Return
    else if same_text text (codes "conditional") then Some kind.Conditional
    else None

abbrev pub state_in : Text → Option Bool
state_in text =
    if same_text text (codes "enabled") then Some true
    else if same_text text (codes "disabled") then Some false
    else None

abbrev pub rule_in : Text → Option HitRule
rule_in text =
    if same_text text (codes ">=") then Some rule.AtLeast
    else if same_text text (codes "==") then Some rule.Exactly
    else if same_text text (codes "%") then Some rule.Multiple
    else None

abbrev pub expression_of : Option Element → Option (Option Text)
expression_of None = Some None
expression_of (Some e) =
    if is_named (codes "expression") e then (text_in e >>= λ text. Some (Some text)) else None

-- the text of the only element, or nothing at all
abbrev pub expression_in : Element → Option (Option Text)
expression_in e = only_in e >>= expression_of

-- what a breakpoint is, and its hits
abbrev pub Sort : Type 0
Sort = ℕ × BreakKind × Bool

abbrev pub Hits : Type 0
Hits = ℕ × ℕ × HitRule × Bool

unfoldable pub sort_in : Element → Option Sort
sort_in e = do
  id ← number_at (codes "id") most_32 e
  kind ← attribute (codes "type") e >>= kind_in
  enabled ← attribute (codes "state") e >>= state_in
  Some (id, kind, enabled)

unfoldable pub hits_in : Element → Option Hits
hits_in e = do
  hits ← number_at (codes "hit_count") most_64 e
  hit_value ← number_at (codes "hit_value") most_32 e
  hit_rule ← attribute (codes "hit_condition") e >>= rule_in
  temporary ← attribute (codes "temporary") e >>= flag_in
  Some (hits, hit_value, hit_rule, temporary)

-- an attribute that is missing, or says anything else, says that a breakpoint is not resolved
abbrev pub says_resolved : Option Text → Bool
says_resolved None = false
says_resolved (Some text) = same_text text (codes "resolved")

abbrev pub break_line : Element → Sort → Option ℕ → Hits → Option Text → BreakLine
break_line e sort line hits expression = record {
  id = sort.0;
  kind = sort.1;
  enabled = sort.2;
  uri = attribute (codes "filename") e;
  line = line;
  function = attribute (codes "function") e;
  hits = hits.0;
  hit_value = hits.1;
  hit_rule = hits.2;
  temporary = hits.3;
  resolved = says_resolved (attribute (codes "resolved") e);
  expression = expression;
}

abbrev pub break_line_in : Element → Option BreakLine
break_line_in e = do
  sort ← sort_in e
  line ← optional_number most_32 (attribute (codes "lineno") e)
  hits ← hits_in e
  expression ← expression_in e
  Some (break_line e sort line hits expression)

unfoldable pub breakpoint_in : Element → Option BreakLine
breakpoint_in e = if is_named (codes "breakpoint") e then break_line_in e else None

-- ---- responses

abbrev pub stack_line_in : Element → Option StackLine
stack_line_in e = do
  level ← number_at (codes "level") most_32 e
  uri ← attribute (codes "filename") e
  line ← number_at (codes "lineno") most_32 e
  place ← attribute (codes "where") e
  Some (record { level = level; uri = uri; line = line; place = place })

unfoldable pub stack_in : Element → Option StackLine
stack_in e = if is_named (codes "stack") e then stack_line_in e else None

abbrev pub name_and_id_in : Element → Option (Text × ℕ)
name_and_id_in e = do
  name ← attribute (codes "name") e
  id ← number_at (codes "id") most_32 e
  Some (name, id)

unfoldable pub context_in : Element → Option (Text × ℕ)
context_in e = if is_named (codes "context") e then name_and_id_in e else None

-- the number of an error
abbrev pub error_of : Text → ℕ → Option Element → Option ℕ
error_of name most None = None
error_of name most (Some e) = if is_named (codes "error") e then number_at name most e else None

abbrev pub fault_in : List Element → Option Body
fault_in all = only all >>= error_of (codes "code") most_16 >>= λ code. Some (body.Fault code)

abbrev pub stacks_in : List Element → Option Body
stacks_in all = each stack_in all >>= λ lines. Some (body.Stacks lines)

abbrev pub contexts_in : List Element → Option Body
contexts_in all = each context_in all >>= λ contexts. Some (body.Contexts contexts)

abbrev pub properties_in : List Element → Option Body
properties_in all = each property_in all >>= λ properties. Some (body.Properties properties)

abbrev pub breakpoints_in : List Element → Option Body
breakpoints_in all = each breakpoint_in all >>= λ lines. Some (body.Breakpoints lines)

unfoldable pub rows_in : List Element → Option Body
rows_in all =
    option_or (contexts_in all) (option_or (properties_in all) (breakpoints_in all))

-- an error, or elements of one kind
unfoldable pub list_in : List Element → Option Body
list_in all = option_or (fault_in all) (option_or (stacks_in all) (rows_in all))

-- what stands in a response: nothing, a text, or elements
unfoldable pub body_of : List Element → Text → Option Body
body_of [] [] = Some body.Nothing
body_of [] (b ∷ text) = Some (body.Plain (b ∷ text))
body_of (e ∷ all) [] = list_in (e ∷ all)
body_of (e ∷ all) (b ∷ text) = None

-- the attributes of a response's own
abbrev pub is_own_name : Text → Bool
is_own_name name =
    not (is_namespace name || same_text name (codes "command")
    || same_text name (codes "transaction_id"))

abbrev pub is_own : Text × Text → Bool
is_own a = is_own_name a.0

unfoldable pub response_in : Element → Option Response
response_in e = do
  command ← attribute (codes "command") e
  id ← attribute (codes "transaction_id") e
  body ← body_of (elements e.children) (words e.children)
  Some (record { command = command; id = id; attributes = filter is_own e.attributes; body = body })

-- ---- the other packets

unfoldable pub init_in : Element → Option Init
init_in e = do
  idekey ← attribute (codes "idekey") e
  fileuri ← attribute (codes "fileuri") e
  Some (record { idekey = idekey; fileuri = fileuri })

-- output, of whatever type
unfoldable pub stream_in : Element → Option Text
stream_in e = text_in e >>= bytes_in

abbrev pub notified_of : Option Element → Option (Option BreakLine)
notified_of None = Some None
notified_of (Some e) = breakpoint_in e >>= λ line. Some (Some line)

-- a breakpoint, or nothing
abbrev pub notified_in : Element → Option (Option BreakLine)
notified_in e = only_in e >>= notified_of

unfoldable pub notify_in : Element → Option Notify
notify_in e = do
  name ← attribute (codes "name") e
  line ← notified_in e
  Some (record { name = name; breakpoint = line })

unfoldable pub started_in : Element → Option ProxyReply
started_in e = do
  key ← attribute (codes "idekey") e
  host ← attribute (codes "address") e
  port ← number_at (codes "port") most_16 e
  Some (Started key host port)

unfoldable pub stopped_in : Element → Option ProxyReply
stopped_in e = attribute (codes "idekey") e >>= λ key. Some (Stopped key)

unfoldable pub refused_in : Bool → Element → Option ProxyReply
refused_in stopping e =
    only_in e >>= error_of (codes "id") most_8 >>= λ id. Some (Refused stopping id)

abbrev pub done_in : Bool → Element → Option ProxyReply
done_in true e = stopped_in e
done_in false e = started_in e

-- `success` tells an answer from a refusal
unfoldable pub proxy_in : Bool → Element → Option ProxyReply
proxy_in stopping e = do
  success ← attribute (codes "success") e >>= flag_in
  if success then done_in stopping e else refused_in stopping e

-- the packet that an element is
unfoldable pub packet_in : Element → Option Packet
packet_in e =
    if is_named (codes "init") e then option_map packet.Init (init_in e)
    else if is_named (codes "response") e then option_map packet.Response (response_in e)
    else if is_named (codes "stream") e then option_map packet.Stream (stream_in e)
    else if is_named (codes "notify") e then option_map packet.Notify (notify_in e)
    else if is_named (codes "proxyinit") e then option_map packet.Proxy (proxy_in false e)
    else if is_named (codes "proxystop") e then option_map packet.Proxy (proxy_in true e)
    else None

abbrev pub IsPacket : Element → Packet → Type 0
IsPacket e p = packet_in e ≡ Some p
