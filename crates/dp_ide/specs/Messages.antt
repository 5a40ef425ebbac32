-- Packets as an IDE looks at them: the element that came, and the packet of DBGp 1.0 that it is.
use Rattle.std.specs.Prelude.{ℕ, Bool, true, false, if◌then◌else◌, List, [], ◌∷◌, map, Option, Some, None}
use Rattle.std.specs.Option.{option_map_or, option_or}
use Rattle.std.specs.Fmt.{signed_decimal}
use Rattle.std.specs.Str.{bytes_eq}
use Rattle.dp_markup.specs.Grammar.{IsMarkup}
use Rattle.dp_packet.specs.Parts.{flag}
use Rattle.dp_packet.specs.declared.packet.Packet.{Packet}
use Rattle.dp_packet.specs.declared.packet.Packet.TheVariants as packet
use Rattle.dp_packet.specs.declared.packet.Body.{Body}
use Rattle.dp_packet.specs.declared.packet.Body.TheVariants as body
use Rattle.dp_packet.specs.declared.property.Property.{Property, fold-Property}
use Rattle.dp_packet.specs.declared.property.Shape.{Shape, fold-Shape}
use Rattle.dp_packet.specs.declared.property.Shape.TheOpen.{Shape-F, Property-F}
use Rattle.dp_reply.specs.Readings.{IsPacket}
use Rattle.dp_ide.specs.declared.heard.Message.{Message}

-- the text is this message's; a text has one, or none
pub record IsMessage (text : List ℕ) (message : Message) : Type 0 where
  pub markup : IsMarkup text message.root
  pub is : IsPacket message.root message.packet

-- each text is that of the message in its place
abbrev pub AreMessages : List (List ℕ) → List Message → Type 0
AreMessages [] [] = Unit {0}
AreMessages [] (message ∷ messages) = ⊥
AreMessages (text ∷ texts) [] = ⊥
AreMessages (text ∷ texts) (message ∷ messages) =
    IsMessage text message × AreMessages texts messages

-- ---- what is found in a packet

abbrev pub is_init : Packet → Bool
is_init (packet.Init init) = true
is_init other = false

-- it is the response to the command with this id
abbrev pub answers : List ℕ → Packet → Bool
answers id (packet.Response response) = bytes_eq response.id id
answers id other = false

-- the program's output that it carries
abbrev pub output_in : Packet → List ℕ
output_in (packet.Stream output) = output
output_in other = []

abbrev pub code_in_body : Body → ℕ
code_in_body (body.Fault code) = code
code_in_body other = 0

-- the code of the error that it tells, 0 for none
abbrev pub code_in : Packet → ℕ
code_in (packet.Response response) = code_in_body response.body
code_in other = 0

abbrev pub properties_in_body : Body → List Property
properties_in_body (body.Properties properties) = properties
properties_in_body other = []

abbrev pub properties_in : Packet → List Property
properties_in (packet.Response response) = properties_in_body response.body
properties_in other = []

-- ---- the content of a property, by its fullname

-- the first there is
abbrev pub first_some : List (Option (List ℕ)) → Option (List ℕ)
first_some [] = None
first_some (one ∷ others) = option_or one (first_some others)

-- what a value is, decoded, and what was found in it, where it was looked for in its entries
pub record Content : Type 0 where
  pub own : List ℕ
  pub inside : Option (List ℕ)

abbrev pub plain : List ℕ → Content
plain own = record { own = own; inside = None }

-- the content of an array itself is empty
abbrev pub content_of : Shape-F Content (Option (List ℕ)) → Content
content_of Shape-F.Null = plain []
content_of (Shape-F.Bool b) = plain (flag b)
content_of (Shape-F.Int i) = plain (signed_decimal i)
content_of (Shape-F.Text size front) = plain front
content_of (Shape-F.Array count page pagesize nested) =
    record { own = []; inside = first_some nested }

abbrev pub is_named : List ℕ → Option (List ℕ) → Bool
is_named name fullname = option_map_or (λ own. bytes_eq own name) fullname false

-- a property comes before those that are nested in it
abbrev pub named_of : List ℕ → Property-F Content (Option (List ℕ)) → Option (List ℕ)
named_of name p = if is_named name p.fullname then Some p.shape.own else p.shape.inside

abbrev pub content_within : List ℕ → Property → Option (List ℕ)
content_within name = fold-Property Content (Option (List ℕ)) content_of (named_of name)

-- the content of a value by itself
abbrev pub own_content : Shape → List ℕ
own_content shape = (fold-Shape Content (Option (List ℕ)) content_of (λ p. None) shape).own

-- the content of the first property of this fullname, in the order of the document
abbrev pub content_in : List ℕ → Packet → Option (List ℕ)
content_in name p = first_some (map (content_within name) (properties_in p))
