-- How values, variables, frames and scopes are shown.
use Rattle.std.specs.Prelude.{ℕ, ◌+◌, Bool, true, false, List, [], ◌∷◌, ◌++◌, drop, take, codes, decimal, Some, None, unwrap_or, if◌then◌else◌, ◌==◌}
use Rattle.std.specs.Fmt.{signed_decimal}
use Rattle.std.specs.List.{flat_map}
use Rattle.serde_json.specs.Data.{Data, boolean, number, string, object, unsigned, no_members, member}
use Rattle.dp_bodies.specs.Texts.{json_text}
use Rattle.dp_file_uris.specs.Files.{name_in}
use Rattle.dp_packet.specs.declared.packet.StackLine.{StackLine}
use Rattle.dp_packet.specs.declared.property.Property.{Property}
use Rattle.dp_packet.specs.declared.property.Shape.{Shape}
use Rattle.dp_packet.specs.declared.property.Shape.TheOpen.{Shape-F}
use Rattle.dp_packet.specs.declared.property.Shape.TheViews.{out-Shape}
use Rattle.dp_dap_messages.specs.declared.lines.Place.{Place}

-- a PHP text
abbrev pub php : List ℕ → Data
php bytes = string (json_text bytes)

abbrev pub count : ℕ → Data
count n = number (unsigned n)

-- ---- values

-- a value, with what is nested in it as properties
abbrev pub Layer : Type 0
Layer = Shape-F Shape Property

abbrev pub layer_type : Layer → List ℕ
layer_type Shape-F.Null = codes "null"
layer_type (Shape-F.Bool b) = codes "bool"
layer_type (Shape-F.Int i) = codes "int"
layer_type (Shape-F.Text size front) = codes "string"
layer_type (Shape-F.Array n page pagesize nested) = codes "array"

abbrev pub layer_text : Layer → List ℕ
layer_text Shape-F.Null = codes "null"
layer_text (Shape-F.Bool b) = if b then codes "true" else codes "false"
layer_text (Shape-F.Int i) = signed_decimal i
layer_text (Shape-F.Text size front) = codes "\"" ++ front ++ codes "\""
layer_text (Shape-F.Array n page pagesize nested) = codes "array(" ++ (decimal n ++ codes ")")

-- an array, with or without entries
abbrev pub is_layer_of_array : Layer → Bool
is_layer_of_array (Shape-F.Array n page pagesize nested) = true
is_layer_of_array other = false

abbrev pub type_name : Shape → List ℕ
type_name s = layer_type (out-Shape s)

abbrev pub value_text : Shape → List ℕ
value_text s = layer_text (out-Shape s)

abbrev pub is_array : Shape → Bool
is_array s = is_layer_of_array (out-Shape s)

-- ---- variables

-- the place of a variable of this context
abbrev pub place_of : Place → Property → Place
place_of within property = record {
  level = within.level;
  context = within.context;
  name = Some (unwrap_or property.fullname []);
}

-- it is listed where it holds an array, whose entries can be asked for
abbrev pub place_in : Place → Property → List Place
place_in within p = if is_array p.shape then place_of within p ∷ [] else []

-- the places that are listed, in the order in which they are shown
abbrev pub places_of : Place → List Property → List Place
places_of within properties = flat_map (place_in within) properties

-- a variable, with the number of its place in the list of all places
abbrev pub variable : ℕ → Property → Data
variable reference p =
    object
    (member (codes "name") (php (unwrap_or p.name []))
    (member (codes "type") (string (type_name p.shape))
    (member (codes "value") (php (value_text p.shape))
    (member (codes "variablesReference") (count reference) no_members))))

-- the number of its place behind so many; 0 where it is not listed
abbrev pub reference : ℕ → Property → ℕ
reference listed p = if is_array p.shape then listed + 1 else 0

-- how many places are listed with it
abbrev pub listed_with : ℕ → Property → ℕ
listed_with listed p = if is_array p.shape then listed + 1 else listed

-- variables, where so many places are listed before
abbrev pub variables : ℕ → List Property → List Data
variables listed [] = []
variables listed (p ∷ ps) =
    variable (reference listed p) p ∷ variables (listed_with listed p) ps

-- ---- frames and scopes

abbrev pub frame : StackLine → Data
frame line =
    object
    (member (codes "column") (count 1)
    (member (codes "id") (count (line.level + 1))
    (member (codes "line") (count line.line)
    (member (codes "name") (php line.place)
    (member (codes "source")
    (object (member (codes "path") (php (codes "/" ++ name_in line.uri)) no_members))
    no_members)))))

-- from a first one, at most so many; 0 are all
abbrev pub some_of : ℕ → ℕ → List StackLine → List StackLine
some_of first most lines =
    if most == 0 then drop first lines else take most (drop first lines)

abbrev pub scope : ℕ → List ℕ → Data
scope reference name =
    object
    (member (codes "expensive") (boolean false)
    (member (codes "name") (php name)
    (member (codes "variablesReference") (count reference) no_members)))

-- the scopes of these contexts, where so many places are listed before
abbrev pub scopes : ℕ → List (List ℕ × ℕ) → List Data
scopes listed [] = []
scopes listed (c ∷ cs) = scope (listed + 1) c.0 ∷ scopes (listed + 1) cs

-- the places of the contexts of a frame
abbrev pub context_places : ℕ → List (List ℕ × ℕ) → List Place
context_places level [] = []
context_places level (c ∷ cs) =
    record { level = level; context = c.1; name = None } ∷ context_places level cs
