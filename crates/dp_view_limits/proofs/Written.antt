-- The sizes that are counted are the lengths of the texts that are written.
use Rattle.std.proofs.Common.{◌≡◌, ℕ, zero, suc, ◌+◌, Bool, true, false, List, [], ◌∷◌, ◌++◌, length, map, take, not, ◌==◌, codes, Option, Some, None, refl, ap, ◌∙◌, arith, append-nil, length-append}
use Rattle.std.specs.Prelude.{option_map, sum_by}
use Rattle.std.specs.List.{flat_map}
use Rattle.std.specs.Option.{option_map_or}
use Rattle.std.specs.Fmt.{signed_decimal}
use Rattle.std.proofs.lemmas.List.Sums.{sum_by-cons}
use Rattle.dp_markup.specs.Texts.{node_text, nodes_text}
use Rattle.dp_packet.specs.declared.property.Property.{Property}
use Rattle.dp_packet.specs.declared.property.Shape.{Shape}
use Rattle.dp_packet.specs.Parts.{Text, base64, flag, given}
use Rattle.dp_packet.specs.Properties.{Part, property_node}
use Rattle.dp_packet.specs.inner.Shapes.{shape_part}
use Rattle.dp_packet.specs.inner.Sizes.{attributes_size}
use Rattle.dp_packet.proofs.PropertyLaws.{array_part, bool_part, int_part, null_part, text_part}
use Rattle.dp_state.specs.declared.moments.Path.{Path}
use Rattle.dp_state.specs.declared.vars.Slot.{Slot}
use Rattle.dp_state.specs.Variables.{Variables}
use Rattle.dp_value.specs.declared.key.Key.{Key}
use Rattle.dp_value.specs.declared.value.Value.{Value}
use Rattle.dp_value.specs.Data.{Data, null, boolean, integer, text, array, pairs_of}
use Rattle.dp_value.specs.Value.{data_of}
use Rattle.dp_view.specs.declared.paging.Paging.{Paging}
use Rattle.dp_view.specs.Names.{entry_name, full_name, index_of, key_text, own_name, variable_name}
use Rattle.dp_view.specs.Properties.{entry_property, nested, page_of, path_property, shape_of, shown, variable_path, variable_shown, variable_value}
use Rattle.dp_view_limits.specs.Limits.{properties_size, property_size}
use Rattle.dp_view_limits.specs.inner.Sizes.{entries_size, entry_size, full_behind, full_frame, given_size, name_frame, named_size, property_frame, text_size, value_size, variable_size}
use Rattle.dp_view_limits.proofs.Lengths.{property_length, text_size-append, words_length}

-- ---- values

abbrev part_size : Part → ℕ
part_size part = attributes_size part.0 + length (nodes_text part.1)

flag_size : (b : Bool) → text_size (flag b) ≡ 1
flag_size true = refl
flag_size false = refl

shape_is : (p : Paging) (page : ℕ) (nest : List (Key × Data) → List Property) (size : List (Key × Data) → ℕ)
    → ((es : List (Key × Data)) → properties_size (nest es) ≡ size es)
    → (d : Data) → part_size (shape_part (shape_of p page nest d)) ≡ value_size p page size d
shape_is p page nest size same null = ap part_size null_part
shape_is p page nest size same (boolean b) =
    let is = ap part_size (bool_part b) in omega (arith, is, words_length (flag b), flag_size b)
shape_is p page nest size same (integer n) =
    let is = ap part_size (int_part n) in omega (arith, is, words_length (signed_decimal n))
shape_is p page nest size same (text bytes) =
    let is = ap part_size (text_part (length bytes) (take p.bytes bytes)) in
    omega (arith, is, words_length (base64 (take p.bytes bytes)))
shape_is p page nest size same (array es largest) =
    let entries = page_of page p.children (pairs_of es) in
    let is = ap part_size (array_part (length (pairs_of es)) page p.children (nest entries)) in
    omega (arith, is, same entries, flag_size (not (length (pairs_of es) == 0)))

-- ---- names

given_is : (name : Text) (value : Option Text)
    → attributes_size (given name value) ≡ given_size (4 + length name) (option_map text_size value)
given_is name None = refl
given_is name (Some value) = omega arith

sized : (name full : Option Text) (s : Shape) (size : ℕ) → part_size (shape_part s) ≡ size
    → property_size (record { name = name; fullname = full; shape = s }) ≡ property_frame + given_size name_frame
    (option_map text_size name) + given_size full_frame (option_map text_size full) + size
sized name full s size is =
    let q : Property = record { name = name; fullname = full; shape = s } in
    omega (arith, is, property_length q, given_is (codes "name") name, given_is (codes "fullname") full)

full_is : (full : Option Text) (key : Key)
    → option_map text_size (entry_name full key) ≡ full_behind (option_map text_size full) key
full_is None key = refl
full_is (Some name) key = ap (λ n. Some n) (text_size-append name (index_of key))

-- ---- entries

module _ (p : Paging) (levels : ℕ) (below : (full : Option Text) (es : List (Key × Data))
    → properties_size (nested p levels full es) ≡ entries_size p levels (option_map text_size full) es) where
  entry_is : (full : Option Text) (e : Key × Data)
      → property_size (entry_property p (nested p levels) full e) ≡ entry_size p (entries_size p levels)
      (option_map text_size full) e
  entry_is full e =
      let name = entry_name full e.0 in
      let size = option_map text_size name in
      let whole = sized (Some (key_text e.0)) name (shape_of p 0 (nested p levels name) e.1)
      (value_size p 0 (entries_size p levels size) e.1)
      (shape_is p 0 (nested p levels name) (entries_size p levels size) (below name) e.1) in
      let count : property_frame + (name_frame + text_size (key_text e.0)) + given_size full_frame size + value_size p 0
      (entries_size p levels size) e.1
      ≡ property_frame + name_frame + text_size (key_text e.0) + given_size full_frame size + value_size p 0
      (entries_size p levels size) e.1 =
      omega arith in
      whole ∙ count
      ∙ ap (λ (o : Option ℕ). property_frame + name_frame + text_size (key_text e.0) + given_size full_frame o +
      value_size p 0
      (entries_size p levels o) e.1) (full_is full e.0)

  entries_are : (full : Option Text) (es : List (Key × Data))
      → properties_size (map (entry_property p (nested p levels) full) es) ≡ sum_by
      (entry_size p (entries_size p levels) (option_map text_size full)) es
  entries_are full [] = refl
  entries_are full (e ∷ es) =
      let q = entry_property p (nested p levels) full e in
      omega (
        arith,
        length-append (node_text (property_node q)) (nodes_text
            (map property_node (map (entry_property p (nested p levels) full) es))),
        entry_is full e,
        entries_are full es,
        sum_by-cons (entry_size p (entries_size p levels) (option_map text_size full)) e es,
      )

nested_are : (p : Paging) (levels : ℕ) (full : Option Text) (es : List (Key × Data))
    → properties_size (nested p levels full es) ≡ entries_size p levels (option_map text_size full) es
nested_are p zero full es = refl
nested_are p (suc levels) full es = entries_are p levels (nested_are p levels) full es

-- ---- properties

named_is : (p : Paging) (name full : Option Text) (d : Data)
    → property_size (record { name = name; fullname = full; shape = shape_of p p.page (nested p p.depth full) d })
    ≡ named_size p (option_map text_size name) (option_map text_size full) d
named_is p name full d =
    let size = entries_size p p.depth (option_map text_size full) in
    sized name full (shape_of p p.page (nested p p.depth full) d) (value_size p p.page size d)
    (shape_is p p.page (nested p p.depth full) size (nested_are p p.depth full) d)

pub shown_is : (p : Paging) (d : Data) → property_size (shown p d) ≡ named_size p None None d
shown_is p d = named_is p None None d

pub path_is : (id : ℕ) (path : Path) (p : Paging) (d : Data)
    → property_size (path_property id path p d) ≡ named_size p (Some (text_size (own_name id path)))
    (Some (text_size (full_name id path))) d
path_is id path p d = named_is p (Some (own_name id path)) (Some (full_name id path)) d

-- ---- variables

variable_is : (id : ℕ) (name : Text) (p : Paging) (d : Data)
    → property_size (path_property id (variable_path name) p d) ≡ named_size p
    (Some (text_size (variable_name id name))) (Some (text_size (variable_name id name))) d
variable_is id name p d =
    path_is id (variable_path name) p d
    ∙ ap (λ (full : Text). named_size p (Some (text_size (variable_name id name))) (Some (text_size full)) d)
    (append-nil (variable_name id name))

sizes_append : (a b : List Property) → properties_size (a ++ b) ≡ properties_size a + properties_size b
sizes_append [] b = omega arith
sizes_append (q ∷ a) b =
    omega (
      arith,
      length-append (node_text (property_node q)) (nodes_text (map property_node (a ++ b))),
      length-append (node_text (property_node q)) (nodes_text (map property_node a)),
      sizes_append a b,
    )

one_is : (q : Property) → properties_size (q ∷ []) ≡ property_size q
one_is q = ap length (append-nil (node_text (property_node q)))

shown_variable : (id : ℕ) (p : Paging) (globals : Variables) (v : Text × Slot)
    → properties_size (variable_shown id p globals v) ≡ variable_size id p globals v
shown_variable id p globals v = by (variable_value globals v) where
  by : (o : Option Value)
      → properties_size (option_map_or (λ value. path_property id (variable_path v.0) p (data_of value) ∷ []) o [])
      ≡ option_map_or (λ value. named_size p (Some (text_size (variable_name id v.0)))
      (Some (text_size (variable_name id v.0))) (data_of value)) o 0
  by None = refl
  by (Some value) =
      one_is (path_property id (variable_path v.0) p (data_of value)) ∙ variable_is id v.0 p (data_of value)

pub variables_are : (id : ℕ) (p : Paging) (globals variables : Variables)
    → properties_size (flat_map (variable_shown id p globals) variables)
    ≡ sum_by (variable_size id p globals) variables
variables_are id p globals [] = refl
variables_are id p globals (v ∷ variables) =
    omega (
      arith,
      sizes_append (variable_shown id p globals v) (flat_map (variable_shown id p globals) variables),
      shown_variable id p globals v,
      variables_are id p globals variables,
      sum_by-cons (variable_size id p globals) v variables,
    )
