-- Properties are read as they were written.
use Rattle.std.proofs.Common.{◌≡◌, ℕ, ℤ, zero, suc, Bool, true, false, ◌&&◌, cond, List, [], ◌∷◌, ◌++◌, length, Option, Some, None, refl, ap, sym, ◌∙◌, subst, map, codes, nat_le, arith}
use Rattle.std.proofs.lemmas.Bool.{and_parts}
use Rattle.std.specs.Fmt.{signed_decimal}
use Rattle.std.specs.List.{list_all, AllByRecursion}
use Rattle.dp_bytes.specs.IntText.{int_of_text, is_in_64_bits}
use Rattle.dp_markup.specs.declared.tree.Element.{Element}
use Rattle.dp_markup.specs.declared.tree.Node.{Node}
use Rattle.dp_markup.specs.declared.tree.Node.TheVariants as node
use Rattle.dp_markup.specs.declared.tree.Node.TheOpen.{Node-F}
use Rattle.dp_markup.specs.declared.tree.Node.TheViews.{out-Node}
use Rattle.dp_markup.specs.Grammar.{same_text, value_of}
use Rattle.dp_markup.specs.Readable.{AreNodes, FitsBehind, IsReadable, is_text}
use Rattle.dp_packet.specs.declared.property.Property.{Property}
use Rattle.dp_packet.specs.declared.property.Shape.{Shape, fold-Shape, roll-Shape}
use Rattle.dp_packet.specs.declared.property.Shape.TheVariants as shape
use Rattle.dp_packet.specs.declared.property.Shape.TheOpen.{Shape-F}
use Rattle.dp_packet.specs.declared.property.Shape.TheViews.{out-Shape, roll-out-Shape}
use Rattle.dp_packet.specs.declared.property.Shape.TheFolds.{fold-roll-Shape, fold_out-Property}
use Rattle.dp_packet.specs.Parts.{Text, Attributes, element, given, text_nodes, flag, base64}
use Rattle.dp_packet.specs.Properties.{Part, value_part, property_layer, property_node, array_attributes, text_attributes, type_of}
use Rattle.dp_packet.specs.inner.Shapes.{shape_part}
use Rattle.dp_bytes.specs.Decimals.{decimal_in}
use Rattle.dp_reply.specs.Contents.{◌>>=◌, each, flag_in, bytes_in, attribute, alone, words, elements, most_64, text_in}
use Rattle.dp_reply.specs.Readings.{shape_in, property_within, property_around, property_of, shown}
use Rattle.dp_reply.specs.Norm.{are_bytes, is_shape, has_shape, is_property}
use Rattle.dp_packet.proofs.Integers.{int_is}
use Rattle.dp_packet.proofs.PropertyLaws.{null_part, bool_part, int_part, text_part, array_part}
use Rattle.dp_reply.proofs.Leaves.{number_is, flag_is, bytes_are}
use Rattle.dp_reply.proofs.Nodes.{out_child, words_text, elements_text, words_none, elements_all, each_is}

-- ---- names

unfoldable pub names : Option Text → Option Text → Attributes → Attributes
names name fullname rest = given (codes "name") name ++ given (codes "fullname") fullname ++ rest

beside_names : (name fullname : Option Text) (rest : Attributes) (key : Text) → same_text (codes "name") key ≡ false
    → same_text (codes "fullname") key ≡ false
    → value_of (names name fullname rest) key ≡ value_of rest key
unfolding names
beside_names None None rest key x y = refl
beside_names None (Some f) rest key x y = rw y refl
beside_names (Some n) None rest key x y = rw x refl
beside_names (Some n) (Some f) rest key x y = rw (x, y) refl

name_at : (name fullname : Option Text) (rest : Attributes) → value_of rest (codes "name") ≡ None
    → value_of (names name fullname rest) (codes "name") ≡ name
unfolding names
name_at None None rest none = none
name_at None (Some f) rest none = none
name_at (Some n) fullname rest none = refl

fullname_at : (name fullname : Option Text) (rest : Attributes) → value_of rest (codes "fullname") ≡ None
    → value_of (names name fullname rest) (codes "fullname") ≡ fullname
unfolding names
fullname_at None None rest none = none
fullname_at None (Some f) rest none = refl
fullname_at (Some n) None rest none = none
fullname_at (Some n) (Some f) rest none = refl

-- ---- a property's element

unfoldable pub around : Option Text → Option Text → Part → Element
around name fullname part = element (codes "property") (names name fullname part.0) part.1

unfoldable pub property_element : Property → Element
property_element p = around p.name p.fullname (shape_part p.shape)

pub node_is : (p : Property) → property_node p ≡ node.Child (property_element p)
unfolding property_element around names
node_is p = fold_out-Property Part Node value_part property_layer p

pub nodes_are : (all : List Property) → map property_node all ≡ map (λ p. node.Child (property_element p)) all
nodes_are [] = refl
nodes_are (p ∷ all) = λ i. node_is p i ∷ nodes_are all i

shape_sound : Shape → Bool
shape_sound = fold-Shape Bool Bool is_shape has_shape

sound_is : (p : Property) → is_property p ≡ shape_sound p.shape
unfolding shape_sound
sound_is p = fold_out-Property Bool Bool is_shape has_shape p

-- ---- what a value puts into its property

int_sound : (i : ℤ) → shape_sound (shape.Int i) ≡ is_in_64_bits i
unfolding shape_sound
int_sound i = ap shape_sound (sym (shape.rolls-Int i)) ∙ fold-roll-Shape Bool Bool is_shape has_shape (Shape-F.Int i)

text_sound : (size : ℕ) (front : Text) → shape_sound (shape.Text size front) ≡ is_shape (Shape-F.Text size front)
unfolding shape_sound
text_sound size front =
    ap shape_sound (sym (shape.rolls-Text size front))
    ∙ fold-roll-Shape Bool Bool is_shape has_shape (Shape-F.Text size front)

array_sound : (count page pagesize : ℕ) (nested : List Property)
    → shape_sound (shape.Array count page pagesize nested) ≡ is_shape
    (Shape-F.Array count page pagesize (map is_property nested))
unfolding shape_sound
array_sound count page pagesize nested =
    ap shape_sound (sym (shape.rolls-Array count page pagesize nested))
    ∙ fold-roll-Shape Bool Bool is_shape has_shape (Shape-F.Array count page pagesize nested)

-- ---- what is read of it

module _ (inner : Element → Option Property) (name fullname : Option Text) where
  at : Attributes → List Node → Element
  at attributes nodes = around name fullname (attributes, nodes)

  -- the value that a property of this part has
  read : Part → Option Shape
  read part =
      attribute (codes "type") (around name fullname part) >>= λ type. shape_in inner type (around name fullname part)

  of_type : (attributes : Attributes) (nodes : List Node)
      → attribute (codes "type") (around name fullname (attributes, nodes)) ≡ value_of attributes (codes "type")
  unfolding around
  of_type attributes nodes = beside_names name fullname attributes (codes "type") refl refl

  null_is : read (value_part Shape-F.Null) ≡ Some shape.Null
  unfolding read
  null_is =
      ap (λ type. type >>= λ type. shape_in inner type (around name fullname (value_part Shape-F.Null)))
      (of_type (type_of (codes "null")) [])

  text_is : (attributes : Attributes) (t : Text) → text_in (around name fullname (attributes, text_nodes t)) ≡ Some t
  unfolding around
  text_is attributes t =
      ap (λ all. alone all (words (text_nodes t))) (elements_text t) ∙ ap (λ (t : Text). Some t) (words_text t)

  bool_is : (b : Bool) → read (value_part (Shape-F.Bool b)) ≡ Some (shape.Bool b)
  unfolding read
  bool_is b =
      let part = value_part (Shape-F.Bool b) in
      ap (λ type. type >>= λ type. shape_in inner type (around name fullname part)) (of_type part.0 part.1)
      ∙ ap (λ text. text >>= λ text. flag_in text >>= λ b. Some (shape.Bool b)) (text_is part.0 (flag b))
      ∙ ap (λ found. found >>= λ b. Some (shape.Bool b)) (flag_is b)

  value_int : (i : ℤ) → is_in_64_bits i ≡ true → read (value_part (Shape-F.Int i)) ≡ Some (shape.Int i)
  unfolding read
  value_int i sound =
      let part = value_part (Shape-F.Int i) in
      ap (λ type. type >>= λ type. shape_in inner type (around name fullname part)) (of_type part.0 part.1)
      ∙ ap (λ text. text >>= λ text. int_of_text text >>= λ i. Some (shape.Int i)) (text_is part.0 (signed_decimal i))
      ∙ ap (λ found. found >>= λ i. Some (shape.Int i)) (int_is i sound)

  value_string : (size : ℕ) (front : Text) → nat_le size most_64 ≡ true → nat_le (length front) size ≡ true
      → are_bytes front ≡ true → read (value_part (Shape-F.Text size front)) ≡ Some (shape.Text size front)
  unfolding read around
  value_string size front within short bytes =
      let part = value_part (Shape-F.Text size front) in
      let size_at = beside_names name fullname (text_attributes size) (codes "size") refl refl in
      let number = number_is most_64 size within (omega arith) in
      let text = text_is part.0 (base64 front) in
      let decoded = bytes_are front bytes in
      ap (λ type. type >>= λ type. shape_in inner type (around name fullname part)) (of_type part.0 part.1)
      ∙ (λ i. size_at i >>= decimal_in most_64 >>= λ size. text i >>= λ text. bytes_in text
      >>= λ front. shown size front)
      ∙ (λ i. number i >>= λ size. decoded i >>= λ front. shown size front)
      ∙ ap (λ b. cond b (Some (shape.Text size front)) None) short

  value_array : (count page pagesize : ℕ) (nested : List Property) → nat_le count most_64 ≡ true
      → nat_le page most_64 ≡ true → nat_le pagesize most_64 ≡ true
      → AllByRecursion (λ p. inner (property_element p) ≡ Some p) nested
      → read (array_attributes count page pagesize, map (λ p. node.Child (property_element p)) nested) ≡ Some
      (shape.Array count page pagesize nested)
  unfolding read around property_element
  value_array count page pagesize nested one two three all =
      let attributes = array_attributes count page pagesize in
      let nodes = map (λ p. node.Child (property_element p)) nested in
      let part : Part = (attributes, nodes) in
      let count_at = beside_names name fullname attributes (codes "numchildren") refl refl in
      let page_at = beside_names name fullname attributes (codes "page") refl refl in
      let pagesize_at = beside_names name fullname attributes (codes "pagesize") refl refl in
      let count_is = number_is most_64 count one (omega arith) in
      let page_is = number_is most_64 page two (omega arith) in
      let pagesize_is = number_is most_64 pagesize three (omega arith) in
      let entries = ap (λ w. alone w (elements nodes)) (words_none property_element (λ _. refl) nested)
      ∙ ap (λ (es : List Element). Some es) (elements_all property_element (λ _. refl) nested) in
      let found = each_is inner property_element nested all in
      ap (λ type. type >>= λ type. shape_in inner type (around name fullname part)) (of_type attributes nodes)
      ∙ (λ i. count_at i >>= decimal_in most_64 >>= λ count. page_at i >>= decimal_in most_64 >>= λ page. pagesize_at i
      >>= decimal_in most_64 >>= λ pagesize.
      entries i >>= λ entries. each inner entries >>= λ nested. Some (shape.Array count page pagesize nested))
      ∙ (λ i. count_is i >>= λ count. page_is i >>= λ page. pagesize_is i >>= λ pagesize. found i
      >>= λ nested. Some (shape.Array count page pagesize nested))

  property_is : (s : Shape) (part : Part) → value_of part.0 (codes "name") ≡ None
      → value_of part.0 (codes "fullname") ≡ None → read part ≡ Some s
      → property_around inner (around name fullname part) ≡ Some
      (record { name = name; fullname = fullname; shape = s })
  unfolding read around
  property_is s part no_name no_fullname is =
      let called = name_at name fullname part.0 no_name in
      let fully = fullname_at name fullname part.0 no_fullname in
      let call : Option Text → Option Text
      → Option Property = λ n f. Some (record { name = n; fullname = f; shape = s }) in
      ap (λ found. found >>= λ s. Some (property_of (around name fullname part) s)) is
      ∙ (λ i. call (called i) (fully i))

-- what is read of a value, whatever it is
record Again (inner : Element → Option Property) (name fullname : Option Text) (s : Shape) : Type 0 where
  no_name : value_of (shape_part s).0 (codes "name") ≡ None
  no_fullname : value_of (shape_part s).0 (codes "fullname") ≡ None
  is : read inner name fullname (shape_part s) ≡ Some s

again : (inner : Element → Option Property) (name fullname : Option Text) (s : Shape) (part : Part)
    → shape_part s ≡ part → value_of part.0 (codes "name") ≡ None → value_of part.0 (codes "fullname") ≡ None
    → read inner name fullname part ≡ Some s → Again inner name fullname s
again inner name fullname s part same no_name no_fullname is = record {
  no_name = ap (λ (p : Part). value_of p.0 (codes "name")) same ∙ no_name;
  no_fullname = ap (λ (p : Part). value_of p.0 (codes "fullname")) same ∙ no_fullname;
  is = ap (read inner name fullname) same ∙ is;
}

-- ---- properties, as deep as their elements nest

module _ (n : ℕ) (inner : Element → Option Property) (deeper : (p : Property) → is_property p ≡ true
    → IsReadable n (property_element p) → inner (property_element p) ≡ Some p) where
  pub nested_are : (after : Bool) (all : List Property) → list_all is_property all ≡ true
      → AreNodes (IsReadable n) after (map property_node all)
      → AllByRecursion (λ p. inner (property_element p) ≡ Some p) all
  nested_are after [] sound readable = tt
  nested_are after (p ∷ all) sound readable =
      let parts = and_parts (is_property p) (list_all is_property all) sound in
      let node_at : out-Node (property_node p) ≡ Node-F.Child (property_element p) = ap out-Node (node_is p)
      ∙ out_child (property_element p) in (
        deeper p parts.0 (subst (FitsBehind (IsReadable n) after) node_at readable.0),
        nested_are (is_text (out-Node (property_node p))) all parts.1 readable.1,
      )

  Wanted : Option Text → Option Text → Shape → Type 0
  Wanted name fullname s =
      shape_sound s ≡ true → AreNodes (IsReadable n) false (shape_part s).1 → Again inner name fullname s

  array_again : (name fullname : Option Text) (count page pagesize : ℕ) (nested : List Property)
      → Wanted name fullname (shape.Array count page pagesize nested)
  unfolding Wanted
  array_again name fullname count page pagesize nested sound readable =
      let part = array_part count page pagesize nested in
      let b = list_all (λ b. b) (map is_property nested) in
      let all = sym (array_sound count page pagesize nested) ∙ sound in
      let three = and_parts (nat_le count most_64 && nat_le page most_64 && nat_le pagesize most_64) b all in
      let two = and_parts (nat_le count most_64 && nat_le page most_64) (nat_le pagesize most_64) three.0 in
      let one = and_parts (nat_le count most_64) (nat_le page most_64) two.0 in
      let entries = nested_are false nested (all_map nested ∙ three.1)
      (subst (λ (p : Part). AreNodes (IsReadable n) false p.1) part readable) in
      let nodes = nodes_are nested in
      again inner name fullname (shape.Array count page pagesize nested)
      (array_attributes count page pagesize, map (λ p. node.Child (property_element p)) nested)
      (part ∙ ap (λ (l : List Node). (array_attributes count page pagesize, l)) nodes) refl refl
      (value_array inner name fullname count page pagesize nested one.0 one.1 two.1 entries)
    where
      all_map : (all : List Property) → list_all is_property all ≡ list_all (λ b. b) (map is_property all)
      all_map [] = refl
      all_map (p ∷ all) = ap (λ b. is_property p && b) (all_map all)

  text_again : (name fullname : Option Text) (size : ℕ) (front : Text) → Wanted name fullname (shape.Text size front)
  unfolding Wanted
  text_again name fullname size front sound readable =
      let two = and_parts (nat_le size most_64 && nat_le (length front) size) (are_bytes front)
      (sym (text_sound size front) ∙ sound) in
      let one = and_parts (nat_le size most_64) (nat_le (length front) size) two.0 in
      again inner name fullname (shape.Text size front) (value_part (Shape-F.Text size front))
      (text_part size front) refl refl (value_string inner name fullname size front one.0 one.1 two.1)

  int_again : (name fullname : Option Text) (i : ℤ) → Wanted name fullname (shape.Int i)
  unfolding Wanted
  int_again name fullname i sound readable =
      again inner name fullname (shape.Int i) (value_part (Shape-F.Int i)) (int_part i) refl refl
      (value_int inner name fullname i (sym (int_sound i) ∙ sound))

  bool_again : (name fullname : Option Text) (b : Bool) → Wanted name fullname (shape.Bool b)
  unfolding Wanted
  bool_again name fullname b sound readable =
      again inner name fullname (shape.Bool b) (value_part (Shape-F.Bool b)) (bool_part b) refl refl
      (bool_is inner name fullname b)

  null_again : (name fullname : Option Text) → Wanted name fullname shape.Null
  unfolding Wanted
  null_again name fullname sound readable =
      again inner name fullname shape.Null (value_part Shape-F.Null) null_part refl refl (null_is inner name fullname)

  shape_again : (name fullname : Option Text) (s : Shape) → Wanted name fullname s
  shape_again name fullname s = go (out-Shape s) refl
    where
      here : (v : Shape-F Shape Property) → out-Shape s ≡ v → s ≡ roll-Shape v
      here v is = sym (roll-out-Shape s) ∙ ap roll-Shape is

      go : (v : Shape-F Shape Property) → out-Shape s ≡ v → Wanted name fullname s
      go Shape-F.Null is =
          subst (Wanted name fullname) (sym (here Shape-F.Null is ∙ shape.rolls-Null)) (null_again name fullname)
      go (Shape-F.Bool b) is =
          subst (Wanted name fullname) (sym (here (Shape-F.Bool b) is ∙ shape.rolls-Bool b))
          (bool_again name fullname b)
      go (Shape-F.Int i) is =
          subst (Wanted name fullname) (sym (here (Shape-F.Int i) is ∙ shape.rolls-Int i)) (int_again name fullname i)
      go (Shape-F.Text size front) is =
          subst (Wanted name fullname) (sym (here (Shape-F.Text size front) is ∙ shape.rolls-Text size front))
          (text_again name fullname size front)
      go (Shape-F.Array count page pagesize nested) is =
          subst (Wanted name fullname) (sym (here (Shape-F.Array count page pagesize nested) is
          ∙ shape.rolls-Array count page pagesize nested)) (array_again name fullname count page pagesize nested)

  around_again : (p : Property) → is_property p ≡ true → AreNodes (IsReadable n) false (shape_part p.shape).1
      → property_around inner (property_element p) ≡ Some p
  unfolding Wanted property_element
  around_again p sound readable =
      let a = shape_again p.name p.fullname p.shape (sym (sound_is p) ∙ sound) readable in
      property_is inner p.name p.fullname p.shape (shape_part p.shape) a.no_name a.no_fullname a.is

-- a property whose element nests at most so deep
pub property_again : (n : ℕ) (p : Property) → is_property p ≡ true → IsReadable n (property_element p)
    → property_within (suc n) (property_element p) ≡ Some p
unfolding property_within property_element around
property_again zero p sound readable = absurd readable
property_again (suc n) p sound readable = around_again n (property_within (suc n)) (property_again n) p sound readable.2
