-- Markup holds of readable elements alone.
use Rattle.std.proofs.Common.{◌≡◌, inl, inr, ℕ, zero, suc, ◌+◌, ◌-◌, ◌*◌, ◌<◌, ◌≤◌, Bool, true, false, List, [], ◌∷◌, ◌++◌, Option, Some, None, sym, refl, ap, ◌∙◌, subst, append_assoc, append-nil, cond, nat_le, codes, arith, get_or}
use Rattle.std.proofs.lemmas.Bool.{leb-true}
use Rattle.dp_markup.specs.declared.tree.Element.{Element}
use Rattle.dp_markup.specs.declared.tree.Node.{Node}
use Rattle.dp_markup.specs.declared.tree.Node.TheVariants as node
use Rattle.dp_markup.specs.declared.tree.Node.TheOpen.{Node-F}
use Rattle.dp_markup.specs.declared.tree.Node.TheViews.{out-Node, out-roll-Node}
use denote.Hole.Carrier.{out}
use Rattle.dp_markup.specs.declared.states.Tag.{Tag}
use Rattle.dp_markup.specs.declared.states.StartTag.{StartTag}
use Rattle.dp_markup.specs.declared.states.Content.{Content}
use Rattle.dp_markup.specs.Rules.{Rule, Joined, ◌or◌, Gives, Made, One, passing, Mark, Word, Chain, Closed}
use Rattle.dp_markup.specs.Classes.{is_digit, is_name, is_plain_in_text, is_plain_in_value, within_byte, decimal_behind, hexadecimal_behind}
use Rattle.dp_markup.specs.Grammar.{Text, Attributes, White, Spaced, Number, Reference, Value, Attribute, TagPiece, TagEnd, Start, CData, Misc, ContentPiece, EndTag, BehindStart, IsOpened, limit, IsMarkup, is_new, with_run, nodes_of, no_content, no_attribute, element}
use Rattle.dp_markup.specs.Readable.{AreBytes, AreAttributes, is_text, FitsBehind, AreNodes, IsReadable}
use Rattle.dp_markup.proofs.Answers.{given}
use Rattle.dp_markup.proofs.Basics.{passing_is, named_is}

-- ---- bytes

front_bytes : (xs ys : Text) → AreBytes (xs ++ ys) → AreBytes xs
front_bytes [] ys all = tt
front_bytes (x ∷ xs) ys all = (all.0, front_bytes xs ys all.1)

back_bytes : (xs ys : Text) → AreBytes (xs ++ ys) → AreBytes ys
back_bytes [] ys all = all
back_bytes (x ∷ xs) ys all = back_bytes xs ys all.1

both_bytes : (xs ys : Text) → AreBytes xs → AreBytes ys → AreBytes (xs ++ ys)
both_bytes [] ys one other = other
both_bytes (x ∷ xs) ys one other = (one.0, both_bytes xs ys one.1 other)

passing_byte : (test : ℕ → Bool) (text : Text) (a : ℕ) → One (passing test) text a → AreBytes text → a < 256
passing_byte test text a o all =
    let here : AreBytes (o.symbol ∷ []) = subst AreBytes o.alone all in
    let small : o.symbol < 256 = here.0 in
    let same : a ≡ o.symbol = (passing_is test o.symbol a o.is_worth).1 in
    omega arith

within_is : (n a : ℕ) → within_byte n ≡ Some a → a < 256
within_is n a = go (nat_le n 255) refl
  where
    go : (v : Bool) → nat_le n 255 ≡ v → cond v (Some n) None ≡ Some a → a < 256
    go true is e = let small : n ≤ 255 = leb-true n 255 is in let same : n ≡ a = cc in omega arith
    go false is e = absurd (cc)

decimal_small : (n b a : ℕ) → decimal_behind n b ≡ Some a → a < 256
unfolding decimal_behind
decimal_small n b a = go (is_digit b)
  where
    go : (v : Bool) → cond v (within_byte (n * 10 + (b - 48))) None ≡ Some a → a < 256
    go true e = within_is (n * 10 + (b - 48)) a e
    go false e = absurd (cc)

hexadecimal_small : (n b a : ℕ) → hexadecimal_behind n b ≡ Some a → a < 256
unfolding hexadecimal_behind
hexadecimal_small n b a = go (is_digit b) _ _
  where
    go : (u v w : Bool) → cond u (within_byte (n * 16 + (b - 48)))
        (cond v (within_byte (n * 16 + (b - 87))) (cond w (within_byte (n * 16 + (b - 55))) None)) ≡ Some a → a < 256
    go true v w e = within_is (n * 16 + (b - 48)) a e
    go false true w e = within_is (n * 16 + (b - 87)) a e
    go false false true e = within_is (n * 16 + (b - 55)) a e
    go false false false e = absurd (cc)

number_small : (worth : ℕ → ℕ → Option ℕ) → ((n b a : ℕ) → worth n b ≡ Some a → a < 256) → (text : Text) (a : ℕ)
    → Number worth text a → a < 256
number_small worth small text a j =
    go j.other.count j.value j.back (small 0 j.one.symbol j.value j.one.is_worth) j.other.chain
  where
    go : (count n : ℕ) (l : Text) → n < 256 → Chain (λ k. One (worth k)) (λ k. Made (Mark 59) (λ _. k)) count n l a
        → a < 256
    go zero n l less h = let g = given (Mark 59) (λ _. n) l a h in let same : a ≡ n = g.2 in omega arith
    go (suc count) n l less h = go count h.value h.back (small n h.one.symbol h.value h.one.is_worth) h.other

named_small : (w : Text) (v : ℕ) (text : Text) (a : ℕ) → v < 256 → Made (Word w) (λ _. v) text a → a < 256
named_small w v text a less h = let same : a ≡ v = (named_is w v text a h).1 in omega arith

reference_small : (text : Text) (a : ℕ) → Reference text a → a < 256
reference_small text a (inl h) = named_small (codes "&amp;") 38 text a (omega arith) h
reference_small text a (inr (inl h)) = named_small (codes "&lt;") 60 text a (omega arith) h
reference_small text a (inr (inr (inl h))) = named_small (codes "&gt;") 62 text a (omega arith) h
reference_small text a (inr (inr (inr (inl h)))) = named_small (codes "&quot;") 34 text a (omega arith) h
reference_small text a (inr (inr (inr (inr (inl h))))) = named_small (codes "&apos;") 39 text a (omega arith) h
reference_small text a (inr (inr (inr (inr (inr (inl h)))))) =
    number_small hexadecimal_behind hexadecimal_small h.back a h.other
reference_small text a (inr (inr (inr (inr (inr (inr h)))))) =
    number_small decimal_behind decimal_small h.back a h.other

byte_small : (test : ℕ → Bool) (text : Text) (a : ℕ) → (Reference or One (passing test)) text a → AreBytes text
    → a < 256
byte_small test text a (inl h) all = reference_small text a h
byte_small test text a (inr h) all = passing_byte test text a h all

-- ---- values and attributes

value_bytes : (text v : Text) → Value text v → AreBytes text → AreBytes v
value_bytes text v j all =
    go j.other.count [] j.back tt (back_bytes j.front j.back (subst AreBytes j.split all)) j.other.chain
  where
    go : (count : ℕ) (acc l : Text) → AreBytes acc → AreBytes l
        → Chain (λ x. Made (Reference or One (passing (is_plain_in_value j.value))) (λ b. x ++ b ∷ []))
        (λ x. Made (Mark j.value) (λ _. x)) count acc l v → AreBytes v
    go zero acc l one all h = subst AreBytes (sym (given (Mark j.value) (λ _. acc) l v h).2) one
    go (suc count) acc l one all h =
        let parts : AreBytes (h.front ++ h.back) = subst AreBytes h.split all in
        let g = given (Reference or One (passing (is_plain_in_value j.value)))
        (λ b. acc ++ b ∷ []) h.front h.value h.one in
        let small = byte_small (is_plain_in_value j.value) h.front g.0 g.1 (front_bytes h.front h.back parts) in
        go count h.value h.back (subst AreBytes (sym g.2) (both_bytes acc (g.0 ∷ []) one (small, tt)))
        (back_bytes h.front h.back parts) h.other

spaced_inner : {A : Type 0} (rule : Rule A) (text : Text) (a : A) → Spaced rule text a → AreBytes text
    → (back : Text) × rule back a × AreBytes back
spaced_inner rule text a c all = go c.count text all c.chain
  where
    go : (count : ℕ) (l : Text) → AreBytes l → Chain (λ (u : Unit {0}). Made White (λ _. tt)) (λ _. rule) count tt l a
        → (back : Text) × rule back a × AreBytes back
    go zero l all h = (l, h, all)
    go (suc count) l all h = go count h.back (back_bytes h.front h.back (subst AreBytes h.split all)) h.other

record Added (found more : Attributes) : Type 0 where
  pair : Text × Text
  name : is_name pair.0 ≡ true
  new : is_new found pair.0 ≡ true
  bytes : AreBytes pair.1
  same : more ≡ found ++ pair ∷ []

attribute_added : (found more : Attributes) (text : Text) → Attribute found text more → AreBytes text → Added found more
attribute_added found more text j all =
    let behind : AreBytes j.back = back_bytes j.front j.back (subst AreBytes j.split all) in
    let k = j.other in
    let rest : AreBytes k.back = back_bytes k.front k.back (subst AreBytes k.split behind) in
    let g = given (Spaced Value) (λ v. found ++ (j.value, v) ∷ []) k.back more k.other in
    let s = spaced_inner Value k.back g.0 g.1 rest in
    record {
      pair = (j.value, g.0);
      name = j.one.spelled.is_name;
      new = j.one.passes;
      bytes = value_bytes s.0 g.0 s.1
          s.2;
      same = g.2;
    }

one_attribute_more : (found attributes : Attributes) (a : Text × Text) → AreAttributes found attributes
    → is_name a.0 ≡ true → is_new (found ++ attributes) a.0 ≡ true → AreBytes a.1
    → AreAttributes found (attributes ++ a ∷ [])
one_attribute_more found [] a all name new bytes =
    (name, subst (λ l. is_new l a.0 ≡ true) (append-nil found) new, bytes, tt)
one_attribute_more found (x ∷ attributes) a all name new bytes = (
  all.0,
  all.1,
  all.2,
  one_attribute_more (found ++ x ∷ []) attributes a all.3 name
      (subst (λ l. is_new l a.0 ≡ true) (sym (append_assoc found (x ∷ []) attributes)) new) bytes,
)

tag_attributes : (n : Text) (count : ℕ) (t : Tag) (text : Text) (tag : StartTag) → AreAttributes [] t.found
    → AreBytes text → Chain TagPiece (TagEnd n) count t text tag → (tag.name ≡ n) × AreAttributes [] tag.attributes
tag_attributes n zero t text tag all bytes (inl h) =
    let g = given (Mark 62) _ text tag h in (
      ap (λ s. s.name) g.2,
      subst (λ s. AreAttributes [] s.attributes) (sym g.2) all,
    )
tag_attributes n zero t text tag all bytes (inr h) =
    let g = given (Word (codes "/>")) _ text tag h in (
      ap (λ s. s.name) g.2,
      subst (λ s. AreAttributes [] s.attributes) (sym g.2) all,
    )
tag_attributes n (suc count) t text tag all bytes h =
    let parts : AreBytes (h.front ++ h.back) = subst AreBytes h.split bytes in
    tag_attributes n count h.value h.back tag (piece h.value h.one (front_bytes h.front h.back parts))
    (back_bytes h.front h.back parts) h.other
  where
    piece : (x : Tag) → TagPiece t h.front x → AreBytes h.front → AreAttributes [] x.found
    piece x (inl w) _ = let g = given White _ h.front x w in subst (λ s. AreAttributes [] s.found) (sym g.2) all
    piece x (inr w) few =
        let g = given (Attribute t.found) _ h.front x w.spelled in
        let a = attribute_added t.found g.0 h.front g.1 few in
        subst (λ s. AreAttributes [] s.found) (sym g.2) (subst (λ l. AreAttributes [] l) (sym a.same)
        (one_attribute_more [] t.found a.pair all a.name a.new a.bytes))

start_readable : (text : Text) (tag : StartTag) → Start text tag → AreBytes text
    → (is_name tag.name ≡ true) × AreAttributes [] tag.attributes
start_readable text tag j all =
    let w = tag_attributes j.value j.other.count no_attribute j.back tag tt
    (back_bytes j.front j.back (subst AreBytes j.split all)) j.other.chain in
    (ap is_name w.0 ∙ j.one.is_name, w.1)

-- ---- nodes

out_text : (t : Text) → out-Node (node.Text t) ≡ Node-F.Text t
unfolding out-Node out
out_text t = refl

out_child : (e : Element) → out-Node (node.Child e) ≡ Node-F.Child e
out_child e = ap out-Node (sym (node.rolls-Child e)) ∙ out-roll-Node (Node-F.Child e)

ends_in_text : Bool → List Node → Bool
ends_in_text after [] = after
ends_in_text after (n ∷ nodes) = ends_in_text (is_text (out-Node n)) nodes

one_node_more : (IsInner : Element → Type 0) (after : Bool) (nodes : List Node) (x : Node)
    → AreNodes IsInner after nodes → FitsBehind IsInner (ends_in_text after nodes) (out-Node x)
    → AreNodes IsInner after (nodes ++ x ∷ [])
unfolding ends_in_text
one_node_more IsInner after [] x all fits = (fits, tt)
one_node_more IsInner after (n ∷ nodes) x all fits =
    (all.0, one_node_more IsInner (is_text (out-Node n)) nodes x all.1 fits)

ends_so : (after : Bool) (nodes : List Node) (x : Node) → ends_in_text after (nodes ++ x ∷ []) ≡ is_text (out-Node x)
unfolding ends_in_text
ends_so after [] x = refl
ends_so after (n ∷ nodes) x = ends_so (is_text (out-Node n)) nodes x

module _ (inner : Rule Element) (IsInner : Element → Type 0) (readable : (text : Text) (e : Element) → inner text e
    → AreBytes text → IsInner e) (n : Text) where
  record IsState (c : Content) : Type 0 where
    nodes : AreNodes IsInner false c.nodes
    apart : ends_in_text false c.nodes ≡ false
    run : AreBytes c.run

  with_run_nodes : (nodes : List Node) (run : Text) → AreNodes IsInner false nodes → ends_in_text false nodes ≡ false
      → AreBytes run → AreNodes IsInner false (with_run nodes run)
  with_run_nodes nodes [] all apart bytes = all
  with_run_nodes nodes (b ∷ run) all apart bytes =
      one_node_more IsInner false nodes (node.Text (b ∷ run)) all
      (subst (FitsBehind IsInner (ends_in_text false nodes)) (sym (out_text (b ∷ run))) (apart, bytes))

  piece_keeps : (c x : Content) (text : Text) → AreBytes text → IsState c → ContentPiece inner c text x → IsState x
  piece_keeps c x text all s (inl h) =
      let g = given (Reference or One (passing is_plain_in_text)) _ text x h in
      subst IsState (sym g.2) (record {
        nodes = s.nodes;
        apart = s.apart;
        run = both_bytes c.run (g.0 ∷ []) s.run
            (byte_small is_plain_in_text text g.0 g.1 all, tt);
      })
  piece_keeps c x text all s (inr (inl h)) =
      let g = given CData _ text x h in
      let tail : AreBytes g.1.back = back_bytes g.1.front g.1.back (subst AreBytes g.1.split all) in
      let bytes : AreBytes g.0 = front_bytes g.0 (codes "]]>") (subst AreBytes g.1.other.split tail) in
      subst IsState (sym g.2) (record { nodes = s.nodes; apart = s.apart; run = both_bytes c.run g.0 s.run bytes })
  piece_keeps c x text all s (inr (inr h)) =
      let g = given (Joined (Mark 60) (λ _. inner)) _ text x h in
      let tail : AreBytes g.1.back = back_bytes g.1.front g.1.back (subst AreBytes g.1.split all) in
      let child : IsInner g.0 = readable g.1.back g.0 g.1.other tail in
      subst IsState (sym g.2) (record {
        nodes =
            one_node_more IsInner false (nodes_of c) (node.Child g.0)
            (with_run_nodes c.nodes c.run s.nodes s.apart s.run)
            (subst (FitsBehind IsInner (ends_in_text false (nodes_of c))) (sym (out_child g.0)) child);
        apart = ends_so false (nodes_of c) (node.Child g.0) ∙ ap is_text (out_child g.0);
        run = tt;
      })

  nodes_readable : (count : ℕ) (c : Content) (text : Text) (nodes : List Node) → AreBytes text → IsState c
      → Chain (ContentPiece inner) (EndTag n) count c text nodes → AreNodes IsInner false nodes
  nodes_readable zero c text nodes all s h =
      let g = given _ (λ _. nodes_of c) text nodes h in subst (AreNodes IsInner false) (sym g.2)
      (with_run_nodes c.nodes c.run s.nodes s.apart s.run)
  nodes_readable (suc count) c text nodes all s h =
      let parts : AreBytes (h.front ++ h.back) = subst AreBytes h.split all in
      nodes_readable count h.value h.back nodes (back_bytes h.front h.back parts)
      (piece_keeps c h.value h.front (front_bytes h.front h.back parts) s h.one) h.other

  pub content_readable : (text : Text) (nodes : List Node) → AreBytes text
      → Closed (ContentPiece inner) (EndTag n) no_content text nodes → AreNodes IsInner false nodes
  unfolding ends_in_text
  content_readable text nodes all c =
      nodes_readable c.count no_content text nodes all (record { nodes = tt; apart = refl; run = tt }) c.chain

-- ---- elements and whole texts

opened_readable : (level : ℕ) (text : Text) (e : Element) → IsOpened level text e → AreBytes text → IsReadable level e
opened_readable zero text e none all = absurd none
opened_readable (suc level) text e j all =
    let parts : AreBytes (j.front ++ j.back) = subst AreBytes j.split all in
    let start = start_readable j.front j.value j.one (front_bytes j.front j.back parts) in
    go (opened_readable level) start (back_bytes j.front j.back parts) j.value.is_empty j.other
  where
    go : ((text : Text) (e : Element) → IsOpened level text e → AreBytes text → IsReadable level e)
        → (is_name j.value.name ≡ true) × AreAttributes [] j.value.attributes → AreBytes j.back
        → (b : Bool) → BehindStart (IsOpened level) b j.value j.back e → IsReadable (suc level) e
    go inner start few true h = subst (IsReadable (suc level)) (sym h.same) (start.0, start.1, tt)
    go inner start few false h =
        let g = given (Closed (ContentPiece (IsOpened level)) (EndTag j.value.name) no_content)
        (element j.value) j.back e h in
        subst (IsReadable (suc level)) (sym g.2) (
          start.0,
          start.1,
          content_readable (IsOpened level) (IsReadable level) inner j.value.name j.back g.0 few g.1,
        )

trail_same : (count : ℕ) (root e : Element) (text : Text)
    → Chain (λ x. Made Misc (λ _. x)) (λ x. Gives x) count root text e → e ≡ root
trail_same zero root e text h = h.same
trail_same (suc count) root e text h =
    trail_same count h.value e h.back h.other ∙ (given Misc (λ _. root) h.front h.value h.one).2

pub markup_readable : (text : Text) (e : Element) → IsMarkup text e → AreBytes text → IsReadable limit e
markup_readable text e j all =
    let tail : AreBytes j.back = back_bytes j.front j.back (subst AreBytes j.split all) in
    let k = j.other in
    let root = opened_readable limit k.front k.value k.one (front_bytes k.front k.back (subst AreBytes k.split tail)) in
    subst (IsReadable limit) (sym (trail_same k.other.count k.value e k.back k.other.chain)) root

-- what the type of bytes tells
pub bytes_are : (text : Text) → ((i : ℕ) → get_or text i 0 < 256) → AreBytes text
bytes_are [] all = tt
bytes_are (b ∷ text) all = (all 0, bytes_are text (λ i. all (suc i)))
