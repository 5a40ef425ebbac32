-- What is written of a readable element is a markup of it.
use Rattle.std.proofs.Common.{◌≡◌, inl, inr, ℕ, zero, suc, ◌+◌, ◌-◌, ◌*◌, ◌/◌, ◌%◌, ◌<◌, Bool, true, false, not, ◌&&◌, ◌||◌, List, [], ◌∷◌, ◌++◌, Some, None, sym, refl, ap, ◌∙◌, subst, append_assoc, append-nil, cond, nat_eq, nat_lt, nat_le, codes, arith}
use Rattle.std.proofs.lemmas.Bool.{eqb-true, ltb-true, le-leb}
use Rattle.std.specs.List.{flat_map}
use Rattle.dp_markup.specs.declared.tree.Element.{Element}
use Rattle.dp_markup.specs.declared.tree.Node.{Node, roll-Node}
use Rattle.dp_markup.specs.declared.tree.Node.TheVariants as node
use Rattle.dp_markup.specs.declared.tree.Node.TheOpen.{Node-F}
use Rattle.dp_markup.specs.declared.tree.Node.TheViews.{out-Node, roll-out-Node}
use Rattle.dp_markup.specs.declared.tree.Node.TheFolds.{fold-roll-Node}
use Rattle.dp_markup.specs.declared.states.Tag.{Tag}
use Rattle.dp_markup.specs.declared.states.StartTag.{StartTag}
use Rattle.dp_markup.specs.declared.states.Content.{Content}
use Rattle.dp_markup.specs.Rules.{Rule, Joined, ◌or◌, Made, One, passing, Mark, Word, Closed}
use Rattle.dp_markup.specs.Classes.{is_white, is_digit, is_name, is_plain_in_text, is_plain_in_value, within_byte, decimal_behind}
use Rattle.dp_markup.specs.Escapes.{decimal, plain_or_number, escaped, escaped_all}
use Rattle.dp_markup.specs.Texts.{attribute_text, node_layer, element_layer, written, node_text, nodes_text}
use Rattle.dp_markup.specs.Grammar.{Text, Attributes, White, Spaced, Number, Reference, Value, Attribute, TagPiece, TagEnd, Start, ContentPiece, EndTag, IsOpened, Prolog, Document, limit, IsMarkup, is_new, attribute_in_tag, with_run, with_child, nodes_of, no_content, element}
use Rattle.dp_markup.specs.Readable.{AreBytes, AreAttributes, is_text, FitsBehind, AreNodes, IsReadable}
use Rattle.dp_markup.proofs.Answers.{give}
use Rattle.dp_markup.proofs.Basics.{one_byte, mark_of, before, marked, named_of, spaced}
use Rattle.dp_markup.proofs.Tags.{NameAndClose, some_name_and_close}
use Rattle.dp_markup.proofs.Trees.{written_is}

-- one more piece in front
one_more : {A B : Type 0} (piece : A → Rule A) (end : A → Rule B) (a x : A) (front back : Text) (b : B)
    → piece a front x → Closed piece end x back b → Closed piece end a (front ++ back) b
one_more piece end a x front back b h c =
    record {
      count = suc c.count;
      chain = record {
        front = front;
        back = back;
        value = x;
        split = refl;
        one = h;
        other =
            c.chain;
      };
    }

-- ---- bytes

digit_worth : (n d : ℕ) → d < 10 → n * 10 + d < 256 → decimal_behind n (48 + d) ≡ Some (n * 10 + d)
unfolding decimal_behind
digit_worth n d less small =
    let digit : is_digit (48 + d) ≡ true = ap (λ v. v && nat_le (48 + d) 57) (le-leb 48 (48 + d) (omega arith))
    ∙ le-leb (48 + d) 57 (omega arith) in
    let back : n * 10 + (48 + d - 48) ≡ n * 10 + d = omega arith in
    ap (λ v. cond v (within_byte (n * 10 + (48 + d - 48))) None) digit ∙ ap within_byte back
    ∙ ap (λ v. cond v (Some (n * 10 + d)) None) (le-leb (n * 10 + d) 255 (omega arith))

end_number : (n : ℕ) → Closed (λ k. One (decimal_behind k)) (λ k. Made (Mark 59) (λ _. k)) n (59 ∷ []) n
end_number n = record { count = 0; chain = give (Mark 59) (λ _. n) (59 ∷ []) 59 (mark_of 59) }

one_digit : (n c m : ℕ) → decimal_behind n c ≡ Some m → One (decimal_behind n) (c ∷ []) m
one_digit n c m is = record { symbol = c; alone = refl; is_worth = is }

number_one : (c m : ℕ) → decimal_behind 0 c ≡ Some m → Number decimal_behind (c ∷ 59 ∷ []) m
number_one c m is =
    record { front = c ∷ []; back = 59 ∷ []; value = m; split = refl; one = one_digit 0 c m is; other = end_number m }

number_two : (c d k m : ℕ) → decimal_behind 0 c ≡ Some k → decimal_behind k d ≡ Some m
    → Number decimal_behind (c ∷ d ∷ 59 ∷ []) m
number_two c d k m one two =
    record {
      front = c ∷ [];
      back = d ∷ 59
          ∷ [];
      value = k;
      split = refl;
      one = one_digit 0 c k one;
      other = one_more (λ n. One (decimal_behind n))
          (λ n. Made (Mark 59) (λ _. n)) k m (d ∷ []) (59 ∷ []) m (one_digit k d m two) (end_number m);
    }

number_three : (c d e k l m : ℕ) → decimal_behind 0 c ≡ Some k → decimal_behind k d ≡ Some l
    → decimal_behind l e ≡ Some m → Number decimal_behind (c ∷ d ∷ e ∷ 59 ∷ []) m
number_three c d e k l m one two three = record {
  front = c ∷ [];
  back = d ∷ e ∷ 59 ∷ [];
  value = k;
  split = refl;
  one = one_digit 0 c k one;
  other =
      one_more (λ n. One (decimal_behind n)) (λ n. Made (Mark 59) (λ _. n)) k l (d ∷ []) (e ∷ 59 ∷ []) m
      (one_digit k d l two) (one_more (λ n. One (decimal_behind n)) (λ n. Made (Mark 59) (λ _. n)) l m (e ∷ [])
      (59 ∷ []) m (one_digit l e m three) (end_number m));
}

worth_of : (n d m : ℕ) → d < 10 → m < 256 → n * 10 + d ≡ m → decimal_behind n (48 + d) ≡ Some m
worth_of n d m less small is = digit_worth n d less (omega arith) ∙ ap Some is

decimal_spelled : (b : ℕ) → b < 256 → Number decimal_behind (decimal b ++ 59 ∷ []) b
decimal_spelled b small = go (nat_lt b 10) (nat_lt b 100) refl refl
  where
    go : (u v : Bool) → nat_lt b 10 ≡ u → nat_lt b 100 ≡ v
        → Number decimal_behind (cond u ((48 + b)
        ∷ []) (cond v ((48 + b / 10) ∷ (48 + b % 10) ∷ [])
        ((48 + b / 100) ∷ (48 + b / 10 % 10) ∷ (48 + b % 10) ∷ [])) ++ 59 ∷ []) b
    go true v lu lv =
        let less : b < 10 = ltb-true b 10 lu in number_one (48 + b) b (worth_of 0 b b less small (omega arith))
    go false true lu lv =
        let less : b < 100 = ltb-true b 100 lv in
        number_two (48 + b / 10) (48 + b % 10) (b / 10) b (worth_of 0 (b / 10) (b / 10) (omega arith) (omega arith)
        (omega arith)) (worth_of (b / 10) (b % 10) b (omega arith) small (omega arith))
    go false false lu lv =
        number_three (48 + b / 100) (48 + b / 10 % 10) (48 + b % 10) (b / 100) (b / 10) b
        (worth_of 0 (b / 100) (b / 100) (omega arith) (omega arith) (omega arith))
        (worth_of (b / 100) (b / 10 % 10) (b / 10) (omega arith) (omega arith) (omega arith))
        (worth_of (b / 10) (b % 10) b (omega arith) small (omega arith))

by_decimal : (b : ℕ) → b < 256 → Reference (codes "&#" ++ (decimal b ++ 59 ∷ [])) b
by_decimal b small =
    inr (inr (inr (inr (inr (inr (before (codes "&#") (Number decimal_behind) (decimal b ++ 59 ∷ []) b (decimal_spelled
    b small)))))))

module _ (p : ℕ → Bool) (plain : (b : ℕ) → nat_eq b 60 ≡ false → nat_eq b 38 ≡ false → nat_eq b 34 ≡ false → p b ≡ true)
  where
    escaped_spelled : (b : ℕ) → b < 256 → (Reference or One (passing p)) (escaped b) b
    escaped_spelled b small =
        go (nat_eq b 38) (nat_eq b 60) (nat_eq b 62) (nat_eq b 34) (nat_eq b 39) refl refl refl refl refl
      where
        at : (c : ℕ) (text : Text) → nat_eq b c ≡ true → Reference text c → (Reference or One (passing p)) text b
        at c text is h = inl (subst (λ x. Reference text x) (sym (eqb-true b c is)) h)

        other : nat_eq b 60 ≡ false → nat_eq b 38 ≡ false → nat_eq b 34 ≡ false → (v : Bool)
            → (Reference or One (passing p)) (cond v (b ∷ []) (codes "&#" ++ decimal b ++ codes ";")) b
        other lt amp quot true = inr (one_byte p b (plain b lt amp quot))
        other lt amp quot false = inl (by_decimal b small)

        go : (amp lt gt quot apos : Bool) → nat_eq b 38 ≡ amp → nat_eq b 60 ≡ lt → nat_eq b 62 ≡ gt → nat_eq b 34 ≡ quot
            → nat_eq b 39 ≡ apos
            → (Reference or One (passing p)) (cond amp (codes "&amp;")
            (cond lt (codes "&lt;") (cond gt (codes "&gt;")
            (cond quot (codes "&quot;") (cond apos (codes "&#39;") (plain_or_number b)))))) b
        go true lt gt quot apos a l g q x = at 38 (codes "&amp;") a (inl (named_of (codes "&amp;") 38))
        go false true gt quot apos a l g q x = at 60 (codes "&lt;") l (inr (inl (named_of (codes "&lt;") 60)))
        go false false true quot apos a l g q x = at 62 (codes "&gt;") g (inr (inr (inl (named_of (codes "&gt;") 62))))
        go false false false true apos a l g q x =
            at 34 (codes "&quot;") q (inr (inr (inr (inl (named_of (codes "&quot;") 34)))))
        go false false false false true a l g q x = at 39 (codes "&#39;") x (by_decimal 39 (omega arith))
        go false false false false false a l g q x = other l a q (nat_lt 31 b && nat_lt b 127)

plain_text : (b : ℕ) → nat_eq b 60 ≡ false → nat_eq b 38 ≡ false → nat_eq b 34 ≡ false → is_plain_in_text b ≡ true
plain_text b lt amp quot = λ i. not (lt i || amp i)

plain_value : (b : ℕ) → nat_eq b 60 ≡ false → nat_eq b 38 ≡ false → nat_eq b 34 ≡ false → is_plain_in_value 34 b ≡ true
plain_value b lt amp quot = λ i. not (lt i || amp i || quot i)

-- ---- values and attributes

value_spelled : (bytes v : Text) → AreBytes bytes
    → Closed (λ x. Made (Reference or One (passing (is_plain_in_value 34))) (λ b. x ++ b ∷ []))
    (λ x. Made (Mark 34) (λ _. x)) v (escaped_all bytes ++ 34 ∷ []) (v ++ bytes)
value_spelled [] v all =
    subst (λ l. Closed (λ x. Made (Reference or One (passing (is_plain_in_value 34))) (λ b. x ++ b ∷ []))
    (λ x. Made (Mark 34) (λ _. x)) v (34 ∷ []) l) (sym (append-nil v))
    (record { count = 0; chain = give (Mark 34) (λ _. v) (34 ∷ []) 34 (mark_of 34) })
value_spelled (b ∷ bytes) v all =
    let piece : Text → Rule Text = λ x. Made (Reference or One (passing (is_plain_in_value 34))) (λ c. x ++ c ∷ []) in
    let end : Text → Rule Text = λ x. Made (Mark 34) (λ _. x) in
    let more : Closed piece end (v ++ b ∷ []) (escaped_all bytes ++ 34 ∷ [])
    ((v ++ b ∷ []) ++ bytes) = value_spelled bytes (v ++ b ∷ []) all.1 in
    let front : piece v (escaped b) (v ++ b ∷ []) = give (Reference or One (passing (is_plain_in_value 34)))
    (λ c. v ++ c ∷ []) (escaped b) b (escaped_spelled (is_plain_in_value 34) plain_value b all.0) in
    let whole = one_more piece end v (v ++ b ∷ []) (escaped b) (escaped_all bytes ++ 34 ∷ [])
    ((v ++ b ∷ []) ++ bytes) front more in
    subst (λ l. Closed piece end v l (v ++ b ∷ bytes)) (sym (append_assoc (escaped b) (escaped_all bytes) (34 ∷ [])))
    (subst (λ l. Closed piece end v (escaped b ++ (escaped_all bytes ++ 34 ∷ [])) l)
    (append_assoc v (b ∷ []) bytes) whole)

quoted_spelled : (bytes : Text) → AreBytes bytes → Value (34 ∷ (escaped_all bytes ++ 34 ∷ [])) bytes
quoted_spelled bytes all =
    record {
      front = 34 ∷ [];
      back = escaped_all bytes ++ 34
          ∷ [];
      value = 34;
      split = refl;
      one = record { symbol = 34; alone = refl; is_worth = refl };
      other = value_spelled
          bytes [] all;
    }

attribute_tail : Text → Text → Text
attribute_tail n v = n ++ (61 ∷ 34 ∷ (escaped_all v ++ 34 ∷ []))

attribute_text_is : (n v : Text) → attribute_text (n, v) ≡ 32 ∷ attribute_tail n v
unfolding attribute_tail
attribute_text_is n v = simp append_assoc

attribute_spelled : (found : Attributes) (n v : Text) → is_name n ≡ true → is_new found n ≡ true → AreBytes v
    → Attribute found (attribute_tail n v) (found ++ (n, v) ∷ [])
unfolding attribute_tail
attribute_spelled found n v name new all = record {
  front = n;
  back = 61 ∷ 34 ∷ (escaped_all v ++ 34 ∷ []);
  value = n;
  split = refl;
  one = record { spelled = record { same = refl; is_name = name }; passes = new };
  other = record {
    front = 61 ∷ [];
    back = 34 ∷ (escaped_all v ++ 34 ∷ []);
    value = 61;
    split = refl;
    one = spaced (Mark 61) (61 ∷ []) 61 (mark_of 61);
    other =
        give (Spaced Value) (λ x. found ++ (n, x) ∷ []) (34 ∷ (escaped_all v ++ 34 ∷ [])) v
        (spaced Value (34 ∷ (escaped_all v ++ 34 ∷ [])) v (quoted_spelled v all));
  };
}

abbrev tag_at : Attributes → Bool → Tag
tag_at found apart = record { found = found; apart = apart }

abbrev tag_of : Text → Attributes → StartTag
tag_of n found = record { name = n; attributes = found; is_empty = false }

attributes_spelled : (n : Text) (attributes found : Attributes) → AreAttributes found attributes
    → Closed TagPiece (TagEnd n) (tag_at found false) (flat_map attribute_text attributes ++ 62 ∷ [])
    (tag_of n (found ++ attributes))
attributes_spelled n [] found all =
    subst (λ l. Closed TagPiece (TagEnd n) (tag_at found false) (62 ∷ []) (tag_of n l)) (sym (append-nil found))
    (record { count = 0; chain = inl (give (Mark 62) (λ _. tag_of n found) (62 ∷ []) 62 (mark_of 62)) })
attributes_spelled n (a ∷ attributes) found all =
    let more = attributes_spelled n attributes (found ++ a ∷ []) all.3 in
    let behind = flat_map attribute_text attributes ++ 62 ∷ [] in
    let tail = attribute_tail a.0 a.1 in
    let result = tag_of n ((found ++ a ∷ []) ++ attributes) in
    let white : TagPiece (tag_at found false) (32 ∷ []) (tag_at found true) = inl
    (give White (λ _. tag_at found true) (32 ∷ []) 32 (one_byte is_white 32 refl)) in
    let attribute : TagPiece (tag_at found true) tail (tag_at (found ++ a ∷ []) false) = inr
    (record {
      holds = refl;
      spelled = give (Attribute found) attribute_in_tag tail (found ++ a ∷ [])
          (attribute_spelled found a.0 a.1 all.0 all.1 all.2);
    }) in
    let rest = one_more TagPiece (TagEnd n) (tag_at found true)
    (tag_at (found ++ a ∷ []) false) tail behind result attribute more in
    let whole = one_more TagPiece (TagEnd n) (tag_at found false) (tag_at found true) (32 ∷ [])
    (tail ++ behind) result white rest in
    let text : 32 ∷ (tail ++ behind) ≡ flat_map attribute_text (a ∷ attributes) ++ 62
    ∷ [] = sym (append_assoc (attribute_text a) (flat_map attribute_text attributes) (62 ∷ [])
    ∙ ap (λ l. l ++ behind) (attribute_text_is a.0 a.1)) in
    subst (λ l. Closed TagPiece (TagEnd n) (tag_at found false) l (tag_of n (found ++ a ∷ attributes))) text
    (subst (λ l. Closed TagPiece (TagEnd n) (tag_at found false) (32 ∷ (tail ++ behind)) (tag_of n l))
    (append_assoc found (a ∷ []) attributes) whole)

start_spelled : (n : Text) (attributes : Attributes) → is_name n ≡ true → AreAttributes [] attributes
    → Start (n ++ (flat_map attribute_text attributes ++ 62 ∷ [])) (tag_of n attributes)
start_spelled n attributes name all =
    record {
      front = n;
      back = flat_map attribute_text attributes ++ 62
          ∷ [];
      value = n;
      split = refl;
      one = record { same = refl; is_name = name };
      other = attributes_spelled n attributes
          [] all;
    }

-- ---- nodes

pub text_node : (t : Text) → node_text (node.Text t) ≡ escaped_all t
text_node t = ap node_text (sym (node.rolls-Text t)) ∙ fold-roll-Node Text Text node_layer element_layer (Node-F.Text t)

pub child_node : (e : Element) → node_text (node.Child e) ≡ written e
child_node e =
    ap node_text (sym (node.rolls-Child e)) ∙ fold-roll-Node Text Text node_layer element_layer (Node-F.Child e)

is_node : (n : Node) (v : Node-F Node Element) → out-Node n ≡ v → n ≡ roll-Node v
is_node n v is = sym (roll-out-Node n) ∙ ap roll-Node is

-- an element's text behind its `<`
behind : Element → Text
behind e =
    e.name ++ ((flat_map attribute_text e.attributes ++ 62 ∷ [])
    ++ (nodes_text e.children ++ (60 ∷ 47 ∷ (e.name ++ 62 ∷ []))))

written_behind : (e : Element) → written e ≡ 60 ∷ behind e
unfolding behind
written_behind e = written_is e ∙ simp append_assoc

abbrev content_at : List Node → Text → Content
content_at nodes run = record { nodes = nodes; run = run }

module _ (inner : Rule Element) (n : Text) where
  abbrev Rest : Content → Text → List Node → Type 0
  Rest c text nodes = Closed (ContentPiece inner) (EndTag n) c text nodes

  closing : Text
  closing = 60 ∷ 47 ∷ (n ++ 62 ∷ [])

  end_spelled : (c : Content) → Rest c closing (nodes_of c)
  unfolding closing
  end_spelled c =
      record {
        count = 0;
        chain = give (Joined (Word (codes "</")) (λ _. NameAndClose n)) (λ _. nodes_of c)
            (codes "</" ++ (n ++ 62 ∷ [])) 62
            (before (codes "</") (NameAndClose n) (n ++ 62 ∷ []) 62 (some_name_and_close n));
      }

  bytes_spelled : (bytes : Text) (nodes : List Node) (run text : Text) (result : List Node) → AreBytes bytes
      → Rest (content_at nodes (run ++ bytes)) text result
      → Rest (content_at nodes run) (escaped_all bytes ++ text) result
  bytes_spelled [] nodes run text result all h = subst (λ r. Rest (content_at nodes r) text result) (append-nil run) h
  bytes_spelled (b ∷ bytes) nodes run text result all h =
      let more = bytes_spelled bytes nodes (run ++ b ∷ []) text result all.1
      (subst (λ r. Rest (content_at nodes r) text result) (sym (append_assoc run (b ∷ []) bytes)) h) in
      let front : ContentPiece inner (content_at nodes run) (escaped b) (content_at nodes (run ++ b ∷ [])) = inl
      (give (Reference or One (passing is_plain_in_text)) (λ c. content_at nodes (run ++ c ∷ [])) (escaped b) b
      (escaped_spelled is_plain_in_text plain_text b all.0)) in
      subst (λ l. Rest (content_at nodes run) l result) (sym (append_assoc (escaped b) (escaped_all bytes) text))
      (one_more (ContentPiece inner) (EndTag n) (content_at nodes run) (content_at nodes (run ++ b ∷ []))
      (escaped b) (escaped_all bytes ++ text) result front more)

  module _ (IsInner : Element → Type 0) (spelled : (e : Element) → IsInner e → inner (behind e) e) where
    nodes_spelled : (nodes done : List Node) (run : Text) (after : Bool) → (after ≡ false → run ≡ [])
        → AreNodes IsInner after nodes
        → Rest (content_at done run) (nodes_text nodes ++ closing) (with_run done run ++ nodes)
    nodes_spelled [] done run after empty all =
        subst (λ l. Rest (content_at done run) closing l) (sym (append-nil (with_run done run)))
        (end_spelled (content_at done run))
    nodes_spelled (x ∷ nodes) done run after empty all = go (out-Node x) refl all.0 all.1 (nodes_spelled nodes)
      where
        regroup : (text : Text) (node : Node) → x ≡ node → node_text node ≡ text
            → text ++ (nodes_text nodes ++ closing) ≡ nodes_text (x ∷ nodes) ++ closing
        regroup text node is same =
            sym (append_assoc (node_text x) (nodes_text nodes) closing
            ∙ ap (λ l. l ++ (nodes_text nodes ++ closing)) (ap node_text is ∙ same))

        go : (v : Node-F Node Element) → out-Node x ≡ v → FitsBehind IsInner after v
            → AreNodes IsInner (is_text v) nodes
            → ((done : List Node) (run : Text) (after : Bool) → (after ≡ false → run ≡ [])
            → AreNodes IsInner after nodes
            → Rest (content_at done run) (nodes_text nodes ++ closing) (with_run done run ++ nodes))
            → Rest (content_at done run) (nodes_text (x ∷ nodes) ++ closing) (with_run done run ++ x ∷ nodes)
        go (Node-F.Text []) is fits rest again = absurd fits.1
        go (Node-F.Text (b ∷ bytes)) is fits rest again =
            let t : Text = b ∷ bytes in
            let here : x ≡ node.Text t = is_node x (Node-F.Text t) is ∙ node.rolls-Text t in
            let none : run ≡ [] = empty fits.0 in
            let more : Rest (content_at done t) (nodes_text nodes ++ closing)
            ((done ++ node.Text t ∷ []) ++ nodes) = again done t true (λ h. absurd (cc)) rest in
            let all_bytes = bytes_spelled t done [] (nodes_text nodes ++ closing)
            ((done ++ node.Text t ∷ []) ++ nodes) fits.1 more in
            let result : (done ++ node.Text t ∷ []) ++ nodes ≡ with_run done run ++ x
            ∷ nodes = append_assoc done (node.Text t ∷ []) nodes
            ∙ (λ i. with_run done (sym none i) ++ (sym here i ∷ nodes)) in
            subst (λ r. Rest (content_at done r) (nodes_text (x ∷ nodes) ++ closing) (with_run done run ++ x ∷ nodes))
            (sym none)
            (subst (λ l. Rest (content_at done []) l (with_run done run ++ x ∷ nodes))
            (regroup (escaped_all t) (node.Text t) here (text_node t))
            (subst (λ l. Rest (content_at done []) (escaped_all t ++ (nodes_text nodes ++ closing)) l) result
            all_bytes))
        go (Node-F.Child e) is fits rest again =
            let here : x ≡ node.Child e = is_node x (Node-F.Child e) is ∙ node.rolls-Child e in
            let c = content_at done run in
            let after_child = content_at (with_run done run ++ node.Child e ∷ []) [] in
            let more : Rest after_child (nodes_text nodes ++ closing)
            ((with_run done run ++ node.Child e ∷ []) ++ nodes) = again (with_run done run ++ node.Child e ∷ [])
            [] false (λ _. refl) rest in
            let front : ContentPiece inner c (60 ∷ behind e) after_child = inr
            (inr (give (Joined (Mark 60) (λ _. inner)) (with_child c) (60 ∷ behind e) e
            (marked 60 inner (behind e) e (spelled e fits)))) in
            let whole = one_more (ContentPiece inner) (EndTag n) c after_child (60 ∷ behind e)
            (nodes_text nodes ++ closing) ((with_run done run ++ node.Child e ∷ []) ++ nodes) front more in
            let result : (with_run done run ++ node.Child e ∷ []) ++ nodes ≡ with_run done run ++ x
            ∷ nodes = append_assoc (with_run done run) (node.Child e ∷ []) nodes
            ∙ ap (λ y. with_run done run ++ y ∷ nodes) (sym here) in
            subst (λ l. Rest c l (with_run done run ++ x ∷ nodes))
            (regroup (60 ∷ behind e) (node.Child e) here (child_node e ∙ written_behind e))
            (subst (λ l. Rest c ((60 ∷ behind e) ++ (nodes_text nodes ++ closing)) l) result whole)

-- ---- elements and whole texts

spelled_behind : (level : ℕ) (e : Element) → IsReadable level e → IsOpened level (behind e) e
unfolding behind closing
spelled_behind zero e none = absurd none
spelled_behind (suc level) e all =
    let tag = tag_of e.name e.attributes in
    let nodes = nodes_spelled (IsOpened level) e.name (IsReadable level) (spelled_behind level) e.children [] [] false
    (λ _. refl) all.2 in
    record {
      front = e.name ++ (flat_map attribute_text e.attributes ++ 62 ∷ []);
      back = nodes_text e.children ++ (60 ∷ 47 ∷ (e.name ++ 62 ∷ []));
      value = tag;
      split =
          sym (append_assoc e.name (flat_map attribute_text e.attributes ++ 62 ∷ [])
          (nodes_text e.children ++ (60 ∷ 47 ∷ (e.name ++ 62 ∷ []))));
      one = start_spelled e.name e.attributes all.0 all.1;
      other =
          give (Closed (ContentPiece (IsOpened level)) (EndTag e.name) no_content) (element tag)
          (nodes_text e.children ++ (60 ∷ 47 ∷ (e.name ++ 62 ∷ []))) e.children nodes;
    }

-- whatever may stand before the root
pub behind_prolog : (front : Text) (e : Element) → IsReadable limit e → Prolog (front ++ 60 ∷ []) 60
    → IsMarkup (front ++ written e) e
behind_prolog front e all prolog = subst (λ l. Document limit (front ++ l) e) (sym (written_behind e)) (record {
  front = front ++ 60 ∷ [];
  back = behind e;
  value = 60;
  split = sym (append_assoc front (60 ∷ []) (behind e));
  one = prolog;
  other =
      record {
        front = behind e;
        back = [];
        value = e;
        split = sym
            (append-nil (behind e));
        one = spelled_behind limit e all;
        other = record
            { count = 0; chain = record { empty = refl; same = refl } };
      };
})

pub written_is_markup : (e : Element) → IsReadable limit e → IsMarkup (written e) e
written_is_markup e all = behind_prolog [] e all (record { count = 0; chain = mark_of 60 })
