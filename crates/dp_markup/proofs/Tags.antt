-- The readers of attributes, start tags, end tags, comments and sections.
use Rattle.std.proofs.Common.{◌≤◌, ◌≡◌, inl, inr, ℕ, zero, suc, Bool, true, false, ◌||◌, ◌&&◌, List, [], ◌∷◌, ◌++◌, length, Err, refl, ap, ◌∙◌, cond, codes}
use Rattle.dp_grammar.specs.declared.refusal.Refusal.TheVariants.{Unexpected}
use Rattle.dp_markup.specs.declared.states.Tag.{Tag}
use Rattle.dp_markup.specs.declared.states.StartTag.{StartTag}
use Rattle.dp_markup.specs.inner.Input.{made, refuse, ◌>>=◌, ◌>>◌, one, mark, word, tested, closed}
use Rattle.dp_markup.specs.Rules.{Rule, Joined, Made, passing, Mark, Word, Tested, When, Chain, Closed}
use Rattle.dp_markup.specs.Classes.{is_white, is_name_start, is_name_byte}
use Rattle.dp_markup.specs.Grammar.{Text, Attributes, White, Spaced, Name, Value, is_new, Attribute, TagPiece, TagEnd, Start, UpTo, white_in_tag, attribute_in_tag, start_tag, no_attribute}
use Rattle.dp_markup.specs.inner.Readers.{same, name, spaced_mark, spaced_value, attribute, tag_piece, tag_end, tag_step, start, up_to, cdata, comment, declaration}
use Rattle.dp_grammar.proofs.Answers.{one_answers, joined_answers, when_answers}
use Rattle.dp_markup.proofs.Answers.{Rules, Anything, StepAt, StartsIn, joined_starts, same_level, give}
use Rattle.dp_markup.proofs.Loops.{step_stop, closed_answers}
use Rattle.dp_markup.proofs.Basics.{IsReader, apart_mark, mark_apart, apart_or, apart_white, flip, or_left, or_right, passing_starts, one_byte, mark_of, word_of, before, word_starts, made_starts, joined_reads, made_reads, choose_reads, word_then, word_reads, step_reads, takes_byte, spaced}
use Rattle.dp_markup.proofs.Names.{name_stop, name_starts, follows_name, new_name_reads, name_reads}
use Rattle.dp_markup.proofs.Marks.{up_to_reads, some_up_to}
use Rattle.dp_markup.proofs.Parts.{or_starts, spaced_mark_reads, spaced_value_reads, some_value, spaced_starts}

-- ---- attributes

abbrev with_value : Attributes → Text → Text → Attributes
with_value found n v = found ++ (n, v) ∷ []

abbrev Valued : Attributes → Text → Rule Attributes
Valued found n = Joined (Spaced (Mark 61)) (λ _. Made (Spaced Value) (with_value found n))

some_valued : (found : Attributes) (n : Text) → Valued found n (61 ∷ 34 ∷ 34 ∷ []) (with_value found n [])
some_valued found n =
    record {
      front = 61 ∷ [];
      back = 34 ∷ 34
          ∷ [];
      value = 61;
      split = refl;
      one = spaced (Mark 61) (61 ∷ []) 61 (mark_of 61);
      other = give (Spaced Value)
          (with_value found n) (34 ∷ 34 ∷ []) [] (spaced Value (34 ∷ 34 ∷ []) [] some_value);
    }

valued_reads : (found : Attributes) (n : Text) (level : ℕ)
    → IsReader (λ _. Valued found n) Anything level (spaced_mark 61 >> made spaced_value (with_value found n))
valued_reads found n level =
    joined_reads (λ _. Spaced (Mark 61)) (λ _ _. Made (Spaced Value) (with_value found n)) Anything level
    (spaced_mark 61) (λ _. made spaced_value (with_value found n))
    (spaced_mark_reads 61 (apart_white (same 61) refl refl refl refl) level)
    (λ m above _. (
      34 ∷ 34
          ∷ [],
      with_value found n [],
      give (Spaced Value) (with_value found n) (34 ∷ 34 ∷ []) []
          (spaced Value (34 ∷ 34 ∷ []) [] some_value),
    ))
    (λ _. made_reads (λ _. Spaced Value) (with_value found n) Anything level spaced_value (spaced_value_reads level))

valued_starts : (found : Attributes) (n : Text) → StartsIn (λ _. Valued found n) (λ b. is_white b || same 61 b)
valued_starts found n =
    joined_starts (λ _. Spaced (Mark 61)) (λ _ _. Made (Spaced Value) (with_value found n))
    (λ b. is_white b || same 61 b) (spaced_starts (λ _. Mark 61) (same 61) (passing_starts (same 61)))

attribute_reads : (found : Attributes) (level : ℕ) → IsReader (λ _. Attribute found) Anything level (attribute found)
unfolding attribute
attribute_reads found level ts =
    joined_answers ◌≤◌ same_level (λ _. Tested Name (is_new found)) (λ n _. Valued found n) name_stop Anything level ts
    (follows_name (λ n _. Valued found n) (λ b. is_white b || same 61 b) Anything (valued_starts found)
    (apart_or is_white (same 61) is_name_byte (apart_white is_name_byte refl refl refl refl)
    (apart_mark is_name_byte 61 refl)))
    ((name >>= tested (is_new found)) ts) (λ n. spaced_mark 61 >> made spaced_value (with_value found n))
    (λ m above n. (61 ∷ 34 ∷ 34 ∷ [], with_value found n [], some_valued found n)) (new_name_reads found level ts)
    (λ n r _. valued_reads found n level r)

attribute_starts : (found : Attributes) → StartsIn (λ _. Attribute found) is_name_start
attribute_starts found =
    joined_starts (λ _. Tested Name (is_new found)) (λ n _. Valued found n) is_name_start
    (λ m text a h. name_starts m text a h.spelled)

-- ---- start tags

abbrev white_in : Tag → Rules Tag
white_in t = λ _. Made White (λ _. white_in_tag t)

abbrev attribute_in : Tag → Rules Tag
attribute_in t = λ _. When t.apart (Made (Attribute t.found) attribute_in_tag)

white_in_starts : (t : Tag) → StartsIn (white_in t) is_white
white_in_starts t = made_starts (λ _. White) (λ _. white_in_tag t) is_white (passing_starts is_white)

attribute_in_starts : (t : Tag) → StartsIn (attribute_in t) is_name_start
attribute_in_starts t m text a h =
    made_starts (λ _. Attribute t.found) attribute_in_tag is_name_start (attribute_starts t.found) m text a h.spelled

-- the start of a name is no white space
name_apart_white : (b : ℕ) → is_name_start b ≡ true → is_white b ≡ false
name_apart_white = flip is_white is_name_start (apart_white is_name_start refl refl refl refl)

tag_piece_reads : (t : Tag) (level : ℕ) → IsReader (λ _. TagPiece t) Anything level (tag_piece t)
unfolding tag_piece refuse
tag_piece_reads t level =
    choose_reads (white_in t) (attribute_in t) is_white is_name_start Anything level
    (made (one (passing is_white)) (λ _. white_in_tag t))
    (λ ts. cond t.apart (made (attribute t.found) attribute_in_tag ts) (Err (Unexpected (length ts))))
    (white_in_starts t) (attribute_in_starts t) name_apart_white
    (made_reads (λ _. White) (λ _. white_in_tag t) Anything level (one (passing is_white))
    (one_answers ◌≤◌ same_level (passing is_white) (λ _ _. true) level))
    (λ ts. when_answers ◌≤◌ same_level t.apart (λ _. Made (Attribute t.found) attribute_in_tag) Anything level ts
    (made (attribute t.found) attribute_in_tag ts)
    (λ _. made_reads (λ _. Attribute t.found) attribute_in_tag Anything level (attribute t.found)
    (attribute_reads t.found level) ts))

abbrev in_piece : ℕ → Bool
in_piece b = is_white b || is_name_start b

abbrev in_end : ℕ → Bool
in_end b = same 62 b || same 47 b

tag_piece_starts : (t : Tag) → StartsIn (λ _. TagPiece t) in_piece
tag_piece_starts t =
    or_starts (white_in t) (attribute_in t) is_white is_name_start (white_in_starts t) (attribute_in_starts t)

tag_end_reads : (n : Text) (t : Tag) (level : ℕ) → IsReader (λ _. TagEnd n t) Anything level (tag_end n t)
unfolding tag_end
tag_end_reads n t level =
    choose_reads (λ _. Made (Mark 62) (λ _. start_tag n false t))
    (λ _. Made (Word (codes "/>")) (λ _. start_tag n true t)) (same 62) (same 47) Anything level
    (made (mark 62) (λ _. start_tag n false t)) (made (word (codes "/>")) (λ _. start_tag n true t))
    (made_starts (λ _. Mark 62) (λ _. start_tag n false t) (same 62) (passing_starts (same 62)))
    (made_starts (λ _. Word (codes "/>")) (λ _. start_tag n true t) (same 47) (word_starts 47 (codes ">")))
    (mark_apart (same 47) 62 refl)
    (made_reads (λ _. Mark 62) (λ _. start_tag n false t) Anything level (mark 62)
    (one_answers ◌≤◌ same_level (passing (same 62)) (λ _ _. true) level))
    (made_reads (λ _. Word (codes "/>")) (λ _. start_tag n true t) Anything level (word (codes "/>"))
    (word_reads (codes "/>") (λ _ _. true) level (λ u o. refl)))

tag_end_starts : (n : Text) (t : Tag) → StartsIn (λ _. TagEnd n t) in_end
tag_end_starts n t =
    or_starts (λ _. Made (Mark 62) (λ _. start_tag n false t)) (λ _. Made (Word (codes "/>")) (λ _. start_tag n true t))
    (same 62) (same 47)
    (made_starts (λ _. Mark 62) (λ _. start_tag n false t) (same 62) (passing_starts (same 62)))
    (made_starts (λ _. Word (codes "/>")) (λ _. start_tag n true t) (same 47) (word_starts 47 (codes ">")))

piece_apart_end : (b : ℕ) → in_piece b ≡ true → in_end b ≡ false
piece_apart_end =
    apart_or is_white is_name_start in_end (apart_white in_end refl refl refl refl)
    (flip in_end is_name_start (apart_or (same 62) (same 47) is_name_start (apart_mark is_name_start 62 refl)
    (apart_mark is_name_start 47 refl)))

some_tag_end : (n : Text) (t : Tag) → TagEnd n t (62 ∷ []) (start_tag n false t)
some_tag_end n t = inl (give (Mark 62) (λ _. start_tag n false t) (62 ∷ []) 62 (mark_of 62))

tag_steps : (n : Text) (level : ℕ) (t : Tag)
    → IsReader (StepAt (λ x _. TagPiece x) (λ x _. TagEnd n x) t) (step_stop Anything) level (tag_step n t)
unfolding tag_step
tag_steps n level t =
    step_reads (λ x _. TagPiece x) (λ x _. TagEnd n x) (λ _. in_end) (λ _. in_piece) Anything level
    (tag_end_starts n) tag_piece_starts (λ _. piece_apart_end)
    tag_piece (tag_end n) (λ x. tag_piece_reads x level) (λ x. tag_end_reads n x level) t

abbrev BehindName : Text → Rule StartTag
BehindName n = Closed TagPiece (TagEnd n) no_attribute

behind_name_reads : (n : Text) (level : ℕ)
    → IsReader (λ _. BehindName n) Anything level (closed (tag_step n) no_attribute)
behind_name_reads n level =
    closed_answers (λ x _. TagPiece x) (λ x _. TagEnd n x) Anything level
    (λ x. takes_byte (λ _. TagPiece x) in_piece (tag_piece_starts x))
    (λ m above x. (62 ∷ [], start_tag n false x, some_tag_end n x)) (tag_step n) (tag_steps n level) no_attribute

-- no attribute stands directly behind the name
behind_name_starts : (n : Text) → StartsIn (λ _. BehindName n) (λ b. is_white b || in_end b)
behind_name_starts n m text a c = go c.count c.chain
  where
    first : (l : Text) (t : Tag) → TagPiece no_attribute l t
        → (x : ℕ) × (rest : List ℕ) × (l ≡ x ∷ rest) × (is_white x ≡ true)
    first l t (inl h) = white_in_starts no_attribute m l t h
    first l t (inr h) = let e : false ≡ true = h.holds in absurd (cc)

    go : (count : ℕ) → Chain TagPiece (TagEnd n) count no_attribute text a
        → (x : ℕ) × (rest : List ℕ) × (text ≡ x ∷ rest) × ((is_white x || in_end x) ≡ true)
    go zero h =
        let x = tag_end_starts n no_attribute m text a h in (x.0, x.1, x.2, or_right (is_white x.0) (in_end x.0) x.3)
    go (suc count) j =
        let x = first j.front j.value j.one in (
          x.0,
          x.1 ++ j.back,
          j.split
              ∙ ap (λ l. l ++ j.back) x.2,
          or_left (is_white x.0) (in_end x.0) x.3,
        )

pub some_behind_name : (n : Text) → BehindName n (62 ∷ []) (start_tag n false no_attribute)
some_behind_name n = record { count = 0; chain = some_tag_end n no_attribute }

pub start_reads : (level : ℕ) → IsReader (λ _. Start) Anything level start
unfolding start
start_reads level ts = joined_answers ◌≤◌ same_level (λ _. Name) (λ n _. BehindName n) name_stop Anything level ts
    (follows_name (λ n _. BehindName n) (λ b. is_white b || in_end b) Anything behind_name_starts
    (apart_or is_white in_end is_name_byte (apart_white is_name_byte refl refl refl refl)
    (apart_or (same 62) (same 47) is_name_byte (apart_mark is_name_byte 62 refl)
    (apart_mark is_name_byte 47 refl))))
    (name ts) (λ n. closed (tag_step n) no_attribute) (λ m above n.
    (62 ∷ [], start_tag n false no_attribute, some_behind_name n)) (name_reads level ts)
    (λ n r _. behind_name_reads n level r)

pub start_starts : StartsIn (λ _. Start) is_name_start
start_starts = joined_starts (λ _. Name) (λ n _. BehindName n) is_name_start name_starts

-- a start tag of an element that is empty, from the first byte of its name
pub some_empty_start : (b : ℕ) → is_name_start b ≡ true
    → Start (b ∷ 47 ∷ 62 ∷ []) (start_tag (b ∷ []) true no_attribute)
some_empty_start b is = record {
  front = b ∷ [];
  back = 47 ∷ 62 ∷ [];
  value = b ∷ [];
  split = refl;
  one = record { same = refl; is_name = ap (λ v. v && true) is };
  other =
      record {
        count = 0;
        chain = inr (give (Word (codes "/>")) (λ _. start_tag (b ∷ []) true no_attribute)
            (47 ∷ 62 ∷ []) tt (word_of (codes "/>")));
      };
}

-- ---- end tags, sections, comments, declarations

-- an end tag behind its `</`
abbrev pub NameAndClose : Text → Rule ℕ
NameAndClose n = Joined (Word n) (λ _. Spaced (Mark 62))

pub some_name_and_close : (n : Text) → NameAndClose n (n ++ 62 ∷ []) 62
some_name_and_close n = before n (Spaced (Mark 62)) (62 ∷ []) 62 (spaced (Mark 62) (62 ∷ []) 62 (mark_of 62))

pub name_and_close_reads : (n : Text) (level : ℕ)
    → IsReader (λ _. NameAndClose n) Anything level (word n >> spaced_mark 62)
name_and_close_reads n level =
    word_then n (λ _. Spaced (Mark 62)) Anything level (spaced_mark 62)
    (λ m _. (62 ∷ [], 62, spaced (Mark 62) (62 ∷ []) 62 (mark_of 62)))
    (spaced_mark_reads 62 (apart_white (same 62) refl refl refl refl) level)

abbrev pub SectionTail : Rule Text
SectionTail = Joined (Word (codes "[CDATA[")) (λ _. UpTo (codes "]]>"))

pub some_section : SectionTail (codes "[CDATA[" ++ codes "]]>") []
some_section = before (codes "[CDATA[") (UpTo (codes "]]>")) (codes "]]>") [] (some_up_to (codes "]]>"))

pub cdata_reads : (level : ℕ) → IsReader (λ _. SectionTail) Anything level cdata
unfolding cdata
cdata_reads level =
    word_then (codes "[CDATA[") (λ _. UpTo (codes "]]>")) Anything level (up_to (codes "]]>"))
    (λ m _. (codes "]]>", [], some_up_to (codes "]]>"))) (up_to_reads (codes "]]>") level)

abbrev pub CommentTail : Rule Text
CommentTail = Joined (Word (codes "--")) (λ _. UpTo (codes "-->"))

pub some_comment : CommentTail (codes "--" ++ codes "-->") []
some_comment = before (codes "--") (UpTo (codes "-->")) (codes "-->") [] (some_up_to (codes "-->"))

pub comment_reads : (level : ℕ) → IsReader (λ _. CommentTail) Anything level comment
unfolding comment
comment_reads level =
    word_then (codes "--") (λ _. UpTo (codes "-->")) Anything level (up_to (codes "-->"))
    (λ m _. (codes "-->", [], some_up_to (codes "-->"))) (up_to_reads (codes "-->") level)

abbrev AfterXml : Rule Text
AfterXml = Joined White (λ _. UpTo (codes "?>"))

some_after_xml : AfterXml (32 ∷ codes "?>") []
some_after_xml =
    record {
      front = 32
          ∷ [];
      back = codes "?>";
      value = 32;
      split = refl;
      one = one_byte is_white 32 refl;
      other = some_up_to
          (codes "?>");
    }

abbrev pub DeclarationTail : Rule Text
DeclarationTail = Joined (Word (codes "xml")) (λ _. AfterXml)

pub some_declaration : DeclarationTail (codes "xml" ++ (32 ∷ codes "?>")) []
some_declaration = before (codes "xml") AfterXml (32 ∷ codes "?>") [] some_after_xml

pub declaration_reads : (level : ℕ) → IsReader (λ _. DeclarationTail) Anything level declaration
unfolding declaration
declaration_reads level =
    word_then (codes "xml") (λ _. AfterXml) Anything level (one (passing is_white) >> up_to (codes "?>"))
    (λ m _. (32 ∷ codes "?>", [], some_after_xml))
    (joined_reads (λ _. White) (λ _ _. UpTo (codes "?>")) Anything level (one (passing is_white))
    (λ _. up_to (codes "?>")) (one_answers ◌≤◌ same_level (passing is_white) Anything level)
    (λ m above _. (codes "?>", [], some_up_to (codes "?>"))) (λ _. up_to_reads (codes "?>") level))
