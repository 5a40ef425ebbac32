-- The reader of elements, at each level of nesting.
use Rattle.std.specs.declared.ops.ControlFlow.{ControlFlow}
use Rattle.std.specs.declared.ops.ControlFlow.TheVariants.{Continue, Break}
use Rattle.std.proofs.Common.{◌≡◌, inl, inr, ℕ, zero, suc, ◌<◌, ◌≤◌, Bool, true, false, ◌||◌, List, [], ◌∷◌, ◌++◌, length, Err, sym, refl, ap, ◌∙◌, subst, cond, codes, arith}
use Rattle.dp_grammar.specs.declared.refusal.Refusal.TheVariants.{Unexpected, TooDeep}
use Rattle.dp_markup.specs.declared.tree.Element.{Element}
use Rattle.dp_markup.specs.declared.tree.Node.{Node}
use Rattle.dp_markup.specs.declared.states.StartTag.{StartTag}
use Rattle.dp_markup.specs.declared.states.Content.{Content}
use Rattle.dp_markup.specs.inner.Input.{head, next, Outcome, Reader, made, refuse, ◌>>◌, one, mark, word}
use Rattle.dp_markup.specs.Rules.{Rule, Joined, ◌or◌, Made, One, passing, Mark, Word, Closed}
use Rattle.dp_markup.specs.Classes.{is_name_start, is_plain_in_text}
use Rattle.dp_markup.specs.Grammar.{Text, Reference, Start, UpTo, CData, ContentPiece, EndTag, BehindStart, Opened, IsOpened, with_bytes, with_child, nodes_of, no_content, no_attribute, start_tag, element}
use Rattle.dp_markup.specs.inner.Readers.{same, reference, start, end_tag, spaced_mark, cdata, bracket, content_byte, content_step, inside, behind_start, element_in, no_level, opened}
use Rattle.dp_grammar.proofs.Answers.{one_answers, gives_answers, equal_answers, refused_here, too_deep_answers}
use Rattle.dp_grammar.proofs.LevelAnswers.{under_answers}
use Rattle.dp_markup.proofs.Answers.{Rules, Anything, JoinedAt, EitherAt, ClosedAt, StepAt, Answers, StartsIn, joined_starts, begun, same_level, give, given}
use Rattle.dp_markup.proofs.Loops.{step_stop, closed_answers}
use Rattle.dp_markup.proofs.Basics.{IsReader, Can, mark_apart, passing_starts, before, behind_word, marked, behind_mark, word_starts, made_starts, joined_reads, made_reads, choose_reads, mark_then, takes_byte}
use Rattle.dp_markup.proofs.Parts.{or_starts, reference_reads, reference_starts}
use Rattle.dp_markup.proofs.Tags.{start_reads, start_starts, some_empty_start, NameAndClose, some_name_and_close, name_and_close_reads, SectionTail, cdata_reads, some_section}

-- ---- what stands between the tags

abbrev in_text : ℕ → Bool
in_text b = same 38 b || is_plain_in_text b

abbrev Bytes : Rule ℕ
Bytes = Reference or One (passing is_plain_in_text)

bytes_start : StartsIn (λ _. Bytes) in_text
bytes_start =
    or_starts (λ _. Reference) (λ _. One (passing is_plain_in_text)) (same 38) is_plain_in_text reference_starts
    (passing_starts is_plain_in_text)

bytes_read : (level : ℕ) → IsReader (λ _. Bytes) Anything level content_byte
unfolding content_byte
bytes_read level =
    choose_reads (λ _. Reference) (λ _. One (passing is_plain_in_text))
    (same 38) is_plain_in_text Anything level reference (one (passing is_plain_in_text))
    reference_starts (passing_starts is_plain_in_text) (mark_apart is_plain_in_text 38 refl) (reference_reads level)
    (one_answers ◌≤◌ same_level (passing is_plain_in_text) Anything level)

module _ (inner : Rules Element) (name : Text) where
  abbrev piece : Content → Rules Content
  piece c = λ m. ContentPiece (inner m) c

  abbrev end : Content → Rules (List Node)
  end c = λ _. EndTag name c

  -- behind `<`
  abbrev Ended : Content → Rules (ControlFlow (List Node) Content)
  Ended c = λ _. Made (Made (Joined (Mark 47) (λ _. NameAndClose name)) (λ _. nodes_of c)) Break

  abbrev Section : Content → Rules (ControlFlow (List Node) Content)
  Section c = λ _. Made (Made (Joined (Mark 33) (λ _. SectionTail)) (with_bytes c)) Continue

  abbrev Nested : Content → Rules (ControlFlow (List Node) Content)
  Nested c = λ m. Made (Made (inner m) (with_child c)) Continue

  abbrev Bracketed : Content → Rules (ControlFlow (List Node) Content)
  Bracketed c = EitherAt (Ended c) (EitherAt (Section c) (Nested c))

  abbrev Byte : Content → Rules (ControlFlow (List Node) Content)
  Byte c = λ _. Made (Made Bytes (λ b. with_bytes c (b ∷ []))) Continue

  abbrev Factored : Content → Rules (ControlFlow (List Node) Content)
  Factored c = EitherAt (JoinedAt (λ _. Mark 60) (λ _. Bracketed c)) (Byte c)

  some_end : (c : Content) → EndTag name c (codes "</" ++ (name ++ 62 ∷ [])) (nodes_of c)
  some_end c =
      give (Joined (Word (codes "</")) (λ _. NameAndClose name)) (λ _. nodes_of c) (codes "</" ++ (name ++ 62 ∷ [])) 62
      (before (codes "</") (NameAndClose name) (name ++ 62 ∷ []) 62 (some_name_and_close name))

  some_bracketed : (c : Content) (m : ℕ) → Bracketed c m (47 ∷ (name ++ 62 ∷ [])) (Break (nodes_of c))
  some_bracketed c m =
      inl (give (Made (Joined (Mark 47) (λ _. NameAndClose name)) (λ _. nodes_of c)) Break (47 ∷ (name ++ 62 ∷ []))
      (nodes_of c)
      (give (Joined (Mark 47) (λ _. NameAndClose name)) (λ _. nodes_of c) (47 ∷ (name ++ 62 ∷ [])) 62
      (marked 47 (NameAndClose name) (name ++ 62 ∷ []) 62 (some_name_and_close name))))

  to_step : (c : Content) (m : ℕ) (text : Text) (v : ControlFlow (List Node) Content) → Factored c m text v
      → StepAt piece end c m text v
  to_step c m text v (inr h) =
      let g = given (Made Bytes (λ b. with_bytes c (b ∷ []))) Continue text v h in
      subst (λ x. StepAt piece end c m text x) (sym g.2) (inr
      (give (ContentPiece (inner m) c) Continue text g.0 (inl g.1)))
  to_step c m text v (inl h) = let b = behind_mark 60 (Bracketed c m) text v h in go b.0 b.1 b.2
    where
      go : (back : Text) → text ≡ 60 ∷ back → Bracketed c m back v → StepAt piece end c m text v
      go back e (inl x) =
          let g = given (Made (Joined (Mark 47) (λ _. NameAndClose name)) (λ _. nodes_of c)) Break back v x in
          let n = given (Joined (Mark 47) (λ _. NameAndClose name)) (λ _. nodes_of c) back g.0 g.1 in
          let w = behind_mark 47 (NameAndClose name) back n.0 n.1 in
          let whole : Joined (Word (codes "</")) (λ _. NameAndClose name) text n.0 = subst
          (λ l. Joined (Word (codes "</")) (λ _. NameAndClose name) l n.0) (sym (e ∙ ap (λ l. 60 ∷ l) w.1))
          (before (codes "</") (NameAndClose name) w.0 n.0 w.2) in
          subst (λ y. StepAt piece end c m text y) (sym g.2)
          (inl (give (EndTag name c) Break text g.0 (subst (λ y. EndTag name c text y) (sym n.2)
          (give (Joined (Word (codes "</")) (λ _. NameAndClose name)) (λ _. nodes_of c) text n.0 whole))))
      go back e (inr (inl x)) =
          let g = given (Made (Joined (Mark 33) (λ _. SectionTail)) (with_bytes c)) Continue back v x in
          let n = given (Joined (Mark 33) (λ _. SectionTail)) (with_bytes c) back g.0 g.1 in
          let w = behind_mark 33 SectionTail back n.0 n.1 in
          let t = behind_word (codes "[CDATA[") (UpTo (codes "]]>")) w.0 n.0 w.2 in
          let whole : CData text n.0 = subst (λ l. CData l n.0)
          (sym (e ∙ ap (λ l. 60 ∷ l) (w.1 ∙ ap (λ l. 33 ∷ l) t.1)))
          (before (codes "<![CDATA[") (UpTo (codes "]]>")) t.0 n.0 t.2) in
          subst (λ y. StepAt piece end c m text y) (sym g.2)
          (inr (give (ContentPiece (inner m) c) Continue text g.0
          (inr (inl (subst (λ y. Made CData (with_bytes c) text y) (sym n.2)
          (give CData (with_bytes c) text n.0 whole))))))
      go back e (inr (inr x)) =
          let g = given (Made (inner m) (with_child c)) Continue back v x in
          let n = given (inner m) (with_child c) back g.0 g.1 in
          let whole : Joined (Mark 60) (λ _. inner m) text n.0 = subst (λ l. Joined (Mark 60) (λ _. inner m) l n.0)
          (sym e) (marked 60 (inner m) back n.0 n.1) in
          subst (λ y. StepAt piece end c m text y) (sym g.2)
          (inr (give (ContentPiece (inner m) c) Continue text g.0
          (inr (inr (subst (λ y. Made (Joined (Mark 60) (λ _. inner m)) (with_child c) text y) (sym n.2)
          (give (Joined (Mark 60) (λ _. inner m)) (with_child c) text n.0 whole))))))

  bracket_of : (c : Content) (m : ℕ) (text back : Text) (v : ControlFlow (List Node) Content) → text ≡ 60 ∷ back
      → Bracketed c m back v → Factored c m text v
  bracket_of c m text back v e h =
      inl (subst (λ l. Joined (Mark 60) (λ _. Bracketed c m) l v) (sym e) (marked 60 (Bracketed c m) back v h))

  from_step : (c : Content) (m : ℕ) (text : Text) (v : ControlFlow (List Node) Content) → StepAt piece end c m text v
      → Factored c m text v
  from_step c m text v (inl h) =
      let g = given (EndTag name c) Break text v h in
      let n = given (Joined (Word (codes "</")) (λ _. NameAndClose name)) (λ _. nodes_of c) text g.0 g.1 in
      let w = behind_word (codes "</") (NameAndClose name) text n.0 n.1 in
      let slash = marked 47 (NameAndClose name) w.0 n.0 w.2 in
      let ended : Ended c m (47
      ∷ w.0) (Break g.0) = give (Made (Joined (Mark 47) (λ _. NameAndClose name)) (λ _. nodes_of c)) Break
      (47 ∷ w.0) g.0
      (subst (λ y. Made (Joined (Mark 47) (λ _. NameAndClose name)) (λ _. nodes_of c) (47 ∷ w.0) y) (sym n.2)
      (give (Joined (Mark 47) (λ _. NameAndClose name)) (λ _. nodes_of c) (47 ∷ w.0) n.0 slash)) in
      bracket_of c m text (47 ∷ w.0) v w.1 (inl (subst (λ y. Ended c m (47 ∷ w.0) y) (sym g.2) ended))
  from_step c m text v (inr h) =
      let g = given (ContentPiece (inner m) c) Continue text v h in subst (λ y. Factored c m text y) (sym g.2)
      (go g.0 g.1)
    where
      go : (x : Content) → ContentPiece (inner m) c text x → Factored c m text (Continue x)
      go x (inl b) = inr (give (Made Bytes (λ b. with_bytes c (b ∷ []))) Continue text x b)
      go x (inr (inl b)) =
          let n = given CData (with_bytes c) text x b in
          let t = behind_word (codes "<![CDATA[") (UpTo (codes "]]>")) text n.0 n.1 in
          let part = marked 33 SectionTail (codes "[CDATA[" ++ t.0) n.0
          (before (codes "[CDATA[") (UpTo (codes "]]>")) t.0 n.0 t.2) in
          bracket_of c m text (33 ∷ (codes "[CDATA[" ++ t.0)) (Continue x) t.1
          (inr (inl (give (Made (Joined (Mark 33) (λ _. SectionTail)) (with_bytes c)) Continue
          (33 ∷ (codes "[CDATA[" ++ t.0)) x
          (subst (λ y. Made (Joined (Mark 33) (λ _. SectionTail)) (with_bytes c) (33 ∷ (codes "[CDATA[" ++ t.0)) y)
          (sym n.2) (give (Joined (Mark 33) (λ _. SectionTail)) (with_bytes c)
          (33 ∷ (codes "[CDATA[" ++ t.0)) n.0 part)))))
      go x (inr (inr b)) =
          let n = given (Joined (Mark 60) (λ _. inner m)) (with_child c) text x b in
          let w = behind_mark 60 (inner m) text n.0 n.1 in
          bracket_of c m text w.0 (Continue x) w.1 (inr (inr (give (Made (inner m) (with_child c)) Continue w.0 x
          (subst (λ y. Made (inner m) (with_child c) w.0 y) (sym n.2)
          (give (inner m) (with_child c) w.0 n.0 w.2)))))

  module _ (starts : StartsIn inner is_name_start) (level : ℕ) (p : Reader Element)
      (reads : IsReader inner Anything level p) where
    ended_starts : (c : Content) → StartsIn (Ended c) (same 47)
    ended_starts c =
        made_starts (λ _. Made (Joined (Mark 47) (λ _. NameAndClose name)) (λ _. nodes_of c)) Break (same 47)
        (made_starts (JoinedAt (λ _. Mark 47) (λ _ _. NameAndClose name)) (λ _. nodes_of c) (same 47)
        (joined_starts (λ _. Mark 47) (λ _ _. NameAndClose name) (same 47) (passing_starts (same 47))))

    section_starts : (c : Content) → StartsIn (Section c) (same 33)
    section_starts c = made_starts (λ _. Made (Joined (Mark 33) (λ _. SectionTail)) (with_bytes c)) Continue (same 33)
        (made_starts (JoinedAt (λ _. Mark 33) (λ _ _. SectionTail)) (with_bytes c) (same 33)
        (joined_starts (λ _. Mark 33) (λ _ _. SectionTail) (same 33) (passing_starts (same 33))))

    nested_starts : (c : Content) → StartsIn (Nested c) is_name_start
    nested_starts c =
        made_starts (λ m. Made (inner m) (with_child c)) Continue is_name_start
        (made_starts inner (with_child c) is_name_start starts)

    abbrev in_tail : ℕ → Bool
    in_tail b = same 33 b || is_name_start b

    tail_reader : Content → Reader (ControlFlow (List Node) Content)
    tail_reader c ts =
        cond (next (same 33) (head ts)) (made (made (mark 33 >> cdata) (with_bytes c)) Continue ts)
        (made (made p (with_child c)) Continue ts)

    bracket_reads : (c : Content) → IsReader (Bracketed c) (step_stop Anything) level (bracket p name c)
    unfolding bracket tail_reader end_tag
    bracket_reads c =
        choose_reads (Ended c) (EitherAt (Section c) (Nested c)) (same 47) in_tail (step_stop Anything) level
        (made (made (mark 47 >> end_tag name) (λ _. nodes_of c)) Break) (tail_reader c)
        (ended_starts c) (or_starts (Section c) (Nested c) (same 33) is_name_start (section_starts c) (nested_starts c))
        (mark_apart in_tail 47 refl)
        (made_reads (λ _. Made (Joined (Mark 47) (λ _. NameAndClose name)) (λ _. nodes_of c)) Break
        (step_stop Anything) level (made (mark 47 >> (word name >> spaced_mark 62)) (λ _. nodes_of c))
        (made_reads (JoinedAt (λ _. Mark 47) (λ _ _. NameAndClose name)) (λ _. nodes_of c) (λ _ _. true) level
        (mark 47 >> (word name >> spaced_mark 62)) (mark_then 47 (λ _. NameAndClose name) Anything level
        (word name >> spaced_mark 62) (λ m _. (name ++ 62 ∷ [], 62, some_name_and_close name))
        (name_and_close_reads name level))))
        (choose_reads (Section c) (Nested c) (same 33) is_name_start (step_stop Anything) level
        (made (made (mark 33 >> cdata) (with_bytes c)) Continue) (made (made p (with_child c)) Continue)
        (section_starts c) (nested_starts c) (mark_apart is_name_start 33 refl)
        (made_reads (λ _. Made (Joined (Mark 33) (λ _. SectionTail)) (with_bytes c)) Continue (step_stop Anything) level
        (made (mark 33 >> cdata) (with_bytes c))
        (made_reads (JoinedAt (λ _. Mark 33) (λ _ _. SectionTail)) (with_bytes c) (λ _ _. true) level (mark 33 >> cdata)
        (mark_then 33 (λ _. SectionTail) Anything level cdata
        (λ m _. (codes "[CDATA[" ++ codes "]]>", [], some_section)) (cdata_reads level))))
        (made_reads (λ m. Made (inner m) (with_child c)) Continue (step_stop Anything) level (made p (with_child c))
        (made_reads inner (with_child c) (λ _ _. true) level p reads)))

    byte_starts : (c : Content) → StartsIn (Byte c) in_text
    byte_starts c =
        made_starts (λ _. Made Bytes (λ b. with_bytes c (b ∷ []))) Continue in_text
        (made_starts (λ _. Bytes) (λ b. with_bytes c (b ∷ [])) in_text bytes_start)

    content_steps : (c : Content) → IsReader (StepAt piece end c) (step_stop Anything) level (content_step p name c)
    unfolding content_step
    content_steps c ts =
        equal_answers ◌≤◌ same_level (Factored c) (StepAt piece end c) (step_stop Anything) level ts (to_step c)
        (from_step c) (cond (next (same 60) (head ts)) ((mark 60 >> bracket p name c) ts)
        (made (made content_byte (λ b. with_bytes c (b ∷ []))) Continue ts))
        (choose_reads (JoinedAt (λ _. Mark 60) (λ _. Bracketed c)) (Byte c) (same 60) in_text (step_stop Anything) level
        (mark 60 >> bracket p name c) (made (made content_byte (λ b. with_bytes c (b ∷ []))) Continue)
        (joined_starts (λ _. Mark 60) (λ _. Bracketed c) (same 60) (passing_starts (same 60))) (byte_starts c)
        (mark_apart in_text 60 refl)
        (mark_then 60 (Bracketed c) (step_stop Anything) level (bracket p name c)
        (λ m _. (47 ∷ (name ++ 62 ∷ []), Break (nodes_of c), some_bracketed c m)) (bracket_reads c))
        (made_reads (λ _. Made Bytes (λ b. with_bytes c (b ∷ []))) Continue (step_stop Anything) level
        (made content_byte (λ b. with_bytes c (b ∷ []))) (made_reads (λ _. Bytes) (λ b. with_bytes c (b ∷ []))
        (λ _ _. true) level content_byte (bytes_read level)))
        ts)

    piece_takes : (c : Content) → StartsIn (piece c) (λ _. true)
    piece_takes c m text x (inl h) =
        takes_byte (λ _. Made Bytes (λ b. with_bytes c (b ∷ []))) in_text
        (made_starts (λ _. Bytes) (λ b. with_bytes c (b ∷ [])) in_text bytes_start) m text x h
    piece_takes c m text x (inr (inl h)) =
        takes_byte (λ _. Made CData (with_bytes c)) (same 60)
        (made_starts (λ _. CData) (with_bytes c) (same 60) (joined_starts (λ _. Word (codes "<![CDATA["))
        (λ _ _. UpTo (codes "]]>")) (same 60) (word_starts 60 (codes "![CDATA[")))) m text x h
    piece_takes c m text x (inr (inr h)) =
        takes_byte (λ k. Made (Joined (Mark 60) (λ _. inner k)) (with_child c)) (same 60)
        (made_starts (JoinedAt (λ _. Mark 60) (λ _. inner)) (with_child c) (same 60)
        (joined_starts (λ _. Mark 60) (λ _. inner) (same 60) (passing_starts (same 60)))) m text x h

    pub inside_reads : IsReader (ClosedAt piece end no_content) Anything level (inside p name)
    unfolding inside
    inside_reads =
        closed_answers piece end Anything level piece_takes (λ m above c.
        (codes "</" ++ (name ++ 62 ∷ []), nodes_of c, some_end c)) (content_step p name) content_steps no_content

-- ---- one element, where the elements in it are read

module _ (inner : Rules Element) (starts : StartsIn inner is_name_start) (level : ℕ) (p : Reader Element)
    (reads : IsReader inner Anything level p) where
  abbrev behind_rule : StartTag → Rules Element
  behind_rule tag = λ m. BehindStart (inner m) tag.is_empty tag

  some_behind : (tag : StartTag) (m : ℕ) → (ts : Text) × (e : Element) × BehindStart (inner m) tag.is_empty tag ts e
  some_behind tag m = go tag.is_empty
    where
      go : (b : Bool) → (ts : Text) × (e : Element) × BehindStart (inner m) b tag ts e
      go true = ([], element tag [], record { empty = refl; same = refl })
      go false = (
        codes "</" ++ (tag.name ++ 62 ∷ []),
        element tag (nodes_of no_content),
        give (Closed (ContentPiece (inner m)) (EndTag tag.name) no_content) (element tag)
            (codes "</" ++ (tag.name ++ 62 ∷ [])) (nodes_of no_content)
            (record { count = 0; chain = some_end inner tag.name no_content }),
      )

  behind_reads : (tag : StartTag) → IsReader (behind_rule tag) Anything level (behind_start p tag.is_empty tag)
  unfolding behind_start
  behind_reads tag = go tag.is_empty
    where
      go : (b : Bool) → IsReader (λ m. BehindStart (inner m) b tag) Anything level (behind_start p b tag)
      go true ts = gives_answers ◌≤◌ same_level (element tag []) Anything level ts
      go false ts =
          made_reads (ClosedAt (piece inner tag.name) (end inner tag.name) no_content) (element tag) Anything level
          (inside p tag.name) (inside_reads inner tag.name starts level p reads) ts

  element_reads : IsReader (λ m. Opened (inner m)) Anything level (element_in p)
  unfolding element_in
  element_reads =
      joined_reads (λ _. Start) behind_rule Anything level start (λ tag. behind_start p tag.is_empty tag)
      (start_reads level) (λ m above tag. some_behind tag m) behind_reads

pub opened_starts : StartsIn IsOpened is_name_start
opened_starts zero text e none = absurd none
opened_starts (suc m) text e h =
    joined_starts (λ _. Start) (λ tag _. BehindStart (IsOpened m) tag.is_empty tag) is_name_start start_starts m text e
    h

-- ---- one level more

raised : (n : ℕ) (ts : List ℕ) (o : Outcome Element) → Answers (λ l. Opened (IsOpened l)) Anything n ts o
    → Answers IsOpened Anything (suc n) ts o
raised n ts =
    under_answers (λ l. Opened (IsOpened l)) IsOpened Anything n ts (λ text a h. h) (λ k text a h. h) (λ k text a h. h)

-- no level is left: refused with the first byte of a name
no_level_reads : IsReader IsOpened Anything 0 no_level
unfolding no_level refuse
no_level_reads [] =
    refused_here ◌≤◌ same_level IsOpened Anything 0 [] (λ m us e a q begins. let t = begun IsOpened is_name_start
    opened_starts m begins.text q a begins.spelled in
    let u : next is_name_start (head us) ≡ true = ap (λ l. next is_name_start (head l)) begins.split ∙ t in
    let v : next is_name_start (head us) ≡ false = ap (next is_name_start) e in absurd (cc))
no_level_reads (b ∷ bs) = go (is_name_start b) refl
  where
    go : (v : Bool) → is_name_start b ≡ v
        → Answers IsOpened Anything 0 (b
        ∷ bs) (cond v (Err (TooDeep (length (b ∷ bs)))) (Err (Unexpected (length (b ∷ bs)))))
    go false is =
        refused_here ◌≤◌ same_level IsOpened Anything 0 (b ∷ bs)
        (λ m us e a q begins. let t = begun IsOpened is_name_start opened_starts m begins.text q a begins.spelled in
        let u : next is_name_start (head us) ≡ true = ap (λ l. next is_name_start (head l)) begins.split ∙ t in
        let v : next is_name_start (head us) ≡ false = ap (next is_name_start) e ∙ is in absurd (cc))
    go true is =
        too_deep_answers ◌≤◌ same_level IsOpened Anything 0 (b ∷ bs) (λ text a h. h)
        (1, (omega arith), b, bs, 47 ∷ 62 ∷ [], element (start_tag (b ∷ []) true no_attribute) [], refl, some_at_one)
      where
        some_at_one : IsOpened 1 (b ∷ 47 ∷ 62 ∷ []) (element (start_tag (b ∷ []) true no_attribute) [])
        some_at_one =
            record {
              front = b ∷ 47 ∷ 62
                  ∷ [];
              back = [];
              value = start_tag (b ∷ []) true no_attribute;
              split = refl;
              one = some_empty_start b is;
              other = record { empty = refl; same = refl };
            }

pub opened_reads : (level : ℕ) → IsReader IsOpened Anything level (opened level)
unfolding opened
opened_reads zero ts = no_level_reads ts
opened_reads (suc level) ts =
    raised level ts (element_in (opened level) ts) (element_reads IsOpened opened_starts level (opened level)
    (opened_reads level) ts)

-- an element with no content, at each level but the last
pub can_open : (level : ℕ) → 0 < level → Can IsOpened level
can_open level some zero above = absurd (omega arith)
can_open level some (suc m) above = (
  97 ∷ 47 ∷ 62 ∷ [],
  element (start_tag (97 ∷ []) true no_attribute) [],
  record {
    front = 97 ∷ 47 ∷ 62
        ∷ [];
    back = [];
    value = start_tag (97 ∷ []) true no_attribute;
    split = refl;
    one = some_empty_start 97 refl;
    other = record { empty = refl; same = refl };
  },
)
