-- The readers of whole texts, and of their heads.
use Rattle.std.specs.declared.ops.ControlFlow.{ControlFlow}
use Rattle.std.specs.declared.ops.ControlFlow.TheVariants.{Continue, Break}
use Rattle.std.proofs.Common.{◌≤◌, ◌≡◌, ◌⊎◌, inl, inr, ℕ, zero, suc, ◌<◌, Bool, true, false, not, ◌||◌, [], ◌∷◌, ◌++◌, length, Option, Some, None, Ok, Err, sym, refl, ap, ◌∙◌, subst, append-nil, cond, codes, arith}
use Rattle.dp_grammar.specs.declared.refusal.Refusal.TheVariants.{Unexpected}
use Rattle.dp_markup.specs.declared.tree.Element.{Element}
use Rattle.dp_markup.specs.declared.states.StartTag.{StartTag}
use Rattle.dp_markup.specs.inner.Input.{head, next, Outcome, Reader, and_then, gives, made, refuse, ◌>>=◌, ◌>>◌, one, mark, word, until, next_of}
use Rattle.dp_markup.specs.Rules.{Rule, Joined, Gives, Made, passing, Mark, Word, When, Closed}
use Rattle.dp_markup.specs.Classes.{is_white, is_name_start}
use Rattle.dp_markup.specs.Grammar.{Text, White, UpTo, Comment, Misc, Declaration, PrologPiece, Prolog, IsOpened, Document, Start, Head, no_attribute, start_tag}
use Rattle.dp_markup.specs.inner.Readers.{same, comment, declaration, prolog_bracket, prolog_step, prolog, misc, trail_step, trail, opened, document, start, head_of}
use Rattle.dp_grammar.proofs.Answers.{one_answers, gives_answers, joined_answers, equal_answers, when_answers}
use Rattle.dp_markup.proofs.Answers.{Rules, Anything, JoinedAt, EitherAt, StepAt, StartsIn, Follows, either_answers, joined_starts, same_level, give, given}
use Rattle.dp_markup.proofs.Loops.{step_stop, closed_answers}
use Rattle.dp_markup.proofs.Basics.{IsReader, Can, apart_mark, mark_apart, apart_or, apart_white, flip, passing_starts, mark_of, mark_is, before, behind_word, marked, behind_mark, word_starts, made_starts, joined_reads, made_reads, choose_reads, mark_then, word_then, takes_byte}
use Rattle.dp_markup.proofs.Parts.{or_starts}
use Rattle.dp_markup.proofs.Tags.{start_reads, start_starts, some_empty_start, CommentTail, comment_reads, some_comment, DeclarationTail, declaration_reads, some_declaration}
use Rattle.dp_markup.proofs.Nested.{opened_reads, opened_starts, can_open}

-- ---- white space and comments

to_comment : (text v : Text) → Joined (Word (codes "<!")) (λ _. CommentTail) text v → Comment text v
to_comment text v j =
    let a = behind_word (codes "<!") CommentTail text v j in
    let b = behind_word (codes "--") (UpTo (codes "-->")) a.0 v a.2 in
    subst (λ l. Comment l v) (sym (a.1 ∙ ap (λ l. codes "<!" ++ l) b.1))
    (before (codes "<!--") (UpTo (codes "-->")) b.0 v b.2)

from_comment : (text v : Text) → Comment text v → Joined (Word (codes "<!")) (λ _. CommentTail) text v
from_comment text v j =
    let a = behind_word (codes "<!--") (UpTo (codes "-->")) text v j in
    subst (λ l. Joined (Word (codes "<!")) (λ _. CommentTail) l v) (sym a.1)
    (before (codes "<!") CommentTail (codes "--" ++ a.0) v (before (codes "--") (UpTo (codes "-->")) a.0 v a.2))

comment_starts : StartsIn (λ _. Comment) (same 60)
comment_starts =
    joined_starts (λ _. Word (codes "<!--")) (λ _ _. UpTo (codes "-->")) (same 60) (word_starts 60 (codes "!--"))

whole_comment_reads : (level : ℕ) → IsReader (λ _. Comment) Anything level (word (codes "<!") >> comment)
whole_comment_reads level ts =
    equal_answers ◌≤◌ same_level (λ _. Joined (Word (codes "<!")) (λ _. CommentTail)) (λ _. Comment) Anything level ts
    (λ m. to_comment) (λ m. from_comment) ((word (codes "<!") >> comment) ts)
    (word_then (codes "<!") (λ _. CommentTail) Anything level comment
    (λ m _. (codes "--" ++ codes "-->", [], some_comment)) (comment_reads level) ts)

abbrev white_or : ℕ → Bool
white_or b = is_white b || same 60 b

misc_starts : StartsIn (λ _. Misc) white_or
misc_starts =
    or_starts (λ _. Made White (λ _. tt)) (λ _. Made Comment (λ _. tt)) is_white (same 60)
    (made_starts (λ _. White) (λ _. tt) is_white (passing_starts is_white))
    (made_starts (λ _. Comment) (λ _. tt) (same 60) comment_starts)

misc_reads : (level : ℕ) → IsReader (λ _. Misc) Anything level misc
unfolding misc
misc_reads level =
    choose_reads (λ _. Made White (λ _. tt)) (λ _. Made Comment (λ _. tt)) is_white (same 60) Anything level
    (made (one (passing is_white)) (λ _. tt)) (made (word (codes "<!") >> comment) (λ _. tt))
    (made_starts (λ _. White) (λ _. tt) is_white (passing_starts is_white))
    (made_starts (λ _. Comment) (λ _. tt) (same 60) comment_starts)
    (flip is_white (same 60) (apart_white (same 60) refl refl refl refl))
    (made_reads (λ _. White) (λ _. tt) Anything level (one (passing is_white))
    (one_answers ◌≤◌ same_level (passing is_white) (λ _ _. true) level))
    (made_reads (λ _. Comment) (λ _. tt) Anything level (word (codes "<!") >> comment) (whole_comment_reads level))

-- ---- what stands before the root

abbrev in_mark : ℕ → Bool
in_mark b = same 33 b || same 63 b

-- The root's `<` may end the prolog where neither `!` nor `?` comes next.
abbrev pub prolog_stop : ℕ → Option ℕ → Bool
prolog_stop a o = not (next in_mark o)

neither : (u v : Bool) → not (u || v) ≡ true → (u ≡ false) × (v ≡ false)
neither true v is = absurd (cc)
neither false true is = absurd (cc)
neither false false is = (refl, refl)

stop_is : (o : Option ℕ) → prolog_stop 60 o ≡ true → (next (same 33) o ≡ false) × (next (same 63) o ≡ false)
stop_is None is = (refl, refl)
stop_is (Some b) is = neither (same 33 b) (same 63 b) is

abbrev piece : Bool → Rules Bool
piece at_first = λ _. PrologPiece at_first

abbrev end : Bool → Rules ℕ
end at_first = λ _. Mark 60

abbrev Flow : Type 0
Flow = ControlFlow ℕ Bool

abbrev at_root : ℕ → Flow
at_root a = Break a

abbrev CommentStep : Rules Flow
CommentStep = λ _. Made (Made (Joined (Mark 33) (λ _. CommentTail)) (λ _. false)) Continue

abbrev Declared : Rules Flow
Declared = λ _. Made (Made (Joined (Mark 63) (λ _. DeclarationTail)) (λ _. false)) Continue

abbrev DeclarationStep : Bool → Rules Flow
DeclarationStep at_first = λ m. When at_first (Declared m)

abbrev RootStep : Rules Flow
RootStep = λ _. Made (Gives 60) Break

abbrev Bracketed : Bool → Rules Flow
Bracketed at_first = EitherAt CommentStep (EitherAt (DeclarationStep at_first) RootStep)

abbrev WhiteStep : Rules Flow
WhiteStep = λ _. Made (Made White (λ _. false)) Continue

abbrev Factored : Bool → Rules Flow
Factored at_first = EitherAt (JoinedAt (λ _. Mark 60) (λ _. Bracketed at_first)) WhiteStep

to_step : (at_first : Bool) (m : ℕ) (text : Text) (v : Flow) → Factored at_first m text v
    → StepAt piece end at_first m text v
to_step at_first m text v (inr h) =
    let g = given (Made White (λ _. false)) Continue text v h in
    let n = given White (λ _. false) text g.0 g.1 in
    subst (λ x. StepAt piece end at_first m text x) (sym g.2)
    (inr (give (PrologPiece at_first) Continue text g.0 (inl
    (subst (λ x. Made Misc (λ _. false) text x) (sym n.2)
    (give Misc (λ _. false) text tt (inl (give White (λ _. tt) text n.0 n.1)))))))
to_step at_first m text v (inl h) = let b = behind_mark 60 (Bracketed at_first m) text v h in go b.0 b.1 b.2
  where
    go : (back : Text) → text ≡ 60 ∷ back → Bracketed at_first m back v → StepAt piece end at_first m text v
    go back e (inl x) =
        let g = given (Made (Joined (Mark 33) (λ _. CommentTail)) (λ _. false)) Continue back v x in
        let n = given (Joined (Mark 33) (λ _. CommentTail)) (λ _. false) back g.0 g.1 in
        let w = behind_mark 33 CommentTail back n.0 n.1 in
        let whole : Comment text n.0 = to_comment text n.0 (subst
        (λ l. Joined (Word (codes "<!")) (λ _. CommentTail) l n.0) (sym (e ∙ ap (λ l. 60 ∷ l) w.1))
        (before (codes "<!") CommentTail w.0 n.0 w.2)) in
        subst (λ y. StepAt piece end at_first m text y) (sym g.2)
        (inr (give (PrologPiece at_first) Continue text g.0
        (inl (subst (λ y. Made Misc (λ _. false) text y) (sym n.2)
        (give Misc (λ _. false) text tt (inr (give Comment (λ _. tt) text n.0 whole)))))))
    go back e (inr (inl x)) =
        let g = given (Made (Joined (Mark 63) (λ _. DeclarationTail)) (λ _. false)) Continue back v x.spelled in
        let n = given (Joined (Mark 63) (λ _. DeclarationTail)) (λ _. false) back g.0 g.1 in
        let w = behind_mark 63 DeclarationTail back n.0 n.1 in
        let t = behind_word (codes "xml") (Joined White (λ _. UpTo (codes "?>"))) w.0 n.0 w.2 in
        let whole : Declaration text n.0 = subst (λ l. Declaration l n.0)
        (sym (e ∙ ap (λ l. 60 ∷ l) (w.1 ∙ ap (λ l. 63 ∷ l) t.1)))
        (before (codes "<?xml") (Joined White (λ _. UpTo (codes "?>"))) t.0 n.0 t.2) in
        subst (λ y. StepAt piece end at_first m text y) (sym g.2)
        (inr (give (PrologPiece at_first) Continue text g.0
        (inr (record {
          holds = x.holds;
          spelled = subst (λ y. Made Declaration (λ _. false) text y) (sym n.2)
              (give Declaration (λ _. false) text n.0 whole);
        }))))
    go back e (inr (inr x)) =
        let g = given (Gives 60) Break back v x in
        let there : text ≡ 60 ∷ [] = e ∙ ap (λ l. 60 ∷ l) g.1.empty in
        subst (λ y. StepAt piece end at_first m text y) (sym g.2)
        (inl (give (Mark 60) Break text g.0 (subst (λ y. Mark 60 text y) (sym g.1.same)
        (subst (λ l. Mark 60 l 60) (sym there) (mark_of 60)))))

bracket_of : (at_first : Bool) (m : ℕ) (text back : Text) (v : Flow) → text ≡ 60 ∷ back → Bracketed at_first m back v
    → Factored at_first m text v
bracket_of at_first m text back v e h =
    inl (subst (λ l. Joined (Mark 60) (λ _. Bracketed at_first m) l v) (sym e)
    (marked 60 (Bracketed at_first m) back v h))

from_step : (at_first : Bool) (m : ℕ) (text : Text) (v : Flow) → StepAt piece end at_first m text v
    → Factored at_first m text v
from_step at_first m text v (inl h) =
    let g = given (Mark 60) Break text v h in
    let w = mark_is 60 text g.0 g.1 in
    bracket_of at_first m text [] v w.0 (inr (inr (subst (λ y. RootStep m [] y) (sym (g.2 ∙ ap Break w.1))
    (give (Gives 60) Break [] 60 (record { empty = refl; same = refl })))))
from_step at_first m text v (inr h) =
    let g = given (PrologPiece at_first) Continue text v h in subst (λ y. Factored at_first m text y) (sym g.2)
    (go g.0 g.1)
  where
    go : (x : Bool) → PrologPiece at_first text x → Factored at_first m text (Continue x)
    go x (inl h) =
        let n = given Misc (λ _. false) text x h in subst (λ y. Factored at_first m text (Continue y)) (sym n.2)
        (which n.1)
      where
        which : Misc text _ → Factored at_first m text (Continue false)
        which (inl w) =
            let k = given White (λ _. tt) text _ w in inr (give (Made White (λ _. false)) Continue text false
            (give White (λ _. false) text k.0 k.1))
        which (inr c) =
            let k = given Comment (λ _. tt) text _ c in
            let a = behind_word (codes "<!") CommentTail text k.0 (from_comment text k.0 k.1) in
            bracket_of at_first m text (33 ∷ a.0) (Continue false) a.1
            (inl (give (Made (Joined (Mark 33) (λ _. CommentTail)) (λ _. false)) Continue (33 ∷ a.0) false
            (give (Joined (Mark 33) (λ _. CommentTail)) (λ _. false) (33 ∷ a.0) k.0
            (marked 33 CommentTail a.0 k.0 a.2))))
    go x (inr h) =
        let k = given Declaration (λ _. false) text x h.spelled in
        let a = behind_word (codes "<?xml") (Joined White (λ _. UpTo (codes "?>"))) text k.0 k.1 in
        let part : DeclarationTail (codes "xml" ++ a.0) k.0 = before (codes "xml")
        (Joined White (λ _. UpTo (codes "?>"))) a.0 k.0 a.2 in
        subst (λ y. Factored at_first m text (Continue y)) (sym k.2)
        (bracket_of at_first m text (63 ∷ (codes "xml" ++ a.0)) (Continue false) a.1
        (inr (inl (record {
          holds = h.holds;
          spelled = give
              (Made (Joined (Mark 63) (λ _. DeclarationTail)) (λ _. false)) Continue (63 ∷ (codes "xml" ++ a.0)) false
              (give (Joined (Mark 63) (λ _. DeclarationTail)) (λ _. false) (63 ∷ (codes "xml" ++ a.0)) k.0
              (marked 63 DeclarationTail (codes "xml" ++ a.0) k.0 part));
        }))))

comment_step_starts : StartsIn CommentStep (same 33)
comment_step_starts =
    made_starts (λ _. Made (Joined (Mark 33) (λ _. CommentTail)) (λ _. false)) Continue (same 33)
    (made_starts (JoinedAt (λ _. Mark 33) (λ _ _. CommentTail)) (λ _. false) (same 33)
    (joined_starts (λ _. Mark 33) (λ _ _. CommentTail) (same 33) (passing_starts (same 33))))

declaration_step_starts : (at_first : Bool) → StartsIn (DeclarationStep at_first) (same 63)
declaration_step_starts at_first m text a h =
    made_starts (λ _. Made (Joined (Mark 63) (λ _. DeclarationTail)) (λ _. false)) Continue (same 63)
    (made_starts (JoinedAt (λ _. Mark 63) (λ _ _. DeclarationTail)) (λ _. false) (same 63)
    (joined_starts (λ _. Mark 63) (λ _ _. DeclarationTail) (same 63) (passing_starts (same 63)))) m text a h.spelled

white_step_starts : StartsIn WhiteStep is_white
white_step_starts =
    made_starts (λ _. Made White (λ _. false)) Continue is_white
    (made_starts (λ _. White) (λ _. false) is_white (passing_starts is_white))

-- the root's `<` is behind us, and neither `!` nor `?` comes next
root_apart : (s : ℕ → Bool) → ((o : Option ℕ) → prolog_stop 60 o ≡ true → next s o ≡ false)
    → (m : ℕ) (text : Text) (a : Flow) (r : Text) → RootStep m text a
    → step_stop {A = Bool} prolog_stop a (head r) ≡ true → next s (head (text ++ r)) ≡ false
root_apart s stops m text a r h is =
    let g = given (Gives 60) Break text a h in
    let e : a ≡ Break g.0 = g.2 in
    let there : step_stop {A = Bool} prolog_stop (Break g.0) (head r) ≡ true = ap
    (λ v. step_stop {A = Bool} prolog_stop v (head r)) (sym e) ∙ is in
    ap (λ l. next s (head (l ++ r))) g.1.empty ∙ stops (head r) there

tail_reader : Bool → Reader Flow
tail_reader at_first ts =
    cond (next (same 63) (head ts)) (cond at_first (made (made (mark 63 >> declaration) (λ _. false)) Continue ts)
    (Err (Unexpected (length ts)))) (Ok (Break 60, ts))

tail_reads : (at_first : Bool) (level : ℕ)
    → IsReader (EitherAt (DeclarationStep at_first) RootStep) (step_stop prolog_stop) level (tail_reader at_first)
unfolding tail_reader
tail_reads at_first level ts =
    either_answers (DeclarationStep at_first) RootStep (same 63) (step_stop prolog_stop) level ts
    (declaration_step_starts at_first)
    (root_apart (same 63) (λ o is. (stop_is o is).1))
    (cond at_first (made (made (mark 63 >> declaration) (λ _. false)) Continue ts) (Err (Unexpected (length ts))))
    (Ok (Break 60, ts))
    (λ _. when_answers ◌≤◌ same_level at_first Declared (step_stop prolog_stop) level ts
    (made (made (mark 63 >> declaration) (λ _. false)) Continue ts)
    (λ _. made_reads (λ _. Made (Joined (Mark 63) (λ _. DeclarationTail)) (λ _. false)) Continue
    (step_stop prolog_stop) level (made (mark 63 >> declaration) (λ _. false))
    (made_reads (JoinedAt (λ _. Mark 63) (λ _ _. DeclarationTail)) (λ _. false) (λ _ _. true) level
    (mark 63 >> declaration) (mark_then 63 (λ _. DeclarationTail) Anything level declaration
    (λ m _. (codes "xml" ++ (32 ∷ codes "?>"), [], some_declaration)) (declaration_reads level))) ts))
    (λ _. made_reads (λ _. Gives 60) Break (step_stop prolog_stop) level (gives 60)
    (λ us. gives_answers ◌≤◌ same_level 60 (λ a. step_stop prolog_stop (at_root a)) level us) ts)

bracket_reads : (at_first : Bool) (level : ℕ)
    → IsReader (Bracketed at_first) (step_stop prolog_stop) level (prolog_bracket at_first)
unfolding prolog_bracket refuse tail_reader
bracket_reads at_first level ts =
    either_answers CommentStep (EitherAt (DeclarationStep at_first) RootStep) (same 33)
    (step_stop prolog_stop) level ts comment_step_starts apart
    (made (made (mark 33 >> comment) (λ _. false)) Continue ts) (tail_reader at_first ts)
    (λ _. made_reads (λ _. Made (Joined (Mark 33) (λ _. CommentTail)) (λ _. false)) Continue
    (step_stop prolog_stop) level (made (mark 33 >> comment) (λ _. false))
    (made_reads (JoinedAt (λ _. Mark 33) (λ _ _. CommentTail)) (λ _. false) (λ _ _. true) level (mark 33 >> comment)
    (mark_then 33 (λ _. CommentTail) Anything level comment (λ m _. (codes "--" ++ codes "-->", [], some_comment))
    (comment_reads level))) ts)
    (λ _. tail_reads at_first level ts)
  where
    apart : (m : ℕ) (text : Text) (a : Flow) (r : Text) → EitherAt (DeclarationStep at_first) RootStep m text a
        → step_stop {A = Bool} prolog_stop a (head r) ≡ true → next (same 33) (head (text ++ r)) ≡ false
    apart m text a r (inl h) is =
        let x = declaration_step_starts at_first m text a h in ap (λ l. next (same 33) (head (l ++ r))) x.2
        ∙ mark_apart (same 63) 33 refl x.0 x.3
    apart m text a r (inr h) is = root_apart (same 33) (λ o stops. (stop_is o stops).0) m text a r h is

prolog_steps : (level : ℕ) (at_first : Bool)
    → IsReader (StepAt piece end at_first) (step_stop prolog_stop) level (prolog_step at_first)
unfolding prolog_step
prolog_steps level at_first ts =
    equal_answers ◌≤◌ same_level (Factored at_first) (StepAt piece end at_first) (step_stop prolog_stop) level ts
    (to_step at_first) (from_step at_first)
    (cond (next (same 60) (head ts)) ((mark 60 >> prolog_bracket at_first) ts)
    (made (made (one (passing is_white)) (λ _. false)) Continue ts))
    (choose_reads (JoinedAt (λ _. Mark 60) (λ _. Bracketed at_first)) WhiteStep (same 60) is_white
    (step_stop prolog_stop) level (mark 60 >> prolog_bracket at_first)
    (made (made (one (passing is_white)) (λ _. false)) Continue)
    (joined_starts (λ _. Mark 60) (λ _. Bracketed at_first) (same 60) (passing_starts (same 60))) white_step_starts
    (apart_white (same 60) refl refl refl refl)
    (mark_then 60 (Bracketed at_first) (step_stop prolog_stop) level (prolog_bracket at_first)
    (λ m _. ([], Break 60, inr (inr (give (Gives 60) Break [] 60 (record { empty = refl; same = refl })))))
    (bracket_reads at_first level))
    (made_reads (λ _. Made White (λ _. false)) Continue (step_stop prolog_stop) level
    (made (one (passing is_white)) (λ _. false)) (made_reads (λ _. White) (λ _. false) (λ _ _. true) level
    (one (passing is_white)) (one_answers ◌≤◌ same_level (passing is_white) (λ _ _. true) level)))
    ts)

prolog_takes : (at_first : Bool) → StartsIn (piece at_first) (λ _. true)
prolog_takes at_first m text x (inl h) =
    takes_byte (λ _. Made Misc (λ _. false)) white_or (made_starts (λ _. Misc) (λ _. false) white_or misc_starts) m text
    x h
prolog_takes at_first m text x (inr h) =
    takes_byte (λ _. Made Declaration (λ _. false)) (same 60)
    (made_starts (λ _. Declaration) (λ _. false) (same 60) (joined_starts (λ _. Word (codes "<?xml"))
    (λ _ _. Joined White (λ _. UpTo (codes "?>"))) (same 60) (word_starts 60 (codes "?xml")))) m text x h.spelled

prolog_reads : (level : ℕ) → IsReader (λ _. Prolog) prolog_stop level prolog
unfolding prolog
prolog_reads level =
    closed_answers piece end prolog_stop level prolog_takes (λ m above at_first. (60 ∷ [], 60, mark_of 60)) prolog_step
    (prolog_steps level) true

-- what begins with a name follows the prolog
follows_prolog : {B : Type 0} (second : Rules B) → StartsIn second is_name_start
    → Follows prolog_stop (λ _. second) Anything
follows_prolog second starts m a ts b r h is =
    let x = starts m ts b h in
    ap (λ l. not (next in_mark (head (l ++ r)))) x.2
    ∙ ap not (flip in_mark is_name_start (apart_or (same 33) (same 63) is_name_start
    (apart_mark is_name_start 33 refl) (apart_mark is_name_start 63 refl)) x.0 x.3)

-- ---- what stands behind the root

abbrev pub at_end : {A : Type 0} → A → Option ℕ → Bool
at_end a None = true
at_end a (Some b) = false

abbrev behind_piece : Element → Rules Element
behind_piece e = λ _. Made Misc (λ _. e)

abbrev behind_end : Element → Rules Element
behind_end e = λ _. Gives e

abbrev TrailFlow : Type 0
TrailFlow = ControlFlow Element Element

abbrev at_trail_end : Element → TrailFlow
at_trail_end e = Break e

abbrev on_with : Element → TrailFlow
on_with e = Continue e

at_end_is : (e : Element) (o : Option ℕ) → at_end e o ≡ true → next (λ _. true) o ≡ false
at_end_is e None is = refl
at_end_is e (Some b) is = absurd (cc)

trail_steps : (level : ℕ) (e : Element)
    → IsReader (StepAt behind_piece behind_end e) (step_stop {A = Element} at_end) level (trail_step e)
unfolding trail_step
trail_steps level e ts =
    equal_answers ◌≤◌ same_level (EitherAt (λ _. Made (Made Misc (λ _. e)) Continue) (λ _. Made (Gives e) Break))
    (StepAt behind_piece behind_end e) (step_stop {A = Element} at_end) level ts
    (λ m text a h. swapped h) (λ m text a h. swapped h)
    (cond (next (λ _. true) (head ts)) (made (made misc (λ _. e)) Continue ts) (Ok (Break e, ts)))
    (either_answers (λ _. Made (Made Misc (λ _. e)) Continue) (λ _. Made (Gives e) Break) (λ _. true)
    (step_stop {A = Element} at_end) level ts
    (takes_byte (λ _. Made (Made Misc (λ _. e)) Continue) white_or
    (made_starts (λ _. Made Misc (λ _. e)) Continue white_or
    (made_starts (λ _. Misc) (λ _. e) white_or misc_starts)))
    apart (made (made misc (λ _. e)) Continue ts) (Ok (Break e, ts))
    (λ _. made_reads (λ _. Made Misc (λ _. e)) Continue (step_stop {A = Element} at_end) level (made misc (λ _. e))
    (made_reads (λ _. Misc) (λ _. e) (λ _ _. true) level misc (misc_reads level)) ts)
    (λ _. made_reads (λ _. Gives e) Break (step_stop {A = Element} at_end) level (gives e)
    (λ us. gives_answers ◌≤◌ same_level e (λ a. step_stop {A = Element} at_end (at_trail_end a)) level us) ts))
  where
    swapped : {X Y : Type 0} → X ⊎ Y → Y ⊎ X
    swapped (inl x) = inr x
    swapped (inr y) = inl y

    apart : (m : ℕ) (text : Text) (a : TrailFlow) (r : Text) → Made (Gives e) Break text a
        → step_stop {A = Element} at_end a (head r) ≡ true → next (λ _. true) (head (text ++ r)) ≡ false
    apart m text a r h is =
        let g = given (Gives e) Break text a h in
        let b : a ≡ Break g.0 = g.2 in
        let there : step_stop {A = Element} at_end (Break g.0) (head r) ≡ true = ap
        (λ v. step_stop {A = Element} at_end v (head r)) (sym b) ∙ is in
        ap (λ l. next (λ _. true) (head (l ++ r))) g.1.empty ∙ at_end_is g.0 (head r) there

abbrev TrailRule : Element → Rule Element
TrailRule e = Closed (λ x. Made Misc (λ _. x)) (λ x. Gives x) e

trail_reads : (level : ℕ) (e : Element) → IsReader (λ _. TrailRule e) at_end level (trail e)
unfolding trail
trail_reads level e = closed_answers behind_piece behind_end at_end level
    (λ x. takes_byte (behind_piece x) white_or (made_starts (λ _. Misc) (λ _. x) white_or misc_starts))
    (λ m above x. ([], x, record { empty = refl; same = refl })) trail_step (trail_steps level) e

-- ---- whole texts

abbrev Root : Rules Element
Root = JoinedAt IsOpened (λ e _. TrailRule e)

root_reads : (level : ℕ) → IsReader Root at_end level (opened level >>= trail)
root_reads level =
    joined_reads IsOpened (λ e _. TrailRule e) at_end level (opened level) trail (opened_reads level)
    (λ m above e. ([], e, record { count = 0; chain = record { empty = refl; same = refl } })) (trail_reads level)

root_starts : StartsIn Root is_name_start
root_starts = joined_starts IsOpened (λ e _. TrailRule e) is_name_start opened_starts

-- a whole text, behind its prolog
some_root : (level : ℕ) → 0 < level → Can Root level
some_root level some m above =
    let o = can_open level some m above in (
      o.0,
      o.1,
      record {
        front = o.0;
        back = [];
        value = o.1;
        split = sym
            (append-nil o.0);
        one = o.2;
        other = record { count = 0; chain = record { empty = refl; same = refl } };
      },
    )

some_prolog : Prolog (60 ∷ []) 60
some_prolog = record { count = 0; chain = mark_of 60 }

pub some_document : (level : ℕ) → 0 < level → (ts : Text) × (e : Element) × Document level ts e
some_document level some =
    let r = some_root level some level (omega arith) in (
      60
          ∷ r.0,
      r.1,
      record { front = 60 ∷ []; back = r.0; value = 60; split = refl; one = some_prolog; other = r.2 },
    )

follows_root : Follows prolog_stop (λ _. Root) at_end
follows_root m a ts b r h is = follows_prolog Root root_starts m a ts b r h refl

pub document_reads : (level : ℕ) → 0 < level → IsReader Document at_end level (document level)
unfolding document
document_reads level some ts =
    joined_answers ◌≤◌ same_level (λ _. Prolog) (λ _. Root) prolog_stop at_end level ts follows_root (prolog ts)
    (λ _. opened level >>= trail) (λ m above _. some_root level some m above) (prolog_reads level ts)
    (λ _ r _. root_reads level r)

-- ---- heads

pub some_head : (ts : Text) × (tag : StartTag) × Head ts tag
some_head = (
  60 ∷ 97 ∷ 47 ∷ 62 ∷ [],
  start_tag (97 ∷ []) true no_attribute,
  record {
    front = 60 ∷ [];
    back = 97 ∷ 47 ∷ 62
        ∷ [];
    value = 60;
    split = refl;
    one = some_prolog;
    other = some_empty_start 97 refl;
  },
)

pub head_reads : (level : ℕ) → IsReader (λ _. Head) Anything level head_of
unfolding head_of
head_reads level ts =
    joined_answers ◌≤◌ same_level (λ _. Prolog) (λ _ _. Start) prolog_stop Anything level ts
    (follows_prolog (λ _. Start) start_starts) (prolog ts) (λ _. start)
    (λ m above _. (97 ∷ 47 ∷ 62 ∷ [], start_tag (97 ∷ []) true no_attribute, some_empty_start 97 refl))
    (prolog_reads level ts) (λ _ r _. start_reads level r)

-- ---- the reader of whole texts leaves nothing

trail_ends : (count : ℕ) (e : Element) (ts : Text) (x : Element × Text) → until trail_step count e ts ≡ Ok x → x.1 ≡ []
unfolding until trail_step
trail_ends zero e ts x is = absurd (cc)
trail_ends (suc count) e [] x is = let v : Element × Text = (e, []) in let same : v ≡ x = cc in ap (λ p. p.1) (sym same)
trail_ends (suc count) e (b ∷ bs) x is = go (λ us. trail_ends count e us x) (misc (b ∷ bs)) is
  where
    go : ((us : Text) → until trail_step count e us ≡ Ok x → x.1 ≡ []) → (o : Outcome (Unit {0}))
        → and_then (and_then (and_then o (λ _. gives e)) (λ v. gives (on_with v)))
        (next_of (until trail_step count)) ≡ Ok x → x.1 ≡ []
    go again (Ok p) is = again p.1 is
    go again (Err r) is = absurd (cc)

pub document_ends : (level : ℕ) (ts : Text) (x : Element × Text) → document level ts ≡ Ok x → x.1 ≡ []
unfolding document trail
document_ends level ts x is = go (prolog ts) is
  where
    root : (o : Outcome Element) → and_then o trail ≡ Ok x → x.1 ≡ []
    root (Ok p) is = trail_ends (suc (length p.1)) p.0 p.1 x is
    root (Err r) is = absurd (cc)

    go : (o : Outcome ℕ) → and_then o (λ _. opened level >>= trail) ≡ Ok x → x.1 ≡ []
    go (Ok p) is = root (opened level p.1) is
    go (Err r) is = absurd (cc)
