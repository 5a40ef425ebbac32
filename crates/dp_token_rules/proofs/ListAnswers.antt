-- Lists with commas between their items.
use Rattle.std.specs.declared.ops.ControlFlow.{ControlFlow}
use Rattle.std.specs.declared.ops.ControlFlow.TheVariants.{Continue, Break}
use Rattle.std.proofs.Common.{◌≡◌, inl, inr, ℕ, Bool, true, false, ◌||◌, List, [], ◌∷◌, ◌++◌, Some, None, sym, refl, ap, ◌∙◌, subst, cond}
use Rattle.dp_lexer.specs.declared.token.Token.{Token}
use Rattle.dp_token_rules.specs.declared.terminal.Terminal.TheVariants.{Of}
use Rattle.dp_lexer.specs.declared.token.Word.TheVariants as word
use Rattle.dp_token_rules.specs.declared.terminal.Terminal.{Terminal}
use Rattle.dp_token_rules.specs.Terminals.{terminal_of, same_terminal, is, head}
use Rattle.dp_token_rules.specs.inner.Input.{Reader, and_then, made, mark, closed, ◌>>◌}
use Rattle.dp_token_rules.specs.Rules.{Rule, Joined, Made, Mark, Perhaps}
use Rattle.dp_token_rules.specs.Lists.{NextItem, ItemsUpTo, PlainItems, SomeItems, NoItems, AnyPlainItems, AnyItems}
use Rattle.dp_token_rules.specs.inner.ListReaders.{next_item, last_item, plain_step, behind_comma, comma_step, plain_items, some_items, no_items, any_plain_items, any_items}
use Rattle.dp_token_rules.proofs.Terminals.{or_left, or_right, mark_passes, mark_fails, mark_apart, mark_of}
use Rattle.dp_token_rules.proofs.Answers.{Rules, Stop, Anything, JoinedAt, EitherAt, MarkAt, MadeAt, ClosedAt, StepAt, Answers, Follows, Can, GoesOn, StartsIn, Apart, give, given, behind, mark_starts, joined_starts, made_starts, either_starts, starts_in_more, starts_apart, anything_follows, starts_follow, mark_answers, joined_answers, made_answers, equal_answers, either_answers}
use Rattle.dp_token_rules.proofs.Loops.{step_stop, closed_now, closed_follows, closed_goes_on, closed_answers}

-- ---- the lists as rules at each level

abbrev pub NextItemAt : {L A : Type 0} → (List A → Rules L A) → List A → Rules L (List A)
NextItemAt item all = λ m. NextItem (λ x. item x m) all

abbrev pub ItemsUpToAt : {L A : Type 0} → (List A → Rules L A) → Rules L ℕ → Rules L (List A)
ItemsUpToAt item end = λ m. ItemsUpTo (λ x. item x m) (end m)

abbrev pub PlainItemsAt : {L A : Type 0} → (List A → Rules L A) → Terminal → Rules L (List A)
PlainItemsAt item close = λ m. PlainItems (λ x. item x m) close

abbrev pub SomeItemsAt : {L A : Type 0} → (List A → Rules L A) → Terminal → Rules L (List A)
SomeItemsAt item close = λ m. SomeItems (λ x. item x m) close

abbrev pub AnyPlainItemsAt : {L A : Type 0} → (List A → Rules L A) → Terminal → Rules L (List A)
AnyPlainItemsAt item close = λ m. AnyPlainItems (λ x. item x m) close

abbrev pub AnyItemsAt : {L A : Type 0} → (List A → Rules L A) → Terminal → Rules L (List A)
AnyItemsAt item close = λ m. AnyItems (λ x. item x m) close

-- What makes a reader of items one for lists that `close` ends.
pub record AreItems {L A : Type 0} (Above : L → L → Type 0) (item : List A → Rules L A) (close : Terminal)
    (item_stop : Stop A) (test : Terminal → Bool) (level : L) (read : List A → Reader A) : Type 0 where
  -- each item begins with such a token, which neither separates nor ends items
  pub starts : (all : List A) → StartsIn (item all) test
  pub not_comma : test (Of word.Comma) ≡ false
  pub not_close : test close ≡ false
  pub close_apart : same_terminal close (Of word.Comma) ≡ false
  -- each item may end before what separates and before what ends items
  pub stops_comma : (a : A) → item_stop a (Of word.Comma) ≡ true
  pub stops_close : (a : A) → item_stop a close ≡ true
  -- a token that ends items
  pub closing : Token
  pub closes : same_terminal (terminal_of closing.kind) close ≡ true
  pub some_item : Can Above level (item [])
  pub reads : (all : List A) (ts : List Token) → Answers Above (item all) item_stop level ts (read all ts)

-- ---- a value made of the second of two, or of both

pub behind_made : {A B C : Type 0} (first : Rule A) (second : A → Rule B) (f : B → C) (text : List Token) (c : C)
    → Made (Joined first second) f text c → Joined first (λ a. Made (second a) f) text c
behind_made first second f text c h =
    let g = given (Joined first second) f text c h in
    let j = g.1 in
    subst (λ x. Joined first (λ a. Made (second a) f) text x) (sym g.2)
    (record {
      front = j.front;
      back = j.back;
      value = j.value;
      split = j.split;
      one = j.one;
      other = give
          (second j.value) f j.back g.0 j.other;
    })

pub made_behind : {A B C : Type 0} (first : Rule A) (second : A → Rule B) (f : B → C) (text : List Token) (c : C)
    → Joined first (λ a. Made (second a) f) text c → Made (Joined first second) f text c
made_behind first second f text c j =
    let g = given (second j.value) f j.back c j.other in
    subst (λ x. Made (Joined first second) f text x) (sym g.2)
    (give (Joined first second) f text g.0 (record {
      front = j.front;
      back = j.back;
      value = j.value;
      split = j.split;
      one = j.one;
      other = g.1;
    }))

-- ---- the end of a list, as the last step

abbrev Last : {A : Type 0} → Rule ℕ → List A → Rule (ControlFlow (List A) (List A))
Last end all = Made (Made end (λ _. all)) Break

last_of : {A : Type 0} (end : Rule ℕ) (all : List A) (text : List Token) (n : ℕ) → end text n
    → Last end all text (Break all)
last_of end all text n h = give (Made end (λ _. all)) Break text all (give end (λ _. all) text n h)

last_is : {A : Type 0} (end : Rule ℕ) (all : List A) (text : List Token) (v : ControlFlow (List A) (List A))
    → Last end all text v → (n : ℕ) × end text n × (v ≡ Break all)
last_is end all text v h =
    let g = given (Made end (λ _. all)) Break text v h in
    let k = given end (λ _. all) text g.0 g.1 in
    (k.0, k.1, g.2 ∙ ap Break k.2)

abbrev Trailed : Terminal → Rule ℕ
Trailed close = Joined (Perhaps (Mark (Of word.Comma))) (λ _. Mark close)

trailed : (close : Terminal) (front back text : List Token) (c n : ℕ) → text ≡ front ++ back
    → Mark (Of word.Comma) front c → Mark close back n → Trailed close text n
trailed close front back text c n split comma end =
    record {
      front = front;
      back = back;
      value = Some c;
      split = split;
      one = inl
          (give (Mark (Of word.Comma)) Some front c comma);
      other = end;
    }

untrailed : (close : Terminal) (text : List Token) (n : ℕ) → Mark close text n → Trailed close text n
untrailed close text n end =
    record {
      front = [];
      back = text;
      value = None;
      split = refl;
      one = inr
          (record { empty = refl; same = refl });
      other = end;
    }

-- ---- one list of each kind, at whatever level

module _ {A : Type 0} (item : List A → Rule A) (close : Terminal) (t : Token)
    (closes : same_terminal (terminal_of t.kind) close ≡ true) where
  -- one item and the end
  module _ (text : List Token) (a : A) (h : item [] text a) where
    one_item : (end : Rule ℕ) → end (t ∷ []) t.line → ItemsUpTo item end (text ++ t ∷ []) (a ∷ [])
    one_item end e =
        record {
          front = text;
          back = t
              ∷ [];
          value = a;
          split = refl;
          one = h;
          other = record
              { count = 0; chain = give end (λ _. a ∷ []) (t ∷ []) t.line e };
        }

-- a list begins with an item
pub items_start : {L A : Type 0} (item : List A → Rules L A) (end : Rules L ℕ) (test : Terminal → Bool)
    → StartsIn (item []) test → StartsIn (ItemsUpToAt item end) test
items_start item end test =
    joined_starts (item []) (λ first. ClosedAt (NextItemAt item) (λ all. MadeAt end (λ _. all)) (first ∷ [])) test

module _ {L A : Type 0} (Above : L → L → Type 0) (same_level : (l : L) → Above l l) (item : List A → Rules L A)
    (close : Terminal) (item_stop : Stop A) (test : Terminal → Bool) (level : L) (read : List A → Reader A)
    (items : AreItems Above item close item_stop test level read) where
  abbrev more : List A → A → List A
  more all a = all ++ a ∷ []

  abbrev between : List A → Terminal → Bool
  between all s = is (Of word.Comma) s || is close s

  abbrev NextAt : List A → Rules L (ControlFlow (List A) (List A))
  NextAt all = MadeAt (MadeAt (item all) (more all)) Continue

  abbrev LastAt : List A → Rules L (ControlFlow (List A) (List A))
  LastAt all = MadeAt (MadeAt (MarkAt close) (λ _. all)) Break

  item_may_end : (a : A) (s : Terminal) → (is (Of word.Comma) s || is close s) ≡ true → item_stop a s ≡ true
  item_may_end a s = go (is (Of word.Comma) s) refl
    where
      go : (b : Bool) → is (Of word.Comma) s ≡ b → (b || is close s) ≡ true → item_stop a s ≡ true
      go true here e = mark_passes (item_stop a) (Of word.Comma) (items.stops_comma a) s here
      go false here e = mark_passes (item_stop a) close (items.stops_close a) s e

  some_close : (m : L) → (ts : List Token) × (n : ℕ) × Mark close ts n
  some_close m = (items.closing ∷ [], items.closing.line, mark_of close items.closing items.closes)

  some_last : (m : L) (all : List A) → (ts : List Token) × (v : ControlFlow (List A) (List A)) × LastAt all m ts v
  some_last m all = let c = some_close m in (c.0, Break all, last_of (Mark close) all c.0 c.1 c.2)

  last_starts : (all : List A) → StartsIn (LastAt all) (is close)
  last_starts all =
      made_starts (MadeAt (MarkAt close) (λ _. all)) Break (is close)
      (made_starts (MarkAt close) (λ _. all) (is close) (mark_starts close))

  next_starts : (all : List A) → StartsIn (NextAt all) test
  next_starts all =
      made_starts (MadeAt (item all) (more all)) Continue test
      (made_starts (item all) (more all) test (items.starts all))

  item_starts : (all : List A) → StartsIn (NextItemAt item all) (is (Of word.Comma))
  item_starts all =
      joined_starts (MarkAt (Of word.Comma)) (λ _. MadeAt (item all) (more all)) (is (Of word.Comma))
      (mark_starts (Of word.Comma))

  item_between : (all : List A) → StartsIn (NextItemAt item all) (between all)
  item_between all =
      starts_in_more (NextItemAt item all) (is (Of word.Comma)) (between all)
      (λ s. or_left (is (Of word.Comma) s) (is close s)) (item_starts all)

  next_answers : (all : List A) (ts : List Token)
      → Answers Above (NextAt all) (step_stop between Anything) level ts (next_item read close all ts)
  next_answers all ts =
      made_answers Above same_level (MadeAt (item all) (more all)) Continue between
      (step_stop between Anything) level ts (λ x s e. e) (made (read all) (more all) ts)
      (made_answers Above same_level (item all) (more all) item_stop between level ts item_may_end (read all ts)
      (items.reads all ts))

  last_answers : (all : List A) (ts : List Token)
      → Answers Above (LastAt all) (step_stop between Anything) level ts (last_item read close all ts)
  last_answers all ts =
      made_answers Above same_level (MadeAt (MarkAt close) (λ _. all)) Break Anything
      (step_stop between Anything) level ts (λ x s e. refl) (made (mark close) (λ _. all) ts)
      (made_answers Above same_level (MarkAt close) (λ _. all) Anything Anything level ts (λ x s e. refl)
      (mark close ts) (mark_answers Above same_level close Anything level ts))

  -- ---- the list, by its steps and its end

  module _ (end : Rules L ℕ) (end_starts : StartsIn end (λ s. is (Of word.Comma) s || is close s))
      (some_end : (m : L) → (ts : List Token) × (n : ℕ) × end m ts n) where
    abbrev EndAt : List A → Rules L (List A)
    EndAt all = MadeAt end (λ _. all)

    end_follows : Follows between EndAt Anything
    end_follows =
        starts_follow between EndAt Anything (λ s. is (Of word.Comma) s || is close s) (λ all s e. e)
        (λ all. made_starts end (λ _. all) (λ s. is (Of word.Comma) s || is close s) end_starts)

    end_goes_on : GoesOn Above level EndAt
    end_goes_on m above all = let e = some_end m in (e.0, all, give (end m) (λ _. all) e.0 e.1 e.2)

    up_to_can : Can Above level (ItemsUpToAt item end)
    up_to_can m above =
        let i = items.some_item m above in
        let e = some_end m in
        let last = give (end m) (λ _. i.1 ∷ []) e.0 e.1 e.2 in (
          i.0 ++ e.0,
          i.1 ∷ [],
          behind (item [] m) (λ first. ClosedAt (NextItemAt item) EndAt (first ∷ []) m) i.0 e.0 i.1
              (i.1 ∷ []) i.2 (closed_now (NextItemAt item) EndAt m (i.1 ∷ []) e.0 (i.1 ∷ []) last),
        )

    module _ (step : List A → Reader (ControlFlow (List A) (List A)))
        (steps : (all : List A) (ts : List Token)
        → Answers Above (StepAt (NextItemAt item) (λ x. MadeAt end (λ _. x)) all)
        (step_stop between Anything) level ts (step all ts)) where
      up_to_answers : (ts : List Token)
          → Answers Above (ItemsUpToAt item end) Anything level ts
          (and_then (read [] ts) (λ first. closed step (first ∷ [])))
      up_to_answers ts =
          joined_answers Above same_level (item []) (λ first. ClosedAt (NextItemAt item) EndAt (first ∷ [])) item_stop
          Anything level ts
          (λ m a us b r h here. item_may_end a (head (us ++ r))
          (closed_follows (NextItemAt item) EndAt between Anything item_between end_follows m
          (a ∷ []) us b r h here))
          (read [] ts) (λ first. closed step (first ∷ []))
          (λ m above first. closed_goes_on Above same_level (NextItemAt item) EndAt level end_goes_on m above
          (first ∷ []))
          (items.reads [] ts)
          (λ first r _. closed_answers Above same_level (NextItemAt item) EndAt between Anything level item_between
          end_follows end_goes_on step steps (first ∷ []) r)

  up_to_starts : (end : Rules L ℕ) → StartsIn (ItemsUpToAt item end) test
  up_to_starts end = items_start item end test (items.starts [])

  close_starts : StartsIn {L = L} (MarkAt close) (λ s. is (Of word.Comma) s || is close s)
  close_starts =
      starts_in_more (MarkAt close) (is close) (λ s. is (Of word.Comma) s || is close s)
      (λ s. or_right (is (Of word.Comma) s) (is close s)) (mark_starts close)

  -- what ends items does not separate them
  close_no_comma : (s : Terminal) → is close s ≡ true → is (Of word.Comma) s ≡ false
  close_no_comma = mark_fails (is (Of word.Comma)) close items.close_apart

  item_no_close : (s : Terminal) → test s ≡ true → is close s ≡ false
  item_no_close = mark_apart test close items.not_close

  last_apart : (all : List A) → Apart (LastAt all) (step_stop between Anything) (is (Of word.Comma))
  last_apart all =
      starts_apart (LastAt all) (step_stop between Anything) (is (Of word.Comma)) (is close) close_no_comma
      (last_starts all)

  -- ---- without a comma behind the last item

  abbrev PlainStepAt : List A → Rules L (ControlFlow (List A) (List A))
  PlainStepAt all = StepAt (NextItemAt item) (λ x. MadeAt (MarkAt close) (λ _. x)) all

  abbrev PlainFactoredAt : List A → Rules L (ControlFlow (List A) (List A))
  PlainFactoredAt all = EitherAt (JoinedAt (MarkAt (Of word.Comma)) (λ _. NextAt all)) (LastAt all)

  to_plain : (all : List A) (m : L) (text : List Token) (v : ControlFlow (List A) (List A))
      → PlainFactoredAt all m text v → PlainStepAt all m text v
  to_plain all m text v (inl j) =
      inr (made_behind (Mark (Of word.Comma)) (λ _. Made (item all m) (more all)) Continue text v j)
  to_plain all m text v (inr h) = inl h

  from_plain : (all : List A) (m : L) (text : List Token) (v : ControlFlow (List A) (List A)) → PlainStepAt all m text v
      → PlainFactoredAt all m text v
  from_plain all m text v (inl h) = inr h
  from_plain all m text v (inr h) =
      inl (behind_made (Mark (Of word.Comma)) (λ _. Made (item all m) (more all)) Continue text v h)

  module _ (goes_on : GoesOn Above level item) where
    next_goes_on : (all : List A) (m : L) → Above level m
        → (ts : List Token) × (v : ControlFlow (List A) (List A)) × NextAt all m ts v
    next_goes_on all m above =
        let i = goes_on m above all in (
          i.0,
          Continue (more all i.1),
          give (Made (item all m) (more all)) Continue i.0 (more all i.1)
              (give (item all m) (more all) i.0 i.1 i.2),
        )

    plain_steps : (all : List A) (ts : List Token)
        → Answers Above (PlainStepAt all) (step_stop between Anything) level ts (plain_step read close all ts)
    plain_steps all ts =
        equal_answers Above same_level (PlainFactoredAt all) (PlainStepAt all) (step_stop between Anything) level ts
        (to_plain all) (from_plain all) (plain_step read close all ts)
        (either_answers Above same_level (JoinedAt (MarkAt (Of word.Comma)) (λ _. NextAt all)) (LastAt all)
        (is (Of word.Comma)) (step_stop between Anything) level ts
        (joined_starts (MarkAt (Of word.Comma)) (λ _. NextAt all) (is (Of word.Comma)) (mark_starts (Of word.Comma)))
        (last_apart all)
        ((mark (Of word.Comma) >> next_item read close all) ts) (last_item read close all ts)
        (λ _. joined_answers Above same_level (MarkAt (Of word.Comma)) (λ _. NextAt all) Anything
        (step_stop between Anything) level ts (anything_follows (λ _. NextAt all) (step_stop between Anything))
        (mark (Of word.Comma) ts) (λ _. next_item read close all) (λ m above _. next_goes_on all m above)
        (mark_answers Above same_level (Of word.Comma) Anything level ts) (λ _ r _. next_answers all r))
        (λ _. last_answers all ts))

    pub plain_items_answers : (ts : List Token)
        → Answers Above (PlainItemsAt item close) Anything level ts (plain_items read close ts)
    unfolding plain_items
    plain_items_answers ts = up_to_answers (MarkAt close) close_starts some_close (plain_step read close) plain_steps ts

  pub plain_items_starts : StartsIn (PlainItemsAt item close) test
  plain_items_starts = up_to_starts (MarkAt close)

  -- ---- with or without a comma behind the last item

  abbrev CommaStepAt : List A → Rules L (ControlFlow (List A) (List A))
  CommaStepAt all = StepAt (NextItemAt item) (λ x. MadeAt (λ _. Trailed close) (λ _. x)) all

  abbrev BehindAt : List A → Rules L (ControlFlow (List A) (List A))
  BehindAt all = EitherAt (LastAt all) (NextAt all)

  abbrev FactoredAt : List A → Rules L (ControlFlow (List A) (List A))
  FactoredAt all = EitherAt (JoinedAt (MarkAt (Of word.Comma)) (λ _. BehindAt all)) (LastAt all)

  to_step : (all : List A) (m : L) (text : List Token) (v : ControlFlow (List A) (List A)) → FactoredAt all m text v
      → CommaStepAt all m text v
  to_step all m text v (inl j) = go j.other
    where
      go : BehindAt all m j.back v → CommaStepAt all m text v
      go (inl h) =
          let l = last_is (Mark close) all j.back v h in
          subst (λ x. CommaStepAt all m text x) (sym l.2) (inl
          (last_of (Trailed close) all text l.0 (trailed close j.front j.back text j.value l.0 j.split j.one l.1)))
      go (inr h) =
          inr (made_behind (Mark (Of word.Comma)) (λ _. Made (item all m) (more all)) Continue text v
          (record { front = j.front; back = j.back; value = j.value; split = j.split; one = j.one; other = h }))
  to_step all m text v (inr h) =
      let l = last_is (Mark close) all text v h in
      subst (λ x. CommaStepAt all m text x) (sym l.2) (inl (last_of (Trailed close) all text l.0
      (untrailed close text l.0 l.1)))

  from_step : (all : List A) (m : L) (text : List Token) (v : ControlFlow (List A) (List A)) → CommaStepAt all m text v
      → FactoredAt all m text v
  from_step all m text v (inl h) =
      let l = last_is (Trailed close) all text v h in
      subst (λ x. FactoredAt all m text x) (sym l.2) (go l.0 l.1 l.1.one)
    where
      go : (n : ℕ) → (j : Trailed close text n) → Perhaps (Mark (Of word.Comma)) j.front j.value
          → FactoredAt all m text (Break all)
      go n j (inl p) =
          let c = given (Mark (Of word.Comma)) Some j.front j.value p in
          inl (record {
            front = j.front;
            back = j.back;
            value = c.0;
            split = j.split;
            one = c.1;
            other = inl
                (last_of (Mark close) all j.back n j.other);
          })
      go n j (inr g) =
          let same : text ≡ j.back = j.split ∙ ap (λ x. x ++ j.back) g.empty in
          inr (subst (λ x. Last (Mark close) all x (Break all)) (sym same) (last_of (Mark close) all j.back n j.other))
  from_step all m text v (inr h) =
      let j = behind_made (Mark (Of word.Comma)) (λ _. Made (item all m) (more all)) Continue text v h in
      inl (record {
        front = j.front;
        back = j.back;
        value = j.value;
        split = j.split;
        one = j.one;
        other = inr j.other;
      })

  behind_answers : (all : List A) (ts : List Token)
      → Answers Above (BehindAt all) (step_stop between Anything) level ts (behind_comma read close all ts)
  behind_answers all ts =
      either_answers Above same_level (LastAt all) (NextAt all) (is close) (step_stop between Anything) level ts
      (last_starts all)
      (starts_apart (NextAt all) (step_stop between Anything) (is close) test item_no_close (next_starts all))
      (last_item read close all ts) (next_item read close all ts) (λ _. last_answers all ts) (λ _. next_answers all ts)

  comma_steps : (all : List A) (ts : List Token)
      → Answers Above (CommaStepAt all) (step_stop between Anything) level ts (comma_step read close all ts)
  comma_steps all ts =
      equal_answers Above same_level (FactoredAt all) (CommaStepAt all) (step_stop between Anything) level ts
      (to_step all) (from_step all) (comma_step read close all ts)
      (either_answers Above same_level (JoinedAt (MarkAt (Of word.Comma)) (λ _. BehindAt all)) (LastAt all)
      (is (Of word.Comma)) (step_stop between Anything) level ts
      (joined_starts (MarkAt (Of word.Comma)) (λ _. BehindAt all) (is (Of word.Comma)) (mark_starts (Of word.Comma)))
      (last_apart all)
      ((mark (Of word.Comma) >> behind_comma read close all) ts) (last_item read close all ts)
      (λ _. joined_answers Above same_level (MarkAt (Of word.Comma)) (λ _. BehindAt all) Anything
      (step_stop between Anything) level ts (anything_follows (λ _. BehindAt all) (step_stop between Anything))
      (mark (Of word.Comma) ts) (λ _. behind_comma read close all)
      (λ m above _. let l = some_last m all in (l.0, l.1, inl l.2))
      (mark_answers Above same_level (Of word.Comma) Anything level ts) (λ _ r _. behind_answers all r))
      (λ _. last_answers all ts))

  trailed_starts : StartsIn {L = L} (λ _. Trailed close) (λ s. is (Of word.Comma) s || is close s)
  trailed_starts m text n j = go j.one
    where
      go : Perhaps (Mark (Of word.Comma)) j.front j.value
          → (x : Token) × (rest : List Token) × (text ≡ x ∷ rest)
          × ((is (Of word.Comma) (terminal_of x.kind) || is close (terminal_of x.kind)) ≡ true)
      go (inl p) =
          let c = made_starts (MarkAt {L = L} (Of word.Comma)) Some (is (Of word.Comma))
          (mark_starts (Of word.Comma)) m j.front j.value p in (
            c.0,
            c.1 ++ j.back,
            j.split
                ∙ ap (λ l. l ++ j.back) c.2,
            or_left (is (Of word.Comma) (terminal_of c.0.kind))
                (is close (terminal_of c.0.kind)) c.3,
          )
      go (inr g) =
          let c = close_starts m j.back n j.other in
          (c.0, c.1, j.split ∙ ap (λ l. l ++ j.back) g.empty ∙ c.2, c.3)

  some_trailed : (m : L) → (ts : List Token) × (n : ℕ) × Trailed close ts n
  some_trailed m = let c = some_close m in (c.0, c.1, untrailed close c.0 c.1 c.2)

  pub some_items_answers : (ts : List Token)
      → Answers Above (SomeItemsAt item close) Anything level ts (some_items read close ts)
  unfolding some_items
  some_items_answers ts =
      up_to_answers (λ _. Trailed close) trailed_starts some_trailed (comma_step read close) comma_steps ts

  pub some_items_starts : StartsIn (SomeItemsAt item close) test
  some_items_starts = up_to_starts (λ _. Trailed close)

  -- ---- possibly none

  abbrev NoAt : Rules L (List A)
  NoAt = λ m. NoItems (λ x. item x m) close

  no_answers : (ts : List Token) → Answers Above NoAt Anything level ts (no_items read close ts)
  no_answers ts =
      made_answers Above same_level (MarkAt close) (λ _. []) Anything Anything level ts (λ x s e. refl) (mark close ts)
      (mark_answers Above same_level close Anything level ts)

  no_starts : StartsIn NoAt (is close)
  no_starts = made_starts (MarkAt close) (λ _. []) (is close) (mark_starts close)

  no_can : Can Above level NoAt
  no_can m above = let c = some_close m in (c.0, [], give (Mark close) (λ _. []) c.0 c.1 c.2)

  abbrev in_any : Terminal → Bool
  in_any s = is close s || test s

  any_starts : (rule : Rules L (List A)) → StartsIn rule test
      → StartsIn (EitherAt NoAt rule) (λ s. is close s || test s)
  any_starts rule starts = either_starts NoAt rule in_any
      (starts_in_more NoAt (is close) in_any (λ s. or_left (is close s) (test s)) no_starts)
      (starts_in_more rule test in_any (λ s. or_right (is close s) (test s)) starts)

  any_answers : (rule : Rules L (List A)) → StartsIn rule test → (p : Reader (List A))
      → ((ts : List Token) → Answers Above rule Anything level ts (p ts))
      → (ts : List Token) → Answers Above (EitherAt NoAt rule) Anything level ts
      (cond (is close (head ts)) (no_items read close ts) (p ts))
  any_answers rule starts p reads ts =
      either_answers Above same_level NoAt rule (is close) Anything level ts no_starts
      (starts_apart rule Anything (is close) test item_no_close starts)
      (no_items read close ts) (p ts) (λ _. no_answers ts) (λ _. reads ts)

  pub any_plain_items_answers : GoesOn Above level item → (ts : List Token)
      → Answers Above (AnyPlainItemsAt item close) Anything level ts (any_plain_items read close ts)
  unfolding any_plain_items
  any_plain_items_answers goes_on ts =
      any_answers (PlainItemsAt item close) plain_items_starts (plain_items read close) (plain_items_answers goes_on) ts

  pub any_items_answers : (ts : List Token)
      → Answers Above (AnyItemsAt item close) Anything level ts (any_items read close ts)
  unfolding any_items
  any_items_answers ts =
      any_answers (SomeItemsAt item close) some_items_starts (some_items read close) some_items_answers ts

  -- ---- each list spells something

  pub some_items_can : Can Above level (SomeItemsAt item close)
  some_items_can = up_to_can (λ _. Trailed close) trailed_starts some_trailed

  pub any_items_can : Can Above level (AnyItemsAt item close)
  any_items_can m above = let c = no_can m above in (c.0, c.1, inl c.2)
