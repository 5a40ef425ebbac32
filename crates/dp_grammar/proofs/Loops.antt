-- Pieces, each from the value of the last, up to an end, and any number of pieces.
use Rattle.std.specs.declared.ops.ControlFlow.{ControlFlow}
use Rattle.std.specs.declared.ops.ControlFlow.TheVariants.{Continue, Break}
use Rattle.std.proofs.Common.{◌≡◌, inl, inr, ℕ, zero, suc, ◌<◌, Bool, true, false, ◌||◌, List, [], ◌∷◌, ◌++◌, length, Option, Ok, Err, sym, refl, ap, ◌∙◌, subst, append-nil, append_assoc, length-append, cond, arith}
use Rattle.dp_grammar.specs.inner.Input.{Outcome, Reader, and_then, gives, made, until, closed, next_of, many_step}
use Rattle.dp_grammar.specs.Rules.{head, Gives, Chain, Step}
use Rattle.dp_grammar.proofs.Truth.{or_left, or_right}
use Rattle.dp_grammar.proofs.Answers.{Rules, Stop, JoinedAt, GivesAt, MadeAt, ClosedAt, StepAt, ManyAt, IsRead, Answers, Follows, GoesOn, StartsIn, Apart, give, given, begun, made_starts, gives_follow, gives_apart, made_apart, starts_in_more, joined_answers, made_answers, gives_answers, equal_answers, either_answers, either_answers_back}

-- where a step may end: between two pieces, or at the end
abbrev pub step_stop : {T A B : Type 0} → Stop T A → Stop T B → ControlFlow B A → Option T → Bool
step_stop between stop (Continue a) s = between a s
step_stop between stop (Break b) s = stop b s

abbrev pub OnwardAt : {T L A B : Type 0} → (A → Rules T L A) → (A → Rules T L B) → ControlFlow B A → Rules T L B
OnwardAt piece end (Continue a) = ClosedAt piece end a
OnwardAt piece end (Break b) = GivesAt b

-- the end at once
pub closed_now : {T L A B : Type 0} (piece : A → Rules T L A) (end : A → Rules T L B) (m : L) (a : A) (ts : List T)
    (b : B) → end a m ts b → ClosedAt piece end a m ts b
closed_now piece end m a ts b h = record { count = 0; chain = h }

-- Where each piece begins with what may be between pieces, and so does each end with what may be behind it, the whole
-- does.
pub closed_follows : {T L A B : Type 0} (piece : A → Rules T L A) (end : A → Rules T L B) (between : Stop T A)
    (stop : Stop T B) → ((a : A) → StartsIn (piece a) (between a)) → Follows between end stop
    → Follows between (ClosedAt piece end) stop
closed_follows piece end between stop starts ends m a ts b r c here = go c.count c.chain
  where
    go : (count : ℕ) → Chain (λ x. piece x m) (λ x. end x m) count a ts b → between a (head (ts ++ r)) ≡ true
    go zero h = ends m a ts b r h here
    go (suc count) j =
        ap (λ l. between a (head l)) (ap (λ l. l ++ r) j.split ∙ append_assoc j.front j.back r)
        ∙ begun (piece a) (between a) (starts a) m j.front (j.back ++ r) j.value j.one

module _ {T L : Type 0} (Above : L → L → Type 0) (same_level : (l : L) → Above l l) where
  pub closed_goes_on : {A B : Type 0} (piece : A → Rules T L A) (end : A → Rules T L B) (level : L)
      → GoesOn Above level end → GoesOn Above level (ClosedAt piece end)
  closed_goes_on piece end level ends m above a =
      let e = ends m above a in (e.0, e.1, closed_now piece end m a e.0 e.1 e.2)

  module _ {A B : Type 0} (piece : A → Rules T L A) (end : A → Rules T L B) (between : Stop T A) (stop : Stop T B)
      (level : L)
      (starts : (a : A) → StartsIn (piece a) (between a)) (end_follows : Follows between end stop)
      (ends : GoesOn Above level end)
      (step : A → Reader T (ControlFlow B A)) (reads : (a : A) (ts : List T)
      → Answers Above (StepAt piece end a) (step_stop between stop) level ts (step a ts)) where
    onward_goes_on : GoesOn Above level (OnwardAt piece end)
    onward_goes_on m above (Continue a) = closed_goes_on piece end level ends m above a
    onward_goes_on m above (Break b) = ([], b, record { empty = refl; same = refl })

    onward_follows : Follows (step_stop between stop) (OnwardAt piece end) stop
    onward_follows m (Continue a) ts b r h here =
        closed_follows piece end between stop starts end_follows m a ts b r h here
    onward_follows m (Break c) ts b r h here =
        ap (λ l. stop c (head (l ++ r))) h.empty ∙ ap (λ x. stop x (head r)) (sym h.same) ∙ here

    joins : (a : A) (m : L) (text : List T) (b : B) → JoinedAt (StepAt piece end a) (OnwardAt piece end) m text b
        → ClosedAt piece end a m text b
    joins a m text b j = go j.one
      where
        go : Step (λ x. piece x m) (λ x. end x m) a j.front j.value → ClosedAt piece end a m text b
        go (inl h) =
            let g = given (end a m) Break j.front j.value h in
            let last : Gives g.0 j.back b = subst (λ v. OnwardAt piece end v m j.back b) g.2 j.other in
            let same : text ≡ j.front = j.split ∙ ap (λ l. j.front ++ l) last.empty ∙ append-nil j.front in
            record {
              count = 0;
              chain = subst (λ l. end a m l b) (sym same)
                  (subst (λ x. end a m j.front x) (sym last.same) g.1);
            }
        go (inr h) =
            let g = given (piece a m) Continue j.front j.value h in
            let more : ClosedAt piece end g.0 m j.back b = subst (λ v. OnwardAt piece end v m j.back b) g.2 j.other in
            record {
              count = suc more.count;
              chain = record {
                front = j.front;
                back = j.back;
                value = g.0;
                split =
                    j.split;
                one = g.1;
                other = more.chain;
              };
            }

    splits : (a : A) (m : L) (text : List T) (b : B) → ClosedAt piece end a m text b
        → JoinedAt (StepAt piece end a) (OnwardAt piece end) m text b
    splits a m text b c = go c.count c.chain
      where
        go : (count : ℕ) → Chain (λ x. piece x m) (λ x. end x m) count a text b
            → JoinedAt (StepAt piece end a) (OnwardAt piece end) m text b
        go zero h =
            record {
              front = text;
              back = [];
              value = Break b;
              split = sym (append-nil text);
              one = inl
                  (give (end a m) Break text b h);
              other = record { empty = refl; same = refl };
            }
        go (suc count) j =
            record {
              front = j.front;
              back = j.back;
              value = Continue j.value;
              split = j.split;
              one = inr
                  (give (piece a m) Continue j.front j.value j.one);
              other = record { count = count; chain = j.other };
            }

    shorter : (a x : A) (ts r : List T)
        → IsRead Above (StepAt piece end a) (step_stop between stop) level ts (Continue x) r → length r < length ts
    shorter a x ts r read = go (read.spelled level (same_level level))
      where
        go : Step (λ x. piece x level) (λ x. end x level) a read.text (Continue x) → length r < length ts
        go (inl h) =
            let g = given (end a level) Break read.text (Continue x) h in let e : Continue x ≡ Break g.0 = g.2 in absurd
            (cc)
        go (inr h) =
            let g = given (piece a level) Continue read.text (Continue x) h in
            let s = starts a level read.text g.0 g.1 in
            omega (arith, ap length (read.split ∙ ap (λ l. l ++ r) s.2), length-append s.1 r)

    counted : (count : ℕ) (a : A) (ts : List T) → length ts < count
        → Answers Above (ClosedAt piece end a) stop level ts (until step count a ts)
    unfolding until
    counted zero a ts bound = absurd (omega arith)
    counted (suc count) a ts bound =
        equal_answers Above same_level (JoinedAt (StepAt piece end a) (OnwardAt piece end))
        (ClosedAt piece end a) stop level ts (joins a) (splits a)
        (and_then (step a ts) (next_of (until step count)))
        (joined_answers Above same_level (StepAt piece end a) (OnwardAt piece end)
        (step_stop between stop) stop level ts onward_follows (step a ts)
        (next_of (until step count)) onward_goes_on (reads a ts)
        (λ v r read. onward (counted count) v r read))
      where
        onward : ((x : A) (us : List T) → length us < count
            → Answers Above (ClosedAt piece end x) stop level us (until step count x us))
            → (v : ControlFlow B A) (r : List T)
            → IsRead Above (StepAt piece end a) (step_stop between stop) level ts v r
            → Answers Above (OnwardAt piece end v) stop level r (next_of (until step count) v r)
        onward again (Continue x) r read = let less = shorter a x ts r read in again x r (omega arith)
        onward again (Break b) r read = gives_answers Above same_level b stop level r

    pub closed_answers : (a : A) (ts : List T)
        → Answers Above (ClosedAt piece end a) stop level ts (until step (suc (length ts)) a ts)
    closed_answers a ts = counted (suc (length ts)) a ts (omega arith)

  -- ---- steps that look at the next symbol

  module _ {A B : Type 0} (piece : A → Rules T L A) (end : A → Rules T L B) (between : Stop T A) (stop : Stop T B)
      (level : L) (a : A) (ts : List T) (test : Option T → Bool) (o : Outcome T A) (p : Outcome T B) where
    -- whether a piece comes next
    pub piece_first : StartsIn (piece a) test → Apart (end a) stop test
        → (test (head ts) ≡ true → Answers Above (piece a) between level ts o)
        → (test (head ts) ≡ false → Answers Above (end a) stop level ts p)
        → Answers Above (StepAt piece end a) (step_stop between stop) level ts
        (cond (test (head ts)) (and_then o (λ x. gives (Continue x))) (and_then p (λ x. gives (Break x))))
    piece_first starts apart one other =
        either_answers_back Above same_level (MadeAt (piece a) Continue) (MadeAt (end a) Break) test
        (step_stop between stop) level ts
        (made_starts (piece a) Continue test starts) (made_apart (end a) Break stop (step_stop between stop) test
        (λ x s e. e) apart)
        (and_then o (λ x. gives (Continue x))) (and_then p (λ x. gives (Break x)))
        (λ here. made_answers Above same_level (piece a) Continue between (step_stop between stop) level ts
        (λ x s e. e) o (one here))
        (λ here. made_answers Above same_level (end a) Break stop (step_stop between stop) level ts (λ x s e. e) p
        (other here))

    -- whether the end comes next
    pub end_first : StartsIn (end a) test → Apart (piece a) between test
        → (test (head ts) ≡ true → Answers Above (end a) stop level ts p)
        → (test (head ts) ≡ false → Answers Above (piece a) between level ts o)
        → Answers Above (StepAt piece end a) (step_stop between stop) level ts
        (cond (test (head ts)) (and_then p (λ x. gives (Break x))) (and_then o (λ x. gives (Continue x))))
    end_first starts apart one other =
        either_answers Above same_level (MadeAt (end a) Break) (MadeAt (piece a) Continue) test
        (step_stop between stop) level ts
        (made_starts (end a) Break test starts) (made_apart (piece a) Continue between (step_stop between stop) test
        (λ x s e. e) apart)
        (and_then p (λ x. gives (Break x))) (and_then o (λ x. gives (Continue x)))
        (λ here. made_answers Above same_level (end a) Break stop (step_stop between stop) level ts (λ x s e. e) p
        (one here))
        (λ here. made_answers Above same_level (piece a) Continue between (step_stop between stop) level ts
        (λ x s e. e) o (other here))

-- ---- any number of pieces

module _ {T L A : Type 0} (rule : Rules T L A) where
  abbrev one_more : List A → Rules T L (List A)
  one_more all = MadeAt rule (λ a. all ++ a ∷ [])

  pub many_none : (m : L) → ManyAt rule m [] []
  many_none m = record { count = 0; chain = record { empty = refl; same = refl } }

  module _ (Above : L → L → Type 0) (same_level : (l : L) → Above l l) (test : Option T → Bool) (piece_stop : Stop T A)
      (stop : Stop T (List A)) (level : L) (piece : Reader T A)
      (starts : StartsIn rule test) (before_next : (a : A) (s : Option T) → test s ≡ true → piece_stop a s ≡ true)
      (at_end : (all : List A) (a : A) (s : Option T) → stop (all ++ a ∷ []) s ≡ true → piece_stop a s ≡ true)
      (apart : (all : List A) (s : Option T) → stop all s ≡ true → test s ≡ false)
      (reads : (ts : List T) → test (head ts) ≡ true → Answers Above rule piece_stop level ts (piece ts)) where
    abbrev between : List A → Option T → Bool
    between all s = test s || stop all s

    piece_may_end : (all : List A) (a : A) (s : Option T) → between (all ++ a ∷ []) s ≡ true → piece_stop a s ≡ true
    piece_may_end all a s = go (test s) refl
      where
        go : (b : Bool) → test s ≡ b → (b || stop (all ++ a ∷ []) s) ≡ true → piece_stop a s ≡ true
        go true is e = before_next a s is
        go false is e = at_end all a s e

    many_steps : (all : List A) (ts : List T)
        → Answers Above (StepAt one_more (λ x. GivesAt x) all) (step_stop between stop) level ts
        (many_step test piece all ts)
    many_steps all ts =
        piece_first Above same_level one_more (λ x. GivesAt x) between stop level all ts test
        (made piece (λ a. all ++ a ∷ []) ts) (Ok (all, ts))
        (made_starts rule (λ a. all ++ a ∷ []) test starts) (gives_apart all stop test (apart all))
        (λ here. made_answers Above same_level rule (λ a. all ++ a ∷ []) piece_stop between level ts (piece_may_end all)
        (piece ts) (reads ts here))
        (λ _. gives_answers Above same_level all stop level ts)

    pub many_answers : (ts : List T) → Answers Above (ManyAt rule) stop level ts (closed (many_step test piece) [] ts)
    many_answers ts = closed_answers Above same_level one_more (λ x. GivesAt x) between stop level
        (λ all. starts_in_more (one_more all) test (between all) (λ s. or_left (test s) (stop all s))
        (made_starts rule (λ a. all ++ a ∷ []) test starts))
        (gives_follow (λ all. all) between stop (λ all s. or_right (test s) (stop all s)))
        (λ m above all. ([], all, record { empty = refl; same = refl }))
        (many_step test piece) many_steps [] ts

-- ---- the same steps, seen as others

-- where a step that is seen so goes on, or ends
abbrev pub seen_as : {A B C D : Type 0} → (A → C) → (B → D) → ControlFlow B A → ControlFlow D C
seen_as f g (Continue a) = Continue (f a)
seen_as f g (Break b) = Break (g b)

module _ {T A B C D : Type 0} (f : A → C) (g : B → D) (step : A → Reader T (ControlFlow B A))
    (other : C → Reader T (ControlFlow D C))
    (same : (a : A) (ts : List T) → other (f a) ts ≡ made (step a) (seen_as f g) ts) where
  pub until_as : (count : ℕ) (a : A) (ts : List T) → until other count (f a) ts ≡ made (until step count a) g ts
  unfolding until
  until_as zero a ts = refl
  until_as (suc count) a ts =
      ap (λ o. and_then o (next_of (until other count))) (same a ts) ∙ by (until_as count) (step a ts)
    where
      on : ((x : A) (us : List T) → until other count (f x) us ≡ made (until step count x) g us)
          → (v : ControlFlow B A) (us : List T)
          → next_of (until other count) (seen_as f g v) us ≡ and_then (next_of (until step count) v us)
          (λ b. gives (g b))
      on again (Continue x) us = again x us
      on again (Break b) us = refl

      by : ((x : A) (us : List T) → until other count (f x) us ≡ made (until step count x) g us)
          → (o : Outcome T (ControlFlow B A))
          → and_then (and_then o (λ v. gives (seen_as f g v))) (next_of (until other count)) ≡ and_then
          (and_then o (next_of (until step count))) (λ b. gives (g b))
      by again (Ok p) = on again p.0 p.1
      by again (Err e) = refl

  -- the loop of the others is the loop, seen so
  pub closed_as : (a : A) (ts : List T) → closed other (f a) ts ≡ made (closed step a) g ts
  closed_as a ts = until_as (suc (length ts)) a ts
