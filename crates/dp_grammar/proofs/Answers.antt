-- How the answers of readers compose.
use Rattle.std.proofs.Common.{◌≡◌, ◌⊎◌, inl, inr, ℕ, zero, suc, ◌<◌, ◌≤◌, Bool, true, false, List, [], ◌∷◌, ◌++◌, length, Option, Some, None, Ok, Err, sym, refl, ap, ◌∙◌, subst, append_assoc, cond, arith}
use Rattle.dp_grammar.specs.declared.refusal.Refusal.TheVariants.{Unexpected, TooDeep, Memory}
use Rattle.dp_grammar.specs.inner.Input.{Outcome, Reader, and_then, gives, met, one, tested, enter}
use Rattle.dp_grammar.specs.Rules.{head, Tested}
pub use Rattle.dp_grammar.proofs.Spellings.{
  Rules,
  Stop,
  Anything,
  JoinedAt,
  EitherAt,
  GivesAt,
  OneAt,
  MadeAt,
  PerhapsAt,
  WhenAt,
  NestsAt,
  ClosedAt,
  StepAt,
  ManyAt,
  Begins,
  Agrees,
  IsRead,
  Opens,
  IsRefused,
  Answers,
  Follows,
  Can,
  GoesOn,
  StartsIn,
  Apart,
  head_agrees,
  agrees_head,
  tail_of,
  agrees_behind,
  give,
  given,
  behind,
  begun,
  one_starts,
  joined_starts,
  made_starts,
  either_starts,
  when_starts,
  nests_starts,
  starts_in_more,
  or_starts,
  starts_apart,
  gives_apart,
  made_apart,
  either_apart,
  anything_follows,
  starts_follow,
  gives_follow,
  either_follows,
}

module _ {T L : Type 0} (Above : L → L → Type 0) (same_level : (l : L) → Above l l) where
  -- a refusal at the first symbol, of a rule that begins with no such symbol
  pub refused_here : {A : Type 0} (rule : Rules T L A) (stop : Stop T A) (level : L) (ts : List T)
      → ((m : L) (us : List T) → head us ≡ head ts → (a : A) (q : List T) → Begins rule stop m us a q → ⊥)
      → IsRefused Above rule stop level ts false (length ts)
  refused_here rule stop level ts none = record {
    front = [];
    rest = ts;
    split = refl;
    is_left = refl;
    viable = inl refl;
    dead = λ m bound us agrees a q begins. none m us (agrees_head [] ts us agrees) a q begins;
    beyond = λ deep. absurd (cc);
  }

  -- ---- one symbol

  module _ {A : Type 0} (worth : T → Option A) (stop : Stop T A) (level : L) where
    one_read : (t : T) (ts : List T) (a : A) → worth t ≡ Some a → IsRead Above (OneAt worth) stop level (t ∷ ts) a ts
    one_read t ts a is_worth = record {
      text = t ∷ [];
      split = refl;
      spelled = λ m _. record { symbol = t; alone = refl; is_worth = is_worth };
      only = λ m s e c q begins.
          let there : t ∷ s ≡ begins.spelled.symbol ∷ q = begins.split ∙ ap (λ l. l ++ q) begins.spelled.alone in
          let same : t ≡ begins.spelled.symbol = cc in
          let found : worth t ≡ Some c = ap (λ x. worth x) same ∙ begins.spelled.is_worth in
          (cc, cc);
    }

    one_refused : (t : T) (ts : List T) → worth t ≡ None
        → IsRefused Above (OneAt worth) stop level (t ∷ ts) false (length (t ∷ ts))
    one_refused t ts none = record {
      front = [];
      rest = t ∷ ts;
      split = refl;
      is_left = refl;
      viable = inl refl;
      dead = λ m bound us agrees a q begins.
          let there : t ∷ agrees.0 ≡ begins.spelled.symbol ∷ q = sym agrees.1 ∙ begins.split
          ∙ ap (λ l. l ++ q) begins.spelled.alone in
          let same : t ≡ begins.spelled.symbol = cc in
          let found : worth t ≡ Some a = ap (λ x. worth x) same ∙ begins.spelled.is_worth in
          cc;
      beyond = λ deep. absurd (cc);
    }

    none_left : IsRefused Above (OneAt worth) stop level [] false 0
    none_left = record {
      front = [];
      rest = [];
      split = refl;
      is_left = refl;
      viable = inl refl;
      dead =
          λ m bound us agrees a q begins. let there : [] ≡ begins.spelled.symbol ∷ q = sym agrees ∙ begins.split
          ∙ ap (λ l. l ++ q) begins.spelled.alone in cc;
      beyond = λ deep. absurd (cc);
    }

    pub one_answers : (ts : List T) → Answers Above (OneAt worth) stop level ts (one worth ts)
    one_answers [] = none_left
    one_answers (t ∷ ts) = go (worth t) refl
      where
        go : (o : Option A) → worth t ≡ o → Answers Above (OneAt worth) stop level (t ∷ ts) (met o t ts)
        go (Some a) is_worth = one_read t ts a is_worth
        go None is_worth = one_refused t ts is_worth

  -- ---- no symbol

  pub gives_answers : {A : Type 0} (value : A) (stop : Stop T A) (level : L) (ts : List T)
      → Answers Above (GivesAt value) stop level ts (Ok (value, ts))
  gives_answers value stop level ts = record {
    text = [];
    split = refl;
    spelled = λ m _. record { empty = refl; same = refl };
    only = λ m s e b q begins. (begins.spelled.same, sym (begins.split ∙ ap (λ l. l ++ q) begins.spelled.empty));
  }

  -- ---- one after the other

  module _ {A B : Type 0} (first : Rules T L A) (second : A → Rules T L B) (first_stop : Stop T A) (stop : Stop T B)
      (level : L) (ts : List T) (follows : Follows first_stop second stop) where
    -- what begins with both rules begins with the first
    begins_first : (m : L) (us : List T) (b : B) (q : List T) → (begins : Begins (JoinedAt first second) stop m us b q)
        → Begins first first_stop m us begins.spelled.value (begins.spelled.back ++ q)
    begins_first m us b q begins = let j = begins.spelled in record {
      text = j.front;
      split = begins.split ∙ ap (λ l. l ++ q) j.split ∙ append_assoc j.front j.back q;
      spelled = j.one;
      stops = follows m j.value j.back b q j.other begins.stops;
    }

    -- and, behind what was read by the first, with the second
    begins_second : {a : A} {r : List T} → (read : IsRead Above first first_stop level ts a r) → (m : L) (tail : List T)
        → head tail ≡ head r → (b : B) (q : List T)
        → Begins (JoinedAt first second) stop m (read.text ++ tail) b q → Begins (second a) stop m tail b q
    begins_second read m tail e b q begins =
        let j = begins.spelled in
        let same = read.only m tail e j.value (j.back ++ q) (begins_first m (read.text ++ tail) b q begins) in
        record {
          text = j.back;
          split = sym same.1;
          spelled = subst
              (λ v. second v m j.back b) same.0 j.other;
          stops = begins.stops;
        }

    joined_read : {a : A} {r : List T} {b : B} {q : List T} → IsRead Above first first_stop level ts a r
        → IsRead Above (second a) stop level r b q → IsRead Above (JoinedAt first second) stop level ts b q
    joined_read {a = a} {q = q} read inner = record {
      text = read.text ++ inner.text;
      split = read.split ∙ ap (λ l. read.text ++ l) inner.split ∙ sym (append_assoc read.text inner.text q);
      spelled =
          λ m above. record {
            front = read.text;
            back = inner.text;
            value = a;
            split = refl;
            one = read.spelled m above;
            other = inner.spelled m above;
          };
      only =
          λ m s e b2 q2 begins. inner.only m s e b2 q2 (begins_second read m (inner.text ++ s)
          (head_agrees inner.text q s e ∙ ap head (sym inner.split)) b2 q2
          (subst (λ l. Begins (JoinedAt first second) stop m l b2 q2) (append_assoc read.text inner.text s) begins));
    }

    second_refused : {a : A} {r : List T} {deep : Bool} {left : ℕ} → GoesOn Above level second
        → IsRead Above first first_stop level ts a r → IsRefused Above (second a) stop level r deep left
        → IsRefused Above (JoinedAt first second) stop level ts deep left
    second_refused {a = a} goes_on read inner = record {
      front = read.text ++ inner.front;
      rest = inner.rest;
      split = read.split ∙ ap (λ l. read.text ++ l) inner.split ∙ sym (append_assoc read.text inner.front inner.rest);
      is_left = inner.is_left;
      viable = inr (elim inner.viable [
        | inl empty ↦ (let g = goes_on level (same_level level) a in (
          g.0,
          g.1,
          record {
            front = read.text;
            back = g.0;
            value = a;
            split = append_assoc read.text inner.front g.0
                ∙ ap (λ l. read.text ++ (l ++ g.0)) empty;
            one = read.spelled level (same_level level);
            other = g.2;
          },
        ))
        | inr more ↦ (
          more.0,
          more.1,
          record {
            front = read.text;
            back = inner.front
                ++ more.0;
            value = a;
            split = append_assoc read.text inner.front more.0;
            one = read.spelled level
                (same_level level);
            other = more.2;
          },
        )
      ]);
      dead = λ m bound us agrees b q begins.
          let behind = agrees_behind read.text inner.front inner.rest us agrees in
          inner.dead m bound behind.0 behind.2 b q (begins_second read m behind.0
          (agrees_head inner.front inner.rest behind.0 behind.2 ∙ ap head (sym inner.split)) b q
          (subst (λ l. Begins (JoinedAt first second) stop m l b q) behind.1 begins));
      beyond = λ deep. let w = inner.beyond deep in (
        w.0,
        w.1,
        w.2,
        w.3,
        w.4,
        w.5,
        w.6,
        record {
          front = read.text;
          back = inner.front
              ++ (w.2 ∷ w.4);
          value = a;
          split = append_assoc read.text inner.front
              (w.2 ∷ w.4);
          one = read.spelled w.0 w.1;
          other = w.7;
        },
      );
    }

    first_refused : {deep : Bool} {left : ℕ} → GoesOn Above level second
        → IsRefused Above first first_stop level ts deep left
        → IsRefused Above (JoinedAt first second) stop level ts deep left
    first_refused goes_on inner = record {
      front = inner.front;
      rest = inner.rest;
      split = inner.split;
      is_left = inner.is_left;
      viable = elim inner.viable [
        | inl empty ↦ inl empty
        | inr more ↦ (let g = goes_on level (same_level level) more.1 in inr (
          more.0 ++ g.0,
          g.1,
          record {
            front = inner.front
                ++ more.0;
            back = g.0;
            value = more.1;
            split = sym
                (append_assoc inner.front more.0 g.0);
            one = more.2;
            other = g.2;
          },
        ))
      ];
      dead =
          λ m bound us agrees b q begins. inner.dead m bound us agrees begins.spelled.value (begins.spelled.back ++ q)
          (begins_first m us b q begins);
      beyond = λ deep. let w = inner.beyond deep in let g = goes_on w.0 w.1 w.5 in (
        w.0,
        w.1,
        w.2,
        w.3,
        w.4
            ++ g.0,
        g.1,
        w.6,
        record {
          front = inner.front
              ++ (w.2 ∷ w.4);
          back = g.0;
          value = w.5;
          split = sym
              (append_assoc inner.front (w.2 ∷ w.4) g.0);
          one = w.7;
          other = g.2;
        },
      );
    }

    pub joined_answers : (o : Outcome T A) (f : A → Reader T B) → GoesOn Above level second
        → Answers Above first first_stop level ts o
        → ((a : A) (r : List T) → IsRead Above first first_stop level ts a r
        → Answers Above (second a) stop level r (f a r))
        → Answers Above (JoinedAt first second) stop level ts (and_then o f)
    joined_answers (Ok x) f goes_on read behind = go (f x.0 x.1) (behind x.0 x.1 read)
      where
        go : (o : Outcome T B) → Answers Above (second x.0) stop level x.1 o
            → Answers Above (JoinedAt first second) stop level ts o
        go (Ok y) inner = joined_read read inner
        go (Err (Unexpected left)) inner = second_refused goes_on read inner
        go (Err (TooDeep left)) inner = second_refused goes_on read inner
        go (Err Memory) inner = inner
    joined_answers (Err (Unexpected left)) f goes_on refused behind = first_refused goes_on refused
    joined_answers (Err (TooDeep left)) f goes_on refused behind = first_refused goes_on refused
    joined_answers (Err Memory) f goes_on refused behind = refused

  -- ---- a value made of what was read

  pub made_answers : {A B : Type 0} (rule : Rules T L A) (f : A → B) (rule_stop : Stop T A) (stop : Stop T B)
      (level : L) (ts : List T) → ((a : A) (s : Option T) → stop (f a) s ≡ true → rule_stop a s ≡ true)
      → (o : Outcome T A) → Answers Above rule rule_stop level ts o
      → Answers Above (MadeAt rule f) stop level ts (and_then o (λ a. gives (f a)))
  made_answers rule f rule_stop stop level ts weaker o reads =
      joined_answers rule (λ a. GivesAt (f a)) rule_stop stop level ts (gives_follow f rule_stop stop weaker) o
      (λ a. gives (f a)) (λ m above a. ([], f a, record { empty = refl; same = refl })) reads
      (λ a r read. gives_answers (f a) stop level r)

  -- ---- the answers of one rule carried to another

  pub carried : {A : Type 0} (narrow wide : Rules T L A) (narrow_stop stop : Stop T A) (level : L) (ts : List T)
      → ((m : L) → Above level m → (text : List T) (a : A) → narrow m text a → wide m text a)
      → ((m : L) (us : List T) → head us ≡ head ts → (a : A) (r : List T) → Begins wide stop m us a r
      → Begins narrow narrow_stop m us a r)
      → (o : Outcome T A) → Answers Above narrow narrow_stop level ts o → Answers Above wide stop level ts o
  carried {A = A} narrow wide narrow_stop stop level ts to fro = by
    where
      refused : (deep : Bool) (left : ℕ) → IsRefused Above narrow narrow_stop level ts deep left
          → IsRefused Above wide stop level ts deep left
      refused deep left inner = record {
        front = inner.front;
        rest = inner.rest;
        split = inner.split;
        is_left = inner.is_left;
        viable =
            elim inner.viable [
              | inl empty ↦ inl empty
              | inr more ↦ inr
                  (more.0, more.1, to level (same_level level) (inner.front ++ more.0) more.1 more.2)
            ];
        dead =
            λ m bound us agrees a q begins. inner.dead m bound us agrees a q
            (fro m us (agrees_head inner.front inner.rest us agrees ∙ ap head (sym inner.split)) a q begins);
        beyond =
            λ deep. let w = inner.beyond deep in (
              w.0,
              w.1,
              w.2,
              w.3,
              w.4,
              w.5,
              w.6,
              to w.0 w.1 (inner.front ++ (w.2 ∷ w.4)) w.5 w.7,
            );
      }

      by : (o : Outcome T A) → Answers Above narrow narrow_stop level ts o → Answers Above wide stop level ts o
      by (Ok x) read = record {
        text = read.text;
        split = read.split;
        spelled = λ m above. to m above read.text x.0 (read.spelled m above);
        only =
            λ m s e b q begins. read.only m s e b q (fro m (read.text ++ s)
            (head_agrees read.text x.1 s e ∙ ap head (sym read.split)) b q begins);
      }
      by (Err (Unexpected left)) inner = refused false left inner
      by (Err (TooDeep left)) inner = refused true left inner
      by (Err Memory) inner = inner

  -- the same rule in other words
  pub equal_answers : {A : Type 0} (rule other : Rules T L A) (stop : Stop T A) (level : L) (ts : List T)
      → ((m : L) (text : List T) (a : A) → rule m text a → other m text a)
      → ((m : L) (text : List T) (a : A) → other m text a → rule m text a)
      → (o : Outcome T A) → Answers Above rule stop level ts o → Answers Above other stop level ts o
  equal_answers rule other stop level ts to fro = carried rule other stop stop level ts (λ m _. to m)
      (λ m us e a r begins. record {
        text = begins.text;
        split = begins.split;
        spelled = fro m begins.text a
            begins.spelled;
        stops = begins.stops;
      })

  -- the same rule where fewer symbols may be behind it
  pub stricter_answers : {A : Type 0} (rule : Rules T L A) (stop stricter : Stop T A) (level : L) (ts : List T)
      → ((a : A) (s : Option T) → stricter a s ≡ true → stop a s ≡ true)
      → (o : Outcome T A) → Answers Above rule stop level ts o → Answers Above rule stricter level ts o
  stricter_answers rule stop stricter level ts weaker = carried rule rule stop stricter level ts (λ m _ text a h. h)
      (λ m us e a r begins. record {
        text = begins.text;
        split = begins.split;
        spelled = begins.spelled;
        stops = weaker
            a (head r) begins.stops;
      })

  -- ---- one rule or the other, by the next symbol

  module _ {A : Type 0} (first second : Rules T L A) (test : Option T → Bool) (stop : Stop T A) (level : L)
      (ts : List T) (starts : StartsIn first test) (apart : Apart second stop test) where
    pub by_first : test (head ts) ≡ true → (o : Outcome T A) → Answers Above first stop level ts o
        → Answers Above (EitherAt first second) stop level ts o
    by_first here = carried first (EitherAt first second) stop stop level ts (λ m _ text a h. inl h)
        (λ m us e a r begins. record {
          text = begins.text;
          split = begins.split;
          spelled = elim begins.spelled [
            | inl h ↦ h
            | inr h ↦ (let f = apart m begins.text a r h begins.stops in let t : test (head us) ≡ false = ap
                (λ l. test (head l)) begins.split ∙ f in let u : test (head us) ≡ true = ap test e ∙ here in cc)
          ];
          stops = begins.stops;
        })

    pub by_second : test (head ts) ≡ false → (o : Outcome T A) → Answers Above second stop level ts o
        → Answers Above (EitherAt first second) stop level ts o
    by_second here = carried second (EitherAt first second) stop stop level ts (λ m _ text a h. inr h)
        (λ m us e a r begins. record {
          text = begins.text;
          split = begins.split;
          spelled = elim begins.spelled [
            | inl h ↦ (let f = begun first test starts m begins.text r a h in let t : test (head us) ≡ true = ap
                (λ l. test (head l)) begins.split ∙ f in let u : test (head us) ≡ false = ap test e ∙ here in cc)
            | inr h ↦ h
          ];
          stops = begins.stops;
        })

    pub either_answers : (o p : Outcome T A) → (test (head ts) ≡ true → Answers Above first stop level ts o)
        → (test (head ts) ≡ false → Answers Above second stop level ts p)
        → Answers Above (EitherAt first second) stop level ts (cond (test (head ts)) o p)
    either_answers o p one other = go (test (head ts)) refl
      where
        go : (b : Bool) → test (head ts) ≡ b → Answers Above (EitherAt first second) stop level ts (cond b o p)
        go true here = by_first here o (one here)
        go false here = by_second here p (other here)

    -- where the grammar names them in the other order
    pub either_answers_back : (o p : Outcome T A) → (test (head ts) ≡ true → Answers Above first stop level ts o)
        → (test (head ts) ≡ false → Answers Above second stop level ts p)
        → Answers Above (EitherAt second first) stop level ts (cond (test (head ts)) o p)
    either_answers_back o p one other =
        equal_answers (EitherAt first second) (EitherAt second first) stop level ts swap back
        (cond (test (head ts)) o p) (either_answers o p one other)
      where
        swap : (m : L) (text : List T) (a : A) → EitherAt first second m text a → EitherAt second first m text a
        swap m text a (inl h) = inr h
        swap m text a (inr h) = inl h

        back : (m : L) (text : List T) (a : A) → EitherAt second first m text a → EitherAt first second m text a
        back m text a (inl h) = inr h
        back m text a (inr h) = inl h

  -- the rule where it may begin here, else a refusal
  pub guarded_answers : {A : Type 0} (rule : Rules T L A) (test : Option T → Bool) (stop : Stop T A) (level : L)
      (ts : List T) → StartsIn rule test
      → (o : Outcome T A) → (test (head ts) ≡ true → Answers Above rule stop level ts o)
      → Answers Above rule stop level ts (cond (test (head ts)) o (Err (Unexpected (length ts))))
  guarded_answers {A = A} rule test stop level ts starts o reads = go (test (head ts)) refl
    where
      go : (b : Bool) → test (head ts) ≡ b → Answers Above rule stop level ts (cond b o (Err (Unexpected (length ts))))
      go true here = reads here
      go false here = refused_here rule stop level ts (λ m us e a q begins.
          let t : test (head us) ≡ true = ap (λ l. test (head l)) begins.split
          ∙ begun rule test starts m begins.text q a begins.spelled in
          let u : test (head us) ≡ false = ap test e ∙ here in
          cc)

  -- the rule or nothing
  pub perhaps_answers : {A : Type 0} (rule : Rules T L A) (test : Option T → Bool) (rule_stop : Stop T A)
      (stop : Stop T (Option A)) (level : L) (ts : List T) → StartsIn rule test
      → ((a : A) (s : Option T) → stop (Some a) s ≡ true → rule_stop a s ≡ true)
      → ((s : Option T) → stop None s ≡ true → test s ≡ false)
      → (o : Outcome T A) → (test (head ts) ≡ true → Answers Above rule rule_stop level ts o)
      → Answers Above (PerhapsAt rule) stop level ts (cond (test (head ts)) (and_then o (λ a. gives (Some a)))
      (Ok (None, ts)))
  perhaps_answers rule test rule_stop stop level ts starts weaker apart o reads =
      either_answers (MadeAt rule Some) (GivesAt None) test stop level ts (made_starts rule Some test starts)
      (gives_apart None stop test apart)
      (and_then o (λ a. gives (Some a))) (Ok (None, ts)) (λ here. made_answers rule Some rule_stop stop level ts weaker
      o (reads here)) (λ _. gives_answers None stop level ts)

  -- ---- the rule under a condition

  pub when_holds : {A : Type 0} (condition : Bool) (rule : Rules T L A) (stop : Stop T A) (level : L) (ts : List T)
      → condition ≡ true → (o : Outcome T A) → Answers Above rule stop level ts o
      → Answers Above (WhenAt condition rule) stop level ts o
  when_holds condition rule stop level ts holds =
      equal_answers rule (WhenAt condition rule) stop level ts (λ m text a h. record { holds = holds; spelled = h })
      (λ m text a h. h.spelled)

  pub when_fails : {A : Type 0} (condition : Bool) (rule : Rules T L A) (stop : Stop T A) (level : L) (ts : List T)
      → condition ≡ false
      → Answers Above (WhenAt condition rule) stop level ts (Err (Unexpected (length ts)))
  when_fails condition rule stop level ts fails =
      refused_here (WhenAt condition rule) stop level ts (λ m us e a q begins. let h = begins.spelled.holds in cc)

  pub when_answers : {A : Type 0} (condition : Bool) (rule : Rules T L A) (stop : Stop T A) (level : L) (ts : List T)
      (o : Outcome T A) → (condition ≡ true → Answers Above rule stop level ts o)
      → Answers Above (WhenAt condition rule) stop level ts (cond condition o (Err (Unexpected (length ts))))
  when_answers {A = A} condition rule stop level ts o reads = go condition refl
    where
      go : (b : Bool) → condition ≡ b
          → Answers Above (WhenAt condition rule) stop level ts (cond b o (Err (Unexpected (length ts))))
      go true holds = when_holds condition rule stop level ts holds o (reads holds)
      go false fails = when_fails condition rule stop level ts fails

  -- ---- a value that passes a test, refused behind it

  module _ {A : Type 0} (rule : Rules T L A) (test : A → Bool) (stop : Stop T A) (level : L) (ts : List T)
      (longer : (m : L) (text : List T) (a : A) → rule m text a
      → (more : List T) × (b : A) × rule m (text ++ more) b × (test b ≡ true)) where
    untested : (m : L) (us : List T) (b : A) (q : List T) → Begins (λ l. Tested (rule l) test) stop m us b q
        → Begins rule stop m us b q
    untested m us b q begins =
        record { text = begins.text; split = begins.split; spelled = begins.spelled.spelled; stops = begins.stops }

    passed : (a : A) (r : List T) → IsRead Above rule stop level ts a r → test a ≡ true
        → IsRead Above (λ l. Tested (rule l) test) stop level ts a r
    passed a r read is = record {
      text = read.text;
      split = read.split;
      spelled = λ m above. record { spelled = read.spelled m above; passes = is };
      only = λ m s e b q begins. read.only m s e b q (untested m (read.text ++ s) b q begins);
    }

    failed : (a : A) (r : List T) → IsRead Above rule stop level ts a r → test a ≡ false
        → IsRefused Above (λ l. Tested (rule l) test) stop level ts false (length r)
    failed a r read is = record {
      front = read.text;
      rest = r;
      split = read.split;
      is_left = refl;
      viable =
          let w = longer level read.text a (read.spelled level (same_level level)) in inr
          (w.0, w.1, record { spelled = w.2; passes = w.3 });
      dead = λ m bound us agrees b q begins.
          let t = tail_of read.text r us agrees in
          let found = read.only m t.0 t.2 b q (subst (λ l. Begins rule stop m l b q) t.1 (untested m us b q begins)) in
          let u : test b ≡ true = begins.spelled.passes in
          let v : test b ≡ false = ap test found.0 ∙ is in
          cc;
      beyond = λ deep. absurd (cc);
    }

    refused_tested : (deep : Bool) (left : ℕ) → IsRefused Above rule stop level ts deep left
        → IsRefused Above (λ l. Tested (rule l) test) stop level ts deep left
    refused_tested deep left inner = record {
      front = inner.front;
      rest = inner.rest;
      split = inner.split;
      is_left = inner.is_left;
      viable = elim inner.viable [
        | inl empty ↦ inl empty
        | inr more ↦ (let w = longer level (inner.front ++ more.0) more.1 more.2 in inr (
          more.0 ++ w.0,
          w.1,
          record {
            spelled = subst (λ l. rule level l w.1)
                (append_assoc inner.front more.0 w.0) w.2;
            passes = w.3;
          },
        ))
      ];
      dead = λ m bound us agrees b q begins. inner.dead m bound us agrees b q (untested m us b q begins);
      beyond = λ deep. let v = inner.beyond deep in let w = longer v.0 (inner.front ++ (v.2 ∷ v.4)) v.5 v.7 in (
        v.0,
        v.1,
        v.2,
        v.3,
        v.4
            ++ w.0,
        w.1,
        v.6,
        record {
          spelled = subst (λ l. rule v.0 l w.1)
              (append_assoc inner.front (v.2 ∷ v.4) w.0) w.2;
          passes = w.3;
        },
      );
    }

    pub tested_answers : (o : Outcome T A) → Answers Above rule stop level ts o
        → Answers Above (λ l. Tested (rule l) test) stop level ts (and_then o (tested test))
    tested_answers (Ok x) read = go (test x.0) refl
      where
        go : (b : Bool) → test x.0 ≡ b
            → Answers Above (λ l. Tested (rule l) test) stop level ts
            (cond b (Ok (x.0, x.1)) (Err (Unexpected (length x.1))))
        go true is = passed x.0 x.1 read is
        go false is = failed x.0 x.1 read is
    tested_answers (Err (Unexpected left)) inner = refused_tested false left inner
    tested_answers (Err (TooDeep left)) inner = refused_tested true left inner
    tested_answers (Err Memory) inner = inner

  -- ---- the rule by its first symbol

  -- The answers of a rule carried to one that is narrower only by what it asks of its first symbol, which is the one of
  -- ts.
  module _ {A : Type 0} (rule narrow : Rules T L A) (stop : Stop T A) (level : L) (ts : List T)
      (to : (m : L) (x : T) (us more : List T) (a : A) → ts ≡ x ∷ us → rule m (x ∷ more) a → narrow m (x ∷ more) a)
      (to_empty : (m : L) (a : A) → rule m [] a → narrow m [] a)
      (fro : (m : L) (us : List T) → head us ≡ head ts → (a : A) (r : List T) → Begins narrow stop m us a r
      → Begins rule stop m us a r)
      (fro_empty : (n : L) (a : A) → rule n [] a → (m : L) (us : List T) (b : A) (r : List T)
      → Begins narrow stop m us b r → Begins rule stop m us b r) where
    narrow_at : (m : L) (text r : List T) (a : A) → ts ≡ text ++ r → rule m text a → narrow m text a
    narrow_at m [] r a split h = to_empty m a h
    narrow_at m (x ∷ text) r a split h = to m x (text ++ r) text a split h

    rule_from : (text r s : List T) (a : A) → rule level text a → ts ≡ text ++ r → (m : L) (b : A) (q : List T)
        → Begins narrow stop m (text ++ s) b q → Begins rule stop m (text ++ s) b q
    rule_from [] r s a h split m b q begins = fro_empty level a h m s b q begins
    rule_from (x ∷ text) r s a h split m b q begins = fro m (x ∷ (text ++ s)) (ap head (sym split)) b q begins

    narrow_viable : (front rest : List T) → ts ≡ front ++ rest → (more : List T) (a : A) → rule level (front ++ more) a
        → (front ≡ []) ⊎ ((more : List T) × (a : A) × narrow level (front ++ more) a)
    narrow_viable [] rest split more a h = inl refl
    narrow_viable (x ∷ front) rest split more a h = inr (more, a, to level x (front ++ rest) (front ++ more) a split h)

    narrow_beyond : (front rest : List T) → ts ≡ front ++ rest → (m : L) (x : T) (after more : List T) (a : A)
        → rest ≡ x ∷ after → rule m (front ++ (x ∷ more)) a → narrow m (front ++ (x ∷ more)) a
    narrow_beyond [] rest split m x after more a e h = to m x after more a (split ∙ e) h
    narrow_beyond (y ∷ front) rest split m x after more a e h = to m y (front ++ rest) (front ++ (x ∷ more)) a split h

    narrow_refused : (deep : Bool) (left : ℕ) → IsRefused Above rule stop level ts deep left
        → IsRefused Above narrow stop level ts deep left
    narrow_refused deep left inner = record {
      front = inner.front;
      rest = inner.rest;
      split = inner.split;
      is_left = inner.is_left;
      viable =
          elim inner.viable [
            | inl empty ↦ inl empty
            | inr more ↦ narrow_viable inner.front inner.rest inner.split more.0
                more.1 more.2
          ];
      dead =
          λ m bound us agrees a q begins. inner.dead m bound us agrees a q
          (fro m us (agrees_head inner.front inner.rest us agrees ∙ ap head (sym inner.split)) a q begins);
      beyond =
          λ deep. let w = inner.beyond deep in (
            w.0,
            w.1,
            w.2,
            w.3,
            w.4,
            w.5,
            w.6,
            narrow_beyond inner.front inner.rest inner.split w.0 w.2 w.3 w.4 w.5 w.6 w.7,
          );
    }

    pub first_symbol_answers : (o : Outcome T A) → Answers Above rule stop level ts o
        → Answers Above narrow stop level ts o
    first_symbol_answers (Ok x) read = record {
      text = read.text;
      split = read.split;
      spelled = λ m above. narrow_at m read.text x.1 x.0 read.split (read.spelled m above);
      only =
          λ m s e b q begins. read.only m s e b q (rule_from read.text x.1 s x.0
          (read.spelled level (same_level level)) read.split m b q begins);
    }
    first_symbol_answers (Err (Unexpected left)) inner = narrow_refused false left inner
    first_symbol_answers (Err (TooDeep left)) inner = narrow_refused true left inner
    first_symbol_answers (Err Memory) inner = inner

  -- ---- levels of nesting

  -- where no level is left
  pub too_deep_answers : {A : Type 0} (rule : Rules T L A) (stop : Stop T A) (level : L) (ts : List T)
      → ((text : List T) (a : A) → rule level text a → ⊥) → Opens Above rule level ts
      → Answers Above rule stop level ts (Err (TooDeep (length ts)))
  too_deep_answers rule stop level ts none opens = record {
    front = [];
    rest = ts;
    split = refl;
    is_left = refl;
    viable = inl refl;
    dead =
        λ m bound us agrees a q begins. none begins.text a (subst (λ k. rule k begins.text a)
        (bound refl) begins.spelled);
    beyond = λ _. opens;
  }

  pub nests_answers : {A : Type 0} (depth : L → ℕ) (rule : Rules T L A) (stop : Stop T A) (level : L) (ts : List T)
      → ((m : L) → Above level m → depth level ≤ depth m)
      → (p : Reader T A) → (depth level ≡ 0 → Opens Above (NestsAt depth rule) level ts)
      → (0 < depth level → Answers Above rule stop level ts (p ts))
      → Answers Above (NestsAt depth rule) stop level ts (and_then (enter (depth level) ts) (λ _. p))
  nests_answers {A = A} depth rule stop level ts deeper p opens reads = go (depth level) refl
    where
      go : (n : ℕ) → depth level ≡ n → Answers Above (NestsAt depth rule) stop level ts (and_then (enter n ts) (λ _. p))
      go zero e =
          too_deep_answers (NestsAt depth rule) stop level ts
          (λ text a h. let some : 0 < depth level = h.some in omega arith) (opens e)
      go (suc n) e = carried rule (NestsAt depth rule) stop stop level ts
          (λ m above text a h. record { some = (let d = deeper m above in omega arith); spelled = h })
          (λ m us _ a r begins. record {
            text = begins.text;
            split = begins.split;
            spelled = begins.spelled.spelled;
            stops = begins.stops;
          })
          (p ts) (reads (omega arith))
