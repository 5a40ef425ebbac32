-- How the answers of readers compose from level to level.
use Rattle.std.proofs.Common.{◌≡◌, inl, inr, ℕ, zero, suc, ◌≤◌, Bool, true, false, List, ◌∷◌, ◌++◌, Ok, Err, sym, refl, ap, ◌∙◌, subst, arith}
use Rattle.dp_grammar.specs.declared.refusal.Refusal.TheVariants.{Unexpected, TooDeep, Memory}
use Rattle.dp_grammar.specs.inner.Input.{Outcome}
use Rattle.dp_grammar.proofs.Spellings.{Rules, Stop, Begins, IsRefused, Answers}

-- What is read a level below is read from here. The rule below is `under` at each level that has one below.
pub below_answers : {T L A : Type 0} (Above : L → L → Type 0) (rule under : Rules T L A) (stop : Stop T A)
    (lower level : L) (ts : List T) (raise : L → L)
    → ((m : L) (text : List T) (a : A) → under m text a → (k : L) × (m ≡ raise k) × rule k text a)
    → ((k : L) (text : List T) (a : A) → rule k text a → under (raise k) text a)
    → ((m : L) → Above level m → (k : L) × (m ≡ raise k) × Above lower k)
    → ((k : L) → Above lower k → Above level (raise k))
    → level ≡ raise lower
    → ((k m : L) → raise k ≡ raise m → k ≡ m)
    → (o : Outcome T A) → Answers Above rule stop lower ts o → Answers Above under stop level ts o
below_answers {T = T} {L = L} {A = A} Above rule under stop lower level ts raise down up drops lifts here one = by
  where
    begins_below : (m : L) (us : List T) (a : A) (q : List T) → Begins under stop m us a q
        → (k : L) × (m ≡ raise k) × Begins rule stop k us a q
    begins_below m us a q begins =
        let d = down m begins.text a begins.spelled in (
          d.0,
          d.1,
          record { text = begins.text; split = begins.split; stops = begins.stops; spelled = d.2 },
        )

    refused : (deep : Bool) (left : ℕ) → IsRefused Above rule stop lower ts deep left
        → IsRefused Above under stop level ts deep left
    refused deep left inner = record {
      front = inner.front;
      rest = inner.rest;
      split = inner.split;
      is_left = inner.is_left;
      viable =
          elim inner.viable [
            | inl empty ↦ inl empty
            | inr more ↦ inr (
              more.0,
              more.1,
              subst (λ l. under l (inner.front ++ more.0) more.1) (sym here)
                  (up lower (inner.front ++ more.0) more.1 more.2),
            )
          ];
      dead =
          λ m bound us agrees a q begins. let b = begins_below m us a q begins in inner.dead b.0
          (λ deep. one b.0 lower (sym b.1 ∙ bound deep ∙ here)) us agrees a q b.2;
      beyond =
          λ deep. let w = inner.beyond deep in (
            raise w.0,
            lifts w.0 w.1,
            w.2,
            w.3,
            w.4,
            w.5,
            w.6,
            up w.0 (inner.front ++ (w.2 ∷ w.4)) w.5 w.7,
          );
    }

    by : (o : Outcome T A) → Answers Above rule stop lower ts o → Answers Above under stop level ts o
    by (Ok p) read = record {
      text = read.text;
      split = read.split;
      spelled =
          λ m above. let d = drops m above in subst (λ l. under l read.text p.0) (sym d.1)
          (up d.0 read.text p.0 (read.spelled d.0 d.2));
      only = λ m s e b q begins. let d = begins_below m (read.text ++ s) b q begins in read.only d.0 s e b q d.2;
    }
    by (Err (Unexpected left)) inner = refused false left inner
    by (Err (TooDeep left)) inner = refused true left inner
    by (Err Memory) inner = inner

-- the same where levels are numbers
pub under_answers : {T A : Type 0} (rule under : Rules T ℕ A) (stop : Stop T A) (level : ℕ) (ts : List T)
    → ((text : List T) (a : A) → under 0 text a → ⊥)
    → ((k : ℕ) (text : List T) (a : A) → under (suc k) text a → rule k text a)
    → ((k : ℕ) (text : List T) (a : A) → rule k text a → under (suc k) text a)
    → (o : Outcome T A) → Answers (λ l m. l ≤ m) rule stop level ts o
    → Answers (λ l m. l ≤ m) under stop (suc level) ts o
under_answers {T = T} {A = A} rule under stop level ts none down up =
    below_answers (λ l m. l ≤ m) rule under stop level (suc level) ts suc lower up drops (λ k above. omega arith) refl
    (λ k m e. omega arith)
  where
    lower : (m : ℕ) (text : List T) (a : A) → under m text a → (k : ℕ) × (m ≡ suc k) × rule k text a
    lower zero text a h = absurd (none text a h)
    lower (suc k) text a h = (k, refl, down k text a h)

    drops : (m : ℕ) → suc level ≤ m → (k : ℕ) × (m ≡ suc k) × (level ≤ k)
    drops zero above = absurd (omega arith)
    drops (suc k) above = (k, refl, omega arith)

-- a rule of one part of the level
pub within_answers : {T K L A : Type 0} (AboveK : K → K → Type 0) (Above : L → L → Type 0) (rule : Rules T K A)
    (stop : Stop T A) (level : L) (ts : List T) (part : L → K)
    → ((m : L) → Above level m → AboveK (part level) (part m))
    → ((k : K) → AboveK (part level) k → (m : L) × Above level m × (part m ≡ k))
    → (o : Outcome T A) → Answers AboveK rule stop (part level) ts o
    → Answers Above (λ l. rule (part l)) stop level ts o
within_answers {T = T} {K = K} {L = L} {A = A} AboveK Above rule stop level ts part parts wholes = by
  where
    again : (m : L) (us : List T) (a : A) (q : List T) → Begins (λ l. rule (part l)) stop m us a q
        → Begins rule stop (part m) us a q
    again m us a q begins =
        record { text = begins.text; split = begins.split; spelled = begins.spelled; stops = begins.stops }

    refused : (deep : Bool) (left : ℕ) → IsRefused AboveK rule stop (part level) ts deep left
        → IsRefused Above (λ l. rule (part l)) stop level ts deep left
    refused deep left inner = record {
      front = inner.front;
      rest = inner.rest;
      split = inner.split;
      is_left = inner.is_left;
      viable = inner.viable;
      dead =
          λ m bound us agrees a q begins. inner.dead (part m) (λ deep. ap part (bound deep)) us agrees a q
          (again m us a q begins);
      beyond =
          λ deep. let w = inner.beyond deep in let v = wholes w.0 w.1 in
          (v.0, v.1, w.2, w.3, w.4, w.5, w.6, subst (λ k. rule k (inner.front ++ (w.2 ∷ w.4)) w.5) (sym v.2) w.7);
    }

    by : (o : Outcome T A) → Answers AboveK rule stop (part level) ts o
        → Answers Above (λ l. rule (part l)) stop level ts o
    by (Ok p) read = record {
      text = read.text;
      split = read.split;
      spelled = λ m above. read.spelled (part m) (parts m above);
      only = λ m s e b q begins. read.only (part m) s e b q (again m (read.text ++ s) b q begins);
    }
    by (Err (Unexpected left)) inner = refused false left inner
    by (Err (TooDeep left)) inner = refused true left inner
    by (Err Memory) inner = inner
