-- What the outcome of a reader of tokens says of the rule that it reads: the theory of dp_grammar, where what comes
-- next is told by its sort.
use Rattle.std.proofs.Common.{◌≡◌, ℕ, suc, ◌<◌, ◌≤◌, Bool, true, false, ◌||◌, List, [], ◌∷◌, ◌++◌, length, Option, Some, None, Ok, Err, sym, refl, ap, ◌∙◌, subst, cond}
use Rattle.dp_lexer.specs.declared.token.Token.{Token}
use Rattle.dp_grammar.specs.declared.refusal.Refusal.TheVariants.{Unexpected}
use Rattle.dp_grammar.specs.Rules.{head as first}
use Rattle.dp_grammar.proofs.Answers as all
use Rattle.dp_grammar.proofs.LevelAnswers as levels
use Rattle.dp_token_rules.specs.declared.terminal.Terminal.{Terminal}
use Rattle.dp_token_rules.specs.declared.terminal.Terminal.TheVariants as terminal
use Rattle.dp_token_rules.specs.Terminals.{terminal_of, next_terminal, same_terminal, is, head}
use Rattle.dp_token_rules.specs.Lines.{line_of, next_line}
use Rattle.dp_token_rules.specs.inner.Input.{Outcome, Reader, and_then, gives, one, enter}
use Rattle.dp_token_rules.specs.Rules.{Rule, line_at, Mark, Without, OnLine}
use Rattle.dp_token_rules.proofs.Terminals.{line_back}
pub use Rattle.dp_grammar.proofs.Answers.{
  JoinedAt,
  EitherAt,
  GivesAt,
  OneAt,
  MadeAt,
  PerhapsAt,
  WhenAt,
  NestsAt,
  ClosedAt,
  StepAt,
  ManyAt,
  Agrees,
  Opens,
  Can,
  GoesOn,
  give,
  given,
  behind,
}

-- a rule at each level of nesting
abbrev pub Rules : Type 0 → Type 0 → Type 1
Rules L A = L → Rule A

-- where a value may end: with what sort of token next
abbrev pub Stop : Type 0 → Type 0
Stop A = A → Terminal → Bool

abbrev pub Anything : {A : Type 0} → A → Terminal → Bool
Anything a s = true

-- a test of sorts, of what comes next
abbrev pub at : (Terminal → Bool) → Option Token → Bool
at test o = test (next_terminal o)

abbrev pub ends : {A : Type 0} → Stop A → A → Option Token → Bool
ends stop a o = stop a (next_terminal o)

abbrev pub MarkAt : {L : Type 0} → Terminal → Rules L ℕ
MarkAt s = λ _. Mark s

abbrev pub WithoutAt : {L A : Type 0} → Terminal → Rules L A → Rules L A
WithoutAt s rule = λ level. Without s (rule level)

abbrev pub OnLineAt : {L A : Type 0} → (ℕ → Rules L A) → Rules L A
OnLineAt rule = λ level. OnLine (λ line. rule line level)

abbrev pub Begins : {L A : Type 0} → Rules L A → Stop A → L → List Token → A → List Token → Type 0
Begins rule stop = all.Begins rule (ends stop)

abbrev pub IsRead : {L A : Type 0} → (L → L → Type 0) → Rules L A → Stop A → L → List Token → A → List Token → Type 0
IsRead Above rule stop = all.IsRead Above rule (ends stop)

abbrev pub IsRefused : {L A : Type 0} → (L → L → Type 0) → Rules L A → Stop A → L → List Token → Bool → ℕ → Type 0
IsRefused Above rule stop = all.IsRefused Above rule (ends stop)

abbrev pub Answers : {L A : Type 0} → (L → L → Type 0) → Rules L A → Stop A → L → List Token → Outcome A → Type 0
Answers Above rule stop = all.Answers Above rule (ends stop)

-- What comes behind the first rule does not go on with it.
abbrev pub Follows : {L A B : Type 0} → Stop A → (A → Rules L B) → Stop B → Type 0
Follows first_stop second stop = all.Follows (ends first_stop) second (ends stop)

-- each spelling begins with a token of a sort that passes the test
abbrev pub StartsIn : {L A : Type 0} → Rules L A → (Terminal → Bool) → Type 0
StartsIn rule test = all.StartsIn rule (at test)

-- No spelling, with what may be behind it, begins with a token that passes the test.
abbrev pub Apart : {L A : Type 0} → Rules L A → Stop A → (Terminal → Bool) → Type 0
Apart rule stop test = all.Apart rule (ends stop) (at test)

-- ---- what a rule starts with

pub begun : {L A : Type 0} (rule : Rules L A) (test : Terminal → Bool) → StartsIn rule test
    → (m : L) (text r : List Token) (a : A) → rule m text a → test (head (text ++ r)) ≡ true
begun rule test = all.begun rule (at test)

pub one_starts : {L A : Type 0} (worth : Token → Option A) (test : Terminal → Bool)
    → ((t : Token) (a : A) → worth t ≡ Some a → test (terminal_of t.kind) ≡ true) → StartsIn {L = L} (OneAt worth) test
one_starts worth test = all.one_starts worth (at test)

pub mark_starts : {L : Type 0} (s : Terminal) → StartsIn {L = L} (MarkAt s) (is s)
mark_starts s m text a o = (o.symbol, [], o.alone, (line_back s o.symbol a o.is_worth).0)

pub joined_starts : {L A B : Type 0} (first : Rules L A) (second : A → Rules L B) (test : Terminal → Bool)
    → StartsIn first test → StartsIn (JoinedAt first second) test
joined_starts first_rule second test = all.joined_starts first_rule second (at test)

pub made_starts : {L A B : Type 0} (rule : Rules L A) (f : A → B) (test : Terminal → Bool) → StartsIn rule test
    → StartsIn (MadeAt rule f) test
made_starts rule f test = all.made_starts rule f (at test)

pub either_starts : {L A : Type 0} (first second : Rules L A) (test : Terminal → Bool) → StartsIn first test
    → StartsIn second test → StartsIn (EitherAt first second) test
either_starts one other test = all.either_starts one other (at test)

pub when_starts : {L A : Type 0} (condition : Bool) (rule : Rules L A) (test : Terminal → Bool) → StartsIn rule test
    → StartsIn (WhenAt condition rule) test
when_starts condition rule test = all.when_starts condition rule (at test)

pub nests_starts : {L A : Type 0} (depth : L → ℕ) (rule : Rules L A) (test : Terminal → Bool) → StartsIn rule test
    → StartsIn (NestsAt depth rule) test
nests_starts depth rule test = all.nests_starts depth rule (at test)

pub without_starts : {L A : Type 0} (s : Terminal) (rule : Rules L A) (test : Terminal → Bool) → StartsIn rule test
    → StartsIn (WithoutAt s rule) test
without_starts s rule test starts m text a h = starts m text a h.spelled

pub online_starts : {L A : Type 0} (rule : ℕ → Rules L A) (test : Terminal → Bool)
    → ((line : ℕ) → StartsIn (rule line) test) → StartsIn (OnLineAt rule) test
online_starts rule test starts m text a h = starts h.first.line m text a h.spelled

pub starts_in_more : {L A : Type 0} (rule : Rules L A) (test wider : Terminal → Bool)
    → ((s : Terminal) → test s ≡ true → wider s ≡ true) → StartsIn rule test → StartsIn rule wider
starts_in_more rule test wider more = all.starts_in_more rule (at test) (at wider) (λ o. more (next_terminal o))

pub or_starts : {L A : Type 0} (first second : Rules L A) (s t : Terminal → Bool) → StartsIn first s → StartsIn second t
    → StartsIn (EitherAt first second) (λ x. s x || t x)
or_starts one other s t = all.or_starts one other (at s) (at t)

pub starts_apart : {L A : Type 0} (rule : Rules L A) (stop : Stop A) (test other : Terminal → Bool)
    → ((s : Terminal) → other s ≡ true → test s ≡ false) → StartsIn rule other → Apart rule stop test
starts_apart rule stop test other apart =
    all.starts_apart rule (ends stop) (at test) (at other) (λ o. apart (next_terminal o))

pub gives_apart : {L A : Type 0} (a : A) (stop : Stop A) (test : Terminal → Bool)
    → ((s : Terminal) → stop a s ≡ true → test s ≡ false) → Apart {L = L} (GivesAt a) stop test
gives_apart a stop test apart = all.gives_apart a (ends stop) (at test) (λ o. apart (next_terminal o))

pub made_apart : {L A B : Type 0} (rule : Rules L A) (f : A → B) (rule_stop : Stop A) (stop : Stop B)
    (test : Terminal → Bool) → ((a : A) (s : Terminal) → stop (f a) s ≡ true → rule_stop a s ≡ true)
    → Apart rule rule_stop test → Apart (MadeAt rule f) stop test
made_apart rule f rule_stop stop test weaker =
    all.made_apart rule f (ends rule_stop) (ends stop) (at test) (λ a o. weaker a (next_terminal o))

pub either_apart : {L A : Type 0} (first second : Rules L A) (stop : Stop A) (test : Terminal → Bool)
    → Apart first stop test → Apart second stop test → Apart (EitherAt first second) stop test
either_apart one other stop test = all.either_apart one other (ends stop) (at test)

-- ---- what may follow

pub anything_follows : {L A B : Type 0} (second : A → Rules L B) (stop : Stop B) → Follows Anything second stop
anything_follows second stop = all.anything_follows second (ends stop)

pub starts_follow : {L A B : Type 0} (first_stop : Stop A) (second : A → Rules L B) (stop : Stop B)
    (test : Terminal → Bool) → ((a : A) (s : Terminal) → test s ≡ true → first_stop a s ≡ true)
    → ((a : A) → StartsIn (second a) test)
    → Follows first_stop second stop
starts_follow first_stop second stop test stops =
    all.starts_follow (ends first_stop) second (ends stop) (at test) (λ a o. stops a (next_terminal o))

pub gives_follow : {L A B : Type 0} (f : A → B) (first_stop : Stop A) (stop : Stop B)
    → ((a : A) (s : Terminal) → stop (f a) s ≡ true → first_stop a s ≡ true)
    → Follows {L = L} first_stop (λ a. GivesAt (f a)) stop
gives_follow f first_stop stop weaker = all.gives_follow f (ends first_stop) (ends stop)
    (λ a o. weaker a (next_terminal o))

pub either_follows : {L A B : Type 0} (first_stop : Stop A) (one other : A → Rules L B) (stop : Stop B)
    → Follows first_stop one stop → Follows first_stop other stop
    → Follows first_stop (λ a. EitherAt (one a) (other a)) stop
either_follows first_stop one other stop = all.either_follows (ends first_stop) one other (ends stop)

module _ {L : Type 0} (Above : L → L → Type 0) (same_level : (l : L) → Above l l) where
  pub refused_here : {A : Type 0} (rule : Rules L A) (stop : Stop A) (level : L) (ts : List Token)
      → ((m : L) (us : List Token) → head us ≡ head ts → (a : A) (q : List Token) → Begins rule stop m us a q → ⊥)
      → IsRefused Above rule stop level ts false (length ts)
  refused_here rule stop level ts none =
      all.refused_here Above same_level rule (ends stop) level ts (λ m us e. none m us (ap next_terminal e))

  -- ---- one token, and none

  pub one_answers : {A : Type 0} (worth : Token → Option A) (stop : Stop A) (level : L) (ts : List Token)
      → Answers Above (OneAt worth) stop level ts (one worth ts)
  one_answers worth stop = all.one_answers Above same_level worth (ends stop)

  pub mark_answers : (s : Terminal) (stop : Stop ℕ) (level : L) (ts : List Token)
      → Answers Above (MarkAt s) stop level ts (one (line_at s) ts)
  mark_answers s = one_answers (line_at s)

  pub gives_answers : {A : Type 0} (value : A) (stop : Stop A) (level : L) (ts : List Token)
      → Answers Above (GivesAt value) stop level ts (Ok (value, ts))
  gives_answers value stop = all.gives_answers Above same_level value (ends stop)

  -- ---- one after the other

  module _ {A B : Type 0} (one : Rules L A) (second : A → Rules L B) (first_stop : Stop A) (stop : Stop B) (level : L)
      (ts : List Token) (follows : Follows first_stop second stop) where
    pub joined_answers : (o : Outcome A) (f : A → Reader B) → GoesOn Above level second
        → Answers Above one first_stop level ts o
        → ((a : A) (r : List Token) → IsRead Above one first_stop level ts a r
        → Answers Above (second a) stop level r (f a r))
        → Answers Above (JoinedAt one second) stop level ts (and_then o f)
    joined_answers = all.joined_answers Above same_level one second (ends first_stop) (ends stop) level ts follows

  pub made_answers : {A B : Type 0} (rule : Rules L A) (f : A → B) (rule_stop : Stop A) (stop : Stop B) (level : L)
      (ts : List Token) → ((a : A) (s : Terminal) → stop (f a) s ≡ true → rule_stop a s ≡ true)
      → (o : Outcome A) → Answers Above rule rule_stop level ts o
      → Answers Above (MadeAt rule f) stop level ts (and_then o (λ a. gives (f a)))
  made_answers rule f rule_stop stop level ts weaker =
      all.made_answers Above same_level rule f (ends rule_stop) (ends stop) level ts (λ a o. weaker a (next_terminal o))

  -- ---- the answers of one rule carried to another

  pub carried : {A : Type 0} (narrow wide : Rules L A) (narrow_stop stop : Stop A) (level : L) (ts : List Token)
      → ((m : L) → Above level m → (text : List Token) (a : A) → narrow m text a → wide m text a)
      → ((m : L) (us : List Token) → head us ≡ head ts → (a : A) (r : List Token) → Begins wide stop m us a r
      → Begins narrow narrow_stop m us a r)
      → (o : Outcome A) → Answers Above narrow narrow_stop level ts o → Answers Above wide stop level ts o
  carried narrow wide narrow_stop stop level ts to fro =
      all.carried Above same_level narrow wide (ends narrow_stop) (ends stop) level ts to
      (λ m us e. fro m us (ap next_terminal e))

  pub equal_answers : {A : Type 0} (rule other : Rules L A) (stop : Stop A) (level : L) (ts : List Token)
      → ((m : L) (text : List Token) (a : A) → rule m text a → other m text a)
      → ((m : L) (text : List Token) (a : A) → other m text a → rule m text a)
      → (o : Outcome A) → Answers Above rule stop level ts o → Answers Above other stop level ts o
  equal_answers rule other stop = all.equal_answers Above same_level rule other (ends stop)

  pub stricter_answers : {A : Type 0} (rule : Rules L A) (stop stricter : Stop A) (level : L) (ts : List Token)
      → ((a : A) (s : Terminal) → stricter a s ≡ true → stop a s ≡ true)
      → (o : Outcome A) → Answers Above rule stop level ts o → Answers Above rule stricter level ts o
  stricter_answers rule stop stricter level ts weaker =
      all.stricter_answers Above same_level rule (ends stop) (ends stricter) level ts
      (λ a o. weaker a (next_terminal o))

  -- ---- one rule or the other, by the next token

  module _ {A : Type 0} (one second : Rules L A) (test : Terminal → Bool) (stop : Stop A) (level : L) (ts : List Token)
      (starts : StartsIn one test) (apart : Apart second stop test) where
    pub by_first : test (head ts) ≡ true → (o : Outcome A) → Answers Above one stop level ts o
        → Answers Above (EitherAt one second) stop level ts o
    by_first = all.by_first Above same_level one second (at test) (ends stop) level ts starts apart

    pub by_second : test (head ts) ≡ false → (o : Outcome A) → Answers Above second stop level ts o
        → Answers Above (EitherAt one second) stop level ts o
    by_second = all.by_second Above same_level one second (at test) (ends stop) level ts starts apart

    pub either_answers : (o p : Outcome A) → (test (head ts) ≡ true → Answers Above one stop level ts o)
        → (test (head ts) ≡ false → Answers Above second stop level ts p)
        → Answers Above (EitherAt one second) stop level ts (cond (test (head ts)) o p)
    either_answers = all.either_answers Above same_level one second (at test) (ends stop) level ts starts apart

    pub either_answers_back : (o p : Outcome A) → (test (head ts) ≡ true → Answers Above one stop level ts o)
        → (test (head ts) ≡ false → Answers Above second stop level ts p)
        → Answers Above (EitherAt second one) stop level ts (cond (test (head ts)) o p)
    either_answers_back =
        all.either_answers_back Above same_level one second (at test) (ends stop) level ts starts apart

  pub guarded_answers : {A : Type 0} (rule : Rules L A) (test : Terminal → Bool) (stop : Stop A) (level : L)
      (ts : List Token) → StartsIn rule test
      → (o : Outcome A) → (test (head ts) ≡ true → Answers Above rule stop level ts o)
      → Answers Above rule stop level ts (cond (test (head ts)) o (Err (Unexpected (length ts))))
  guarded_answers rule test stop = all.guarded_answers Above same_level rule (at test) (ends stop)

  pub perhaps_answers : {A : Type 0} (rule : Rules L A) (test : Terminal → Bool) (rule_stop : Stop A)
      (stop : Stop (Option A)) (level : L) (ts : List Token) → StartsIn rule test
      → ((a : A) (s : Terminal) → stop (Some a) s ≡ true → rule_stop a s ≡ true)
      → ((s : Terminal) → stop None s ≡ true → test s ≡ false)
      → (o : Outcome A) → (test (head ts) ≡ true → Answers Above rule rule_stop level ts o)
      → Answers Above (PerhapsAt rule) stop level ts (cond (test (head ts)) (and_then o (λ a. gives (Some a)))
      (Ok (None, ts)))
  perhaps_answers rule test rule_stop stop level ts starts weaker apart =
      all.perhaps_answers Above same_level rule (at test) (ends rule_stop) (ends stop) level ts starts
      (λ a o. weaker a (next_terminal o)) (λ o. apart (next_terminal o))

  -- ---- the rule under a condition

  pub when_holds : {A : Type 0} (condition : Bool) (rule : Rules L A) (stop : Stop A) (level : L) (ts : List Token)
      → condition ≡ true → (o : Outcome A) → Answers Above rule stop level ts o
      → Answers Above (WhenAt condition rule) stop level ts o
  when_holds condition rule stop = all.when_holds Above same_level condition rule (ends stop)

  pub when_answers : {A : Type 0} (condition : Bool) (rule : Rules L A) (stop : Stop A) (level : L) (ts : List Token)
      (o : Outcome A) → (condition ≡ true → Answers Above rule stop level ts o)
      → Answers Above (WhenAt condition rule) stop level ts (cond condition o (Err (Unexpected (length ts))))
  when_answers condition rule stop = all.when_answers Above same_level condition rule (ends stop)

  -- ---- the rule by its first token

  -- the rule, where its first token is of another sort
  pub without_answers : {A : Type 0} (s : Terminal) (rule : Rules L A) (stop : Stop A) (level : L) (ts : List Token)
      → same_terminal terminal.End s ≡ false → same_terminal (head ts) s ≡ false
      → (o : Outcome A) → Answers Above rule stop level ts o → Answers Above (WithoutAt s rule) stop level ts o
  without_answers s rule stop level ts end apart =
      all.first_symbol_answers Above same_level rule (WithoutAt s rule) (ends stop) level ts
      (λ m x us more a split h. record { apart = ap (λ l. same_terminal (head l) s) (sym split) ∙ apart; spelled = h })
      (λ m a h. record { apart = end; spelled = h })
      (λ m us e a r begins. record {
        text = begins.text;
        split = begins.split;
        spelled = begins.spelled.spelled;
        stops =
            begins.stops;
      })
      (λ n a h m us b r begins. record {
        text = begins.text;
        split = begins.split;
        spelled = begins.spelled.spelled;
        stops = begins.stops;
      })

  -- the rule that is told the line of the next token
  pub online_answers : {A : Type 0} (rule : ℕ → Rules L A) (test : Terminal → Bool) (stop : Stop A) (level : L)
      (ts : List Token) → ((line : ℕ) → StartsIn (rule line) test)
      → (o : Outcome A) → Answers Above (rule (line_of ts)) stop level ts o
      → Answers Above (OnLineAt rule) stop level ts o
  online_answers {A = A} rule test stop level ts starts =
      all.first_symbol_answers Above same_level (rule (line_of ts)) (OnLineAt rule) (ends stop) level ts
      (λ m x us more a split h. record {
        first = x;
        behind = more;
        begins = refl;
        spelled = subst
            (λ n. rule n m (x ∷ more) a) (ap line_of split) h;
      })
      (λ m a h. absurd (none m a h))
      (λ m us e a r begins.
      let line : begins.spelled.first.line ≡ line_of ts = sym
      (ap line_of (begins.split ∙ ap (λ l. l ++ r) begins.spelled.begins)) ∙ ap next_line e in
      record {
        text = begins.text;
        split = begins.split;
        spelled = subst
            (λ n. rule n m begins.text a) line begins.spelled.spelled;
        stops = begins.stops;
      })
      (λ n a h m us b r begins. absurd (none n a h))
    where
      none : (m : L) (a : A) → rule (line_of ts) m [] a → ⊥
      none m a h = let s = starts (line_of ts) m [] a h in let e : [] ≡ s.0 ∷ s.1 = s.2 in cc

  -- ---- levels of nesting

  pub nests_answers : {A : Type 0} (depth : L → ℕ) (rule : Rules L A) (stop : Stop A) (level : L) (ts : List Token)
      → ((m : L) → Above level m → depth level ≤ depth m)
      → (p : Reader A) → (depth level ≡ 0 → Opens Above (NestsAt depth rule) level ts)
      → (0 < depth level → Answers Above rule stop level ts (p ts))
      → Answers Above (NestsAt depth rule) stop level ts (and_then (enter (depth level) ts) (λ _. p))
  nests_answers depth rule stop = all.nests_answers Above same_level depth rule (ends stop)

pub below_answers : {L A : Type 0} (Above : L → L → Type 0) (rule under : Rules L A) (stop : Stop A) (lower level : L)
    (ts : List Token) (raise : L → L)
    → ((m : L) (text : List Token) (a : A) → under m text a → (k : L) × (m ≡ raise k) × rule k text a)
    → ((k : L) (text : List Token) (a : A) → rule k text a → under (raise k) text a)
    → ((m : L) → Above level m → (k : L) × (m ≡ raise k) × Above lower k)
    → ((k : L) → Above lower k → Above level (raise k))
    → level ≡ raise lower
    → ((k m : L) → raise k ≡ raise m → k ≡ m)
    → (o : Outcome A) → Answers Above rule stop lower ts o → Answers Above under stop level ts o
below_answers Above rule under stop = levels.below_answers Above rule under (ends stop)

pub under_answers : {A : Type 0} (rule under : Rules ℕ A) (stop : Stop A) (level : ℕ) (ts : List Token)
    → ((text : List Token) (a : A) → under 0 text a → ⊥)
    → ((k : ℕ) (text : List Token) (a : A) → under (suc k) text a → rule k text a)
    → ((k : ℕ) (text : List Token) (a : A) → rule k text a → under (suc k) text a)
    → (o : Outcome A) → Answers (λ l m. l ≤ m) rule stop level ts o → Answers (λ l m. l ≤ m) under stop (suc level) ts o
under_answers rule under stop = levels.under_answers rule under (ends stop)

pub within_answers : {K L A : Type 0} (AboveK : K → K → Type 0) (Above : L → L → Type 0) (rule : Rules K A)
    (stop : Stop A) (level : L) (ts : List Token) (part : L → K)
    → ((m : L) → Above level m → AboveK (part level) (part m))
    → ((k : K) → AboveK (part level) k → (m : L) × Above level m × (part m ≡ k))
    → (o : Outcome A) → Answers AboveK rule stop (part level) ts o → Answers Above (λ l. rule (part l)) stop level ts o
within_answers AboveK Above rule stop = levels.within_answers AboveK Above rule (ends stop)
