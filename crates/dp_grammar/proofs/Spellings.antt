-- What the outcome of a reader says of the rule that it reads; what rules spell, start with and are followed by.
--
-- `Answers` says all at once: what is found is spelled; nothing else is, at any level of nesting; at a refusal the
-- symbols before the bad one begin a spelling, and with it they begin none: of no level, or, where it is too deep, not
-- of this level, but of one above.
use Rattle.std.specs.declared.ops.ControlFlow.{ControlFlow}
use Rattle.std.proofs.Common.{◌≡◌, ◌⊎◌, inl, inr, ℕ, Bool, true, false, ◌||◌, List, [], ◌∷◌, ◌++◌, length, Option, Some, Ok, Err, sym, refl, ap, ◌∙◌, subst, append_assoc, append-nil}
use Rattle.dp_grammar.specs.declared.refusal.Refusal.TheVariants.{Unexpected, TooDeep, Memory}
use Rattle.dp_grammar.specs.inner.Input.{Outcome}
use Rattle.dp_grammar.specs.Rules.{head, Rule, Joined, ◌or◌, Gives, Made, One, When, Nests, Closed, Many, Perhaps, Step}
use Rattle.dp_grammar.proofs.Truth.{or_left, or_right}

-- a rule at each level of nesting
abbrev pub Rules : Type 0 → Type 0 → Type 0 → Type 1
Rules T L A = L → Rule T A

-- where a value may end: with which symbol next, if any
abbrev pub Stop : Type 0 → Type 0 → Type 0
Stop T A = A → Option T → Bool

abbrev pub Anything : {T A : Type 0} → A → Option T → Bool
Anything a s = true

abbrev pub JoinedAt : {T L A B : Type 0} → Rules T L A → (A → Rules T L B) → Rules T L B
JoinedAt first second = λ level. Joined (first level) (λ a. second a level)

abbrev pub EitherAt : {T L A : Type 0} → Rules T L A → Rules T L A → Rules T L A
EitherAt first second = λ level. first level or second level

abbrev pub GivesAt : {T L A : Type 0} → A → Rules T L A
GivesAt a = λ _. Gives a

abbrev pub OneAt : {T L A : Type 0} → (T → Option A) → Rules T L A
OneAt worth = λ _. One worth

abbrev pub MadeAt : {T L A B : Type 0} → Rules T L A → (A → B) → Rules T L B
MadeAt rule f = λ level. Made (rule level) f

abbrev pub PerhapsAt : {T L A : Type 0} → Rules T L A → Rules T L (Option A)
PerhapsAt rule = λ level. Perhaps (rule level)

abbrev pub WhenAt : {T L A : Type 0} → Bool → Rules T L A → Rules T L A
WhenAt condition rule = λ level. When condition (rule level)

abbrev pub NestsAt : {T L A : Type 0} → (L → ℕ) → Rules T L A → Rules T L A
NestsAt depth rule = λ level. Nests (depth level) (rule level)

abbrev pub ClosedAt : {T L A B : Type 0} → (A → Rules T L A) → (A → Rules T L B) → A → Rules T L B
ClosedAt piece end a = λ level. Closed (λ x. piece x level) (λ x. end x level) a

abbrev pub StepAt : {T L A B : Type 0} → (A → Rules T L A) → (A → Rules T L B) → A → Rules T L (ControlFlow B A)
StepAt piece end a = λ level. Step (λ x. piece x level) (λ x. end x level) a

abbrev pub ManyAt : {T L A : Type 0} → Rules T L A → Rules T L (List A)
ManyAt rule = λ level. Many (rule level)

-- The symbols begin with a spelling of a that may end there, and r is behind it.
pub record Begins {T L A : Type 0} (rule : Rules T L A) (stop : Stop T A) (m : L) (ts : List T) (a : A)
    (r : List T) : Type 0 where
  pub text : List T
  pub split : ts ≡ text ++ r
  pub spelled : rule m text a
  pub stops : stop a (head r) ≡ true

-- the same symbols as front and rest, up to and with the first symbol of rest; where rest is empty, the same symbols
abbrev pub Agrees : {T : Type 0} → List T → List T → List T → Type 0
Agrees front [] us = us ≡ front
Agrees {T = T} front (x ∷ rest) us = (more : List T) × (us ≡ front ++ (x ∷ more))

pub record IsRead {T L A : Type 0} (Above : L → L → Type 0) (rule : Rules T L A) (stop : Stop T A) (level : L)
    (ts : List T) (a : A) (r : List T) : Type 0 where
  pub text : List T
  pub split : ts ≡ text ++ r
  pub spelled : (m : L) → Above level m → rule m text a
  pub only : (m : L) (s : List T) → head s ≡ head r → (b : A) (q : List T) → Begins rule stop m (text ++ s) b q
      → (b ≡ a) × (q ≡ s)

-- where a level above has a spelling that begins with the first symbol of ts
abbrev pub Opens : {T L A : Type 0} → (L → L → Type 0) → Rules T L A → L → List T → Type 0
Opens {T = T} {L = L} {A = A} Above rule level ts =
    (m : L) × Above level m × (x : T) × (after : List T) × (more : List T) × (a : A) × (ts ≡ x ∷ after)
    × rule m (x ∷ more) a

pub record IsRefused {T L A : Type 0} (Above : L → L → Type 0) (rule : Rules T L A) (stop : Stop T A) (level : L)
    (ts : List T) (deep : Bool) (left : ℕ) : Type 0 where
  pub front : List T
  pub rest : List T
  pub split : ts ≡ front ++ rest
  pub is_left : length rest ≡ left
  pub viable : (front ≡ []) ⊎ ((more : List T) × (a : A) × rule level (front ++ more) a)
  pub dead : (m : L) → (deep ≡ true → m ≡ level) → (us : List T) → Agrees front rest us → (a : A) (q : List T)
      → Begins rule stop m us a q → ⊥
  pub beyond : deep ≡ true
      → (m : L) × Above level m × (x : T) × (after : List T) × (more : List T) × (a : A) × (rest ≡ x ∷ after)
      × rule m (front ++ (x ∷ more)) a

abbrev pub Answers : {T L A : Type 0} → (L → L → Type 0) → Rules T L A → Stop T A → L → List T → Outcome T A → Type 0
Answers Above rule stop level ts (Ok x) = IsRead Above rule stop level ts x.0 x.1
Answers Above rule stop level ts (Err (Unexpected left)) = IsRefused Above rule stop level ts false left
Answers Above rule stop level ts (Err (TooDeep left)) = IsRefused Above rule stop level ts true left
Answers Above rule stop level ts (Err Memory) = ⊥

-- What comes behind the first rule does not go on with it.
abbrev pub Follows : {T L A B : Type 0} → Stop T A → (A → Rules T L B) → Stop T B → Type 0
Follows {T = T} {L = L} {A = A} {B = B} first_stop second stop =
    (m : L) (a : A) (ts : List T) (b : B) (r : List T) → second a m ts b → stop b (head r) ≡ true
    → first_stop a (head (ts ++ r)) ≡ true

-- the rule spells something at each level above
abbrev pub Can : {T L A : Type 0} → (L → L → Type 0) → L → Rules T L A → Type 0
Can {T = T} {L = L} {A = A} Above level rule = (m : L) → Above level m → (ts : List T) × (a : A) × rule m ts a

-- each value can be gone on from, at each level above
abbrev pub GoesOn : {T L A B : Type 0} → (L → L → Type 0) → L → (A → Rules T L B) → Type 0
GoesOn {T = T} {L = L} {A = A} {B = B} Above level second =
    (m : L) → Above level m → (a : A) → (ts : List T) × (b : B) × second a m ts b

-- each spelling begins with a symbol that passes the test
abbrev pub StartsIn : {T L A : Type 0} → Rules T L A → (Option T → Bool) → Type 0
StartsIn {T = T} {L = L} {A = A} rule test =
    (m : L) (text : List T) (a : A) → rule m text a
    → (x : T) × (rest : List T) × (text ≡ x ∷ rest) × (test (Some x) ≡ true)

-- No spelling, with what may be behind it, begins with a symbol that passes the test.
abbrev pub Apart : {T L A : Type 0} → Rules T L A → Stop T A → (Option T → Bool) → Type 0
Apart {T = T} {L = L} {A = A} rule stop test =
    (m : L) (text : List T) (a : A) (r : List T) → rule m text a → stop a (head r) ≡ true
    → test (head (text ++ r)) ≡ false

-- ---- lists of symbols

pub head_agrees : {T : Type 0} (text r s : List T) → head s ≡ head r → head (text ++ s) ≡ head (text ++ r)
head_agrees [] r s e = e
head_agrees (t ∷ text) r s e = refl

pub agrees_head : {T : Type 0} (front rest us : List T) → Agrees front rest us → head us ≡ head (front ++ rest)
agrees_head [] [] us e = ap head e
agrees_head (t ∷ front) [] us e = ap head e
agrees_head [] (x ∷ rest) us a = ap head a.1
agrees_head (t ∷ front) (x ∷ rest) us a = ap head a.1

-- what is behind the front, if the symbols agree
pub tail_of : {T : Type 0} (front rest us : List T) → Agrees front rest us
    → (tail : List T) × (us ≡ front ++ tail) × (head tail ≡ head rest)
tail_of front [] us agrees = ([], agrees ∙ sym (append-nil front), refl)
tail_of front (x ∷ rest) us agrees = (x ∷ agrees.0, agrees.1, refl)

pub agrees_behind : {T : Type 0} (text front rest us : List T) → Agrees (text ++ front) rest us
    → (tail : List T) × (us ≡ text ++ tail) × Agrees front rest tail
agrees_behind text front [] us agrees = (front, agrees, refl)
agrees_behind text front (x ∷ rest) us agrees =
    (front ++ (x ∷ agrees.0), agrees.1 ∙ append_assoc text front (x ∷ agrees.0), (agrees.0, refl))

-- ---- spellings

-- a rule's spelling, for a value made of its value
pub give : {T A B : Type 0} (rule : Rule T A) (f : A → B) (text : List T) (a : A) → rule text a → Made rule f text (f a)
give rule f text a h =
    record {
      front = text;
      back = [];
      value = a;
      split = sym (append-nil text);
      one = h;
      other = record
          { empty = refl; same = refl };
    }

pub given : {T A B : Type 0} (rule : Rule T A) (f : A → B) (text : List T) (b : B) → Made rule f text b
    → (a : A) × rule text a × (b ≡ f a)
given rule f text b j = (
  j.value,
  subst (λ l. rule l j.value) (sym (j.split ∙ ap (λ l. j.front ++ l) j.other.empty ∙ append-nil j.front))
      j.one,
  j.other.same,
)

-- the one behind the other
pub behind : {T A B : Type 0} (first : Rule T A) (second : A → Rule T B) (front back : List T) (a : A) (b : B)
    → first front a → second a back b → Joined first second (front ++ back) b
behind first second front back a b one other =
    record { front = front; back = back; value = a; split = refl; one = one; other = other }

-- ---- what a rule starts with

-- what begins with a spelling begins with a symbol of the test
pub begun : {T L A : Type 0} (rule : Rules T L A) (test : Option T → Bool) → StartsIn rule test
    → (m : L) (text r : List T) (a : A) → rule m text a → test (head (text ++ r)) ≡ true
begun rule test starts m text r a spelled = let s = starts m text a spelled in ap (λ l. test (head (l ++ r))) s.2 ∙ s.3

pub one_starts : {T L A : Type 0} (worth : T → Option A) (test : Option T → Bool)
    → ((t : T) (a : A) → worth t ≡ Some a → test (Some t) ≡ true) → StartsIn {T = T} {L = L} (OneAt worth) test
one_starts worth test passes m text a o = (o.symbol, [], o.alone, passes o.symbol a o.is_worth)

pub joined_starts : {T L A B : Type 0} (first : Rules T L A) (second : A → Rules T L B) (test : Option T → Bool)
    → StartsIn first test → StartsIn (JoinedAt first second) test
joined_starts first second test starts m text b j =
    let s = starts m j.front j.value j.one in (s.0, s.1 ++ j.back, j.split ∙ ap (λ l. l ++ j.back) s.2, s.3)

pub made_starts : {T L A B : Type 0} (rule : Rules T L A) (f : A → B) (test : Option T → Bool) → StartsIn rule test
    → StartsIn (MadeAt rule f) test
made_starts rule f = joined_starts rule (λ a. GivesAt (f a))

pub either_starts : {T L A : Type 0} (first second : Rules T L A) (test : Option T → Bool) → StartsIn first test
    → StartsIn second test → StartsIn (EitherAt first second) test
either_starts first second test one other m text a (inl h) = one m text a h
either_starts first second test one other m text a (inr h) = other m text a h

pub when_starts : {T L A : Type 0} (condition : Bool) (rule : Rules T L A) (test : Option T → Bool) → StartsIn rule test
    → StartsIn (WhenAt condition rule) test
when_starts condition rule test starts m text a h = starts m text a h.spelled

pub nests_starts : {T L A : Type 0} (depth : L → ℕ) (rule : Rules T L A) (test : Option T → Bool) → StartsIn rule test
    → StartsIn (NestsAt depth rule) test
nests_starts depth rule test starts m text a h = starts m text a h.spelled

pub starts_in_more : {T L A : Type 0} (rule : Rules T L A) (test wider : Option T → Bool)
    → ((s : Option T) → test s ≡ true → wider s ≡ true) → StartsIn rule test → StartsIn rule wider
starts_in_more rule test wider more starts m text a h =
    let s = starts m text a h in (s.0, s.1, s.2, more (Some s.0) s.3)

-- each with a test of its own
pub or_starts : {T L A : Type 0} (first second : Rules T L A) (s t : Option T → Bool) → StartsIn first s
    → StartsIn second t → StartsIn (EitherAt first second) (λ x. s x || t x)
or_starts first second s t one other = either_starts first second (λ x. s x || t x)
    (starts_in_more first s (λ x. s x || t x) (λ x. or_left (s x) (t x)) one)
    (starts_in_more second t (λ x. s x || t x) (λ x. or_right (s x) (t x)) other)

-- what starts with other symbols
pub starts_apart : {T L A : Type 0} (rule : Rules T L A) (stop : Stop T A) (test other : Option T → Bool)
    → ((s : Option T) → other s ≡ true → test s ≡ false) → StartsIn rule other → Apart rule stop test
starts_apart rule stop test other apart starts m text a r h is =
    let x = starts m text a h in ap (λ l. test (head (l ++ r))) x.2 ∙ apart (Some x.0) x.3

-- what is empty, before other symbols
pub gives_apart : {T L A : Type 0} (a : A) (stop : Stop T A) (test : Option T → Bool)
    → ((s : Option T) → stop a s ≡ true → test s ≡ false) → Apart {T = T} {L = L} (GivesAt a) stop test
gives_apart a stop test apart m text b r g is =
    ap (λ l. test (head (l ++ r))) g.empty ∙ apart (head r) (ap (λ x. stop x (head r)) (sym g.same) ∙ is)

-- the same, for a value made of what was read
pub made_apart : {T L A B : Type 0} (rule : Rules T L A) (f : A → B) (rule_stop : Stop T A) (stop : Stop T B)
    (test : Option T → Bool) → ((a : A) (s : Option T) → stop (f a) s ≡ true → rule_stop a s ≡ true)
    → Apart rule rule_stop test → Apart (MadeAt rule f) stop test
made_apart rule f rule_stop stop test weaker apart m text b r h is =
    let g = given (rule m) f text b h in
    apart m text g.0 r g.1 (weaker g.0 (head r) (ap (λ x. stop x (head r)) (sym g.2) ∙ is))

pub either_apart : {T L A : Type 0} (first second : Rules T L A) (stop : Stop T A) (test : Option T → Bool)
    → Apart first stop test → Apart second stop test → Apart (EitherAt first second) stop test
either_apart first second stop test one other m text a r (inl h) is = one m text a r h is
either_apart first second stop test one other m text a r (inr h) is = other m text a r h is

-- ---- what may follow

pub anything_follows : {T L A B : Type 0} (second : A → Rules T L B) (stop : Stop T B) → Follows Anything second stop
anything_follows second stop m a ts b r h is = refl

-- each value, before what starts with symbols that stop it
pub starts_follow : {T L A B : Type 0} (first_stop : Stop T A) (second : A → Rules T L B) (stop : Stop T B)
    (test : Option T → Bool) → ((a : A) (s : Option T) → test s ≡ true → first_stop a s ≡ true)
    → ((a : A) → StartsIn (second a) test)
    → Follows first_stop second stop
starts_follow first_stop second stop test stops starts m a ts b r h is =
    stops a (head (ts ++ r)) (begun (second a) test (starts a) m ts r b h)

pub gives_follow : {T L A B : Type 0} (f : A → B) (first_stop : Stop T A) (stop : Stop T B)
    → ((a : A) (s : Option T) → stop (f a) s ≡ true → first_stop a s ≡ true)
    → Follows {T = T} {L = L} first_stop (λ a. GivesAt (f a)) stop
gives_follow f first_stop stop weaker m a text b r g is =
    ap (λ l. first_stop a (head (l ++ r))) g.empty ∙ weaker a (head r) (ap (λ x. stop x (head r)) (sym g.same) ∙ is)

pub either_follows : {T L A B : Type 0} (first_stop : Stop T A) (one other : A → Rules T L B) (stop : Stop T B)
    → Follows first_stop one stop → Follows first_stop other stop
    → Follows first_stop (λ a. EitherAt (one a) (other a)) stop
either_follows first_stop one other stop first second m a ts b r (inl h) is = first m a ts b r h is
either_follows first_stop one other stop first second m a ts b r (inr h) is = second m a ts b r h is
