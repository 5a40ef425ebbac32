-- How readers of bytes compose, where almost every rule ends by itself.
use Rattle.std.specs.declared.ops.ControlFlow.{ControlFlow}
use Rattle.std.specs.declared.ops.ControlFlow.TheVariants.{Continue, Break}
use Rattle.std.proofs.Common.{◌≡◌, ◌⊎◌, inl, inr, ℕ, ◌≤◌, Bool, true, false, ◌||◌, List, [], ◌∷◌, ◌++◌, Option, Some, None, sym, refl, ap, ◌∙◌, cond}
use Rattle.std.proofs.lemmas.Bool.{eqb-true, eq-eqb}
use Rattle.dp_markup.specs.inner.Input.{head, next, Reader, gives, made, ◌>>=◌, ◌>>◌, one, mark, word, closed}
use Rattle.dp_markup.specs.Rules.{Rule, Joined, Gives, Made, One, passing, Mark, Word, Closed}
use Rattle.dp_markup.specs.Classes.{is_white}
use Rattle.dp_markup.specs.Grammar.{Named, White}
use Rattle.dp_markup.specs.inner.Readers.{same}
use Rattle.dp_grammar.proofs.Answers.{one_answers, gives_answers, joined_answers}
use Rattle.dp_markup.proofs.Answers.{Rules, Stop, Anything, JoinedAt, EitherAt, StepAt, Answers, StartsIn, GoesOn, either_answers, joined_starts, wider_starts, same_level, give, given}
use Rattle.dp_markup.proofs.Loops.{step_stop, closed_answers}

-- The reader reads the rule, at each list of bytes.
abbrev pub IsReader : {A : Type 0} → Rules A → Stop A → ℕ → Reader A → Type 0
IsReader rule stop level p = (ts : List ℕ) → Answers rule stop level ts (p ts)

-- the rule spells something at each level from this one on
abbrev pub Can : {A : Type 0} → Rules A → ℕ → Type 0
Can {A = A} rule level = (m : ℕ) → level ≤ m → (ts : List ℕ) × (a : A) × rule m ts a

-- ---- tests on bytes

pub mark_same : (t : ℕ → Bool) (b c : ℕ) → same c b ≡ true → t b ≡ t c
mark_same t b c is = ap t (eqb-true b c is)

-- a byte that is c fails each test that c fails
pub apart_mark : (t : ℕ → Bool) (c : ℕ) → t c ≡ false → (b : ℕ) → same c b ≡ true → t b ≡ false
apart_mark t c fails b is = mark_same t b c is ∙ fails

-- a byte that passes a test that c fails is not c
pub mark_apart : (t : ℕ → Bool) (c : ℕ) → t c ≡ false → (b : ℕ) → t b ≡ true → same c b ≡ false
mark_apart t c fails b passes = go (same c b) refl
  where
    go : (v : Bool) → same c b ≡ v → same c b ≡ false
    go true is = let u : t b ≡ false = apart_mark t c fails b is in absurd (cc)
    go false is = is

or_cases : (u v : Bool) → (u || v) ≡ true → (u ≡ true) ⊎ (v ≡ true)
or_cases true v is = inl refl
or_cases false v is = inr is

-- what each of two tests rules out, both do
pub apart_or : (s t u : ℕ → Bool) → ((b : ℕ) → s b ≡ true → u b ≡ false) → ((b : ℕ) → t b ≡ true → u b ≡ false)
    → (b : ℕ) → (s b || t b) ≡ true → u b ≡ false
apart_or s t u one other b is = elim (or_cases (s b) (t b) is) [ inl h ↦ one b h | inr h ↦ other b h ]

-- white space fails each test that its four bytes fail
pub apart_white : (t : ℕ → Bool) → t 32 ≡ false → t 9 ≡ false → t 10 ≡ false → t 13 ≡ false → (b : ℕ)
    → is_white b ≡ true → t b ≡ false
apart_white t space tab feed return =
    apart_or (λ b. same 32 b || same 9 b || same 10 b) (same 13) t
    (apart_or (λ b. same 32 b
    || same 9 b) (same 10) t (apart_or (same 32) (same 9) t (apart_mark t 32 space) (apart_mark t 9 tab))
    (apart_mark t 10 feed)) (apart_mark t 13 return)

-- tests that rule each other out
pub flip : (s t : ℕ → Bool) → ((b : ℕ) → s b ≡ true → t b ≡ false) → (b : ℕ) → t b ≡ true → s b ≡ false
flip s t apart b passes = go (s b) refl
  where
    go : (v : Bool) → s b ≡ v → s b ≡ false
    go true is = let u : t b ≡ false = apart b is in absurd (cc)
    go false is = is

pub or_left : (u v : Bool) → u ≡ true → (u || v) ≡ true
or_left u v is = ap (λ x. x || v) is

pub or_right : (u v : Bool) → v ≡ true → (u || v) ≡ true
or_right true v is = refl
or_right false v is = is

-- ---- what rules start with, and what they spell

pub passing_is : (test : ℕ → Bool) (b a : ℕ) → passing test b ≡ Some a → (test b ≡ true) × (a ≡ b)
passing_is test b a = go (test b) refl
  where
    go : (v : Bool) → test b ≡ v → cond v (Some b) None ≡ Some a → (test b ≡ true) × (a ≡ b)
    go true is e = (is, cc)
    go false is e = absurd (cc)

pub is_passing : (test : ℕ → Bool) (b : ℕ) → test b ≡ true → passing test b ≡ Some b
is_passing test b is = ap (λ v. cond v (Some b) None) is

pub passing_starts : (test : ℕ → Bool) → StartsIn (λ _. One (passing test)) test
passing_starts test m text a o = (o.symbol, [], o.alone, (passing_is test o.symbol a o.is_worth).0)

pub one_byte : (test : ℕ → Bool) (b : ℕ) → test b ≡ true → One (passing test) (b ∷ []) b
one_byte test b is = record { symbol = b; alone = refl; is_worth = is_passing test b is }

pub mark_of : (c : ℕ) → Mark c (c ∷ []) c
mark_of c = one_byte (same c) c (eq-eqb c c refl)

pub mark_is : (c : ℕ) (text : List ℕ) (a : ℕ) → Mark c text a → (text ≡ c ∷ []) × (a ≡ c)
mark_is c text a o =
    let p = passing_is (same c) o.symbol a o.is_worth in
    let e : o.symbol ≡ c = eqb-true o.symbol c p.0 in
    (o.alone ∙ ap (λ b. b ∷ []) e, p.1 ∙ e)

pub word_of : (w : List ℕ) → Word w w tt
word_of [] = record { empty = refl; same = refl }
word_of (c ∷ cs) = record { front = c ∷ []; back = cs; value = c; split = refl; one = mark_of c; other = word_of cs }

pub word_is : (w text : List ℕ) (u : Unit {0}) → Word w text u → text ≡ w
word_is [] text u g = g.empty
word_is (c ∷ cs) text u j =
    j.split ∙ ap (λ l. l ++ j.back) (mark_is c j.front j.value j.one).0 ∙ ap (λ l. c ∷ l) (word_is cs j.back u j.other)

-- a word before what a rule spells
pub before : {A : Type 0} (w : List ℕ) (rule : Rule A) (back : List ℕ) (a : A) → rule back a
    → Joined (Word w) (λ _. rule) (w ++ back) a
before w rule back a h = record { front = w; back = back; value = tt; split = refl; one = word_of w; other = h }

pub behind_word : {A : Type 0} (w : List ℕ) (rule : Rule A) (text : List ℕ) (a : A) → Joined (Word w) (λ _. rule) text a
    → (back : List ℕ) × (text ≡ w ++ back) × rule back a
behind_word w rule text a j = (j.back, j.split ∙ ap (λ l. l ++ j.back) (word_is w j.front j.value j.one), j.other)

pub marked : {A : Type 0} (c : ℕ) (rule : Rule A) (back : List ℕ) (a : A) → rule back a
    → Joined (Mark c) (λ _. rule) (c ∷ back) a
marked c rule back a h = record { front = c ∷ []; back = back; value = c; split = refl; one = mark_of c; other = h }

pub behind_mark : {A : Type 0} (c : ℕ) (rule : Rule A) (text : List ℕ) (a : A) → Joined (Mark c) (λ _. rule) text a
    → (back : List ℕ) × (text ≡ c ∷ back) × rule back a
behind_mark c rule text a j = (j.back, j.split ∙ ap (λ l. l ++ j.back) (mark_is c j.front j.value j.one).0, j.other)

pub named_of : (w : List ℕ) (v : ℕ) → Named w v w v
named_of w v = give (Word w) (λ _. v) w tt (word_of w)

pub named_is : (w : List ℕ) (v : ℕ) (text : List ℕ) (a : ℕ) → Named w v text a → (text ≡ w) × (a ≡ v)
named_is w v text a h = let g = given (Word w) (λ _. v) text a h in (word_is w text g.0 g.1, g.2)

pub word_starts : (c : ℕ) (cs : List ℕ) → StartsIn (λ _. Word (c ∷ cs)) (same c)
word_starts c cs = joined_starts (λ _. Mark c) (λ _ _. Word cs) (same c) (passing_starts (same c))

pub made_starts : {A B : Type 0} (rule : Rules A) (f : A → B) (test : ℕ → Bool) → StartsIn rule test
    → StartsIn (λ m. Made (rule m) f) test
made_starts rule f = joined_starts rule (λ a _. Gives (f a))

-- ---- readers

pub joined_reads : {A B : Type 0} (first : Rules A) (second : A → Rules B) (stop : Stop B) (level : ℕ) (p : Reader A)
    (f : A → Reader B)
    → IsReader first Anything level p → GoesOn level second → ((a : A) → IsReader (second a) stop level (f a))
    → IsReader (JoinedAt first second) stop level (p >>= f)
joined_reads first second stop level p f one goes other ts =
    joined_answers ◌≤◌ same_level first second Anything stop level ts (λ m a us b r h is. refl) (p ts) f goes (one ts)
    (λ a r _. other a r)

pub made_reads : {A B : Type 0} (rule : Rules A) (f : A → B) (stop : Stop B) (level : ℕ) (p : Reader A)
    → IsReader rule (λ a. stop (f a)) level p → IsReader (λ m. Made (rule m) f) stop level (made p f)
made_reads rule f stop level p reads ts =
    joined_answers ◌≤◌ same_level rule (λ a _. Gives (f a)) (λ a. stop (f a)) stop level ts
    (λ m a us b r h is. ap (λ l. stop (f a) (head (l ++ r))) h.empty ∙ ap (λ x. stop x (head r)) (sym h.same) ∙ is)
    (p ts) (λ a. gives (f a)) (λ m above a. ([], f a, record { empty = refl; same = refl })) (reads ts)
    (λ a r _. gives_answers ◌≤◌ same_level (f a) stop level r)

pub choose_reads : {A : Type 0} (first second : Rules A) (s t : ℕ → Bool) (stop : Stop A) (level : ℕ) (p q : Reader A)
    → StartsIn first s → StartsIn second t → ((b : ℕ) → t b ≡ true → s b ≡ false) → IsReader first stop level p
    → IsReader second stop level q
    → IsReader (EitherAt first second) stop level (λ ts. cond (next s (head ts)) (p ts) (q ts))
choose_reads first second s t stop level p q starts other apart one two ts =
    either_answers first second s stop level ts starts
    (λ m text a r h is. let x = other m text a h in ap (λ l. next s (head (l ++ r))) x.2 ∙ apart x.0 x.3)
    (p ts) (q ts) (λ _. one ts) (λ _. two ts)

pub mark_then : {A : Type 0} (c : ℕ) (rule : Rules A) (stop : Stop A) (level : ℕ) (p : Reader A) → Can rule level
    → IsReader rule stop level p → IsReader (JoinedAt (λ _. Mark c) (λ _. rule)) stop level (mark c >> p)
mark_then c rule stop level p can reads =
    joined_reads (λ _. Mark c) (λ _. rule) stop level (mark c) (λ _. p)
    (one_answers ◌≤◌ same_level (passing (same c)) Anything level) (λ m above _. can m above) (λ _. reads)

pub word_reads : (w : List ℕ) (stop : Stop (Unit {0})) (level : ℕ) → ((u : Unit {0}) (o : Option ℕ) → stop u o ≡ true)
    → IsReader (λ _. Word w) stop level (word w)
unfolding word
word_reads [] stop level all ts = gives_answers ◌≤◌ same_level tt stop level ts
word_reads (c ∷ cs) stop level all ts =
    mark_then c (λ _. Word cs) stop level (word cs) (λ m _. (cs, tt, word_of cs)) (word_reads cs stop level all) ts

pub word_then : {A : Type 0} (w : List ℕ) (rule : Rules A) (stop : Stop A) (level : ℕ) (p : Reader A) → Can rule level
    → IsReader rule stop level p → IsReader (JoinedAt (λ _. Word w) (λ _. rule)) stop level (word w >> p)
word_then w rule stop level p can reads =
    joined_reads (λ _. Word w) (λ _. rule) stop level (word w) (λ _. p) (word_reads w Anything level (λ u o. refl))
    (λ m above _. can m above) (λ _. reads)

pub named_reads : (w : List ℕ) (v : ℕ) (level : ℕ) → IsReader (λ _. Named w v) Anything level (made (word w) (λ _. v))
named_reads w v level =
    made_reads (λ _. Word w) (λ _. v) Anything level (word w) (word_reads w (λ _ _. true) level (λ u o. refl))

-- ---- loops

module _ {A B : Type 0} (piece : A → Rules A) (end : A → Rules B) (s t : A → ℕ → Bool) (stop : Stop B) (level : ℕ)
    (ends_in : (a : A) → StartsIn (end a) (s a)) (goes_in : (a : A) → StartsIn (piece a) (t a))
    (apart : (a : A) (b : ℕ) → t a b ≡ true → s a b ≡ false)
    (p : A → Reader A) (q : A → Reader B) where
  -- a step that looks whether the end comes next
  pub step_reads : ((a : A) → IsReader (piece a) Anything level (p a)) → ((a : A) → IsReader (end a) stop level (q a))
      → (a : A) → IsReader (StepAt piece end a) (step_stop stop) level
      (λ ts. cond (next (s a) (head ts)) (made (q a) Break ts) (made (p a) Continue ts))
  step_reads one other a =
      choose_reads (λ m. Made (end a m) Break) (λ m. Made (piece a m) Continue) (s a) (t a) (step_stop stop) level
      (made (q a) Break) (made (p a) Continue)
      (made_starts (end a) Break (s a) (ends_in a)) (made_starts (piece a) Continue (t a) (goes_in a)) (apart a)
      (made_reads (end a) Break (step_stop stop) level (q a) (other a))
      (made_reads (piece a) Continue (step_stop stop) level (p a) (one a))

pub takes_byte : {A : Type 0} (rule : Rules A) (t : ℕ → Bool) → StartsIn rule t → StartsIn rule (λ _. true)
takes_byte rule t = wider_starts rule t (λ _. true) (λ b _. refl)

-- ---- white space, and then

abbrev pub white_piece : Unit {0} → Rules (Unit {0})
white_piece u = λ _. Made White (λ _. tt)

pub white_starts : (u : Unit {0}) → StartsIn (white_piece u) is_white
white_starts u = made_starts (λ _. White) (λ _. tt) is_white (passing_starts is_white)

pub white_reads : (level : ℕ) (u : Unit {0})
    → IsReader (white_piece u) Anything level (made (one (passing is_white)) (λ _. tt))
white_reads level u =
    made_reads (λ _. White) (λ _. tt) Anything level (one (passing is_white))
    (one_answers ◌≤◌ same_level (passing is_white) (λ _ _. true) level)

module _ {A : Type 0} (rule : Rules A) (s : ℕ → Bool) (stop : Stop A) (level : ℕ) (q : Reader A)
    (starts : StartsIn rule s) (apart : (b : ℕ) → is_white b ≡ true → s b ≡ false)
    (can : Can rule level) (reads : IsReader rule stop level q) (step : Unit {0} → Reader (ControlFlow A (Unit {0})))
    (is_step : (u : Unit {0}) (ts : List ℕ)
    → Answers (StepAt white_piece (λ _. rule) u) (step_stop stop) level ts
    (cond (next s (head ts)) (made q Break ts) (made (made (one (passing is_white)) (λ _. tt)) Continue ts))
    → Answers (StepAt white_piece (λ _. rule) u) (step_stop stop) level ts (step u ts)) where
  pub spaced_reads : IsReader (λ m. Closed (λ u. white_piece u m) (λ _. rule m) tt) stop level (closed step tt)
  spaced_reads =
      closed_answers white_piece (λ _. rule) stop level (λ u. takes_byte (white_piece u) is_white (white_starts u))
      (λ m above u. can m above) step
      (λ u ts. is_step u ts (step_reads white_piece (λ _. rule) (λ _. s) (λ _. is_white) stop level
      (λ _. starts) white_starts (λ _. apart) (λ _. made (one (passing is_white)) (λ _. tt)) (λ _. q)
      (white_reads level) (λ _. reads) u ts)) tt

pub spaced : {A : Type 0} (rule : Rule A) (text : List ℕ) (a : A) → rule text a
    → Closed (λ (u : Unit {0}). Made White (λ _. tt)) (λ _. rule) tt text a
spaced rule text a h = record { count = 0; chain = h }
