-- How readers of the parts of statements compose.
use Rattle.std.proofs.Common.{◌≡◌, inl, ℕ, ◌≤◌, Bool, true, false, List, [], ◌∷◌, ◌++◌, refl, cond, arith}
use Rattle.dp_lexer.specs.declared.token.Token.{Token}
use Rattle.dp_lexer.specs.declared.token.TokenKind.{TokenKind}
use Rattle.dp_token_rules.specs.declared.terminal.Terminal.{Terminal}
use Rattle.dp_token_rules.specs.declared.terminal.Terminal.TheVariants as terminal
use Rattle.dp_token_rules.specs.Terminals.{terminal_of, same_terminal, is, head}
use Rattle.dp_token_rules.specs.inner.Input.{Reader, gives, made, mark, enter, one, ◌>>=◌, ◌>>◌}
use Rattle.dp_parse.specs.Statements.{Depth}
use Rattle.dp_token_rules.proofs.Terminals.{placed, mark_of, mark_alone, mark_passes, first_of_sort}
use Rattle.dp_token_rules.proofs.Answers.{Rules, Stop, Anything, JoinedAt, EitherAt, GivesAt, MarkAt, MadeAt, NestsAt, Opens, Answers, Follows, StartsIn, Apart, mark_starts, joined_starts, starts_follow, anything_follows, gives_follow, mark_answers, gives_answers, joined_answers, stricter_answers, either_answers, nests_answers}

-- ---- depths

-- The second depth allows all that the first allows.
pub record Deeper (l m : Depth) : Type 0 where
  pub expressions : l.expressions ≤ m.expressions
  pub bodies : l.bodies ≤ m.bodies

pub same_depth : (l : Depth) → Deeper l l
same_depth l = record { expressions = omega arith; bodies = omega arith }

-- ---- readers

-- The reader reads the rule, where so many levels of bodies are left at least, and there the rule spells something.
pub record IsPartReader {A : Type 0} (base : ℕ) (rule : Rules Depth A) (stop : Stop A) (level : Depth)
    (p : Reader A) : Type 0 where
  pub answers : base ≤ level.bodies → (ts : List Token) → Answers Deeper rule stop level ts (p ts)
  pub least : (m : Depth) → base ≤ m.bodies → (ts : List Token) × (a : A) × rule m ts a

module _ (base : ℕ) (level : Depth) where
  pub gives_reader : {A : Type 0} (a : A) (stop : Stop A) → IsPartReader base (GivesAt a) stop level (gives a)
  gives_reader a stop =
      record {
        answers = λ some ts. gives_answers Deeper same_depth a stop level ts;
        least = λ m some.
            ([], a, record { empty = refl; same = refl });
      }

  pub mark_reader : (s : Terminal) (k : TokenKind) → same_terminal (terminal_of k) s ≡ true
      → IsPartReader base (MarkAt s) Anything level (mark s)
  mark_reader s k is_sort =
      record {
        answers = λ some ts. mark_answers Deeper same_depth s Anything level ts;
        least = λ m some.
            (placed k ∷ [], 1, mark_alone s k is_sort);
      }

  pub joined_reader : {A B : Type 0} (first : Rules Depth A) (second : A → Rules Depth B) (first_stop : Stop A)
      (stop : Stop B) (p : Reader A) (f : A → Reader B) → Follows first_stop second stop
      → IsPartReader base first first_stop level p → ((a : A) → IsPartReader base (second a) stop level (f a))
      → IsPartReader base (JoinedAt first second) stop level (p >>= f)
  joined_reader first second first_stop stop p f follows one other = record {
    answers =
        λ some ts. joined_answers Deeper same_depth first second first_stop stop level ts follows (p ts) f
        (λ m above a. (other a).least m (let d = above.bodies in omega arith)) (one.answers some ts)
        (λ a r _. (other a).answers some r);
    least =
        λ m some. let g = one.least m some in let h = (other g.1).least m some in
        (g.0 ++ h.0, h.1, record { front = g.0; back = h.0; value = g.1; split = refl; one = g.2; other = h.2 });
  }

  -- what ends by itself, and then another
  pub then_reader : {A B : Type 0} (first : Rules Depth A) (second : A → Rules Depth B) (stop : Stop B) (p : Reader A)
      (f : A → Reader B)
      → IsPartReader base first Anything level p → ((a : A) → IsPartReader base (second a) stop level (f a))
      → IsPartReader base (JoinedAt first second) stop level (p >>= f)
  then_reader first second stop p f = joined_reader first second Anything stop p f (anything_follows second stop)

  pub made_reader : {A B : Type 0} (rule : Rules Depth A) (f : A → B) (rule_stop : Stop A) (stop : Stop B)
      (p : Reader A) → ((a : A) (s : Terminal) → stop (f a) s ≡ true → rule_stop a s ≡ true)
      → IsPartReader base rule rule_stop level p → IsPartReader base (MadeAt rule f) stop level (made p f)
  made_reader rule f rule_stop stop p weaker one =
      joined_reader rule (λ a. GivesAt (f a)) rule_stop stop p (λ a. gives (f a))
      (gives_follow f rule_stop stop weaker) one (λ a. gives_reader (f a) stop)

  -- a token, and then the rest
  pub mark_then : {A : Type 0} (s : Terminal) (k : TokenKind) → same_terminal (terminal_of k) s ≡ true
      → (rest : ℕ → Rules Depth A) (stop : Stop A) (f : ℕ → Reader A)
      → ((line : ℕ) → IsPartReader base (rest line) stop level (f line))
      → IsPartReader base (JoinedAt (MarkAt s) rest) stop level (mark s >>= f)
  mark_then s k is_sort rest stop f = then_reader (MarkAt s) rest stop (mark s) f (mark_reader s k is_sort)

  -- what a token of this sort ends, that token, and then the rest
  pub before_mark : {A B : Type 0} (first : Rules Depth A) (first_stop : Stop A) (s : Terminal) (k : TokenKind)
      → same_terminal (terminal_of k) s ≡ true → ((a : A) → first_stop a s ≡ true)
      → (rest : A → ℕ → Rules Depth B) (stop : Stop B) (p : Reader A) (f : A → ℕ → Reader B)
      → IsPartReader base first first_stop level p
      → ((a : A) (line : ℕ) → IsPartReader base (rest a line) stop level (f a line))
      → IsPartReader base (JoinedAt first (λ a. JoinedAt (MarkAt s) (rest a))) stop level (p >>= (λ a. mark s >>= f a))
  before_mark first first_stop s k is_sort ends rest stop p f one other =
      joined_reader first (λ a. JoinedAt (MarkAt s) (rest a)) first_stop stop p (λ a. mark s >>= f a)
      (starts_follow first_stop (λ a. JoinedAt (MarkAt s) (rest a)) stop (is s)
      (λ a x. mark_passes (first_stop a) s (ends a) x) (λ a. joined_starts (MarkAt s) (rest a) (is s)
      (mark_starts s)))
      one (λ a. mark_then s k is_sort (rest a) stop (f a) (other a))

  -- the same where fewer tokens may be behind it
  pub stricter : {A : Type 0} (rule : Rules Depth A) (stop less : Stop A) (p : Reader A)
      → ((a : A) (s : Terminal) → less a s ≡ true → stop a s ≡ true) → IsPartReader base rule stop level p
      → IsPartReader base rule less level p
  stricter rule stop less p weaker one =
      record {
        answers = λ some ts. stricter_answers Deeper same_depth rule stop less level ts weaker (p ts)
            (one.answers some ts);
        least = one.least;
      }

  -- one or the other by the next token, where each spells something
  pub either_reader : {A : Type 0} (first second : Rules Depth A) (test : Terminal → Bool) (stop : Stop A)
      (p q : Reader A) → StartsIn first test → Apart second stop test
      → IsPartReader base first stop level p → IsPartReader base second stop level q
      → IsPartReader base (EitherAt first second) stop level (λ ts. cond (test (head ts)) (p ts) (q ts))
  either_reader first second test stop p q starts apart one other = record {
    answers =
        λ some ts. either_answers Deeper same_depth first second test stop level ts starts apart (p ts) (q ts)
        (λ _. one.answers some ts) (λ _. other.answers some ts);
    least = λ m some. let g = one.least m some in (g.0, g.1, inl g.2);
  }

-- ---- where a level of bodies is left

-- a keyword and what is behind it, one level of bodies down
pub nests_reader : {A : Type 0} (s : Terminal) (rest : ℕ → Rules Depth A) (stop : Stop A) (level : Depth) (p : Reader A)
    (ts : List Token) → same_terminal terminal.End s ≡ false → is s (head ts) ≡ true
    → IsPartReader 1 (JoinedAt (MarkAt s) rest) stop level p
    → ((line : ℕ) (m : Depth) → 1 ≤ m.bodies → (us : List Token) × (a : A) × rest line m us a)
    → Answers Deeper (NestsAt (λ m. m.bodies) (JoinedAt (MarkAt s) rest)) stop level ts ((enter level.bodies >> p) ts)
nests_reader {A = A} s rest stop level p ts end here reader least =
    nests_answers Deeper same_depth (λ m. m.bodies) (JoinedAt (MarkAt s) rest) stop level ts
    (λ m above. above.bodies) p opens (λ some. reader.answers (omega arith) ts)
  where
    opens : level.bodies ≡ 0 → Opens Deeper (NestsAt (λ m. m.bodies) (JoinedAt (MarkAt s) rest)) level ts
    opens none =
        let x = first_of_sort s ts end here in
        let m : Depth = record { expressions = level.expressions; bodies = 1 } in
        let l = least x.0.line m (omega arith) in (
          m,
          record { expressions = omega arith; bodies = omega (arith, none) },
          x.0,
          x.1,
          l.0,
          l.1,
          x.2,
          record {
            some = omega arith;
            spelled = record {
              front = x.0
                  ∷ [];
              back = l.0;
              value = x.0.line;
              split = refl;
              one = mark_of s x.0 x.3;
              other = l.2;
            };
          },
        )

pub keyword_nests : {A : Type 0} (s : Terminal) (k : TokenKind) → same_terminal (terminal_of k) s ≡ true
    → (rest : ℕ → Rules Depth A) (stop : Stop A) (level : Depth) (f : ℕ → Reader A) (ts : List Token)
    → same_terminal terminal.End s ≡ false → is s (head ts) ≡ true
    → ((line : ℕ) → IsPartReader 1 (rest line) stop level (f line))
    → Answers Deeper (NestsAt (λ m. m.bodies) (JoinedAt (MarkAt s) rest)) stop level ts
    ((enter level.bodies >> (mark s >>= f)) ts)
keyword_nests s k is_sort rest stop level f ts end here other =
    nests_reader s rest stop level (mark s >>= f) ts end here (mark_then 1 level s k is_sort rest stop f other)
    (λ line m some. (other line).least m some)
