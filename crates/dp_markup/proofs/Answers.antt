-- What the outcome of a reader of bytes says of the rule that it reads: the theory of dp_grammar, where tests are of
-- bytes.
use Rattle.std.proofs.Common.{◌≡◌, ℕ, ◌≤◌, Bool, true, false, List, ◌++◌, length, Option, Err, cond, arith}
use Rattle.dp_grammar.specs.declared.refusal.Refusal.TheVariants.{Unexpected}
use Rattle.dp_grammar.proofs.Answers as all
use Rattle.dp_markup.specs.inner.Input.{head, next, Outcome}
use Rattle.dp_markup.specs.Rules.{Rule}
pub use Rattle.dp_grammar.proofs.Answers.{
  Anything,
  JoinedAt,
  EitherAt,
  ClosedAt,
  StepAt,
  Begins,
  Agrees,
  Follows,
  give,
  given,
}

-- a rule at each level of nesting
abbrev pub Rules : Type 0 → Type 1
Rules A = ℕ → Rule A

-- where a value may end: with which byte next, if any
abbrev pub Stop : Type 0 → Type 0
Stop A = A → Option ℕ → Bool

abbrev pub IsRead : {A : Type 0} → Rules A → Stop A → ℕ → List ℕ → A → List ℕ → Type 0
IsRead = all.IsRead ◌≤◌

abbrev pub IsRefused : {A : Type 0} → Rules A → Stop A → ℕ → List ℕ → Bool → ℕ → Type 0
IsRefused = all.IsRefused ◌≤◌

abbrev pub Answers : {A : Type 0} → Rules A → Stop A → ℕ → List ℕ → Outcome A → Type 0
Answers = all.Answers ◌≤◌

-- each value can be gone on from
abbrev pub GoesOn : {A B : Type 0} → ℕ → (A → Rules B) → Type 0
GoesOn = all.GoesOn ◌≤◌

-- each spelling begins with a byte that passes the test
abbrev pub StartsIn : {A : Type 0} → Rules A → (ℕ → Bool) → Type 0
StartsIn rule test = all.StartsIn rule (next test)

pub same_level : (level : ℕ) → level ≤ level
same_level level = omega arith

pub begun : {A : Type 0} (rule : Rules A) (test : ℕ → Bool) → StartsIn rule test → (m : ℕ) (text r : List ℕ) (a : A)
    → rule m text a → next test (head (text ++ r)) ≡ true
begun rule test = all.begun rule (next test)

pub joined_starts : {A B : Type 0} (first : Rules A) (second : A → Rules B) (test : ℕ → Bool) → StartsIn first test
    → StartsIn (JoinedAt first second) test
joined_starts first second test = all.joined_starts first second (next test)

pub either_starts : {A : Type 0} (first second : Rules A) (test : ℕ → Bool) → StartsIn first test → StartsIn second test
    → StartsIn (EitherAt first second) test
either_starts first second test = all.either_starts first second (next test)

pub wider_starts : {A : Type 0} (rule : Rules A) (test wider : ℕ → Bool) → ((b : ℕ) → test b ≡ true → wider b ≡ true)
    → StartsIn rule test → StartsIn rule wider
wider_starts rule test wider more starts m text a h = let s = starts m text a h in (s.0, s.1, s.2, more s.0 s.3)

-- one rule or the other, by the next byte
pub either_answers : {A : Type 0} (first second : Rules A) (test : ℕ → Bool) (stop : Stop A) (level : ℕ) (ts : List ℕ)
    → StartsIn first test → all.Apart second stop (next test)
    → (o p : Outcome A) → (next test (head ts) ≡ true → Answers first stop level ts o)
    → (next test (head ts) ≡ false → Answers second stop level ts p)
    → Answers (EitherAt first second) stop level ts (cond (next test (head ts)) o p)
either_answers first second test = all.either_answers ◌≤◌ same_level first second (next test)

-- the rule where it may begin here, else a refusal
pub guarded_answers : {A : Type 0} (rule : Rules A) (test : ℕ → Bool) (stop : Stop A) (level : ℕ) (ts : List ℕ)
    → StartsIn rule test
    → (o : Outcome A) → (next test (head ts) ≡ true → Answers rule stop level ts o)
    → Answers rule stop level ts (cond (next test (head ts)) o (Err (Unexpected (length ts))))
guarded_answers rule test = all.guarded_answers ◌≤◌ same_level rule (next test)
