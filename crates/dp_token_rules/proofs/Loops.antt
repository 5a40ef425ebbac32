-- Pieces, each from the value of the last, up to an end, and any number of pieces, over tokens.
use Rattle.std.specs.declared.ops.ControlFlow.{ControlFlow}
use Rattle.std.specs.declared.ops.ControlFlow.TheVariants.{Continue, Break}
use Rattle.std.proofs.Common.{◌≡◌, suc, Bool, true, false, List, [], ◌∷◌, ◌++◌, length, Option, cond}
use Rattle.dp_lexer.specs.declared.token.Token.{Token}
use Rattle.dp_grammar.proofs.Answers as theory
use Rattle.dp_grammar.proofs.Loops as all
use Rattle.dp_token_rules.specs.declared.terminal.Terminal.{Terminal}
use Rattle.dp_token_rules.specs.Terminals.{next_terminal, head}
use Rattle.dp_token_rules.specs.inner.Input.{Outcome, Reader, and_then, gives, until}
use Rattle.dp_token_rules.specs.inner.ListReaders.{many}
use Rattle.dp_token_rules.proofs.Answers.{Rules, Stop, at, ends, ClosedAt, StepAt, ManyAt, Answers, Follows, GoesOn, StartsIn, Apart}
pub use Rattle.dp_grammar.proofs.Loops.{closed_now, closed_goes_on, many_none}

-- where a step may end: between two pieces, or at the end
abbrev pub step_stop : {A B : Type 0} → Stop A → Stop B → ControlFlow B A → Terminal → Bool
step_stop between stop (Continue a) s = between a s
step_stop between stop (Break b) s = stop b s

-- the two say the same
to_steps : {A B : Type 0} (between : Stop A) (stop : Stop B) (v : ControlFlow B A) (o : Option Token)
    → all.step_stop (ends between) (ends stop) v o ≡ true → ends (step_stop between stop) v o ≡ true
to_steps between stop (Continue a) o e = e
to_steps between stop (Break b) o e = e

from_steps : {A B : Type 0} (between : Stop A) (stop : Stop B) (v : ControlFlow B A) (o : Option Token)
    → ends (step_stop between stop) v o ≡ true → all.step_stop (ends between) (ends stop) v o ≡ true
from_steps between stop (Continue a) o e = e
from_steps between stop (Break b) o e = e

pub closed_follows : {L A B : Type 0} (piece : A → Rules L A) (end : A → Rules L B) (between : Stop A) (stop : Stop B)
    → ((a : A) → StartsIn (piece a) (between a)) → Follows between end stop → Follows between (ClosedAt piece end) stop
closed_follows piece end between stop = all.closed_follows piece end (ends between) (ends stop)

module _ {L : Type 0} (Above : L → L → Type 0) (same_level : (l : L) → Above l l) where
  module _ {A B : Type 0} (piece : A → Rules L A) (end : A → Rules L B) (between : Stop A) (stop : Stop B) (level : L)
      (starts : (a : A) → StartsIn (piece a) (between a)) (end_follows : Follows between end stop)
      (ends_on : GoesOn Above level end)
      (step : A → Reader (ControlFlow B A)) (reads : (a : A) (ts : List Token)
      → Answers Above (StepAt piece end a) (step_stop between stop) level ts (step a ts)) where
    pub closed_answers : (a : A) (ts : List Token)
        → Answers Above (ClosedAt piece end a) stop level ts (until step (suc (length ts)) a ts)
    closed_answers =
        all.closed_answers Above same_level piece end (ends between) (ends stop) level starts end_follows ends_on step
        (λ a ts. theory.stricter_answers Above same_level (StepAt piece end a) (ends (step_stop between stop))
        (all.step_stop (ends between) (ends stop)) level ts (to_steps between stop) (step a ts) (reads a ts))

  -- ---- steps that look at the next token

  module _ {A B : Type 0} (piece : A → Rules L A) (end : A → Rules L B) (between : Stop A) (stop : Stop B) (level : L)
      (a : A) (ts : List Token) (test : Terminal → Bool) (o : Outcome A) (p : Outcome B) where
    -- whether a piece comes next
    pub piece_first : StartsIn (piece a) test → Apart (end a) stop test
        → (test (head ts) ≡ true → Answers Above (piece a) between level ts o)
        → (test (head ts) ≡ false → Answers Above (end a) stop level ts p)
        → Answers Above (StepAt piece end a) (step_stop between stop) level ts
        (cond (test (head ts)) (and_then o (λ x. gives (Continue x))) (and_then p (λ x. gives (Break x))))
    piece_first starts apart one other =
        theory.stricter_answers Above same_level (StepAt piece end a) (all.step_stop (ends between) (ends stop))
        (ends (step_stop between stop)) level ts (from_steps between stop)
        (cond (test (head ts)) (and_then o (λ x. gives (Continue x))) (and_then p (λ x. gives (Break x))))
        (all.piece_first Above same_level piece end (ends between) (ends stop) level a ts
        (at test) o p starts apart one other)

    -- whether the end comes next
    pub end_first : StartsIn (end a) test → Apart (piece a) between test
        → (test (head ts) ≡ true → Answers Above (end a) stop level ts p)
        → (test (head ts) ≡ false → Answers Above (piece a) between level ts o)
        → Answers Above (StepAt piece end a) (step_stop between stop) level ts
        (cond (test (head ts)) (and_then p (λ x. gives (Break x))) (and_then o (λ x. gives (Continue x))))
    end_first starts apart one other =
        theory.stricter_answers Above same_level (StepAt piece end a) (all.step_stop (ends between) (ends stop))
        (ends (step_stop between stop)) level ts (from_steps between stop)
        (cond (test (head ts)) (and_then p (λ x. gives (Break x))) (and_then o (λ x. gives (Continue x))))
        (all.end_first Above same_level piece end (ends between) (ends stop) level a ts
        (at test) o p starts apart one other)

-- ---- any number of pieces

module _ {L A : Type 0} (rule : Rules L A) where
  module _ (Above : L → L → Type 0) (same_level : (l : L) → Above l l) (test : Terminal → Bool) (piece_stop : Stop A)
      (stop : Stop (List A)) (level : L) (piece : Reader A)
      (starts : StartsIn rule test) (before_next : (a : A) (s : Terminal) → test s ≡ true → piece_stop a s ≡ true)
      (at_end : (all : List A) (a : A) (s : Terminal) → stop (all ++ a ∷ []) s ≡ true → piece_stop a s ≡ true)
      (apart : (all : List A) (s : Terminal) → stop all s ≡ true → test s ≡ false)
      (reads : (ts : List Token) → test (head ts) ≡ true → Answers Above rule piece_stop level ts (piece ts)) where
    pub many_answers : (ts : List Token) → Answers Above (ManyAt rule) stop level ts (many test piece ts)
    unfolding many
    many_answers =
        all.many_answers rule Above same_level (at test) (ends piece_stop) (ends stop) level piece starts
        (λ a o. before_next a (next_terminal o)) (λ all_so_far a o. at_end all_so_far a (next_terminal o))
        (λ all_so_far o. apart all_so_far (next_terminal o)) reads
