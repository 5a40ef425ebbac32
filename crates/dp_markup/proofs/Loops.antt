-- Pieces of bytes, each from the value of the last, up to an end.
use Rattle.std.specs.declared.ops.ControlFlow.{ControlFlow}
use Rattle.std.proofs.Common.{ℕ, suc, ◌≤◌, Bool, true, List, length, Option, refl}
use Rattle.dp_grammar.proofs.Loops as all
use Rattle.dp_markup.specs.inner.Input.{Reader, until}
use Rattle.dp_markup.proofs.Answers.{Rules, Stop, Anything, ClosedAt, StepAt, Answers, GoesOn, StartsIn, same_level}
pub use Rattle.dp_grammar.proofs.Answers.{give, given}

-- where a step may end: a piece anywhere
abbrev pub step_stop : {A B : Type 0} → Stop B → ControlFlow B A → Option ℕ → Bool
step_stop stop = all.step_stop Anything stop

pub closed_answers : {A B : Type 0} (piece : A → Rules A) (end : A → Rules B) (stop : Stop B) (level : ℕ)
    → ((a : A) → StartsIn (piece a) (λ _. true)) → GoesOn level end
    → (step : A → Reader (ControlFlow B A))
    → ((a : A) (ts : List ℕ) → Answers (StepAt piece end a) (step_stop stop) level ts (step a ts))
    → (a : A) (ts : List ℕ) → Answers (ClosedAt piece end a) stop level ts (until step (suc (length ts)) a ts)
closed_answers piece end stop level takes =
    all.closed_answers ◌≤◌ same_level piece end Anything stop level takes (λ m a ts b r h here. refl)
