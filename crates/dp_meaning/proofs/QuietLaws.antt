-- An expression without calls of a program's functions and includes gives a value or ends the program, before any
-- moment.
use Rattle.std.proofs.Common.{◌≡◌, ℕ, true, List, Result, Ok, Err, subst}
use Rattle.std.specs.List.{list_all}
use Rattle.dp_state.specs.declared.moments.Outcome.{Outcome}
use Rattle.dp_state.specs.declared.state.State.{State}
use Rattle.dp_tree.specs.declared.tree.Expression.{Expression}
use Rattle.dp_actions.specs.declared.halt.Halt.{Halt}
use Rattle.dp_actions.specs.declared.halt.Halt.TheVariants.{Memory, Finished as HasFinished, Stopped}
use Rattle.dp_actions.specs.AtOnce.{AtOnce, Leaves}
use Rattle.dp_actions.specs.Expressions.{evaluation, evaluations}
use Rattle.dp_actions.specs.Run.{Run, Done, Over, At, and_then}
use Rattle.dp_actions.specs.Setting.{Setting, Part}
use Rattle.dp_meaning.specs.inner.Drive.{Ends, Gives, Meets, drive, only_bounded}
use Rattle.dp_tree.specs.declared.bundle.Bundle.{Bundle}
use Rattle.dp_meaning.specs.declared.whole.Whole.{Whole}
use Rattle.dp_meaning.specs.Programs.{setting_of}
use Rattle.dp_analysis.specs.Still.{is_declared, is_momentless}
use Rattle.dp_state.specs.declared.moments.MomentKind.{MomentKind}
use Rattle.dp_meaning.specs.Unwatched.{EachMoment}
use Rattle.dp_meaning.proofs.FreeExpressions.{free-all, free-expression, free-then, no-calls}

-- there is no moment
abbrev None-at : MomentKind → ℕ → Type 0
None-at kind line = ⊥

abbrev pub QuietPart : {A : Type 0} → Part A → Type 0
QuietPart part = (setting : Setting) (s : State) → EachMoment None-at (part setting s)

pub quiet-momentless : (e : Expression) → is_momentless e ≡ true → QuietPart (evaluation e)
quiet-momentless e still setting =
    free-expression None-at setting.bundle is_declared setting (no-calls None-at setting) e still

pub quiet-all : (es : List Expression) → list_all is_momentless es ≡ true → QuietPart (evaluations es)
quiet-all es still setting =
    free-all None-at setting.bundle is_declared setting (no-calls None-at setting) es still

-- what is done at once with what such a part gives
pub quiet-then : {A B : Type 0} (part : Part A) (next : A → State → Run B) → QuietPart part
    → ((a : A) (s : State) → EachMoment None-at (next a s)) → QuietPart (λ setting s. and_then (part setting s) next)
quiet-then part next quiet at-once setting s = free-then None-at (part setting s) next (quiet setting s) at-once

module _ {A : Type 0} (s t : State) where
  given-at-once : (a : A) (result : Result A Halt) → Meets result s (Gives a t) → Leaves (Done a t) result s
  given-at-once a (Ok b) m = let h : (a ≡ b) × (t ≡ s) = (cc, cc) in λ i. Done (h.0 i) (h.1 i)
  given-at-once a (Err Memory) m = tt
  given-at-once a (Err (HasFinished o)) m = absurd (cc)
  given-at-once a (Err (Stopped moment)) m = absurd (cc)

  over-at-once : (o : Outcome) (result : Result A Halt) → Meets result s (Ends o t) → Leaves (Over o t) result s
  over-at-once o (Ok b) m = absurd (cc)
  over-at-once o (Err Memory) m = tt
  over-at-once o (Err (HasFinished p)) m = let h : (o ≡ p) × (t ≡ s) = (cc, cc) in λ i. Over (h.0 i) (h.1 i)
  over-at-once o (Err (Stopped moment)) m = absurd (cc)

-- a run without a moment that was driven to an answer was done at once
at-once : {A : Type 0} (bound : ℕ) (r : Run A) (result : Result A Halt) (s : State) → EachMoment None-at r
    → Meets result s (drive (only_bounded bound) r) → AtOnce r result s
at-once bound (Done a t) result s none m = record { leaves = given-at-once s t a result m }
at-once bound (Over o t) result s none m = record { leaves = over-at-once s t o result m }
at-once bound (At kind line t go) result s none m = absurd none.0

-- a part that an evaluator has run by this
pub runs-at-once : {A : Type 0} (by : Whole) (part : Part A) (x : Result A Halt) (s t : State) (bundle : Bundle)
    (limit bound depth : ℕ)
    → limit ≡ by.bound → bundle ≡ by.bundle.now → bound ≡ by.bound → depth ≡ by.depth → QuietPart part
    → Meets x t (drive (only_bounded limit) (part (setting_of bundle bound depth) s))
    → AtOnce (part (setting_of by.bundle.now by.bound by.depth) s) x t
runs-at-once by part x s t bundle limit bound depth l b n d quiet m =
    subst (λ setting. AtOnce (part setting s) x t) (λ i. setting_of (b i) (n i) (d i))
    (at-once limit _ x t (quiet (setting_of bundle bound depth) s) m)
