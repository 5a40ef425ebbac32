-- The innermost item of the pending work, where it waits for a signal.
use Rattle.std.specs.Prelude.{◌≡◌, ℕ, Bool, List, [], ◌∷◌, ◌++◌, length, reverse}
use Rattle.dp_value.specs.declared.value.Value.{Value}
use Rattle.dp_actions.specs.Loops.{entries}
use Rattle.dp_step.specs.declared.machine.Machine.{Machine}
use Rattle.dp_step.specs.Stands.{pending_rest}
use Rattle.dp_small_steps.specs.Parts.{Follows}
use Rattle.dp_small_steps.specs.declared.work.EachTurns.{EachTurns}
use Rattle.dp_small_steps.specs.declared.work.ForSignal.{ForSignal}
use Rattle.dp_small_steps.specs.declared.work.ForSignal.TheVariants as signal_work
use Rattle.dp_small_steps.specs.declared.work.Waiting.{Waiting}
use Rattle.dp_small_steps.specs.declared.work.Waiting.TheVariants as waiting
use Rattle.dp_small_steps.specs.declared.work.Work.TheVariants as work

abbrev pub waiting_for : ForSignal → Waiting
waiting_for w = waiting.Part (work.ForSignal w)

-- it is the innermost item, over these
abbrev pub waits_for : List Waiting → ForSignal → List Waiting
waits_for below w = below ++ waiting_for w ∷ []

-- what these items do, once something is given to them
abbrev pub over : Machine → List Waiting → Follows
over m below = pending_rest m.bundle.now m.bound m.depth (reverse below)

abbrev pub IsInnermost : Machine → ForSignal → Type 0
IsInnermost m w = (below : List Waiting) × (m.pending.items ≡ waits_for below w)

-- the same of a `foreach`, by how many entries its subject has
abbrev pub IsEachBody : Machine → EachTurns → ℕ → ℕ → Bool → Type 0
IsEachBody m loop count at due =
    (subject : Value) × (count ≡ length (entries subject))
    × IsInnermost m (signal_work.EachBody loop subject at due)
