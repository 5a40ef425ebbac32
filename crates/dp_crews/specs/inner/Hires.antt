-- How workers are hired, one for each gate.
use Rattle.std.specs.Prelude.{◌≡◌, ℕ, ◌+◌, List, [], ◌∷◌, ◌++◌, Result, Ok, Err, ⊤}
use Rattle.dp_outside.specs.Causes.{Rose}
use Rattle.dp_desk.specs.Desks.{Known, IsTwin, Lost}
use Rattle.dp_crews.specs.declared.tasks.Port.{Port}
use Rattle.dp_crews.specs.declared.tasks.Port.TheVariants.{Ides, Engines}
use Rattle.dp_crews.specs.declared.errors.AllError.{AllError}
use Rattle.dp_crews.specs.declared.errors.AllError.TheVariants.{GateFault, NoThread, Memory}

-- the clerk from which others are split, the tasks so far, and how many links are left
pub record Roster (T : Type 0) : Type 0 where
  pub clerk : Known
  pub tasks : List T
  pub left : ℕ

abbrev pub roster : {T : Type 0} → Known → List T → ℕ → Roster T
roster clerk tasks left = record { clerk = clerk; tasks = tasks; left = left }

-- one task more, with a clerk that is split off, such a port, and some of the links that are left
pub record Hired {T Q : Type 0} (clerk_of : T → Known) (port_of : T → Q) (count_of : T → ℕ)
    (is_port : Q → Type 0) (x y : Roster T) : Type 0 where
  pub task : T
  pub clerk : IsTwin x.clerk (clerk_of task)
  pub lost : Lost x.clerk y.clerk
  pub port : is_port (port_of task)
  pub tasks : y.tasks ≡ x.tasks ++ task ∷ []
  pub left : x.left ≡ y.left + count_of task

-- the port of an engine's worker at this gate
abbrev pub IsEngines : {G H D P : Type 0} → H → Port G H D P → Type 0
IsEngines gate (Ides other) = ⊥
IsEngines gate (Engines own dialer spawner) = own ≡ gate

-- why there are no twins of a dialer
abbrev pub WhyUntwinned : ℕ → ℕ → AllError → Type 0
WhyUntwinned before now GateFault = Rose before now
WhyUntwinned before now NoThread = ⊥
WhyUntwinned before now Memory = ⊤

-- so many twins of a dialer
abbrev pub Dialers : {V : Type 0} → (V → ℕ) → ℕ → ℕ → ℕ → Result V AllError → Type 0
Dialers length_of workers before now (Ok dialers) = length_of dialers ≡ workers
Dialers length_of workers before now (Err why) = WhyUntwinned before now why
