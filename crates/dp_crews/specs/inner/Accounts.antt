-- What comes back of a crew of workers, one after another.
use Rattle.std.specs.Prelude.{◌≡◌, ℕ, ◌+◌, ◌≤◌, Bool, true, min, List, [], ◌∷◌, ◌++◌, Result, Ok, Err, ⊤}
use Rattle.dp_desk.specs.Desks.{Known, Gained}
use Rattle.dp_wire.specs.Received.{last_place}
use Rattle.dp_crews.specs.declared.accounts.Account.{Account}
use Rattle.dp_crews.specs.declared.tallies.Tally.{Tally}
use Rattle.dp_crews.specs.declared.tasks.Port.{Port}
use Rattle.dp_crews.specs.declared.tasks.Port.TheVariants as port
use Rattle.dp_crews.specs.declared.tasks.Closed.{Closed}
use Rattle.dp_crews.specs.declared.tasks.Closed.TheVariants.{Ides, Engines}
use Rattle.dp_crews.specs.Tallies.{tally}

-- so many more gates of each kind go in
pub record HasRoom (more ides_len ides_capacity engines_len engines_capacity : ℕ) : Type 0 where
  pub ides : ides_len + more ≤ ides_capacity
  pub engines : engines_len + more ≤ engines_capacity

-- two tallies in one; a number stays at the end of its kind
abbrev pub added : Tally → Tally → Tally
added t u =
    tally (min (t.full + u.full) last_place) (min (t.unfit + u.unfit) last_place)
    (min (t.failed + u.failed) last_place) (min (t.starved + u.starved) last_place)

-- the gate of a task that is over came back
abbrev pub TookGate : {G H : Type 0} → Closed G H → Account G H → Account G H → Type 0
TookGate (Ides gate) x y =
    (y.ides.items ≡ x.ides.items ++ gate ∷ []) × (y.engines ≡ x.engines) × (y.tally ≡ x.tally)
TookGate (Engines gate t) x y =
    (y.ides ≡ x.ides) × (y.engines.items ≡ x.engines.items ++ gate ∷ [])
    × (y.tally ≡ added x.tally t)

-- what the clerk of a task has comes to one clerk, unless its gate failed
abbrev pub TookClerk : {E : Type 0} → Known → Result ⊤ E → Known → Known → Bool → Bool → Type 0
TookClerk own (Ok done) v w before now = Gained v own w × (now ≡ before)
TookClerk own (Err why) v w before now = (w ≡ v) × (now ≡ true)

-- a task that is over came back
pub record TookOver {G H E : Type 0} (closed : Closed G H) (own : Known) (over : Result ⊤ E)
    (v w : Known) (x y : Account G H) : Type 0 where
  pub gate : TookGate closed x y
  pub clerk : TookClerk own over v w x.gate_fault y.gate_fault
  pub no_thread : y.no_thread ≡ x.no_thread

-- the gate of a task that no thread began came back
abbrev pub TookPort : {G H D P : Type 0} → Port G H D P → Account G H → Account G H → Type 0
TookPort (port.Ides gate) x y =
    (y.ides.items ≡ x.ides.items ++ gate ∷ []) × (y.engines ≡ x.engines)
TookPort (port.Engines gate dialer spawner) x y =
    (y.ides ≡ x.ides) × (y.engines.items ≡ x.engines.items ++ gate ∷ [])

-- a task that no thread began came back
pub record TookUndone {G H D P : Type 0} (gates : Port G H D P) (v w : Known) (x y : Account G H)
    : Type 0 where
  pub gate : TookPort gates x y
  pub clerk : w ≡ v
  pub tally : y.tally ≡ x.tally
  pub gate_fault : y.gate_fault ≡ x.gate_fault
  pub no_thread : y.no_thread ≡ true

-- one after another
abbrev pub Folds : {A X : Type 0} → (A → X → X → Type 0) → List A → X → X → Type 0
Folds step [] x y = y ≡ x
Folds {A} {X} step (a ∷ more) x y = (z : X) × step a x z × Folds step more z y

-- the same of two that are led on beside one another
abbrev pub FoldsBoth : {A V W : Type 0} → (A → V → V → W → W → Type 0) → List A → V → V → W → W
    → Type 0
FoldsBoth step [] v w x y = (w ≡ v) × (y ≡ x)
FoldsBoth {A} {V} {W} step (a ∷ more) v w x y =
    (u : V) × (z : W) × step a v u x z × FoldsBoth step more u w z y
