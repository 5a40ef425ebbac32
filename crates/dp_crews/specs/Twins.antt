-- The gates of a kind of workers: a gate that was handed in, and twins of it.
use Rattle.std.specs.Prelude.{◌≡◌, ℕ, ◌+◌, ◌≤◌, List, [], ◌∷◌, ◌++◌, length, ⊤, Result, Ok, Err}
use Rattle.dp_outside.specs.Causes.{Rose}
use Rattle.dp_outside.specs.Reports.{BeginsEmpty}
use Rattle.dp_outside.specs.declared.links.Gate as gate_of
use Rattle.dp_crews.specs.Gates.{Gating, gating}

-- a second gate of the same port, which was not asked for a link
pub record IsTwinGate (a b : Gating) : Type 0 where
  pub port : b.port ≡ a.port
  pub faults : b.faults ≡ 0
  pub returned : b.returned ≡ 0
  pub accepts : BeginsEmpty b.accepts
  pub accepted : BeginsEmpty b.accepted
  pub retired : BeginsEmpty b.retired

-- the same gate, which was asked for no link in between
pub record IsAtRest (a b : Gating) : Type 0 where
  pub port : b.port ≡ a.port
  pub later : a.faults ≤ b.faults
  pub returned : b.returned ≡ a.returned
  pub accepts : b.accepts ≡ a.accepts
  pub accepted : b.accepted ≡ a.accepted
  pub retired : b.retired ≡ a.retired

-- each of these
abbrev pub Each : {X : Type 0} → (X → Type 0) → List X → Type 0
Each P [] = ⊤
Each P (x ∷ xs) = P x × Each P xs

-- twins of a gate, and last the gate itself
pub record Twins {G In Out : Type 0} (g : gate_of.Ghosts G In Out) (gate : G) (gates : List G)
    : Type 0 where
  pub twins : List G
  pub last : G
  pub are : gates ≡ twins ++ last ∷ []
  pub each : Each (λ twin. IsTwinGate (gating g gate) (gating g twin)) twins
  pub same : IsAtRest (gating g gate) (gating g last)

-- so many gates, or those that there are where a twin was refused
abbrev pub Twinned : {G In Out E : Type 0} → gate_of.Ghosts G In Out → ℕ → G → List G → Result ⊤ E
    → Type 0
Twinned g workers gate gates (Ok done) = Twins g gate gates × (length gates ≡ workers)
Twinned g workers gate gates (Err why) =
    (t : Twins g gate gates) × Rose (g.faults gate) (g.faults t.last)
