-- How a gate stands, and what serving its links one after another does to it.
use Rattle.std.specs.Prelude.{◌≡◌, ℕ, zero, suc, ◌+◌, ◌<◌, ◌≤◌, Bool, true, false, List, [], ◌∷◌, ⊤, Result, Ok, Err}
use Rattle.std.specs.declared.option.Option.{Option}
use Rattle.dp_outside.specs.Causes.{Rose}
use Rattle.dp_outside.specs.Links.{CountsReturned, Link}
use Rattle.dp_outside.specs.Reports.{grown}
use Rattle.dp_outside.specs.declared.links.Gate as gate_of
use Rattle.dp_relay.specs.Ends.{Ends, IsFresh, link_of}

-- what a gate tells, and how often it failed
pub record Gating : Type 0 where
  pub port : ℕ
  pub faults : ℕ
  pub returned : ℕ
  pub accepts : Option (List Bool)
  pub accepted : Option (List Link)
  pub retired : Option (List Link)

abbrev pub gating : {G In Out : Type 0} → gate_of.Ghosts G In Out → G → Gating
gating g gate =
    record {
      port = g.port gate;
      faults = g.faults gate;
      returned = g.returned gate;
      accepts = g.accepts gate;
      accepted = g.accepted gate;
      retired = g.retired gate;
    }

-- the gate gave one link, which came back so
pub record Visited (a b : Gating) (before after : Ends) : Type 0 where
  pub fresh : IsFresh before
  pub accepts : b.accepts ≡ grown a.accepts (true ∷ [])
  pub accepted : b.accepted ≡ grown a.accepted (link_of before ∷ [])
  pub retired : b.retired ≡ grown a.retired (link_of after ∷ [])
  pub returned : CountsReturned (after.source_faults + after.sink_faults) a.returned b.returned
  pub returned_later : a.returned ≤ b.returned
  pub later : a.faults ≤ b.faults
  pub port : b.port ≡ a.port

-- the gate was asked for a link, and gave none
pub record Missed (a b : Gating) : Type 0 where
  pub accepts : b.accepts ≡ grown a.accepts (false ∷ [])
  pub accepted : b.accepted ≡ grown a.accepted []
  pub retired : b.retired ≡ a.retired
  pub returned : b.returned ≡ a.returned
  pub later : a.faults ≤ b.faults
  pub rose : Rose a.faults b.faults
  pub port : b.port ≡ a.port

-- ---- one after another

-- so many steps
abbrev pub Steps : {X : Type 0} → (X → X → Type 0) → ℕ → X → X → Type 0
Steps step zero x y = y ≡ x
Steps {X} step (suc count) x y = (z : X) × Steps step count x z × step z y

-- all steps were made, or the one behind some of them failed
abbrev pub Works : {X E : Type 0} → (X → X → Type 0) → (X → X → Type 0) → ℕ → X → X → Result ⊤ E
    → Type 0
Works step fails count x y (Ok done) = Steps step count x y
Works {X} step fails count x y (Err why) =
    (made : ℕ) × (z : X) × (made < count) × Steps step made x z × fails z y
