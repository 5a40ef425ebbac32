-- A link over the network that a command used, by what the network tells: how it was given, and how
-- it came back.
use Rattle.std.specs.Prelude.{◌≡◌, ◌⊎◌, ℕ, ◌+◌, ◌<◌, ◌≤◌, Bool, true, false, List, [], ◌∷◌, Option, None, Some, ⊤}
use Rattle.dp_outside.specs.Causes.{Rose}
use Rattle.dp_outside.specs.Changes.{Change}
use Rattle.dp_outside.specs.Links.{CountsReturned, Dial, Door, Link}
use Rattle.dp_outside.specs.Reports.{grown}
use Rattle.dp_words.specs.Words.{Address}
use Rattle.dp_top.specs.Seen.{Net}

-- what became of a source or a sink that began with no fault
abbrev pub between : Option (List ℕ) → Option (List ℕ) → ℕ → Change
between given back faults =
    record { told_before = given; told = back; faults_before = 0; faults = faults }

-- the link reported this when it was given and that when it came back; its source and its sink had
-- failed so often
pub record IsUsed (given back : Link) (source sink : Change) : Type 0 where
  pub source_is : source ≡ between given.left back.left source.faults
  pub sink_is : sink ≡ between given.taken back.taken sink.faults

abbrev pub dial_of : Address → Option Link → Dial
dial_of address made = record { host = address.host; port = address.port; made = made }

-- One dial, of this address, gave the link, and it came back. No gate was asked for, and none was
-- shut.
pub record IsDialled (address : Address) (source sink : Change) (old new : Net) : Type 0 where
  pub given : Link
  pub back : Link
  pub used : IsUsed given back source sink
  pub dialled : new.dials ≡ grown old.dials (dial_of address (Some given) ∷ [])
  pub retired : new.retired ≡ grown old.retired (back ∷ [])
  pub requested : new.requested ≡ old.requested
  pub shut : new.shut ≡ old.shut
  pub faults : old.faults ≤ new.faults
  pub returned : CountsReturned (source.faults + sink.faults) old.returned new.returned

-- One dial, of this address, failed. No gate was asked for, and none was shut.
pub record IsUndialled (address : Address) (old new : Net) : Type 0 where
  pub dialled : new.dials ≡ grown old.dials (dial_of address None ∷ [])
  pub retired : new.retired ≡ old.retired
  pub requested : new.requested ≡ old.requested
  pub shut : new.shut ≡ old.shut
  pub faults : Rose old.faults new.faults
  pub returned : new.returned ≡ old.returned

-- ---- links that others make

-- where the list is reported, it is this one
abbrev pub Reports : {A : Type 0} → Option (List A) → List A → Type 0
Reports None list = ⊤
Reports (Some told) list = told ≡ list

-- One gate was asked for, at this port, and opened. Each time that it was asked for a link it gave
-- one or not, as these say; it gave these links and took these back. When it was shut it had
-- failed, or links that had failed had come back to it, so often.
pub record IsGated (port : ℕ) (whether : List Bool) (given back : List Link) (failed : ℕ)
    (old new : Net) : Type 0 where
  pub door : Door
  pub at : door.port ≡ port
  pub accepts : Reports door.accepts whether
  pub gave : Reports door.accepted given
  pub took : Reports door.retired back
  pub requested : new.requested ≡ grown old.requested ((port, true) ∷ [])
  pub shut : new.shut ≡ grown old.shut (door ∷ [])
  pub dials : new.dials ≡ old.dials
  pub retired : new.retired ≡ old.retired
  pub faults : old.faults ≤ new.faults
  pub returned : CountsReturned failed old.returned new.returned

-- One gate, at this port, was asked for one link, gave it, and took it back. A link that had failed
-- is counted.
pub record IsAccepted (port : ℕ) (source sink : Change) (old new : Net) : Type 0 where
  pub given : Link
  pub back : Link
  pub used : IsUsed given back source sink
  pub failed : ℕ
  pub counted : 0 < source.faults + sink.faults → 0 < failed
  pub gated : IsGated port (true ∷ []) (given ∷ []) (back ∷ []) failed old new

-- One gate was asked for, at this port, and could not be opened.
pub record IsUngated (port : ℕ) (old new : Net) : Type 0 where
  pub dials : new.dials ≡ old.dials
  pub retired : new.retired ≡ old.retired
  pub requested : new.requested ≡ grown old.requested ((port, false) ∷ [])
  pub shut : new.shut ≡ old.shut
  pub faults : Rose old.faults new.faults
  pub returned : new.returned ≡ old.returned

-- The gate was asked for one link, failed, and gave none.
pub record IsShutUnused (port : ℕ) (old new : Net) : Type 0 where
  pub failed : ℕ
  pub counted : 0 < failed
  pub gated : IsGated port (false ∷ []) [] [] failed old new

-- no link came
abbrev pub IsUncalled : ℕ → Net → Net → Type 0
IsUncalled port old new = IsUngated port old new ⊎ IsShutUnused port old new
