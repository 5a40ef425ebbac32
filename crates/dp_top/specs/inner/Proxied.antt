-- What the code tells of gates at which a proxy served.
use Rattle.std.specs.Prelude.{◌≡◌, ◌⊎◌, ℕ, ◌≤◌, List, ◌++◌, map, Result, Ok, Err}
use Rattle.dp_outside.specs.Causes.{Rose}
use Rattle.dp_outside.specs.Changes.{Change, IsUntouched}
use Rattle.dp_outside.specs.Reports.{grown}
use Rattle.dp_outside.specs.Streams.{AppendsFront}
use Rattle.dp_registry.specs.declared.entry.Entry.{Entry}
use Rattle.dp_crews.specs.Bounds.{IsBounded}
use Rattle.dp_crews.specs.Gates.{Gating}
use Rattle.dp_crews.specs.Relays.{AllServed, Faults, faults}
use Rattle.dp_crews.specs.declared.errors.AllError.{AllError}
use Rattle.dp_crews.specs.declared.summaries.Summary.{Summary}
use Rattle.dp_top.specs.declared.failures.Failure.{Failure}
use Rattle.dp_top.specs.declared.failures.Failure.TheVariants as failure
use Rattle.dp_words.specs.Words.{Service}
use Rattle.dp_top.specs.Proxy.{CountsGates, IsNew, IsServed, IsUnserved, by_telling, door_of}
use Rattle.dp_top.specs.Seen.{Net}

-- these gates were shut, one after another
pub record AreShut (gates : List Gating) (old new : Net) : Type 0 where
  pub faults : new.faults ≡ old.faults
  pub later : old.returned ≤ new.returned
  pub returned : CountsGates gates old.returned new.returned
  pub dials : new.dials ≡ old.dials
  pub retired : new.retired ≡ old.retired
  pub requested : new.requested ≡ old.requested
  pub shut : new.shut ≡ grown old.shut (map door_of gates)

-- what serving at two new gates came to, once those that came back were shut
pub record RanAt (service : Service) (result : Result (Summary × List Entry) AllError)
    (old new : Net) (starts : Faults) : Type 0 where
  pub ides : Gating
  pub engines : Gating
  pub new_ides : IsNew service.ides ides
  pub new_engines : IsNew service.engines engines
  pub asking : List Gating
  pub serving : List Gating
  pub dials : new.dials ≡ old.dials
  pub retired : new.retired ≡ old.retired
  pub requested : new.requested ≡ old.requested
  pub shut : new.shut ≡ grown old.shut (map door_of (asking ++ serving))
  pub returned : CountsGates (asking ++ serving) old.returned new.returned
  pub served : AllServed by_telling by_telling ides engines service.registrations service.sessions
      (faults old.faults new.faults) starts asking serving result
  pub bounds : IsBounded by_telling by_telling ides engines service.registrations service.sessions
      asking serving result

-- likewise, whatever journal it left
abbrev pub Ran : Service → Result Summary AllError → Net → Net → Faults → Type 0
Ran service (Ok s) old new starts =
    (journal : List Entry) × RanAt service (Ok (s, journal)) old new starts
Ran service (Err why) old new starts = RanAt service (Err why) old new starts

-- what serving at two ports came to
abbrev pub Came : Service → Result Summary AllError → Net → Net → Faults → Type 0
Came service (Ok s) old new starts = IsServed service s old new starts
Came service (Err why) old new starts = IsUnserved service why old new starts

-- the line was not put whole, and this failure is reported
abbrev pub UnsaidSo : Failure → List ℕ → Change → Type 0
UnsaidSo why line out =
    ((why ≡ failure.Memory) × IsUntouched out)
    ⊎ ((why ≡ failure.Output) × AppendsFront out.told_before out.told line
    × Rose out.faults_before out.faults)
