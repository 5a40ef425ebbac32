-- The command `proxy`: registrations and sessions over links, in threads; what it does, and why it
-- fails.
use Rattle.std.specs.Prelude.{◌≡◌, ◌⊎◌, ℕ, ◌+◌, ◌≤◌, true, false, List, [], ◌∷◌, ◌++◌, map}
use Rattle.std.specs.Prelude.{Result, Ok, Err, ⊤, codes}
use Rattle.std.specs.Fmt.{decimal}
use Rattle.std.specs.Io.KnownBytes.{Appends}
use Rattle.dp_outside.specs.Causes.{Rose}
use Rattle.dp_outside.specs.Changes.{Change, IsUntouched}
use Rattle.dp_outside.specs.Links.{CountsReturned, Door}
use Rattle.dp_outside.specs.Reports.{BeginsEmpty, grown}
use Rattle.dp_outside.specs.Streams.{AppendsFront}
use Rattle.dp_outside.specs.declared.links.Gate as gate_of
use Rattle.dp_registry.specs.declared.entry.Entry.{Entry}
use Rattle.dp_crews.specs.Bounds.{IsBounded}
use Rattle.dp_crews.specs.Gates.{Gating}
use Rattle.dp_crews.specs.Relays.{AllServed, Faults, faults}
use Rattle.dp_crews.specs.declared.errors.AllError.{AllError}
use Rattle.dp_crews.specs.declared.errors.AllError.TheVariants as ends
use Rattle.dp_crews.specs.declared.summaries.Summary.{Summary}
use Rattle.dp_top.specs.declared.failures.Failure.{Failure}
use Rattle.dp_top.specs.declared.failures.Failure.TheVariants as failure
use Rattle.dp_words.specs.Words.{Service}
use Rattle.dp_top.specs.Links.{IsUngated}
use Rattle.dp_top.specs.Seen.{Net}

-- the line of the numbers
abbrev pub summary_line : Summary → List ℕ
summary_line s =
    codes "accepted " ++ decimal s.accepted ++ codes " admitted " ++ decimal s.admitted
    ++ codes " refused " ++ decimal s.refused ++ codes " full " ++ decimal s.full
    ++ codes " unfit " ++ decimal s.unfit ++ codes " failed " ++ decimal s.failed
    ++ codes " starved " ++ decimal s.starved ++ codes "\n"

-- ---- the gates

-- dp_crews speaks of gates by what a dictionary tells of them. Here a gate is what it told, and the
-- dictionary reads just that.
abbrev pub by_telling : gate_of.Ghosts Gating ⊤ ⊤
by_telling = record {
  faults = λ gate. gate.faults;
  returned = λ gate. gate.returned;
  port = λ gate. gate.port;
  accepts = λ gate. gate.accepts;
  accepted = λ gate. gate.accepted;
  retired = λ gate. gate.retired;
}

-- what a gate tells once it is shut
abbrev pub door_of : Gating → Door
door_of gate = record {
  port = gate.port;
  accepts = gate.accepts;
  accepted = gate.accepted;
  retired = gate.retired;
}

-- a gate at this port that was just opened
pub record IsNew (port : ℕ) (gate : Gating) : Type 0 where
  pub at : gate.port ≡ port
  pub faults : gate.faults ≡ 0
  pub returned : gate.returned ≡ 0
  pub accepts : BeginsEmpty gate.accepts
  pub accepted : BeginsEmpty gate.accepted
  pub retired : BeginsEmpty gate.retired

-- the count of what came back that had failed, once these gates came back one after another
abbrev pub CountsGates : List Gating → ℕ → ℕ → Type 0
CountsGates [] before after = after ≡ before
CountsGates (gate ∷ gates) before after =
    (between : ℕ) × CountsReturned (gate.faults + gate.returned) before between
    × CountsGates gates between after

-- A gate was opened at each port, and no other was asked for. These gates were shut, in this order,
-- and no other. The network itself made no link, and none came back to it: its twins dialled, and
-- the gates took back what they gave.
pub record AreGated (service : Service) (gates : List Gating) (old new : Net) : Type 0 where
  pub requested : new.requested
      ≡ grown old.requested ((service.ides, true) ∷ (service.engines, true) ∷ [])
  pub shut : new.shut ≡ grown old.shut (map door_of gates)
  pub returned : CountsGates gates old.returned new.returned
  pub dials : new.dials ≡ old.dials
  pub retired : new.retired ≡ old.retired

-- The gate of engines could not be opened, and that of IDEs was shut as it was.
pub record IsHalfGated (service : Service) (old new : Net) : Type 0 where
  pub gate : Gating
  pub is_new : IsNew service.ides gate
  pub requested : new.requested
      ≡ grown old.requested ((service.ides, true) ∷ (service.engines, false) ∷ [])
  pub shut : new.shut ≡ grown old.shut (door_of gate ∷ [])
  pub dials : new.dials ≡ old.dials
  pub retired : new.retired ≡ old.retired
  pub faults : Rose old.faults new.faults
  pub returned : new.returned ≡ old.returned

-- ---- what it does

-- So many were to be served at the gates of the two ports, and this is what it came to: what each
-- worker did, what each link was given and took, and the numbers. These gates came back, and were
-- shut: first those of IDEs, then those of engines.
pub record IsRun (service : Service) (result : Result (Summary × List Entry) AllError)
    (old new : Net) (starts : Faults) : Type 0 where
  pub ides : Gating
  pub engines : Gating
  pub new_ides : IsNew service.ides ides
  pub new_engines : IsNew service.engines engines
  pub asking : List Gating
  pub serving : List Gating
  pub gated : AreGated service (asking ++ serving) old new
  -- how often the network had failed once both gates were opened
  pub opened : ℕ
  pub before : old.faults ≤ opened
  pub served : AllServed by_telling by_telling ides engines service.registrations service.sessions
      (faults opened new.faults) starts asking serving result
  pub bounds : IsBounded by_telling by_telling ides engines service.registrations service.sessions
      asking serving result

-- all were served, and these are the numbers
abbrev pub IsServed : Service → Summary → Net → Net → Faults → Type 0
IsServed service s old new starts =
    (journal : List Entry) × IsRun service (Ok (s, journal)) old new starts

-- their line was put
pub record Proxies (status : ℕ) (service : Service) (out : Change) (old new : Net) (starts : Faults)
    : Type 0 where
  pub is_status : status ≡ 0
  pub summary : Summary
  pub served : IsServed service summary old new starts
  pub put : Appends out.told_before out.told (summary_line summary)

-- ---- why it fails

-- the failure that an end of serving is
abbrev pub failure_of : AllError → Failure
failure_of ends.GateFault = failure.Network
failure_of ends.NoThread = failure.Network
failure_of ends.Memory = failure.Memory

-- a count rose: that of the network, that of what came back to it, or the spawner's
abbrev pub HasFailed : Net → Net → Faults → Type 0
HasFailed old new starts =
    Rose old.faults new.faults ⊎ Rose old.returned new.returned ⊎ Rose starts.before starts.now

-- not all were served: a gate could not be opened, or what was begun came to this end
abbrev pub IsUnserved : Service → AllError → Net → Net → Faults → Type 0
IsUnserved service why old new starts =
    ((why ≡ ends.GateFault) × (IsUngated service.ides old new ⊎ IsHalfGated service old new))
    ⊎ IsRun service (Err why) old new starts

-- then nothing was put
pub record IsUndone (why : AllError) (service : Service) (out : Change) (old new : Net)
    (starts : Faults) : Type 0 where
  pub unserved : IsUnserved service why old new starts
  pub out_stays : IsUntouched out

-- the network failed or a gate of it, or the start of a thread, before all were served
pub record IsBroken (service : Service) (out : Change) (old new : Net) (starts : Faults) : Type 0
  where
    pub end : AllError
    pub is_network : failure_of end ≡ failure.Network
    pub failed : HasFailed old new starts
    pub undone : IsUndone end service out old new starts

-- all were served, and nothing was put
pub record IsUnsaid (service : Service) (out : Change) (old new : Net) (starts : Faults) : Type 0
  where
    pub summary : Summary
    pub served : IsServed service summary old new starts
    pub out_stays : IsUntouched out

-- all were served, a front of the line was put, and the output failed
pub record IsCutShort (service : Service) (out : Change) (old new : Net) (starts : Faults) : Type 0
  where
    pub summary : Summary
    pub served : IsServed service summary old new starts
    pub put : AppendsFront out.told_before out.told (summary_line summary)
    pub fault : Rose out.faults_before out.faults

-- why it failed: memory ran out before the line was put, or for the line on what else had failed;
-- the network or a thread failed; or the output did
abbrev pub ProxyCause : Failure → Service → Change → Net → Net → Faults → Type 0
ProxyCause why service out old new starts =
    ((why ≡ failure.Memory)
    × (((end : AllError) × IsUndone end service out old new starts)
    ⊎ IsUnsaid service out old new starts ⊎ IsCutShort service out old new starts))
    ⊎ ((why ≡ failure.Network) × IsBroken service out old new starts)
    ⊎ ((why ≡ failure.Output) × IsCutShort service out old new starts)

-- it names no file
abbrev pub ProxyFails : Failure → List ℕ → Service → Change → Net → Net → Faults → Type 0
ProxyFails why name service out old new starts =
    (name ≡ []) × ProxyCause why service out old new starts
