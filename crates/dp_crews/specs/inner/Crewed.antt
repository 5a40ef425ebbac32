-- What a crew of workers leaves, by the gates with which it began.
use Rattle.std.specs.Prelude.{◌≡◌, ◌⊎◌, ℕ, Bool, true, false, List, [], ◌∷◌, map, Result, Ok, Err}
use Rattle.std.specs.List.{AllZip}
use mathlib.Core.List.{IsPrefix}
use Rattle.dp_outside.specs.Causes.{Rose}
use Rattle.dp_outside.specs.declared.links.Gate as gate_of
use Rattle.dp_desk.specs.Desks.{Known}
use Rattle.dp_desk.specs.Made.{Counts, plus}
use Rattle.dp_registry.specs.Legal.{IsLegal}
use Rattle.dp_registry.specs.declared.entry.Entry.{Entry}
use Rattle.dp_crews.specs.declared.errors.AllError.{AllError}
use Rattle.dp_crews.specs.declared.errors.AllError.TheVariants.{GateFault, NoThread, Memory}
use Rattle.dp_crews.specs.declared.summaries.Summary.{Summary}
use Rattle.dp_crews.specs.declared.tallies.Tally.{Tally}
use Rattle.dp_crews.specs.Gates.{gating}
use Rattle.dp_crews.specs.Relays.{EnginesServed, Faults, IdesServed, IsBack, Worker, links_in_all, made_in_all, tally_in_all}
use Rattle.dp_crews.specs.Summaries.{Summed, summary}

-- at one place
abbrev pub OneZip : {A B : Type 0} → (A → B → Type 0) → List A → List B → Type 0
OneZip R [] ys = ⊥
OneZip R (x ∷ xs) [] = ⊥
OneZip R (x ∷ xs) (y ∷ ys) = R x y ⊎ OneZip R xs ys

-- the count of one gate rose
abbrev pub HasRisen : {G In Out : Type 0} → gate_of.Ghosts G In Out → List G → List G → Type 0
HasRisen g gates back = OneZip (λ a b. Rose (g.faults a) (g.faults b)) gates back

-- each gate came back
abbrev pub CameBackFrom : {G In Out : Type 0} → gate_of.Ghosts G In Out → List G → List G → Type 0
CameBackFrom g gates back = AllZip (λ a b. IsBack (gating g a) (gating g b)) gates back

-- each gate came back, or none did
abbrev pub CameBackOrNone : {G GIn GOut H HIn HOut : Type 0} → gate_of.Ghosts G GIn GOut
    → gate_of.Ghosts H HIn HOut → List G → List H → List G → List H → Type 0
CameBackOrNone g h ides engines gs hs =
    (CameBackFrom g ides gs × CameBackFrom h engines hs) ⊎ ((gs ≡ []) × (hs ≡ []))

-- how it ends, once the tasks were gathered
abbrev pub Ended : Known → Bool → Bool → Tally → Result (Summary × List Entry) AllError → Type 0
Ended v gate_fault no_thread t (Ok done) =
    (gate_fault ≡ false) × (no_thread ≡ false) × (done.0 ≡ summary done.1 t)
    × IsPrefix v.seen done.1 × IsLegal done.1 × Counts done.1 v.made
Ended v gate_fault no_thread t (Err GateFault) = gate_fault ≡ true
Ended v gate_fault no_thread t (Err NoThread) = no_thread ≡ true
Ended v gate_fault no_thread t (Err Memory) = ⊥

-- all tasks of a kind were done
pub record KindDone {G : Type 0} (serves : Worker G → G → Type 0) (gates : List G) (number : ℕ)
    (crew : List (Worker G)) (back : List G) : Type 0 where
  pub begun : map (λ w. w.begun) crew ≡ gates
  pub links : links_in_all crew ≡ number
  pub served : AllZip serves crew back

-- all tasks were done
pub record CrewDone {G GIn GOut H HIn HOut : Type 0} (g : gate_of.Ghosts G GIn GOut)
    (h : gate_of.Ghosts H HIn HOut) (ides : List G) (engines : List H) (registrations sessions : ℕ)
    (gs : List G) (hs : List H) (s : Summary) (journal : List Entry) : Type 0 where
  pub asking : List (Worker G)
  pub serving : List (Worker H)
  pub asked : KindDone (IdesServed g journal) ides registrations asking gs
  pub served : KindDone (EnginesServed h journal) engines sessions serving hs
  pub counts : Counts journal (plus (made_in_all asking) (made_in_all serving))
  pub numbers : s ≡ summary journal (tally_in_all serving)
  pub summed : Summed registrations sessions journal s

-- by how it ended, the dialers of the workers aside
abbrev pub Crewed : {G GIn GOut H HIn HOut : Type 0} → gate_of.Ghosts G GIn GOut
    → gate_of.Ghosts H HIn HOut → List G → List H → ℕ → ℕ → Faults → List G → List H
    → Result (Summary × List Entry) AllError → Type 0
Crewed g h ides engines registrations sessions starts gs hs (Ok done) =
    CrewDone g h ides engines registrations sessions gs hs done.0 done.1
Crewed g h ides engines registrations sessions starts gs hs (Err GateFault) =
    CameBackFrom g ides gs × CameBackFrom h engines hs
    × (HasRisen g ides gs ⊎ HasRisen h engines hs)
Crewed g h ides engines registrations sessions starts gs hs (Err NoThread) =
    CameBackFrom g ides gs × CameBackFrom h engines hs × Rose starts.before starts.now
Crewed g h ides engines registrations sessions starts gs hs (Err Memory) =
    CameBackOrNone g h ides engines gs hs

-- by how it ended
abbrev pub Gated : {G GIn GOut H HIn HOut : Type 0} → gate_of.Ghosts G GIn GOut
    → gate_of.Ghosts H HIn HOut → List G → List H → ℕ → ℕ → Faults → Faults → List G → List H
    → Result (Summary × List Entry) AllError → Type 0
Gated g h ides engines registrations sessions dials starts gs hs (Ok done) =
    CrewDone g h ides engines registrations sessions gs hs done.0 done.1
Gated g h ides engines registrations sessions dials starts gs hs (Err GateFault) =
    CameBackFrom g ides gs × CameBackFrom h engines hs
    × (HasRisen g ides gs ⊎ (HasRisen h engines hs ⊎ Rose dials.before dials.now))
Gated g h ides engines registrations sessions dials starts gs hs (Err NoThread) =
    CameBackFrom g ides gs × CameBackFrom h engines hs × Rose starts.before starts.now
Gated g h ides engines registrations sessions dials starts gs hs (Err Memory) =
    CameBackOrNone g h ides engines gs hs
