-- What serving so many IDEs and engines leaves.
use Rattle.std.specs.Prelude.{◌≡◌, ◌⊎◌, ℕ, ◌+◌, ◌≤◌, min, List, [], ◌∷◌, ◌++◌, length, map, Result, Ok, Err, ⊤}
use Rattle.std.specs.List.{AllZip}
use mathlib.Core.List.{IsPrefix}
use Rattle.dp_outside.specs.Causes.{Rose}
use Rattle.dp_outside.specs.declared.links.Dialer as dialer_of
use Rattle.dp_outside.specs.declared.links.Gate as gate_of
use Rattle.dp_desk.specs.Desks.{Known}
use Rattle.dp_desk.specs.Made.{Made, Counts, made, plus}
use Rattle.dp_registry.specs.declared.entry.Entry.{Entry}
use Rattle.dp_crews.specs.declared.errors.AllError.{AllError}
use Rattle.dp_crews.specs.declared.errors.AllError.TheVariants.{GateFault, NoThread, Memory}
use Rattle.dp_crews.specs.declared.summaries.Summary.{Summary}
use Rattle.dp_crews.specs.declared.tallies.Tally.{Tally}
use Rattle.dp_relay.specs.Ends.{Ends}
use Rattle.dp_crews.specs.Gates.{Gating, Missed, Steps, Visited, gating}
use Rattle.dp_crews.specs.Summaries.{Summed, summary}
use Rattle.dp_crews.specs.Tallies.{tally}
use Rattle.dp_crews.specs.Twins.{Each, IsAtRest, IsTwinGate, Twins}
use Rattle.dp_crews.specs.Workers.{Means, ServedEngine, ServedIde, engine_post, post}

-- ---- the gates, however it ends

-- one of these
abbrev pub OneOf : {X : Type 0} → (X → Type 0) → List X → Type 0
OneOf P [] = ⊥
OneOf P (x ∷ xs) = P x ⊎ OneOf P xs

-- the gate was asked for a link: it gave one, which came back, or it failed
abbrev pub Asked : Gating → Gating → Type 0
Asked a b = ((before : Ends) × (after : Ends) × Visited a b before after) ⊎ Missed a b

-- each link that the gate gave came back to it
abbrev pub IsBack : Gating → Gating → Type 0
IsBack a b = (times : ℕ) × Steps Asked times a b

-- a twin of this gate, after its links came back
abbrev pub IsTwinBack : Gating → Gating → Type 0
IsTwinBack handed gate = (start : Gating) × IsTwinGate handed start × IsBack start gate

-- the gate itself, after its links came back
abbrev pub IsItselfBack : Gating → Gating → Type 0
IsItselfBack handed gate = (start : Gating) × IsAtRest handed start × IsBack start gate

-- the gate that was handed in came back, last, and its twins
pub record AllBack {G In Out : Type 0} (g : gate_of.Ghosts G In Out) (handed : G) (gates : List G)
    : Type 0 where
  pub twins : List G
  pub last : G
  pub are : gates ≡ twins ++ last ∷ []
  pub each : Each (λ twin. IsTwinBack (gating g handed) (gating g twin)) twins
  pub own : IsItselfBack (gating g handed) (gating g last)

-- the count of one of the gates rose; a twin's began with 0
abbrev pub HasFailed : {G In Out : Type 0} (g : gate_of.Ghosts G In Out) (handed : G)
    (gates : List G)
    → AllBack g handed gates → Type 0
HasFailed g handed gates back =
    OneOf (λ twin. Rose 0 (g.faults twin)) back.twins ⊎ Rose (g.faults handed) (g.faults back.last)

-- ---- the workers, where all was served

-- a worker: its gate before its first link, how many links it serves, what its clerk knew before
-- and after, and how it counted
pub record Worker (G : Type 0) : Type 0 where
  pub begun : G
  pub count : ℕ
  pub before : Known
  pub after : Known
  pub tally : Tally

-- a clerk begins with nothing made or held; what it has seen at last begins the journal
pub record IsClerkOf (journal : List Entry) (before after : Known) : Type 0 where
  pub made : before.made ≡ made 0 0 0
  pub held : before.held ≡ []
  pub seen : IsPrefix after.seen journal

-- the worker served its part of the IDEs
pub record IdesServed {G In Out : Type 0} (g : gate_of.Ghosts G In Out) (journal : List Entry)
    (w : Worker G) (gate : G) : Type 0 where
  pub clerk : IsClerkOf journal w.before w.after
  pub tally : w.tally ≡ tally 0 0 0 0
  pub served : Steps ServedIde w.count (post w.before (gating g w.begun))
      (post w.after (gating g gate))

-- the worker served its part of the engines
pub record EnginesServed {H In Out : Type 0} (h : gate_of.Ghosts H In Out) (journal : List Entry)
    (w : Worker H) (gate : H) : Type 0 where
  pub clerk : IsClerkOf journal w.before w.after
  pub first : Means
  pub last : Means
  pub served : Steps ServedEngine w.count
      (engine_post w.before (gating h w.begun) first (tally 0 0 0 0))
      (engine_post w.after (gating h gate) last w.tally)

-- what the clerks made in all
abbrev pub made_in_all : {G : Type 0} → List (Worker G) → Made
made_in_all [] = made 0 0 0
made_in_all (w ∷ ws) = plus w.after.made (made_in_all ws)

-- two tallies in one
abbrev pub plus_tally : Tally → Tally → Tally
plus_tally t u =
    tally (t.full + u.full) (t.unfit + u.unfit) (t.failed + u.failed) (t.starved + u.starved)

-- what the workers counted in all
abbrev pub tally_in_all : {G : Type 0} → List (Worker G) → Tally
tally_in_all [] = tally 0 0 0 0
tally_in_all (w ∷ ws) = plus_tally w.tally (tally_in_all ws)

-- how many links the workers served in all
abbrev pub links_in_all : {G : Type 0} → List (Worker G) → ℕ
links_in_all [] = 0
links_in_all (w ∷ ws) = w.count + links_in_all ws

-- so many links were shared out among so many workers, whose gates are the one that was handed in
-- and twins of it; each served its part, and these are the gates now
pub record AllWorked {G In Out : Type 0} (g : gate_of.Ghosts G In Out) (handed : G)
    (serves : Worker G → G → Type 0) (number most : ℕ) (crew : List (Worker G)) (gates : List G)
    : Type 0 where
  pub begun : Twins g handed (map (λ w. w.begun) crew)
  pub workers : length gates ≡ min number most
  pub links : links_in_all crew ≡ number
  pub served : AllZip serves crew gates

-- all were served: the journal has what the workers' clerks made and no other entry, and the
-- numbers are those of the journal and of the workers' tallies
pub record AllDone {G GIn GOut H HIn HOut : Type 0} (g : gate_of.Ghosts G GIn GOut)
    (h : gate_of.Ghosts H HIn HOut) (ides : G) (engines : H) (registrations sessions : ℕ)
    (gs : List G) (hs : List H) (s : Summary) (journal : List Entry) : Type 0 where
  pub asking : List (Worker G)
  pub serving : List (Worker H)
  pub asked : AllWorked g ides (IdesServed g journal) registrations 8 asking gs
  pub served : AllWorked h engines (EnginesServed h journal) sessions 64 serving hs
  pub counts : Counts journal (plus (made_in_all asking) (made_in_all serving))
  pub numbers : s ≡ summary journal (tally_in_all serving)
  pub summed : Summed registrations sessions journal s

-- ---- how it ends

-- how often a dialer or a spawner had failed before, and has failed now
pub record Faults : Type 0 where
  pub before : ℕ
  pub now : ℕ

abbrev pub faults : ℕ → ℕ → Faults
faults before now = record { before = before; now = now }

-- a gate failed, or the dialer
abbrev pub GateFailed : {G GIn GOut H HIn HOut : Type 0} (g : gate_of.Ghosts G GIn GOut)
    (h : gate_of.Ghosts H HIn HOut) (ides : G) (engines : H) → Faults → (gs : List G) (hs : List H)
    → Type 0
GateFailed g h ides engines dials gs hs =
    (back : AllBack g ides gs) × (doors : AllBack h engines hs)
    × (HasFailed g ides gs back ⊎ (HasFailed h engines hs doors ⊎ Rose dials.before dials.now))

-- by how it ended; once memory ran out gates may be missing
abbrev pub Came : {G GIn GOut H HIn HOut : Type 0} → gate_of.Ghosts G GIn GOut
    → gate_of.Ghosts H HIn HOut → G → H → ℕ → ℕ → Faults → Faults → List G → List H
    → Result (Summary × List Entry) AllError → Type 0
Came g h ides engines registrations sessions dials starts gs hs (Ok done) =
    AllDone g h ides engines registrations sessions gs hs done.0 done.1
Came g h ides engines registrations sessions dials starts gs hs (Err GateFault) =
    GateFailed g h ides engines dials gs hs
Came g h ides engines registrations sessions dials starts gs hs (Err NoThread) =
    AllBack g ides gs × AllBack h engines hs × Rose starts.before starts.now
Came g h ides engines registrations sessions dials starts gs hs (Err Memory) = ⊤

-- a gate of the same port as the one that was handed in
abbrev pub IsSamePort : {G In Out : Type 0} → gate_of.Ghosts G In Out → G → G → Type 0
IsSamePort g handed gate = g.port gate ≡ g.port handed

-- the dialer took no link back and was asked for none; its twins were. Where it can open gates, it
-- opened none and shut none.
pub record IsUndialed {D In Out : Type 0} (d : dialer_of.Ghosts D In Out) (a b : D) : Type 0 where
  pub later : d.faults a ≤ d.faults b
  pub returned : d.returned b ≡ d.returned a
  pub dials : d.dials b ≡ d.dials a
  pub retired : d.retired b ≡ d.retired a
  pub requested : d.asked_gates b ≡ d.asked_gates a
  pub shut : d.shut_doors b ≡ d.shut_doors a

-- the gates that are handed back, and how it ended
pub record AllServed {G GIn GOut H HIn HOut : Type 0} (g : gate_of.Ghosts G GIn GOut)
    (h : gate_of.Ghosts H HIn HOut) (ides : G) (engines : H) (registrations sessions : ℕ)
    (dials starts : Faults) (gs : List G) (hs : List H)
    (result : Result (Summary × List Entry) AllError) : Type 0 where
  pub ports : Each (IsSamePort g ides) gs × Each (IsSamePort h engines) hs
  pub came : Came g h ides engines registrations sessions dials starts gs hs result
  pub starts_later : starts.before ≤ starts.now
