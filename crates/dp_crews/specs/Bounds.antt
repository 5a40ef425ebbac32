-- What the numbers of a run come to, by the links that came back of its gates: three bounds, and
-- when a number can be above 0.
use Rattle.std.specs.Prelude.{◌≡◌, ◌⊎◌, ℕ, zero, suc, ◌+◌, ◌<◌, true, List, [], ◌∷◌, length, flat_map, Result, Ok, Err, ⊤, Option, Some, None}
use Rattle.std.specs.List.{AllZip}
use mathlib.Core.List.{IsPrefix}
use Rattle.dp_outside.specs.Causes.{Rose}
use Rattle.dp_outside.specs.Links.{Link}
use Rattle.dp_outside.specs.Reports.{grown}
use Rattle.dp_outside.specs.declared.links.Gate as gate_of
use Rattle.dp_wire.specs.Frames.{up_to_nul}
use Rattle.dp_proxy.specs.declared.calls.Call.{Call}
use Rattle.dp_proxy.specs.Calls.{call_of}
use Rattle.dp_registry.specs.declared.entry.Entry.{Entry}
use Rattle.dp_registry.specs.Verdicts.{is_crowded}
use Rattle.dp_crews.specs.declared.errors.AllError.{AllError}
use Rattle.dp_crews.specs.declared.summaries.Summary.{Summary}
use Rattle.dp_relay.specs.Engines.{ComesWith, IsBadFirst, IsKeyless}
use Rattle.dp_crews.specs.Gates.{Gating, gating}
use Rattle.dp_crews.specs.Relays.{OneOf}
use Rattle.dp_crews.specs.Twins.{IsAtRest, IsTwinGate}

-- ---- links that came back, by what they tell

-- this many of them at least
abbrev pub AtLeast : {X : Type 0} → (X → Type 0) → ℕ → List X → Type 0
AtLeast P zero xs = ⊤
AtLeast P (suc count) [] = ⊥
AtLeast P (suc count) (x ∷ xs) = (P x × AtLeast P count xs) ⊎ AtLeast P (suc count) xs

-- what holds of the bytes that the source of a link had given, where it tells them
abbrev pub OfGiven : (List ℕ → Type 0) → Option (List ℕ) → Type 0
OfGiven meets None = ⊤
OfGiven meets (Some given) = meets given

-- an engine's link: what came of it begins with a packet in which a key stands
abbrev pub IsKeyed : Link → Type 0
IsKeyed link = OfGiven (λ given. (key : List ℕ) × ComesWith given key) link.given

-- an engine's link: what came of it begins with a packet without a key; or is no whole packet, and
-- nothing is left or no packet begins it
abbrev pub IsUnfit : Link → Type 0
IsUnfit link =
    OfGiven (λ given. IsKeyless given link.left ⊎ ((offset : ℕ) × IsBadFirst given offset))
    link.given

-- the link of an IDE: its command names a call
abbrev pub NamesCall : Link → Type 0
NamesCall link = OfGiven (λ given. (call : Call) × (call_of (up_to_nul given) ≡ Some call))
    link.given

-- ---- of the gates of a run

-- the gate as it began: the one that was handed in, or a twin of it
abbrev pub Begins : Gating → Gating → Type 0
Begins handed start = IsAtRest handed start ⊎ IsTwinGate handed start

-- these links came back to the gate in the run
abbrev pub CameBack : {G In Out : Type 0} → gate_of.Ghosts G In Out → G → G → List Link → Type 0
CameBack g handed gate links =
    (start : Gating) × Begins (gating g handed) start
    × ((gating g gate).retired ≡ grown start.retired links)

-- a link that had failed came back to the gate
abbrev pub HasReturned : {G In Out : Type 0} → gate_of.Ghosts G In Out → G → G → Type 0
HasReturned g handed gate =
    (start : Gating) × Begins (gating g handed) start × Rose start.returned (g.returned gate)

-- what the numbers come to, by the links that came back to each gate
pub record Bounds {G GIn GOut H HIn HOut : Type 0} (g : gate_of.Ghosts G GIn GOut)
    (h : gate_of.Ghosts H HIn HOut) (ides : G) (engines : H) (ide_links engine_links : ℕ)
    (gs : List G) (hs : List H) (s : Summary) (journal : List Entry) : Type 0 where
  pub asking : List (List Link)
  pub serving : List (List Link)
  pub asked : AllZip (CameBack g ides) gs asking
  pub served : AllZip (CameBack h engines) hs serving
  pub registrations : length (flat_map (λ links. links) asking) ≡ ide_links
  pub sessions : length (flat_map (λ links. links) serving) ≡ engine_links
  pub accepted : AtLeast NamesCall s.accepted (flat_map (λ links. links) asking)
  pub unfit : AtLeast IsUnfit s.unfit (flat_map (λ links. links) serving)
  pub keyed : AtLeast IsKeyed (s.admitted + s.refused + s.full) (flat_map (λ links. links) serving)
  pub failed : 0 < s.failed → OneOf (HasReturned h engines) hs
  pub full : 0 < s.full → (at : List Entry) × IsPrefix at journal × (is_crowded at ≡ true)

-- where all were served
abbrev pub IsBounded : {G GIn GOut H HIn HOut : Type 0} → gate_of.Ghosts G GIn GOut
    → gate_of.Ghosts H HIn HOut → G → H → ℕ → ℕ → List G → List H
    → Result (Summary × List Entry) AllError → Type 0
IsBounded g h ides engines registrations sessions gs hs (Ok done) =
    Bounds g h ides engines registrations sessions gs hs done.0 done.1
IsBounded g h ides engines registrations sessions gs hs (Err why) = ⊤
