-- The beginning of an engine's session: its first packet, and the lanes that are started.
use Rattle.std.specs.Prelude.{◌≡◌, ⊤, ℕ, Bool, true, List, [], ◌∷◌, Option, None, Some, Result, Ok, Err}
use Rattle.dp_outside.specs.Reports.{grown}
use Rattle.dp_wire.specs.Frames.{BeginsPacket, IsPartialPacket}
use Rattle.dp_lanes.specs.declared.lane.Lane.{Lane}
use Rattle.dp_lanes.specs.declared.lane.LaneKind.TheVariants.{Up, Down}
use Rattle.dp_lanes.specs.Places.{kind_of, received_in}
use Rattle.dp_proxy.specs.Inits.{GivesKey}
use Rattle.dp_relay.specs.declared.ends.RelayEnd.{RelayEnd}
use Rattle.dp_relay.specs.declared.ends.RelayEnd.TheVariants.{Joined, BadInit, NoSession, DialFault}
use Rattle.dp_relay.specs.declared.ends.RelayEnd.TheVariants.{NoThread, ReadFault, BadFrame, Memory}
use Rattle.dp_relay.specs.declared.ends.LaneEnd.{LaneEnd}
use Rattle.dp_relay.specs.declared.ends.LaneEnd.TheVariants as lane_end
use Rattle.dp_registry.specs.declared.pass.Pass.{Pass}
use Rattle.dp_registry.specs.declared.refusal.Refusal.{Refusal}
use Rattle.dp_registry.specs.declared.refusal.Refusal.TheVariants as refusal
use Rattle.dp_relay.specs.Ends.{Ends, Gives, Failed, IsFresh, crossed, link_of}
use Rattle.dp_relay.specs.Engines.{ComesWith, IsKeyless, IsBadFirst, Standing, Dialed, NoStart}
use Rattle.dp_relay.specs.LaneRuns.{LaneRan}

-- a lane of packets that has dropped nothing
abbrev pub IsUndropped : Lane → Type 0
IsUndropped lane = (kind_of lane ≡ Up) × ((received_in lane).dropped ≡ 0)

-- ---- the key in the first packet

-- what is held begins with a packet in which no key stands
abbrev pub HasNoKey : List ℕ → Type 0
HasNoKey held =
    (text rest : List ℕ) × BeginsPacket held text rest × ((key : List ℕ) → GivesKey text key → ⊥)

-- the answer to what is held
abbrev pub Fronts : List ℕ → Result (Option (List ℕ)) RelayEnd → Type 0
Fronts held (Ok (Some key)) = ComesWith held key
Fronts held (Ok None) = IsPartialPacket held
Fronts held (Err BadInit) = HasNoKey held
Fronts held (Err (BadFrame offset)) = IsBadFirst held offset
Fronts held (Err Memory) = ⊤
Fronts held (Err (Joined number up down)) = ⊥
Fronts held (Err (NoSession why)) = ⊥
Fronts held (Err DialFault) = ⊥
Fronts held (Err NoThread) = ⊥
Fronts held (Err ReadFault) = ⊥

-- the answer to what was read: where it is a key, the lane holds all of that
abbrev pub Opens : Lane → List ℕ → Option (List ℕ) → ℕ → ℕ → Result (List ℕ) RelayEnd → Type 0
Opens lane read rest a b (Ok key) =
    IsUndropped lane × ((received_in lane).held ≡ read) × ComesWith read key × (b ≡ a)
Opens lane read rest a b (Err BadInit) = IsKeyless read rest × (b ≡ a)
Opens lane read rest a b (Err ReadFault) = IsPartialPacket read × Failed a b
Opens lane read rest a b (Err (BadFrame offset)) = IsBadFirst read offset × (b ≡ a)
Opens lane read rest a b (Err Memory) = b ≡ a
Opens lane read rest a b (Err (Joined number up down)) = ⊥
Opens lane read rest a b (Err (NoSession why)) = ⊥
Opens lane read rest a b (Err DialFault) = ⊥
Opens lane read rest a b (Err NoThread) = ⊥

pub record Opened (lane : Lane) (ahead rest before after : Option (List ℕ)) (a b : ℕ)
    (result : Result (List ℕ) RelayEnd) : Type 0 where
  pub read : List ℕ
  pub gives : Gives ahead rest before after read
  pub opens : Opens lane read rest a b result

-- how a service ends whose reading failed; no reading ends otherwise than by a fault or
-- out of memory
abbrev pub end_of_reading : LaneEnd → RelayEnd
end_of_reading lane_end.End = Memory
end_of_reading lane_end.ReadFault = ReadFault
end_of_reading lane_end.WriteFault = Memory
end_of_reading (lane_end.BadFrame offset) = Memory
end_of_reading lane_end.Memory = Memory

-- how a service ends whose admission is refused
abbrev pub end_of_refusal : Refusal → RelayEnd
end_of_refusal refusal.Memory = Memory
end_of_refusal (refusal.Taken host port) = NoSession (refusal.Taken host port)
end_of_refusal refusal.Unknown = NoSession refusal.Unknown
end_of_refusal refusal.NotYours = NoSession refusal.NotYours
end_of_refusal (refusal.Busy session) = NoSession (refusal.Busy session)
end_of_refusal (refusal.Full events live) = NoSession (refusal.Full events live)

-- ---- the two lanes, or none where no thread was started

pub record BothRan (held : List ℕ) (x y i j : Ends) (starts now : Option (List Bool)) (a b : ℕ)
    (up down : LaneEnd) : Type 0 where
  pub start : now ≡ grown starts (true ∷ [])
  pub granted : b ≡ a
  pub packets : LaneRan Up held (crossed x i) (crossed y j) up
  pub commands : LaneRan Down [] (crossed i x) (crossed j y) down

pub record NoneRan (x y i j : Ends) (starts now : Option (List Bool)) (a b : ℕ) : Type 0 where
  pub start : (granted : Bool) × (now ≡ grown starts (granted ∷ []))
  pub failed : Failed a b
  pub engine : y ≡ x
  pub ide : j ≡ i

-- from the links of the engine and the IDE as they were to how they are
abbrev pub LanesRan : List ℕ → ℕ → Ends → Ends → Ends → Ends → Option (List Bool)
    → Option (List Bool) → ℕ → ℕ → RelayEnd → Type 0
LanesRan held session x y i j starts now a b (Joined number up down) =
    (number ≡ session) × BothRan held x y i j starts now a b up down
LanesRan held session x y i j starts now a b NoThread = NoneRan x y i j starts now a b
LanesRan held session x y i j starts now a b BadInit = ⊥
LanesRan held session x y i j starts now a b ReadFault = ⊥
LanesRan held session x y i j starts now a b (BadFrame offset) = ⊥
LanesRan held session x y i j starts now a b Memory = ⊥
LanesRan held session x y i j starts now a b (NoSession why) = ⊥
LanesRan held session x y i j starts now a b DialFault = ⊥

-- ---- the IDE is dialed, and the lanes run

pub record Undialed (x y : Standing) (pass : Pass) (ide : Option Ends) : Type 0 where
  pub engine : y.engine ≡ x.engine
  pub dialed : Dialed x y pass None
  pub failed : Failed x.dial_faults y.dial_faults
  pub no_start : NoStart x y
  pub no_link : ide ≡ None

pub record Unrun (x y : Standing) (pass : Pass) (ide : Option Ends) : Type 0 where
  pub link : Ends
  pub fresh : IsFresh link
  pub dialed : Dialed x y pass (Some (link_of link))
  pub untouched : ide ≡ Some link
  pub engine : y.engine ≡ x.engine
  pub start : (granted : Bool) × (y.starts ≡ grown x.starts (granted ∷ []))
  pub failed : Failed x.start_faults y.start_faults

pub record Run (held : List ℕ) (x y : Standing) (pass : Pass) (ide : Option Ends)
    (up down : LaneEnd) : Type 0 where
  pub before : Ends
  pub after : Ends
  pub fresh : IsFresh before
  pub dialed : Dialed x y pass (Some (link_of before))
  pub link : ide ≡ Some after
  pub ran : BothRan held x.engine y.engine before after x.starts y.starts x.start_faults
      y.start_faults up down

abbrev pub JoinEnds : List ℕ → Standing → Standing → Pass → Option Ends → RelayEnd → Type 0
JoinEnds held x y pass ide (Joined number up down) =
    (number ≡ pass.session) × Run held x y pass ide up down
JoinEnds held x y pass ide NoThread = Unrun x y pass ide
JoinEnds held x y pass ide DialFault = Undialed x y pass ide
JoinEnds held x y pass ide BadInit = ⊥
JoinEnds held x y pass ide ReadFault = ⊥
JoinEnds held x y pass ide (BadFrame offset) = ⊥
JoinEnds held x y pass ide Memory = ⊥
JoinEnds held x y pass ide (NoSession why) = ⊥
