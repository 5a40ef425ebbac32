-- What the service of an engine leaves, by how it ended.
use Rattle.std.specs.Prelude.{◌≡◌, ◌≢◌, ◌⊎◌, ⊤, ℕ, ◌≤◌, Bool, true, List, [], ◌∷◌, Option, None, Some}
use Rattle.std.specs.Prelude.{Ok, Err}
use Rattle.std.specs.Io.KnownBytes.{IsAtEnd}
use Rattle.dp_outside.specs.Links.{Dial, Link}
use Rattle.dp_outside.specs.Reports.{grown}
use Rattle.dp_wire.specs.Frames.{BeginsPacket, IsPartialPacket, BeginsNoPacket}
use Rattle.dp_lanes.specs.declared.lane.LaneKind.TheVariants.{Up, Down}
use Rattle.dp_lanes.specs.Places.{IsBadIn}
use Rattle.dp_registry.specs.declared.entry.Entry.TheVariants.{Admit}
use Rattle.dp_registry.specs.declared.pass.Pass.{Pass}
use Rattle.dp_registry.specs.declared.refusal.Refusal.{Refusal}
use Rattle.dp_registry.specs.declared.refusal.Refusal.TheVariants as refusal
use Rattle.dp_registry.specs.Verdicts.{admit_verdict, admit_reply_of}
use Rattle.dp_desk.specs.Desks.{Known, Called, Dismissed}
use Rattle.dp_proxy.specs.Inits.{GivesKey}
use Rattle.dp_relay.specs.declared.ends.RelayEnd.{RelayEnd}
use Rattle.dp_relay.specs.declared.ends.RelayEnd.TheVariants.{Joined, BadInit, NoSession, DialFault}
use Rattle.dp_relay.specs.declared.ends.RelayEnd.TheVariants.{NoThread, ReadFault, BadFrame, Memory}
use Rattle.dp_relay.specs.declared.ends.LaneEnd.{LaneEnd}
use Rattle.dp_relay.specs.Ends.{Ends, Gave, Failed, SourceHeld, SinkHeld, SourceFailed, IsFresh, crossed, link_of}
use Rattle.dp_relay.specs.LaneRuns.{LaneRan}

-- How what a service is lent stands: the engine's link, and of the dialer and the spawner what they
-- tell and how often they have failed.
pub record Standing : Type 0 where
  pub engine : Ends
  pub dials : Option (List Dial)
  pub dial_faults : ℕ
  pub starts : Option (List Bool)
  pub start_faults : ℕ

abbrev pub standing : Ends → Option (List Dial) → ℕ → Option (List Bool) → ℕ → Standing
standing engine dials dial_faults starts start_faults =
    record {
      engine = engine;
      dials = dials;
      dial_faults = dial_faults;
      starts = starts;
      start_faults = start_faults;
    }

-- ---- the engine's first packet

-- the bytes begin with a packet in which this key stands
pub record ComesWith (bytes key : List ℕ) : Type 0 where
  pub text : List ℕ
  pub rest : List ℕ
  pub begins : BeginsPacket bytes text rest
  pub gives : GivesKey text key

-- the bytes begin with a packet without a key; or they are no whole packet, and nothing is left
abbrev pub IsKeyless : List ℕ → Option (List ℕ) → Type 0
IsKeyless bytes left =
    ((text rest : List ℕ) × BeginsPacket bytes text rest × ((key : List ℕ) → GivesKey text key → ⊥))
    ⊎ (IsPartialPacket bytes × IsAtEnd left)

-- no packet begins the bytes, however they go on, and this is where they are bad
abbrev pub IsBadFirst : List ℕ → ℕ → Type 0
IsBadFirst bytes offset = BeginsNoPacket bytes × IsBadIn Up bytes offset

-- ---- parts of a service, from how all stood before it to how it stands after it

-- these bytes were read of the engine, and nothing was written to it
pub record Heard (x y : Standing) (read : List ℕ) : Type 0 where
  pub gave : Gave x.engine y.engine read
  pub silent : y.engine.taken ≡ x.engine.taken
  pub held : SinkHeld x.engine y.engine

pub record NoDial (x y : Standing) : Type 0 where
  pub dials : y.dials ≡ x.dials
  pub faults : y.dial_faults ≡ x.dial_faults

pub record NoStart (x y : Standing) : Type 0 where
  pub starts : y.starts ≡ x.starts
  pub faults : y.start_faults ≡ x.start_faults

-- one dial, of the IDE of the pass, which made this link or none
pub record Dialed (x y : Standing) (pass : Pass) (link : Option Link) : Type 0 where
  pub dials : y.dials
      ≡ grown x.dials (record { host = pass.host; port = pass.port; made = link } ∷ [])
  pub later : x.dial_faults ≤ y.dial_faults

-- the clerk was given a session under the key, and dismissed it
pub record HadSession (v w : Known) (key : List ℕ) (pass : Pass) : Type 0 where
  pub between : Known
  pub admitted : Called v between (λ journal. admit_verdict journal key) (λ reply. Admit key reply)
      admit_reply_of (Ok pass)
  pub dismissed : Dismissed between w pass.session
  pub held : w.held ≡ v.held

-- ---- the ends of a service; the link is that to the IDE, if one is handed back

-- before the desk was asked
pub record Unasked (v w : Known) (x y : Standing) (ide : Option Ends)
    (meets : List ℕ → Type 0) : Type 0 where
  pub read : List ℕ
  pub heard : Heard x y read
  pub cause : meets read
  pub clerk : w ≡ v
  pub no_dial : NoDial x y
  pub no_start : NoStart x y
  pub no_link : ide ≡ None

-- the desk was asked, and refused
pub record Refused (v w : Known) (x y : Standing) (ide : Option Ends) (why : Refusal) : Type 0 where
  pub read : List ℕ
  pub key : List ℕ
  pub heard : Heard x y read
  pub source : SourceHeld x.engine y.engine
  pub comes : ComesWith read key
  pub called : Called v w (λ journal. admit_verdict journal key)
      (λ reply. Admit key reply) admit_reply_of (Err why)
  pub no_dial : NoDial x y
  pub no_start : NoStart x y
  pub no_link : ide ≡ None

-- the IDE was not reached
pub record Unreached (v w : Known) (x y : Standing) (ide : Option Ends) : Type 0 where
  pub read : List ℕ
  pub key : List ℕ
  pub pass : Pass
  pub heard : Heard x y read
  pub source : SourceHeld x.engine y.engine
  pub comes : ComesWith read key
  pub session : HadSession v w key pass
  pub dialed : Dialed x y pass None
  pub failed : Failed x.dial_faults y.dial_faults
  pub no_start : NoStart x y
  pub no_link : ide ≡ None

-- no thread was started: the link is handed back as it was made
pub record Unstarted (v w : Known) (x y : Standing) (ide : Option Ends) : Type 0 where
  pub read : List ℕ
  pub key : List ℕ
  pub pass : Pass
  pub link : Ends
  pub heard : Heard x y read
  pub source : SourceHeld x.engine y.engine
  pub comes : ComesWith read key
  pub session : HadSession v w key pass
  pub fresh : IsFresh link
  pub dialed : Dialed x y pass (Some (link_of link))
  pub start : (granted : Bool) × (y.starts ≡ grown x.starts (granted ∷ []))
  pub failed : Failed x.start_faults y.start_faults
  pub untouched : ide ≡ Some link

-- Both lanes ran, each from all that its source gave: the first frame up is the engine's first
-- packet.
pub record Relayed (v w : Known) (x y : Standing) (ide : Option Ends) (number : ℕ)
    (up down : LaneEnd) : Type 0 where
  pub key : List ℕ
  pub pass : Pass
  pub before : Ends
  pub after : Ends
  pub numbered : number ≡ pass.session
  pub session : HadSession v w key pass
  pub fresh : IsFresh before
  pub dialed : Dialed x y pass (Some (link_of before))
  pub starts : y.starts ≡ grown x.starts (true ∷ [])
  pub granted : y.start_faults ≡ x.start_faults
  pub link : ide ≡ Some after
  pub packets : LaneRan Up [] (crossed x.engine before) (crossed y.engine after) up
  pub commands : LaneRan Down [] (crossed before x.engine) (crossed after y.engine) down
  pub comes : ComesWith packets.read key

abbrev pub EngineServed : Known → Known → Standing → Standing → Option Ends → RelayEnd → Type 0
EngineServed v w x y ide BadInit =
    Unasked v w x y ide (λ read. IsKeyless read y.engine.left) × SourceHeld x.engine y.engine
EngineServed v w x y ide ReadFault =
    Unasked v w x y ide IsPartialPacket × SourceFailed x.engine y.engine
EngineServed v w x y ide (BadFrame offset) =
    Unasked v w x y ide (λ read. IsBadFirst read offset) × SourceHeld x.engine y.engine
EngineServed v w x y ide Memory =
    (Unasked v w x y ide (λ read. ⊤) × SourceHeld x.engine y.engine)
    ⊎ Refused v w x y ide refusal.Memory
EngineServed v w x y ide (NoSession why) = Refused v w x y ide why × (why ≢ refusal.Memory)
EngineServed v w x y ide DialFault = Unreached v w x y ide
EngineServed v w x y ide NoThread = Unstarted v w x y ide
EngineServed v w x y ide (Joined number up down) = Relayed v w x y ide number up down
