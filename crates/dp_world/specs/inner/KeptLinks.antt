-- What is kept of the links for the transcript, by what has come of the events.
use Rattle.std.specs.Prelude.{◌≡◌, ℕ, ◌==◌, false, List, [], ◌∷◌, ◌++◌, length, take}
use Rattle.std.specs.Prelude.{map, filter, nat_eq, Option, Some, None}
use Rattle.std.specs.Map.{lookup, keys_of}
use Rattle.dp_registry.specs.declared.entry.Entry.{Entry}
use Rattle.dp_registry.specs.declared.pass.Pass.{Pass}
use Rattle.dp_lanes.specs.declared.lane.LaneKind.TheVariants.{Up}
use Rattle.dp_proxy.specs.declared.events.Act.{Act as ProxyAct}
use Rattle.dp_proxy.specs.declared.events.Act.TheVariants as proxy
use Rattle.dp_proxy.specs.declared.events.Event.{Event as ProxyEvent}
use Rattle.dp_proxy.specs.Links.{stream}
use Rattle.dp_proxy.specs.Pasts.{Link, New, Asking, Settled, Joined, Ended, Refused, Past, lead}
use Rattle.dp_proxy.specs.Pasts as core
use Rattle.dp_proxy.specs.Invariant.{Keeps, Represents}
use Rattle.dp_events.specs.declared.event.Act.{Act}
use Rattle.dp_events.specs.declared.event.Event.{Event}
use Rattle.dp_events.specs.Lists.{Fits, makes}
use Rattle.dp_world.specs.Alone.{Engines}
use Rattle.dp_world.specs.declared.engine.Engine.{Engine}
use Rattle.dp_world.specs.declared.shown.Shown.{Shown}
use Rattle.dp_world.specs.declared.shown.Shown.TheVariants as shown
use Rattle.dp_world.specs.Engines.{act_of, past_of}
use Rattle.dp_world.specs.inner.EngineStates.{IsEngineAfter, IsReadFor}

-- ---- one link

-- an IDE of this host was sent this reply
abbrev pub IsRegistration : Link → List ℕ → List ℕ → Type 0
IsRegistration (Asking host heard) name reply = (name ≡ host) × (reply ≡ [])
IsRegistration (Settled host answer) name reply = (name ≡ host) × (reply ≡ answer)
IsRegistration link name reply = ⊥

abbrev pub IsTo : List ℕ → Pass → List ℕ → List ℕ → ℕ → Type 0
IsTo key pass name host port = (name ≡ key) × (host ≡ pass.host) × (port ≡ pass.port)

-- this engine has the session of the link
abbrev pub Has : {S E : Type 0} → Engines S E → Link → List ℕ → List ℕ → ℕ → Engine S E → Type 0
Has engines (Joined key pass acts) name host port engine =
    IsTo key pass name host port × IsEngineAfter engines key acts engine
    × IsReadFor acts engine
Has engines (Ended key pass acts) name host port engine =
    IsTo key pass name host port × IsEngineAfter engines key acts engine
Has engines link name host port engine = ⊥

abbrev pub IsShown : {S E : Type 0} → Engines S E → Link → Shown S E → Type 0
IsShown engines link (shown.Registration host reply) = IsRegistration link host reply
IsShown engines link (shown.Refused key why) = link ≡ Refused key why
IsShown engines link (shown.Session key host port engine) =
    Has engines link key host port engine

abbrev pub IsShownAt : {S E : Type 0} → Engines S E → Link → Option (Shown S E) → Type 0
IsShownAt engines link None = link ≡ New
IsShownAt engines link (Some kept) = IsShown engines link kept

-- ---- one link for which an act is brought

-- what was read of the engine is what it was asked for with the act too
pub record IsReadWith {S E : Type 0} (acts : List ProxyAct) (act : ProxyAct)
    (engine : Engine S E) : Type 0 where
  pub all : IsReadFor (acts ++ act ∷ []) engine
  pub up : stream Up (acts ++ act ∷ [])
      ≡ take (length (stream Up (acts ++ act ∷ []))) engine.sent.items

abbrev pub HasFor : {S E : Type 0} → Engines S E → Link → ProxyAct → List ℕ → List ℕ → ℕ
    → Engine S E → Type 0
HasFor engines (Joined key pass acts) act name host port engine =
    IsTo key pass name host port × IsEngineAfter engines key acts engine
    × IsReadWith acts act engine
HasFor engines (Ended key pass acts) act name host port engine =
    IsTo key pass name host port × IsEngineAfter engines key acts engine
HasFor engines link act name host port engine = ⊥

abbrev pub IsReady : {S E : Type 0} → Engines S E → Link → ProxyAct → Shown S E → Type 0
IsReady engines link act (shown.Registration host reply) = IsRegistration link host reply
IsReady engines link act (shown.Refused key why) = link ≡ Refused key why
IsReady engines link act (shown.Session key host port engine) =
    HasFor engines link act key host port engine

abbrev pub IsReadyAt : {S E : Type 0} → Engines S E → Link → ProxyAct → Option (Shown S E) → Type 0
IsReadyAt engines link act None = link ≡ New
IsReadyAt engines link act (Some kept) = IsReady engines link act kept

-- an act makes no link
abbrev pub Passes : ProxyAct → Type 0
Passes (proxy.Ide host) = ⊥
Passes (proxy.Engine key) = ⊥
Passes act = Unit {0}

-- the act leads to what that of the definitions leads to
abbrev pub LeadsAs : {S E : Type 0} → Engines S E → Link → Act → ProxyAct → Type 0
LeadsAs engines link act brought =
    (journal : List Entry) → lead journal link brought
    ≡ lead journal link (act_of engines link act)

-- ---- all links

abbrev pub kept_at : {S E : Type 0} → List (ℕ × Shown S E) → ℕ → Option (Shown S E)
kept_at links number = lookup (nat_eq number) links

-- these are the same links, and but for this one as they were
pub record KeepsOthers {S E : Type 0} (links after : List (ℕ × Shown S E)) (number : ℕ)
    : Type 0 where
  pub keys : keys_of after ≡ keys_of links
  pub others : (other : ℕ) → (number == other) ≡ false → kept_at after other ≡ kept_at links other

-- the links that these events make, in their order
abbrev pub made : List Event → List ℕ
made events = map (λ e. e.link) (filter (λ e. makes e.act) events)

abbrev pub AreShown : {S E : Type 0} → Engines S E → Past → List (ℕ × Shown S E) → Type 0
AreShown engines past links =
    (number : ℕ) → IsShownAt engines (past.link number) (kept_at links number)

-- a proxy and its links, after these events
pub record IsWorldAfter {S E : Type 0} (engines : Engines S E) (events : List Event) (keeps : Keeps)
    (links : List (ℕ × Shown S E)) : Type 0 where
  pub came : List ProxyEvent
  pub represents : Represents keeps came
  pub past : core.past_of came ≡ past_of engines events
  pub keys : keys_of links ≡ made events
  pub each : AreShown engines (past_of engines events) links

-- one more event fits those that came
pub record MayTake {S E : Type 0} (engines : Engines S E) (keeps : Keeps)
    (links : List (ℕ × Shown S E)) (event : Event) : Type 0 where
  pub events : List Event
  pub world : IsWorldAfter engines events keeps links
  pub fits : Fits events event
