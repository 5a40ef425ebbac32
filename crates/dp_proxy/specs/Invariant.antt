-- How what a proxy keeps stands for the events that came. A reader of a step's contract takes
-- `Represents` for a name that `new` gives and `step` carries on; what it says is for the proofs.
use Rattle.std.specs.Prelude.{◌≡◌, ℕ, Bool, true, false, List, Option, Some, None, Result, Err, nat_eq}
use Rattle.std.specs.Prelude.{Contains}
use Rattle.std.specs.Map.{lookup}
use Rattle.dp_registry.specs.declared.entry.Entry.{Entry}
use Rattle.dp_registry.specs.declared.pass.Pass.{Pass}
use Rattle.dp_registry.specs.Journal.{live}
use Rattle.dp_outside.specs.Names.{IsHost}
use Rattle.dp_wire.specs.Frames.{has_no_nul}
use Rattle.dp_proxy.specs.declared.errors.ProxyError.{ProxyError}
use Rattle.dp_proxy.specs.declared.errors.ProxyError.TheVariants.{Memory}
use Rattle.dp_proxy.specs.declared.events.Act.{Act}
use Rattle.dp_proxy.specs.declared.events.Effect.{Effect}
use Rattle.dp_proxy.specs.declared.events.Event.{Event}
use Rattle.dp_lanes.specs.declared.lane.Lane.{Lane}
use Rattle.dp_lanes.specs.declared.lane.LaneKind.TheVariants.{Up, Down}
use Rattle.dp_proxy.specs.declared.kept.Kept.{Kept}
use Rattle.dp_proxy.specs.declared.kept.Kept.TheVariants as kept
use Rattle.dp_proxy.specs.Links.{stream}
use Rattle.dp_proxy.specs.Pasts.{Link, New, Asking, Settled, Joined, Ended, Refused, past_of}
use Rattle.dp_lanes.specs.Places.{Follows}
use Rattle.dp_proxy.specs.Steps.{counted}

-- the registry's journal, what is kept of each link that was made, and whether memory has run out:
-- then each event is answered so
pub record Keeps : Type 0 where
  pub journal : List Entry
  pub links : List (ℕ × Kept)
  pub failed : Bool

abbrev pub kept_at : List (ℕ × Kept) → ℕ → Option Kept
kept_at links number = lookup (nat_eq number) links

pub record IsCarried (link : Link) (pass : Pass) (up down : Lane) : Type 0 where
  pub key : List ℕ
  pub acts : List Act
  pub is : link ≡ Joined key pass acts
  pub packets : Follows Up up (stream Up acts)
  pub commands : Follows Down down (stream Down acts)

abbrev pub IsOver : Link → Type 0
IsOver (Settled host reply) = Unit {0}
IsOver (Ended key pass acts) = Unit {0}
IsOver (Refused key why) = Unit {0}
IsOver link = ⊥

abbrev pub IsKept : Option Kept → Link → Type 0
IsKept None link = link ≡ New
IsKept (Some (kept.Asking host heard)) link =
    (link ≡ Asking host heard.items) × (has_no_nul heard.items ≡ true)
IsKept (Some (kept.Joined pass up down)) link = IsCarried link pass up down
IsKept (Some kept.Over) link = IsOver link

pub record Represents (keeps : Keeps) (events : List Event) : Type 0 where
  pub journal : keeps.journal ≡ (past_of events).journal
  pub links : (number : ℕ) → IsKept (kept_at keeps.links number) ((past_of events).link number)

-- it goes on standing, unless memory ran out: a proxy has then failed for good
abbrev pub RepresentsAfter : Keeps → List Event → Event → Result Effect ProxyError → Type 0
RepresentsAfter keeps events event (Err Memory) = Unit {0}
RepresentsAfter keeps events event answer = Represents keeps (counted events event answer)

-- a step answers that it is out of memory
abbrev pub is_memory : Result Effect ProxyError → Bool
is_memory (Err Memory) = true
is_memory answer = false

-- ---- sound without a look at the events

-- the session that is kept of a link
abbrev pub session_in : Option Kept → Option ℕ
session_in (Some (kept.Joined pass up down)) = Some pass.session
session_in other = None

-- an IDE that asks has a host, and a session that is kept is live
abbrev pub IsSound : List Entry → Option Kept → Type 0
IsSound journal (Some (kept.Asking host heard)) = IsHost host
IsSound journal (Some (kept.Joined pass up down)) = Contains (live journal) pass.session
IsSound journal other = Unit {0}

-- all that is kept is sound, and no two links have one session
pub record AreSound (keeps : Keeps) : Type 0 where
  pub each : (number : ℕ) → IsSound keeps.journal (kept_at keeps.links number)
  pub apart : (number other session : ℕ) → session_in (kept_at keeps.links number) ≡ Some session
      → session_in (kept_at keeps.links other) ≡ Some session → number ≡ other
