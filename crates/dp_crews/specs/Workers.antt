-- What the workers of the running proxy do: each serves links of its gate, one after another.
use Rattle.std.specs.Prelude.{◌≡◌, ℕ, ◌+◌, ◌≤◌, Bool, List, [], ◌∷◌, Option, Some, None, Result}
use Rattle.dp_outside.specs.Links.{CountsReturned, Dial, Link}
use Rattle.dp_outside.specs.Reports.{grown}
use Rattle.dp_outside.specs.declared.jobs.Spawner as spawner_of
use Rattle.dp_outside.specs.declared.links.Dialer as dialer_of
use Rattle.dp_packet.specs.declared.packet.ProxyReply.{ProxyReply}
use Rattle.dp_desk.specs.Desks.{Known}
use Rattle.dp_relay.specs.declared.ends.RelayEnd.{RelayEnd}
use Rattle.dp_relay.specs.declared.errors.RelayError.{RelayError}
use Rattle.dp_crews.specs.declared.tallies.Tally.{Tally}
use Rattle.dp_relay.specs.Ends.{Ends, link_of}
use Rattle.dp_relay.specs.Engines.{EngineServed, Standing, standing}
use Rattle.dp_crews.specs.Gates.{Gating, Visited, Missed}
use Rattle.dp_relay.specs.Registrations.{Registered}
use Rattle.dp_crews.specs.Tallies.{counted, tallied}

-- ---- IDEs

-- a clerk, and the gate at which it serves
pub record Post : Type 0 where
  pub clerk : Known
  pub gate : Gating

abbrev pub post : Known → Gating → Post
post clerk gate = record { clerk = clerk; gate = gate }

-- one IDE came, asked and went
pub record ServedIde (x y : Post) : Type 0 where
  pub host : List ℕ
  pub before : Ends
  pub after : Ends
  pub result : Result ProxyReply RelayError
  pub visited : Visited x.gate y.gate before after
  pub registered : Registered x.clerk y.clerk host before after result

-- no link came
pub record NoIde (x y : Post) : Type 0 where
  pub clerk : y.clerk ≡ x.clerk
  pub missed : Missed x.gate y.gate

-- ---- engines

-- what a dialer and a spawner tell, and how often they failed
pub record Means : Type 0 where
  pub dials : Option (List Dial)
  pub dial_faults : ℕ
  pub returned : ℕ
  pub retired : Option (List Link)
  pub starts : Option (List Bool)
  pub start_faults : ℕ

abbrev pub means : {D In Out P Rt : Type 0} → dialer_of.Ghosts D In Out → spawner_of.Ghosts P Rt
    → D → P → Means
means d p dialer spawner =
    record {
      dials = d.dials dialer;
      dial_faults = d.faults dialer;
      returned = d.returned dialer;
      retired = d.retired dialer;
      starts = p.starts spawner;
      start_faults = p.faults spawner;
    }

-- a clerk, the gate at which it serves, what it dials and starts with, and its tally
pub record EnginePost : Type 0 where
  pub clerk : Known
  pub gate : Gating
  pub means : Means
  pub tally : Tally

abbrev pub engine_post : Known → Gating → Means → Tally → EnginePost
engine_post clerk gate means tally =
    record { clerk = clerk; gate = gate; means = means; tally = tally }

-- the link of an engine, with the means of its service
abbrev pub with_link : Means → Ends → Standing
with_link m engine = standing engine m.dials m.dial_faults m.starts m.start_faults

-- the link to an IDE, where there is one, went back to the dialer
abbrev pub Retires : Option Ends → Means → Means → Type 0
Retires None m n = (n.retired ≡ m.retired) × (n.returned ≡ m.returned)
Retires (Some link) m n =
    (n.retired ≡ grown m.retired (link_of link ∷ []))
    × CountsReturned (link.source_faults + link.sink_faults) m.returned n.returned

-- one engine came, was served and went; the link to its IDE went back to the dialer
pub record ServedEngine (x y : EnginePost) : Type 0 where
  pub before : Ends
  pub after : Ends
  pub ide : Option Ends
  pub end : RelayEnd
  pub visited : Visited x.gate y.gate before after
  pub served : EngineServed x.clerk y.clerk (with_link x.means before) (with_link y.means after)
      ide end
  pub retired : Retires ide x.means y.means
  pub tally : y.tally ≡ tallied x.tally end

-- no link came
pub record NoEngine (x y : EnginePost) : Type 0 where
  pub clerk : y.clerk ≡ x.clerk
  pub means : y.means ≡ x.means
  pub tally : y.tally ≡ x.tally
  pub missed : Missed x.gate y.gate

-- ---- the books

-- so many registrations: each made one entry of a registration or a stop at most
pub record AskedFor (count : ℕ) (v w : Known) : Type 0 where
  pub desk : w.desk ≡ v.desk
  pub held : w.held ≡ v.held
  pub share : w.share ≡ v.share
  pub admits : w.made.admits ≡ v.made.admits
  pub dismissals : w.made.dismissals ≡ v.made.dismissals
  pub kept : v.made.registers ≤ w.made.registers
  pub within : w.made.registers ≤ v.made.registers + count

-- so many sessions: each is one admission among the entries that the clerk made, or one in the
-- tally
pub record Booked (count : ℕ) (v w : Known) (t u : Tally) : Type 0 where
  pub desk : w.desk ≡ v.desk
  pub held : w.held ≡ v.held
  pub share : w.share ≡ v.share
  pub registers : w.made.registers ≡ v.made.registers
  pub kept : v.made.admits ≤ w.made.admits
  pub all : w.made.admits + counted u ≡ v.made.admits + counted t + count
