-- How the source and the sink of a link stand, and what they gave and took in between.
use Rattle.std.specs.Prelude.{◌≡◌, ℕ, ◌≤◌, List}
use Rattle.std.specs.declared.option.Option.{Option}
use Rattle.std.specs.Io.KnownBytes.{Appends, Consumes}
use Rattle.dp_outside.specs.Causes.{Rose}
use Rattle.dp_outside.specs.Links.{Link}
use Rattle.dp_outside.specs.Reports.{StaysSilent, BeginsEmpty}
use Rattle.dp_outside.specs.declared.sinks.Sink as sink_of
use Rattle.dp_outside.specs.declared.sources.Source as source_of

-- what a source still gives and has given, what a sink has taken, and how often each has failed
pub record Ends : Type 0 where
  pub left : Option (List ℕ)
  pub given : Option (List ℕ)
  pub taken : Option (List ℕ)
  pub source_faults : ℕ
  pub sink_faults : ℕ

abbrev pub ends : {S K : Type 0} → source_of.Ghosts S → sink_of.Ghosts K → S → K → Ends
ends s k source sink =
    record {
      left = s.left source;
      given = s.given source;
      taken = k.taken sink;
      source_faults = s.faults source;
      sink_faults = k.faults sink;
    }

-- the source of one link and the sink of another
abbrev pub crossed : Ends → Ends → Ends
crossed from to =
    record {
      left = from.left;
      given = from.given;
      taken = to.taken;
      source_faults = from.source_faults;
      sink_faults = to.sink_faults;
    }

-- what of it a link tells
abbrev pub link_of : Ends → Link
link_of e = record { left = e.left; given = e.given; taken = e.taken }

-- a link that was just made: nothing was read of it, and nothing failed
pub record IsFresh (e : Ends) : Type 0 where
  pub unread : BeginsEmpty e.given
  pub source_faults : e.source_faults ≡ 0
  pub sink_faults : e.sink_faults ≡ 0

-- ---- between two times

-- A source gave these bytes: they stand behind what it had given, and they began what it had left.
-- One that tells nothing never begins to tell.
pub record Gives (ahead rest before after : Option (List ℕ)) (bytes : List ℕ) : Type 0 where
  pub given : Appends before after bytes
  pub left : Consumes ahead rest bytes
  pub untold_given : StaysSilent before after
  pub untold_left : StaysSilent ahead rest

-- a sink took these bytes: they stand behind what it had taken
pub record Takes (before after : Option (List ℕ)) (bytes : List ℕ) : Type 0 where
  pub taken : Appends before after bytes
  pub untold : StaysSilent before after

abbrev pub Gave : Ends → Ends → List ℕ → Type 0
Gave a b bytes = Gives a.left b.left a.given b.given bytes

abbrev pub Took : Ends → Ends → List ℕ → Type 0
Took a b bytes = Takes a.taken b.taken bytes

-- a count of faults rose
abbrev pub Failed : ℕ → ℕ → Type 0
Failed before now = (before ≤ now) × Rose before now

abbrev pub SourceHeld : Ends → Ends → Type 0
SourceHeld a b = b.source_faults ≡ a.source_faults

abbrev pub SinkHeld : Ends → Ends → Type 0
SinkHeld a b = b.sink_faults ≡ a.sink_faults

abbrev pub SourceFailed : Ends → Ends → Type 0
SourceFailed a b = Failed a.source_faults b.source_faults

abbrev pub SinkFailed : Ends → Ends → Type 0
SinkFailed a b = Failed a.sink_faults b.sink_faults
