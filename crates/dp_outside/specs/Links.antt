-- Links to other machines, and gates, by what the objects that make them tell. An object may tell
-- nothing.
use Rattle.std.specs.Prelude.{◌≡◌, ℕ, zero, suc, Bool, List, Result, Ok, Err, None, Some}
use Rattle.std.specs.declared.option.Option.{Option}
use Rattle.dp_outside.specs.Causes.{Rose}
use Rattle.dp_outside.specs.declared.sinks.Sink as sink_of
use Rattle.dp_outside.specs.declared.sources.Source as source_of

-- what a link tells: the bytes that its source still gives, those that it has given, and those that
-- its sink has taken
pub record Link : Type 0 where
  pub left : Option (List ℕ)
  pub given : Option (List ℕ)
  pub taken : Option (List ℕ)

abbrev pub link : {S K : Type 0} → source_of.Ghosts S → sink_of.Ghosts K → S → K → Link
link s k source sink =
    record { left = s.left source; given = s.given source; taken = k.taken sink }

-- the link that was made, where one was
abbrev pub made : {A E : Type 0} → (A → Link) → Result A E → Option Link
made tells (Ok a) = Some (tells a)
made tells (Err e) = None

-- a dial: the address that it was for, and what the link reported when it was given, where one was
pub record Dial : Type 0 where
  pub host : List ℕ
  pub port : ℕ
  pub made : Option Link

-- a gate that was shut: its port, whether it had given a link each time that it was asked for one,
-- the links that it had given as they reported when they were given, and those that had come back
-- as they reported then
pub record Door : Type 0 where
  pub port : ℕ
  pub accepts : Option (List Bool)
  pub accepted : Option (List Link)
  pub retired : Option (List Link)

-- What came back had failed so often: the count of returned faults rises exactly where that is not
-- 0.
abbrev pub CountsReturned : ℕ → ℕ → ℕ → Type 0
CountsReturned zero before after = after ≡ before
CountsReturned (suc faults) before after = Rose before after
