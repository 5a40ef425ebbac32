-- How far a list is read.
use Rattle.std.specs.Prelude.{◌≡◌, ℕ, true, false, Bool, List, [], ◌++◌, Some}
use Rattle.std.specs.Prelude.{is_some, unwrap_or, nat_eq, ◌==◌, ◌&&◌, if◌then◌else◌}
use Rattle.std.specs.Map.{lookup}
use Rattle.dp_events.specs.declared.event.Event.{Event}
use Rattle.dp_events.specs.declared.event.Act.{Act}
use Rattle.dp_events.specs.declared.readers.Reading.{Reading}
use Rattle.dp_events.specs.Lists.{was, makes, is_engine, AllFit, Adds}

-- under the number of each link that was made stands whether an engine came on it
abbrev pub IsTable : List (ℕ × Bool) → List Event → Type 0
IsTable table events =
    (link : ℕ) → (is_some (lookup (nat_eq link) table) ≡ was makes link events)
    × (unwrap_or (lookup (nat_eq link) table) false ≡ was is_engine link events)

-- the table with what an event adds to it
abbrev pub Marks : List (ℕ × Bool) → ℕ → Act → List (ℕ × Bool) → Type 0
Marks table link act after =
    (other : ℕ) → lookup (nat_eq other) after
    ≡ (if makes act && (link == other) then Some (is_engine act) else lookup (nat_eq other) table)

-- these events were read, and the table is theirs
pub record IsReading (reading : Reading) (events : List Event) : Type 0 where
  pub are : reading.events.items ≡ events
  pub fit : AllFit [] events
  pub table : IsTable reading.made.entries events

-- whether the line adds to the events before it, and those with what it adds
abbrev pub Takes : List Event → List ℕ → Bool → List Event → Type 0
Takes before line true after =
    (added : List Event) × Adds before line added × (after ≡ before ++ added)
Takes before line false after = (added : List Event) → Adds before line added → ⊥
