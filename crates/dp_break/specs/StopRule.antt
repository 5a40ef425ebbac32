-- What a run past a list of moments does to breakpoints, and where it stops. Moments are given with
-- the states in which they come.
use Rattle.std.specs.Prelude.{ℕ, ◌+◌, ◌-◌, min, Bool, not, ◌&&◌, ◌||◌, if◌then◌else◌, List, [], ◌∷◌, ◌++◌, drop, filter, map, take, count_by, Option, Some, None}
use Rattle.std.specs.List.{list_any, position_from}
use Rattle.dp_tree.specs.declared.bundle.Bundle.{Bundle}
use Rattle.dp_state.specs.declared.moments.Moment.{Moment}
use Rattle.dp_state.specs.declared.state.State.{State}
use Rattle.dp_break.specs.declared.breakpoint.Breakpoint.{Breakpoint}
use Rattle.dp_break.specs.Hits.{hits, is_enough}

abbrev pub Moments : Type 0
Moments = List (Moment × State)

-- the greatest count: there it stands still
abbrev pub most_hits : ℕ
most_hits = 18446744073709551615

-- with so many hits more, up to that
abbrev pub with_more : ℕ → Breakpoint → Breakpoint
with_more more b = record b { hits = b.hits + min more (most_hits - b.hits) }

-- after these moments: one hit more for each at which it hits
abbrev pub after : Bundle → Moments → Breakpoint → Breakpoint
after bundle moments b = with_more (count_by (λ at. hits bundle at b) moments) b

-- a breakpoint stops at a moment that comes after those earlier ones: it hits there, and with that
-- hit its count is enough
abbrev pub stops_at : Bundle → Moments → Moment × State → Breakpoint → Bool
stops_at bundle earlier at b =
    hits bundle at b && is_enough b (after bundle (earlier ++ at ∷ []) b).hits

-- an element of a list, with those before it
pub record Reached (A : Type 0) : Type 0 where
  pub past : List A
  pub here : A

abbrev pub reached : {A : Type 0} → List A → A → Reached A
reached past here = record { past = past; here = here }

-- each element of a list, behind others
abbrev pub each_from : {A : Type 0} → List A → List A → List (Reached A)
each_from past [] = []
each_from past (x ∷ xs) = reached past x ∷ each_from (past ++ x ∷ []) xs

abbrev pub each_in : {A : Type 0} → List A → List (Reached A)
each_in xs = each_from [] xs

-- a temporary breakpoint is there until it has stopped, each other one for good
abbrev pub is_there_after : Bundle → Moments → Breakpoint → Bool
is_there_after bundle moments b =
    not (list_any (λ at. stops_at bundle at.past at.here b) (each_in moments) && b.temporary)

-- the breakpoints that are held after these moments, with their counts
abbrev pub held_after : Bundle → Moments → List Breakpoint → List Breakpoint
held_after bundle moments held =
    map (after bundle moments) (filter (is_there_after bundle moments) held)

-- one of the breakpoints stops at a moment that comes after those earlier ones
abbrev pub one_stops : Bundle → List Breakpoint → Moments → Moment × State → Bool
one_stops bundle held earlier at =
    list_any (λ b. is_there_after bundle earlier b && stops_at bundle earlier at b) held

-- ---- the stop rule

-- A mode is a test of moments, by which a command that goes on stops. The stop is the least number
-- above n at which the mode or a breakpoint stops.
abbrev pub stop_above : (Moment → Bool) → Bundle → List Breakpoint → ℕ → Moments → Option ℕ
stop_above mode bundle held n moments =
    position_from (λ at. mode at.here.0 || one_stops bundle held at.past at.here) (n + 1)
    (each_in (drop n moments))

-- of moments that are numbered from the one past n: those up to a stop, or all
abbrev pub up_to : ℕ → Option ℕ → Moments → Moments
up_to n (Some stop) moments = take (stop - n) moments
up_to n None moments = moments

-- the moments past n up to a stop, or to the end
abbrev pub passed : ℕ → Option ℕ → Moments → Moments
passed n stop moments = up_to n stop (drop n moments)

-- ---- moment by moment

-- What is found by going on from n one moment after another, as long as neither the mode nor a
-- breakpoint stops: the stop, and what is held then.
abbrev pub found : (Moment → Bool) → Bundle → List Breakpoint → ℕ → Moments
    → Option ℕ × List Breakpoint
found mode bundle held n [] = (None, held)
found mode bundle held n (at ∷ later) =
    if mode at.0 || one_stops bundle held [] at
    then (Some (n + 1), held_after bundle (at ∷ []) held)
    else found mode bundle (held_after bundle (at ∷ []) held) (n + 1) later
