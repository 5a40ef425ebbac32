-- What is done to breakpoints at a moment at which it is marked which of them hit.
use Rattle.std.specs.Prelude.{Bool, false, ◌&&◌, ◌||◌, if◌then◌else◌, List, [], ◌∷◌, ◌++◌}
use Rattle.dp_break.specs.declared.breakpoint.Breakpoint.{Breakpoint}
use Rattle.dp_break.specs.Hits.{is_enough}
use Rattle.dp_break.specs.StopRule.{with_more}

-- with one hit more it stops
abbrev pub stops_once_more : Breakpoint → Bool
stops_once_more b = is_enough b (with_more 1 b).hits

-- what one hit leaves of a breakpoint
abbrev pub one_settled : Breakpoint → List Breakpoint
one_settled b = if stops_once_more b && b.temporary then [] else with_more 1 b ∷ []

-- what is left of a breakpoint, which hits where it has a mark
abbrev pub settled_one : Bool → Breakpoint → List Breakpoint
settled_one mark b = if mark then one_settled b else b ∷ []

-- what is left of breakpoints, of which those with a mark hit
abbrev pub settled : List Bool → List Breakpoint → List Breakpoint
settled [] held = held
settled (mark ∷ marks) [] = []
settled (mark ∷ marks) (b ∷ held) = settled_one mark b ++ settled marks held

-- one that has a mark stops
abbrev pub some_settled_stops : List Bool → List Breakpoint → Bool
some_settled_stops [] held = false
some_settled_stops (mark ∷ marks) [] = false
some_settled_stops (mark ∷ marks) (b ∷ held) =
    mark && stops_once_more b || some_settled_stops marks held
