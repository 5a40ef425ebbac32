-- What a session keeps of where its machine has come to.
use Rattle.std.specs.Prelude.{ℕ, Bool, Some, None}
use Rattle.dp_engine.specs.declared.passes.Passing.{Passing}
use Rattle.dp_engine.specs.declared.reached.Reached.{Reached}
use Rattle.dp_engine.specs.declared.reached.Reached.TheVariants.{Moment, End}
use Rattle.dp_engine.specs.declared.states.Position.{Position}
use Rattle.dp_engine.specs.declared.states.Position.TheVariants.{Break, Stopping}
use Rattle.dp_engine.specs.Passes.{passing_at}

-- the number and the depth of the moment, and where the session stands
abbrev pub Place : Type 0
Place = ℕ × ℕ × Position

abbrev pub place_of : Reached → Place
place_of (Moment number depth) = (number, depth, Break)
place_of (End end) = (0, 1, Stopping end)

-- what it is to a continuation, whose program stops at the moment or does not
abbrev pub passing_of : Reached → Bool → Passing
passing_of (Moment number depth) stops = passing_at (Some number) stops
passing_of (End end) stops = passing_at None stops
