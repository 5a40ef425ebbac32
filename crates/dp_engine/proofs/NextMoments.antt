-- One moment that is passed: where it comes to, and whether the program stops there.
use Rattle.std.proofs.Common.{◌≡◌, ℕ, ◌+◌, ◌≤◌, Bool, true, false, ◌||◌, List, [], ◌∷◌, length, Option, refl, sym, ap, ◌∙◌}
use Rattle.std.specs.Option.{option_map_or}
use Rattle.std.specs.Prelude.{◌==◌}
use Rattle.dp_break.specs.StopRule.{Moments, held_after, one_stops}
use Rattle.dp_break.specs.Tables.{Table}
use Rattle.dp_tree.specs.declared.bundle.Bundle.{Bundle}
use Rattle.dp_state.specs.declared.moments.Moment.{Moment}
use Rattle.dp_state.specs.declared.moments.Outcome.{Outcome}
use Rattle.dp_state.specs.declared.state.State.{State}
use Rattle.dp_meaning.specs.declared.writes.NumberedWrite.{NumberedWrite}
use Rattle.dp_meaning.specs.Trace.{program_trace}
use Rattle.dp_step.specs.declared.machine.Machine.{Machine}
use Rattle.dp_step.specs.Stands.{ComesTo, EndsWith, StandsFor}
use Rattle.dp_engine.specs.declared.reached.Reached.TheVariants as reached
use Rattle.dp_engine.specs.NextStop.{PassesOne, every}
use Rattle.dp_engine.proofs.MachineStops.{IsPast, goes-out, goes-there, within_run}
use Rattle.dp_engine.proofs.StopMoments.{next_stop}

module _ (mode : Moment → Bool) (bundle : Bundle) (bound : ℕ) (writes : List NumberedWrite) (n : ℕ) (table : Table)
  where
    abbrev moments : Moments
    moments = (program_trace bundle bound writes).moments

    module _ (old : Machine) (stands : StandsFor bundle bound writes n old) (begun : ℕ) where
      abbrev way : (test : Moment → Bool) → IsPast test bundle bound writes n table table begun begun
      way test =
          let few : n ≤ length moments = within_run bundle bound writes n old stands in
          record { at = n; within = few; next = refl; found = refl; counted = refl }

      -- a moment comes
      pub passes_moment : (moment : Moment) (new : Machine) → ComesTo bundle bound writes n moment new
          → (after : ℕ) → after ≡ begun + 1 → (lent : State) → lent ≡ new.state → (left : Table)
          → left ≡ record table { held = held_after bundle ((moment, lent) ∷ []) table.held }
          → (stops : Bool) → stops ≡ (mode moment || one_stops bundle table.held [] (moment, lent))
          → PassesOne mode bundle bound writes table left n
          (record { reached = reached.Moment moment.number moment.depth; stops = stops }) new begun after
      passes_moment moment new comes after one lent same left counts stops is = record {
        goes = goes-there every bundle bound writes n table table begun begun (way every) moment new comes after one
            lent same left counts true refl refl;
        stops = next_stop mode bundle n moments table.held (moment, new.state) comes.0 stops
            (is ∙ ap (λ (s : State). mode moment || one_stops bundle table.held [] (moment, s)) same);
      }

      -- or the end
      pub passes_end : (end : Outcome) (new : Machine) → EndsWith bundle bound writes n end new
          → (after : ℕ) → after ≡ begun + 0
          → PassesOne mode bundle bound writes table table n (record { reached = reached.End end; stops = false }) new
          begun after
      passes_end end new ends after none = record {
        goes = goes-out every bundle bound writes n table table begun begun (way every) end new ends after none;
        stops = sym (ap (λ (stop : Option ℕ). option_map_or (λ (s : ℕ). s == n + 1) stop false)
            (goes-out mode bundle bound writes n table table begun begun (way mode) end new ends after none).reached.0);
      }
