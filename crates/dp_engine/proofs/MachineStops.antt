-- A machine that goes on moment by moment finds the stop of its program, and counts the hits up to there.
use Rattle.std.proofs.Common.{◌≡◌, ℕ, zero, suc, ◌+◌, ◌<◌, ◌≤◌, Bool, true, false, cond, ◌||◌, List, [], ◌∷◌, drop, length, Option, Some, None, sym, ap, subst, ◌∙◌, arith}
use Rattle.std.proofs.lemmas.Option.{slice_get_within}
use Rattle.dp_break.specs.declared.breakpoint.Breakpoint.{Breakpoint}
use Rattle.dp_break.specs.StopRule.{Moments, found, held_after, one_stops}
use Rattle.dp_break.specs.Tables.{Table}
use Rattle.dp_break.proofs.CountLaws.{found-held, found-stop}
use Rattle.dp_tree.specs.declared.bundle.Bundle.{Bundle}
use Rattle.dp_state.specs.declared.moments.Moment.{Moment}
use Rattle.dp_state.specs.declared.moments.Outcome.{Outcome}
use Rattle.dp_state.specs.declared.state.State.{State}
use Rattle.dp_state.specs.States.{IsOf}
use Rattle.dp_meaning.specs.declared.writes.NumberedWrite.{NumberedWrite}
use Rattle.dp_meaning.specs.Trace.{moment_at, program_trace}
use Rattle.dp_meaning_laws.proofs.Whole.{end-can, now-can, numbered}
use Rattle.dp_step.specs.declared.machine.Machine.{Machine}
use Rattle.dp_step.specs.Stands.{ComesTo, EndsWith, StandsFor}
use Rattle.dp_step.proofs.LastMoments.{past-all}
use Rattle.dp_step.proofs.MachineSteps.{of_image}
use Rattle.dp_engine.specs.declared.reached.Reached.TheVariants as reached
use Rattle.dp_engine.specs.NextStop.{GoesOnTo, Reaches, stop_past, table_past}
use Rattle.dp_engine.specs.Stops.{depth_of}
use Rattle.dp_engine.proofs.Lists.{drop-at, drop-past}

-- a machine that stands at a moment has passed no more than there are
pub within_run : (bundle : Bundle) (bound : ℕ) (writes : List NumberedWrite) (n : ℕ) (m : Machine)
    → StandsFor bundle bound writes n m → n ≤ length (program_trace bundle bound writes).moments
within_run bundle bound writes zero m stands = omega arith
within_run bundle bound writes (suc k) m stands =
    let found = of_image _ _ _ stands.state in
    let there = slice_get_within (program_trace bundle bound writes).moments k found.0 found.1 in omega (arith, there)

module _ (mode : Moment → Bool) (bundle : Bundle) (bound : ℕ) (writes : List NumberedWrite) where
  abbrev moments : Moments
  moments = (program_trace bundle bound writes).moments

  abbrev found_past : List Breakpoint → ℕ → Option ℕ × List Breakpoint
  found_past held n = found mode bundle held n (drop n moments)

  -- what is found past n is found past the moment at which the machine stands; each moment up to there took one step
  pub record IsOnWay (n : ℕ) (before table : Table) (machine : Machine) (begun steps : ℕ) : Type 0 where
    pub at : ℕ
    pub stands : StandsFor bundle bound writes at machine
    pub next : table.next ≡ before.next
    pub found : found_past before.held n ≡ found_past table.held at
    pub counted : steps + n ≡ begun + at

  -- the same where the machine need not stand at that moment
  pub record IsPast (n : ℕ) (before table : Table) (begun steps : ℕ) : Type 0 where
    pub at : ℕ
    pub within : at ≤ length moments
    pub next : table.next ≡ before.next
    pub found : found_past before.held n ≡ found_past table.held at
    pub counted : steps + n ≡ begun + at

  -- ---- a moment

  module _ (n : ℕ) (before table : Table) (begun steps : ℕ)
      (way : IsPast n before table begun steps) (moment : Moment) (new : Machine)
      (comes : ComesTo bundle bound writes way.at moment new) (after : ℕ) (one : after ≡ steps + 1) where
    abbrev here : Moment × State
    here = (moment, new.state)

    abbrev left : Table
    left = record table { held = held_after bundle (here ∷ []) table.held }

    abbrev later : Option ℕ × List Breakpoint
    later = found mode bundle left.held (way.at + 1) (drop (suc way.at) moments)

    past : (b : Bool) → b ≡ (mode moment || one_stops bundle table.held [] here) → found_past before.held n
        ≡ cond b (Some (way.at + 1), left.held) later
    past b is =
        way.found ∙ ap (found mode bundle table.held way.at) (drop-at way.at moments here comes.0)
        ∙ ap (λ (c : Bool). cond c (Some (way.at + 1), left.held) later) (sym is)

    -- at which it does not stop
    goes-past : (b : Bool) → b ≡ (mode moment || one_stops bundle table.held [] here) → b ≡ false
        → IsOnWay n before left new begun after
    goes-past b is off =
        let more : way.at + 1 ≡ suc way.at = omega arith in record {
          at = suc way.at;
          stands = comes.1;
          next = way.next;
          found = past b is ∙ ap (λ (c : Bool). cond c (Some (way.at + 1), left.held) later) off
              ∙ ap (λ (k : ℕ). found mode bundle left.held k (drop (suc way.at) moments)) more;
          counted = omega (arith, one, way.counted);
        }

    counts-moment : after + n ≡ begun + moment.number
    counts-moment =
        let number : moment.number ≡ suc way.at = (numbered bundle bound writes way.at here comes.0).0 in
        omega (arith, one, number, way.counted)

    -- at which it stops
    module _ (b : Bool) (is : b ≡ (mode moment || one_stops bundle table.held [] here)) (stops : b ≡ true) where
      there : found_past before.held n ≡ (Some (way.at + 1), left.held)
      there = past b is ∙ ap (λ (c : Bool). cond c (Some (way.at + 1), left.held) later) stops

      stops-there : Reaches bundle bound writes (stop_past mode bundle bound writes before.held n)
          (reached.Moment moment.number moment.depth) new
      stops-there =
          let number : moment.number ≡ suc way.at = (numbered bundle bound writes way.at here comes.0).0 in
          let more : way.at + 1 ≡ suc way.at = omega arith in (
            sym (found-stop bundle mode before.held n (drop n moments))
                ∙ ap (λ (f : Option ℕ × List Breakpoint). f.0) there ∙ ap Some (more ∙ sym number),
            subst (λ (k : ℕ). StandsFor bundle bound writes k new) (sym number) comes.1,
            sym (ap (λ (k : ℕ). depth_of (moment_at (program_trace bundle bound writes) k)) number
                ∙ ap depth_of comes.0),
          )

      stops-with : left ≡ table_past mode bundle bound writes before n
      stops-with =
          (λ i. record { held = (sym there i).1; next = way.next i })
          ∙ ap (λ (l : List Breakpoint). record before { held = l })
          (found-held bundle mode before.held n (drop n moments))

    reaches-of : 0 < length bundle.files → IsOf bundle new.state
    reaches-of some = (now-can bundle bound writes some (suc way.at) new.state comes.1.state).0

    -- the breakpoints were asked in the state of the moment, which is lent to them
    module _ (lent : State) (same : lent ≡ new.state) (passed : Table)
        (counts : passed ≡ record table { held = held_after bundle ((moment, lent) ∷ []) table.held })
        (b : Bool) (is : b ≡ (mode moment || one_stops bundle table.held [] (moment, lent))) where
      is-here : b ≡ (mode moment || one_stops bundle table.held [] here)
      is-here = is ∙ ap (λ (s : State). mode moment || one_stops bundle table.held [] (moment, s)) same

      counts-here : passed ≡ left
      counts-here = counts
          ∙ ap (λ (s : State). record table { held = held_after bundle ((moment, s) ∷ []) table.held }) same

      pub passes : b ≡ false → IsOnWay n before passed new begun after
      passes off = subst (λ (t : Table). IsOnWay n before t new begun after) (sym counts-here) (goes-past b is-here off)

      pub goes-there : b ≡ true → GoesOnTo mode bundle bound writes before passed n
          (reached.Moment moment.number moment.depth) new begun after
      goes-there on = record {
        reached = stops-there b is-here on;
        breaks = counts-here ∙ stops-with b is-here on;
        of = reaches-of;
        counted = counts-moment;
      }

  -- ---- the end

  module _ (n : ℕ) (before table : Table) (begun steps : ℕ)
      (way : IsPast n before table begun steps) (end : Outcome) (new : Machine)
      (ends : EndsWith bundle bound writes way.at end new) where
    over : found_past before.held n ≡ (None, table.held)
    over = way.found ∙ ap (found mode bundle table.held way.at) (drop-past way.at moments ends.0)

    pub goes-out : (after : ℕ) → after ≡ steps + 0
        → GoesOnTo mode bundle bound writes before table n (reached.End end) new begun after
    goes-out after none = record {
      reached = (
        sym (found-stop bundle mode before.held n (drop n moments))
            ∙ ap (λ (f : Option ℕ × List Breakpoint). f.0) over,
        ends.1,
        ends.2,
      );
      breaks =
          (λ i. record { held = (sym over i).1; next = way.next i })
          ∙ ap (λ (l : List Breakpoint). record before { held = l })
          (found-held bundle mode before.held n (drop n moments));
      of = λ some. subst (IsOf bundle) (sym ends.2) (end-can bundle bound writes some).0;
      counted =
          let least = past-all way.at moments ends.0 in omega (arith, none, least, way.within, way.counted);
    }
