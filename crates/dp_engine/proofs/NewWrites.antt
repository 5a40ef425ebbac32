-- One more write at the current moment: the program's run up to there stands, and the machine goes on from the state
-- after it.
use Rattle.std.proofs.Common.{◌≡◌, ℕ, zero, suc, ◌<◌, ◌≤◌, Bool, true, false, List, [], ◌∷◌, ◌++◌, take, refl, sym, ap, subst, ◌∙◌, arith}
use Rattle.std.specs.Prelude.{if◌then◌else◌, nat_eq, slice_get}
use Rattle.std.proofs.lemmas.Bool.Decides.{nat_tests}
use Rattle.dp_tree.specs.declared.bundle.Bundle.{Bundle}
use Rattle.dp_command.specs.declared.command.WriteRequest.{WriteRequest}
use Rattle.dp_engine.specs.Stops.{depth_of}
use Rattle.dp_features.specs.Features.{Features}
use Rattle.dp_meaning.specs.declared.writes.NumberedWrite.{NumberedWrite}
use Rattle.dp_meaning.specs.declared.writes.Write.{Write}
use Rattle.dp_meaning.specs.Trace.{moment_at, program_trace}
use Rattle.dp_meaning.specs.Writes.{evaluation_setting, of_number, one_write}
use Rattle.dp_meaning_laws.specs.Past.{AgreeBelow}
use Rattle.dp_meaning_laws.proofs.PastLaws.{past_stands}
use Rattle.dp_packet.specs.declared.packet.Response.{Response}
use Rattle.dp_packet.specs.Parts.{Text}
use Rattle.dp_state.specs.declared.moments.Moment.{Moment}
use Rattle.dp_state.specs.declared.state.State.{State}
use Rattle.dp_step.specs.declared.machine.Machine.{Machine}
use Rattle.dp_step.specs.Stands.{StandsFor, rest_of}
use Rattle.dp_step.proofs.WritesMade.{all-made, number-is}
use Rattle.dp_engine.specs.declared.states.Phase.TheVariants as phase
use Rattle.dp_engine.specs.declared.states.Position.{Position}
use Rattle.dp_engine.specs.declared.states.Position.TheVariants.{Starting, Break, Stopping}
use Rattle.dp_engine.specs.inner.KeptWrites.{IsKeptWrite, with_one}
use Rattle.dp_engine.specs.inner.Position.{IsAt, IsDeep, phase_of}

-- ---- lists

get_taken : {A : Type 0} (k : ℕ) (l : List A) → slice_get (take (suc k) l) k ≡ slice_get l k
get_taken zero [] = refl
get_taken zero (x ∷ l) = refl
get_taken (suc k) [] = refl
get_taken (suc k) (x ∷ l) = get_taken k l

other_number : (k n : ℕ) → k < n → nat_eq n k ≡ false
other_number k n below = grind (arith, nat_tests)

pub own_number : (n : ℕ) → nat_eq n n ≡ true
own_number n = grind (arith, nat_tests)

-- writes before it are the same
agree_below : (ws : List NumberedWrite) (w : NumberedWrite) (k : ℕ) → k < w.moment
    → of_number k ws ≡ of_number k (ws ++ w ∷ [])
agree_below [] w k below = ap (λ (b : Bool). if b then w ∷ [] else []) (sym (other_number k w.moment below))
agree_below (v ∷ ws) w k below = by (nat_eq v.moment k) (agree_below ws w k below) where
  by : (b : Bool) → of_number k ws ≡ of_number k (ws ++ w ∷ [])
      → (if b then v ∷ of_number k ws else of_number k ws) ≡ (if b then v ∷ of_number k (ws ++ w ∷ [])
      else of_number k (ws ++ w ∷ []))
  by true e = ap (λ (l : List NumberedWrite). v ∷ l) e
  by false e = e

module _ (bundle : Bundle) (bound : ℕ) (ws : List NumberedWrite) (w : NumberedWrite) where
  abbrev more : List NumberedWrite
  more = ws ++ w ∷ []

  -- the moment of the write is the same
  pub same_pair : (k : ℕ) → w.moment ≡ suc k
      → slice_get (program_trace bundle bound ws).moments k ≡ slice_get (program_trace bundle bound more).moments k
  same_pair k is =
      let agree : AgreeBelow (suc k) ws more = λ j below. agree_below ws w j (omega (arith, below, is)) in
      sym (get_taken k (program_trace bundle bound ws).moments)
      ∙ ap (λ (l : List (Moment × State)). slice_get l k) (past_stands bundle bound (suc k) ws more agree)
      ∙ get_taken k (program_trace bundle bound more).moments

  pub same_moment : (n : ℕ) → w.moment ≡ n
      → moment_at (program_trace bundle bound ws) n ≡ moment_at (program_trace bundle bound more) n
  same_moment zero is = refl
  same_moment (suc k) is = same_pair k is

-- ---- machines

abbrev left_with : State → Machine → Machine
left_with t m = record m { state = t }

rest_left : (t : State) (m : Machine) (s : State) → rest_of (left_with t m) s ≡ rest_of m s
unfolding rest_of
rest_left t m s = refl

-- the machine stands at its moment, in the state after the write
machine_more : (bundle : Bundle) (bound : ℕ) (ws : List NumberedWrite) (n : ℕ) (w : Write) (m : Machine) → 1 ≤ n
    → StandsFor bundle bound ws n m
    → StandsFor bundle bound (with_one n w ws) n (left_with (one_write (evaluation_setting bundle) w m.state) m)
machine_more bundle bound ws n w m some stands =
    let number = number-is bundle bound ws n m stands in
    let one : List NumberedWrite = (record { moment = n; write = w }) ∷ [] in
    let new : Machine = left_with (one_write (evaluation_setting bundle) w m.state) m in
    subst (λ (l : List NumberedWrite). StandsFor bundle bound (ws ++ l) n new)
    (ap (λ (b : Bool). if b then one else []) (own_number n))
    (all-made bundle bound ws one m n new stands (λ e. omega (arith, some, number, e)) refl refl
    (rest_left (one_write (evaluation_setting bundle) w m.state) m)
    (λ i. if (sym (ap (nat_eq n) number ∙ own_number n)) i
    then one_write (evaluation_setting (sym stands.same_bundle i)) w m.state else m.state))

-- ---- what a session keeps of it

module _ (bundle : Bundle) (bound : ℕ) (features : Features) (machine : Machine) (after : State)
    (ws kept : List NumberedWrite) (moment : ℕ) (command id : Text) (r : WriteRequest) (response : Response)
    (made : IsKeptWrite bundle features machine.state after ws kept moment command id r response) where
  -- in a break
  pub machine_kept : (failed : Bool) (position : Position) → phase_of position ≡ phase.Break
      → IsAt failed position bundle bound ws moment machine
      → IsAt failed position bundle bound kept moment (left_with after machine)
  machine_kept failed Starting e h = absurd cc
  machine_kept failed Break e h = (
    h.0,
    λ f. subst (λ (t : State). StandsFor bundle bound kept moment (left_with t machine)) (sym made.state)
        (subst (λ (l : List NumberedWrite). StandsFor bundle bound l moment
        (left_with (one_write (evaluation_setting bundle) made.write machine.state) machine)) (sym made.list)
        (machine_more bundle bound ws moment made.write machine h.0 (h.1 f))),
  )
  machine_kept failed (Stopping end) e h = absurd cc

  pub deep_kept : (depth : ℕ) → IsDeep bundle bound ws moment depth → IsDeep bundle bound kept moment depth
  deep_kept depth h =
      h ∙ ap depth_of (same_moment bundle bound ws (record { moment = moment; write = made.write }) moment refl)
      ∙ ap (λ (l : List NumberedWrite). depth_of (moment_at (program_trace bundle bound l) moment)) (sym made.list)
