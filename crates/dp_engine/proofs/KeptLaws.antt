-- What a session keeps of its program's run stands for what it knows, through each of its calls.
use Rattle.std.proofs.Common.{arith, ◌≡◌, ◌≢◌, ℕ, ◌+◌, ◌<◌, Bool, true, false, List, length, Option, Some, None, Result, Err, refl, sym, ap, subst, ◌∙◌}
use Rattle.std.specs.Prelude.{unwrap_or, IfOk}
use Rattle.dp_break.specs.Tables.{Table}
use Rattle.dp_command.specs.declared.command.Continuation.{Continuation}
use Rattle.dp_command.specs.declared.command.Request.TheVariants.{Write}
use Rattle.dp_command.specs.declared.command.WriteRequest.{WriteRequest}
use Rattle.dp_command.specs.Tests.{first_code}
use Rattle.dp_meaning.specs.declared.writes.NumberedWrite.{NumberedWrite}
use Rattle.dp_meaning.specs.Trace.{program_trace}
use Rattle.dp_meaning_laws.proofs.Whole.{end-can, now-can}
use Rattle.dp_packet.specs.declared.error_codes.ErrorCode.{ErrorCode}
use Rattle.dp_packet.specs.declared.packet.Response.{Response}
use Rattle.dp_packet.specs.Parts.{Text}
use Rattle.dp_state.specs.declared.moments.Moment.{Moment}
use Rattle.dp_state.specs.declared.moments.Outcome.{Outcome}
use Rattle.dp_state.specs.declared.state.State.{State as Program_state}
use Rattle.dp_state.specs.States.{IsOf, opening as first_state}
use Rattle.dp_step.specs.declared.machine.Machine.{Machine}
use Rattle.dp_step.specs.Stands.{StandsFor}
use Rattle.dp_write_commands.specs.Requests.{requested_write}
use Rattle.dp_write_commands.specs.Responses.{write_response}
use Rattle.dp_engine.specs.declared.reached.Reached.{Reached}
use Rattle.dp_engine.specs.declared.reached.Reached.TheVariants as reached
use Rattle.dp_engine.specs.declared.replies.Turn.{Turn as Made}
use Rattle.dp_engine.specs.declared.session.Session.TheInside.{Inside}
use Rattle.dp_engine.specs.declared.states.Phase.{Phase}
use Rattle.dp_engine.specs.declared.states.Phase.TheVariants as phase
use Rattle.dp_engine.specs.declared.states.Position.{Position}
use Rattle.dp_engine.specs.declared.states.Position.TheVariants.{Starting, Break, Stopping}
use Rattle.dp_engine.specs.Answers.{gone_on, moved}
use Rattle.dp_engine.specs.NextStop.{GoesOnTo, Reaches, every, reached_moment, stop_past, stops_next, table_past}
use Rattle.dp_engine.specs.Passes.{passing_at, passing_on}
use Rattle.dp_engine.specs.Refusals.{own_tests}
use Rattle.dp_engine.specs.Session.{State, moments_by, moments_so_far, program_of, steps_between, steps_left}
use Rattle.dp_engine.specs.Stops.{stops}
use Rattle.dp_engine.specs.inner.KeptWrites.{IsKeptWrite}
use Rattle.dp_engine.specs.inner.Places.{Place, passing_of, place_of}
use Rattle.dp_engine.specs.inner.Position.{IsAt, IsDeep, known, phase_of}
use Rattle.dp_engine.specs.inner.Turns.{IsTurn, Responds, answered}
use Rattle.dp_engine.proofs.MachineStops.{within_run}
use Rattle.dp_engine.proofs.StopMoments.{stop_is_there}
use Rattle.dp_engine.proofs.TurnLaws.{write_refused, write_responds}

module _ (s : Inside) where
  -- what it knows that stands at another place
  abbrev pub at_place : ℕ → Position → Table → State
  at_place moment position breaks =
      known s.bundle.now s.bound s.writes.items moment position s.features s.stdout breaks s.failed

  abbrev pub state : State
  state = at_place s.moment s.position s.breaks

  abbrev KeptAt : Bool → Position → Machine → Type 0
  KeptAt failed position machine = IsAt failed position s.bundle.now s.bound s.writes.items s.moment machine

  abbrev Kept : Type 0
  Kept = KeptAt s.failed s.position s.machine

  abbrev Stands : Type 0
  Stands = StandsFor s.bundle.now s.bound s.writes.items s.moment s.machine

  -- its program is the one of the machine
  pub program_is : s.failed ≡ false → Kept → s.machine.state ≡ program_of state
  program_is whole h = by s.position h where
    by : (p : Position) → KeptAt s.failed p s.machine → s.machine.state ≡ program_of (at_place s.moment p s.breaks)
    by Starting h = sym (ap (λ (o : Option Program_state). unwrap_or o (first_state s.bundle.now)) (h whole).state)
    by Break h = sym (ap (λ (o : Option Program_state). unwrap_or o (first_state s.bundle.now)) (h.1 whole).state)
    by (Stopping end) h = h.1

  pub program_can : s.failed ≡ false → 0 < length s.bundle.now.files → Kept → IsOf s.bundle.now s.machine.state
  program_can whole some h = by s.position h where
    there : Stands → IsOf s.bundle.now s.machine.state
    there stands =
        (now-can s.bundle.now s.bound s.writes.items some s.moment s.machine.state stands.state).0

    by : (p : Position) → KeptAt s.failed p s.machine → IsOf s.bundle.now s.machine.state
    by Starting h = there (h whole)
    by Break h = there (h.1 whole)
    by (Stopping end) h = subst (IsOf s.bundle.now) (sym h.1) (end-can s.bundle.now s.bound s.writes.items some).0

  -- once it has failed and was left as it was, nothing is said of the machine
  pub still_kept : Kept → KeptAt true s.position s.machine
  still_kept h = by s.position h where
    by : (p : Position) → KeptAt s.failed p s.machine → KeptAt true p s.machine
    by Starting h = λ e. absurd cc
    by Break h = (h.0, λ e. absurd cc)
    by (Stopping end) h = h

  -- ---- before the end

  module _ (before : phase_of s.position ≢ phase.Stopping) where
    -- it stands at the moment
    pub machine_there : s.failed ≡ false → Kept → Stands
    machine_there whole h = by s.position before h where
      by : (p : Position) → phase_of p ≢ phase.Stopping → KeptAt s.failed p s.machine → Stands
      by Starting n h = h whole
      by Break n h = h.1 whole
      by (Stopping end) n h = absurd (n refl)

    -- that is as many moments as have come
    moments_are : moments_so_far state ≡ s.moment
    moments_are = by s.position before where
      by : (p : Position) → phase_of p ≢ phase.Stopping
          → moments_by (phase_of p) s.bundle.now s.bound s.writes.items s.moment ≡ s.moment
      by Starting n = refl
      by Break n = refl
      by (Stopping end) n = absurd (n refl)

    -- once it has failed, nothing is said of whatever machine is left
    pub nothing_kept : (left : Machine) → Kept → KeptAt true s.position left
    nothing_kept left h = by s.position before h where
      by : (p : Position) → phase_of p ≢ phase.Stopping → KeptAt s.failed p s.machine → KeptAt true p left
      by Starting n h = λ e. absurd cc
      by Break n h = (h.0, λ e. absurd cc)
      by (Stopping end) n h = absurd (n refl)

    pub counts_left : (begun steps : ℕ) → Stands
        → steps + s.moment ≡ begun + length (program_trace s.bundle.now s.bound s.writes.items).moments
        → steps ≡ begun + steps_left state
    counts_left begun steps stands counted =
        omega (arith, moments_are, within_run s.bundle.now s.bound s.writes.items s.moment s.machine stands, counted)

    -- ---- the program goes on

    -- by a test, to where this machine has come and these breakpoints are left
    module _ (test : Moment → Bool) (machine : Machine) (left : Table) (came : Reached) (begun steps : ℕ)
        (goes : GoesOnTo test s.bundle.now s.bound s.writes.items s.breaks left s.moment came machine begun steps)
        (place : Place) (is : place ≡ place_of came) where
      abbrev stop : Option ℕ
      stop = stop_past test s.bundle.now s.bound s.writes.items s.breaks.held s.moment

      abbrev Comes : Reached → Type 0
      Comes r = Reaches s.bundle.now s.bound s.writes.items stop r machine

      -- a stop is at a later moment
      comes_later : (number : ℕ) → stop ≡ Some number → s.moment < number
      comes_later number is =
          let there = stop_is_there test s.bundle.now s.breaks.held s.moment
          (program_trace s.bundle.now s.bound s.writes.items).moments number is in
          omega (arith, there.2, there.3)

      abbrev KeepsAt : Place → Type 0
      KeepsAt p =
          IsAt s.failed p.2 s.bundle.now s.bound s.writes.items p.0 machine
          × IsDeep s.bundle.now s.bound s.writes.items p.0 p.1

      pub keeps_there : KeepsAt place
      keeps_there = subst KeepsAt (sym is) (by came goes.reached) where
        by : (r : Reached) → Comes r → KeepsAt (place_of r)
        by (reached.Moment number depth) comes =
            ((omega (arith, comes_later number comes.0), λ e. comes.1), comes.2)
        by (reached.End end) comes = ((comes.1, comes.2), refl)

      pub knows_there : at_place place.0 place.2 left ≡ moved (record state {
        breaks = table_past test s.bundle.now s.bound s.writes.items s.breaks s.moment;
      }) stop
      knows_there =
          ap (λ (p : Place). at_place p.0 p.2 left) is ∙ by came goes.reached
          ∙ ap (λ (t : Table). moved (record state { breaks = t }) stop) goes.breaks where
            by : (r : Reached) → Comes r
                → at_place (place_of r).0 (place_of r).2 left ≡ moved (record state { breaks = left }) stop
            by (reached.Moment number depth) comes = ap (moved (record state { breaks = left })) (sym comes.0)
            by (reached.End end) comes =
                ap (λ (o : Outcome). at_place 0 (Stopping o) left) comes.1
                ∙ ap (moved (record state { breaks = left })) (sym comes.0)

      pub counts_there : Stands → steps ≡ begun + steps_between state (at_place place.0 place.2 left)
      counts_there stands =
          subst (λ (p : Place). steps ≡ begun + steps_between state (at_place p.0 p.2 left)) (sym is)
          (by came goes.reached goes.counted) where
            by : (r : Reached) → Comes r
                → steps + s.moment ≡ begun + reached_moment s.bundle.now s.bound s.writes.items r
                → steps ≡ begun + steps_between state (at_place (place_of r).0 (place_of r).2 left)
            by (reached.Moment number depth) comes counted =
                omega (arith, moments_are, comes_later number comes.0, counted)
            by (reached.End end) comes counted =
                omega (
                  arith,
                  moments_are,
                  within_run s.bundle.now s.bound s.writes.items s.moment s.machine stands,
                  counted,
                )

  -- a command goes on from the depth of the moment
  pub goes_so : (mode : Continuation) → IsDeep s.bundle.now s.bound s.writes.items s.moment s.depth
      → moved (record state {
        breaks = table_past (stops mode s.depth) s.bundle.now s.bound s.writes.items s.breaks s.moment;
      }) (stop_past (stops mode s.depth) s.bundle.now s.bound s.writes.items s.breaks.held s.moment)
      ≡ gone_on mode state
  goes_so mode deep =
      ap (λ (d : ℕ). moved (record state {
        breaks = table_past (stops mode d) s.bundle.now s.bound s.writes.items s.breaks s.moment;
      }) (stop_past (stops mode d) s.bundle.now s.bound s.writes.items s.breaks.held s.moment)) deep

  -- one moment is passed
  pub passes_so : (mode : Continuation) (depth : ℕ) (machine : Machine) (r : Reached) (stopped : Bool)
      → Reaches s.bundle.now s.bound s.writes.items
      (stop_past every s.bundle.now s.bound s.writes.items s.breaks.held s.moment) r machine
      → stopped ≡ stops_next (stops mode depth) s.bundle.now s.bound s.writes.items s.breaks.held s.moment
      → passing_of r stopped ≡ passing_on mode depth state
  passes_so mode depth machine (reached.Moment number deep) stopped comes is =
      λ i. passing_at (sym comes.0 i) (is i)
  passes_so mode depth machine (reached.End end) stopped comes is = λ i. passing_at (sym comes.0 i) (is i)

  -- ---- a write is kept

  abbrev pub with_kept : List NumberedWrite → State
  with_kept kept = known s.bundle.now s.bound kept s.moment s.position s.features s.stdout s.breaks s.failed

  pub write_turn : {E : Type 0} (after : Program_state) (kept : List NumberedWrite) (command id : Text)
      (r : WriteRequest) (response : Response) (made : Result Made E)
      → s.machine.state ≡ program_of state
      → IsKeptWrite s.bundle.now s.features s.machine.state after s.writes.items kept s.moment command id r response
      → IfOk made (Responds response None)
      → IfOk made (IsTurn (answered command id (Write r) state) (with_kept kept))
  write_turn after kept command id r response made same is t =
      write_responds state (with_kept kept) command id r is.write response made
      (ap (λ (p : Program_state). write_response s.bundle.now s.features p command id r) (sym same) ∙ is.answered)
      (ap (λ (p : Program_state). requested_write p r) (sym same) ∙ is.asks)
      (ap with_kept is.list) t

  pub write_is_refused : (command id : Text) (r : WriteRequest) (code : ErrorCode)
      → s.machine.state ≡ program_of state
      → write_response s.bundle.now s.features s.machine.state command id r ≡ Err code
      → first_code (own_tests state command id (Write r)) ≡ Some code
  write_is_refused command id r code same e =
      write_refused state command id r code (ap (λ (p : Program_state). write_response s.bundle.now s.features p
      command id r) (sym same) ∙ e)

  -- in a break no moment has come by that
  pub write_stays : (kept : List NumberedWrite) → phase_of s.position ≡ phase.Break
      → moments_so_far (with_kept kept) ≡ moments_so_far state
  write_stays kept at =
      ap (λ (p : Phase). moments_by p s.bundle.now s.bound kept s.moment) at
      ∙ sym (ap (λ (p : Phase). moments_by p s.bundle.now s.bound s.writes.items s.moment) at)
