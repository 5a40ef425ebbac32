-- A continuation that is passed moment by moment comes to where it goes on to at once.
use Rattle.std.proofs.Common.{◌≡◌, ◌≢◌, ℕ, zero, suc, ◌+◌, ◌≤◌, Bool, true, false, cond, ◌||◌, List, [], ◌∷◌, drop, length, Option, Some, None, refl, sym, ap, ◌∙◌, arith}
use Rattle.std.specs.Prelude.{option_and_then, slice_get}
use Rattle.std.proofs.lemmas.Option.{slice_get_within}
use Rattle.dp_break.specs.declared.breakpoint.Breakpoint.{Breakpoint}
use Rattle.dp_break.specs.StopRule.{Moments, found, held_after, one_stops}
use Rattle.dp_break.proofs.CountLaws.{found-held, found-stop}
use Rattle.dp_command.specs.declared.command.Command.{Command}
use Rattle.dp_command.specs.declared.command.Continuation.{Continuation}
use Rattle.dp_command.specs.declared.line.Line.{Line}
use Rattle.dp_command.specs.Commands.{command_of}
use Rattle.dp_packet.specs.declared.error_codes.ErrorCode.{ErrorCode}
use Rattle.dp_state.specs.declared.moments.Moment.{Moment}
use Rattle.dp_state.specs.declared.state.State.{State as Program}
use Rattle.dp_engine.specs.declared.passes.Passing.TheVariants.{On, Stop, End}
use Rattle.dp_engine.specs.declared.states.Phase.{Phase}
use Rattle.dp_engine.specs.declared.states.Phase.TheVariants.{Starting, Break, Stopping}
use Rattle.dp_engine.specs.Answers.{moved}
use Rattle.dp_engine.specs.NextStop.{every, stop_past, stops_next, table_past}
use Rattle.dp_engine.specs.Passed.{StopsPast, passed_all}
use Rattle.dp_engine.specs.Passes.{departing, going_by, passed, passed_by, passed_on, passing_at, passing_by, passing_on}
use Rattle.dp_engine.specs.Refusals.{refusal_of_line}
use Rattle.dp_engine.specs.Session.{State, depth_at, trace_of}
use Rattle.dp_engine.specs.Stops.{stops}
use Rattle.dp_engine.proofs.Lists.{drop-past}
use Rattle.dp_engine.proofs.StopMoments.{found_next, next_stop}

-- ---- one moment

abbrev pub moments_of : State → Moments
moments_of state = (trace_of state).moments

-- what is found past the current moment by a test
abbrev found_by : (Moment → Bool) → State → Option ℕ × List Breakpoint
found_by test state =
    found test state.bundle state.breaks.held state.moment (drop state.moment (moments_of state))

-- where a session stands that has come to what was found
abbrev pub come : State → Option ℕ × List Breakpoint → State
come state f = moved (record state { breaks = record state.breaks { held = f.1 } }) f.0

-- the moment at which it stops that goes on by a test, if it stops
abbrev pub stop_by : (Moment → Bool) → State → Option ℕ
stop_by test state = stop_past test state.bundle state.bound state.writes state.breaks.held state.moment

-- where it stands then
abbrev pub gone_by : (Moment → Bool) → State → State
gone_by test state =
    moved (record state {
      breaks = table_past test state.bundle state.bound state.writes state.breaks state.moment;
    }) (stop_by test state)

come_is : (test : Moment → Bool) (state : State) → come state (found_by test state) ≡ gone_by test state
come_is test state = λ i. moved (record state {
  breaks = record state.breaks {
    held = found-held state.bundle test state.breaks.held state.moment (drop state.moment (moments_of state)) i;
  };
}) (found-stop state.bundle test state.breaks.held state.moment (drop state.moment (moments_of state)) i)

-- from a moment on the way it comes to the same
come_again : (state : State) (held : List Breakpoint) (n : ℕ) (f : Option ℕ × List Breakpoint)
    → come (come state (Some n, held)) f ≡ come state f
come_again state held n (None, left) = refl
come_again state held n (Some m, left) = refl

module _ (mode : Continuation) (depth : ℕ) (state : State) where
  abbrev test : Moment → Bool
  test = stops mode depth

  abbrev next : Option ℕ
  next = stop_past every state.bundle state.bound state.writes state.breaks.held state.moment

  abbrev there : Bool
  there = stops_next test state.bundle state.bound state.writes state.breaks.held state.moment

  -- no moment comes
  module _ (none : slice_get (moments_of state) state.moment ≡ None) where
    nothing : (mode : Moment → Bool) → found_by mode state ≡ (None, state.breaks.held)
    nothing mode =
        ap (found mode state.bundle state.breaks.held state.moment) (drop-past state.moment (moments_of state) none)

    no_next : next ≡ None
    no_next =
        sym (found-stop state.bundle every state.breaks.held state.moment (drop state.moment (moments_of state)))
        ∙ ap (λ (f : Option ℕ × List Breakpoint). f.0) (nothing every)

    ends : passing_on mode depth state ≡ End
    ends = ap (λ (o : Option ℕ). passing_at o there) no_next

    ends_there : passed_on state ≡ gone_by test state
    ends_there =
        sym (come_is every state) ∙ ap (come state) (nothing every ∙ sym (nothing test)) ∙ come_is test state

  -- one comes
  module _ (at : Moment × Program) (is : slice_get (moments_of state) state.moment ≡ Some at) where
    abbrev left : List Breakpoint
    left = held_after state.bundle (at ∷ []) state.breaks.held

    abbrev here : Bool
    here = test at.0 || one_stops state.bundle state.breaks.held [] at

    abbrev later : Option ℕ × List Breakpoint
    later = found test state.bundle left (state.moment + 1) (drop (state.moment + 1) (moments_of state))

    comes_found : found_by every state ≡ (Some (state.moment + 1), left)
    comes_found = found_next every state.bundle state.moment (moments_of state) state.breaks.held at is

    comes : passed_on state ≡ come state (Some (state.moment + 1), left)
    comes = sym (come_is every state) ∙ ap (come state) comes_found

    comes_next : next ≡ Some (state.moment + 1)
    comes_next =
        sym (found-stop state.bundle every state.breaks.held state.moment (drop state.moment (moments_of state)))
        ∙ ap (λ (f : Option ℕ × List Breakpoint). f.0) comes_found

    decides : (b : Bool) → b ≡ here → b ≡ there
    decides b e = next_stop test state.bundle state.moment (moments_of state) state.breaks.held at is b e

    goes : (b : Bool) → b ≡ here
        → gone_by test state ≡ come state (cond b (Some (state.moment + 1), left) later)
    goes b e =
        sym (come_is test state)
        ∙ ap (come state) (found_next test state.bundle state.moment (moments_of state) state.breaks.held at is)
        ∙ ap (λ (c : Bool). come state (cond c (Some (state.moment + 1), left) later)) (sym e)

    -- at which it stops
    stops_there : true ≡ here → (passing_on mode depth state ≡ Stop) × (passed_on state ≡ gone_by test state)
    stops_there e = (
      (λ i. passing_at (comes_next i) (sym (decides true e) i)),
      comes ∙ sym (goes true e),
    )

    -- or goes on
    goes_past : false ≡ here
        → (passing_on mode depth state ≡ On) × (gone_by test (passed_on state) ≡ gone_by test state)
    goes_past e = (
      (λ i. passing_at (comes_next i) (sym (decides false e) i)),
      ap (gone_by test) comes
          ∙ sym (come_is test (come state (Some (state.moment + 1), left)))
          ∙ come_again state left (state.moment + 1) later ∙ sym (goes false e),
    )

-- What one moment comes to: the program does not go on there, and it stands where it goes on to at
-- once; or it goes on, the way from there comes to the same, and a moment has come.
pub data Comes (mode : Continuation) (depth : ℕ) (state : State) : Type 0 where
  stop : passing_on mode depth state ≢ On → passed_on state ≡ gone_by (stops mode depth) state
      → Comes mode depth state
  on : passing_on mode depth state ≡ On
      → gone_by (stops mode depth) (passed_on state) ≡ gone_by (stops mode depth) state
      → (left : List Breakpoint) → passed_on state ≡ come state (Some (state.moment + 1), left)
      → suc state.moment ≤ length (moments_of state) → Comes mode depth state

pub one_comes : (mode : Continuation) (depth : ℕ) (state : State) → Comes mode depth state
one_comes mode depth state = by (slice_get (moments_of state) state.moment) refl where
  by_test : (at : Moment × Program) (is : slice_get (moments_of state) state.moment ≡ Some at) (b : Bool)
      → b ≡ (stops mode depth at.0 || one_stops state.bundle state.breaks.held [] at) → Comes mode depth state
  by_test at is true e =
      let there = stops_there mode depth state at is e in stop (λ (f : passing_on mode depth state ≡ On).
      let no : Stop ≡ On = sym there.0 ∙ f in absurd cc) there.1
  by_test at is false e =
      let past = goes_past mode depth state at is e in
      let few = slice_get_within (moments_of state) state.moment at is in
      on past.0 past.1 (left mode depth state at is) (comes mode depth state at is) (omega (arith, few))

  by : (o : Option (Moment × Program)) → slice_get (moments_of state) state.moment ≡ o → Comes mode depth state
  by None e = stop (λ (f : passing_on mode depth state ≡ On).
      let no : End ≡ On = sym (ends mode depth state e) ∙ f in absurd cc) (ends_there mode depth state e)
  by (Some at) e = by_test at e _ refl

-- ---- before the end

pub passed_before : (phase : Phase) (state : State) → phase ≢ Stopping → passed_by phase state ≡ passed_on state
passed_before Starting state n = refl
passed_before Break state n = refl
passed_before Stopping state n = absurd (n refl)

pub passing_before : (phase : Phase) (mode : Continuation) (depth : ℕ) (state : State) → phase ≢ Stopping
    → passing_by phase mode depth state ≡ passing_on mode depth state
passing_before Starting mode depth state n = refl
passing_before Break mode depth state n = refl
passing_before Stopping mode depth state n = absurd (n refl)

-- a session that goes on is in a break
pub still_before : (state next : State) (left : List Breakpoint) → next ≡ come state (Some (state.moment + 1), left)
    → next.phase ≢ Stopping
still_before state next left e f =
    let no : Break ≡ Stopping = sym (ap (λ (s : State). s.phase) e) ∙ f in absurd cc

-- ---- moment after moment

-- past all its moments it stands where it goes on to at once
pub passes_all : (mode : Continuation) (depth k : ℕ) (state : State) → state.phase ≢ Stopping
    → StopsPast k mode depth state → passed_all (suc k) state ≡ gone_by (stops mode depth) state
passes_all mode depth zero state before last = by (one_comes mode depth state) where
  by : Comes mode depth state → passed state ≡ gone_by (stops mode depth) state
  by (stop off comes_there) = passed_before state.phase state before ∙ comes_there
  by (on at_once more rest_held is few) = absurd (last (passing_before state.phase mode depth state before ∙ at_once))
passes_all mode depth (suc k) state before past =
    by (one_comes mode depth state) (λ later. passes_all mode depth k (passed state) later past.1) where
      by : Comes mode depth state
          → ((passed state).phase ≢ Stopping
          → passed_all (suc k) (passed state) ≡ gone_by (stops mode depth) (passed state))
          → passed_all (suc k) (passed state) ≡ gone_by (stops mode depth) state
      by (stop off comes_there) rest = absurd (off (sym (passing_before state.phase mode depth state before) ∙ past.0))
      by (on at_once more rest_held is few) rest =
          let same = passed_before state.phase state before in
          rest (still_before state (passed state) rest_held (same ∙ is)) ∙ ap (gone_by (stops mode depth)) same ∙ more

abbrev Comes_within : Continuation → ℕ → ℕ → State → Type 0
Comes_within mode depth room state =
    state.phase ≢ Stopping → length (moments_of state) ≤ state.moment + room → (k : ℕ) × StopsPast k mode depth state

comes_within : (mode : Continuation) (depth room : ℕ) (state : State) → Comes_within mode depth room state
comes_within mode depth zero state before enough = by (one_comes mode depth state) where
  by : Comes mode depth state → (k : ℕ) × StopsPast k mode depth state
  by (stop off comes_there) = (zero, λ f. off (sym (passing_before state.phase mode depth state before) ∙ f))
  by (on at_once more rest_held is few) = absurd (omega (arith, enough, few))
comes_within mode depth (suc room) state before enough =
    by (one_comes mode depth state) (comes_within mode depth room (passed state)) where
      by : Comes mode depth state → Comes_within mode depth room (passed state)
          → (k : ℕ) × StopsPast k mode depth state
      by (stop off comes_there) rest = (zero, λ f. off (sym (passing_before state.phase mode depth state before) ∙ f))
      by (on at_once more rest_held is few) rest =
          let same : passed state ≡ come state (Some (state.moment + 1), rest_held) =
          passed_before state.phase state before ∙ is in
          let long : length (moments_of (passed state)) ≡ length (moments_of state) =
          ap (λ (s : State). length (moments_of s)) same in
          let number : (passed state).moment ≡ state.moment + 1 = ap (λ (s : State). s.moment) same in
          let room_left : length (moments_of (passed state)) ≤ (passed state).moment + room =
          omega (arith, enough, long, number) in
          let later = rest (still_before state (passed state) rest_held same) room_left in
          (suc later.0, (passing_before state.phase mode depth state before ∙ at_once, later.1))

-- ---- a command

-- a continuation goes on before the end
pub goes_before : (state : State) (line : Option Line) (mode : Continuation) → departing state line ≡ Some mode
    → state.phase ≢ Stopping
goes_before state line mode asked over =
    by (refusal_of_line state line) (option_and_then command_of line)
    (ap (λ (p : Phase). going_by (refusal_of_line state line) p (option_and_then command_of line)) (sym over)
    ∙ asked) where
      by : (code : Option ErrorCode) (command : Option Command) → going_by code Stopping command ≡ Some mode → ⊥
      by (Some code) command e = cc
      by None None e = cc
      by None (Some command) e = cc

-- it comes to a stop, or to the end
pub comes_to_stop : (state : State) (line : Option Line) (mode : Continuation) → departing state line ≡ Some mode
    → (k : ℕ) × StopsPast k mode (depth_at state) state
comes_to_stop state line mode asked =
    comes_within mode (depth_at state) (length (moments_of state)) state (goes_before state line mode asked)
    (omega arith)
