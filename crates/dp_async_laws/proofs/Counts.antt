-- So many moments of the program's run have come as a session that listens counts.
use Rattle.std.proofs.Common.{◌≡◌, ◌≢◌, ℕ, zero, suc, ◌+◌, ◌≤◌, Bool, true, false, List, [], ◌∷◌, drop, length, Option, Some, None, refl, sym, ap, ◌∙◌, arith}
use Rattle.std.specs.Prelude.{option_and_then, option_map, slice_get, Result, Ok, Err}
use Rattle.std.proofs.lemmas.Option.{slice_get_within}
use Rattle.dp_async.specs.declared.arrival.Arrival.{Arrival}
use Rattle.dp_async.specs.Heard.{Answers, AnswersOwn, Arrives, Begins as Opens, Ceases, Comes, Departs, Done, Ends, Fills, Heard, HearsBreak, Leaves, Passes, PassesLimit, PassesTo, PassesToEnd, Situation, Stops, TellsStatus}
use Rattle.dp_async_laws.proofs.Quiet.{quiet_is}
use Rattle.dp_async_laws.proofs.Runs.{follows}
use Rattle.dp_break.specs.declared.breakpoint.Breakpoint.{Breakpoint}
use Rattle.dp_break.proofs.CountLaws.{found-stop}
use Rattle.dp_break.specs.StopRule.{found}
use Rattle.dp_command.specs.declared.command.Continuation.{Continuation}
use Rattle.dp_command.specs.declared.command.Finish.TheVariants.{Stop as StopNow, Detach}
use Rattle.dp_command.specs.declared.command.Request.{Request}
use Rattle.dp_command.specs.declared.command.Request.TheVariants.{Session, Breakpoints, Look, Write}
use Rattle.dp_command.specs.declared.command.SessionRequest.{SessionRequest}
use Rattle.dp_command.specs.declared.command.SessionRequest.TheVariants as request
use Rattle.dp_command.specs.declared.command.Stream.TheVariants.{Stdout, Stderr}
use Rattle.dp_command.specs.declared.line.Line.{Line}
use Rattle.dp_command.specs.declared.names.CommandName.{CommandName}
use Rattle.dp_command.specs.Commands.{command_as, command_of, request_of}
use Rattle.dp_command.specs.Lines.{line_of}
use Rattle.dp_command.specs.Names.{name_of}
use Rattle.dp_command.specs.Refusals.{id_of}
use Rattle.dp_engine.specs.declared.passes.Passing.{Passing}
use Rattle.dp_engine.specs.declared.passes.Passing.TheVariants.{On, Stop, End}
use Rattle.dp_engine.specs.declared.states.Phase.{Phase}
use Rattle.dp_engine.specs.declared.states.Phase.TheVariants.{Starting, Break, Stopping}
use Rattle.dp_engine.specs.Answers.{answer, continued, kept_if, moved, performed, session_done, turn, turn_by_command, turn_of, with_write}
use Rattle.dp_engine.specs.NextStop.{every, stop_past, stops_next, table_past}
use Rattle.dp_engine.specs.Passes.{departing, depth_from, going_by, going_in, mode_of, passed, passed_by, passed_on, passing, passing_at, passing_by}
use Rattle.dp_engine.specs.Refusals.{of_command, refusal_of_line}
use Rattle.dp_engine.specs.Session.{State, moments_by, moments_so_far, program_of}
use Rattle.dp_engine.specs.States.{allows}
use Rattle.dp_engine.specs.Stops.{stops}
use Rattle.dp_engine.specs.inner.Turns.{IsTimely}
use Rattle.dp_engine.proofs.Lists.{drop-past}
use Rattle.dp_engine.proofs.PassedMoments.{moments_of}
use Rattle.dp_engine.proofs.RefusalLaws.{allowed, writes_at_break}
use Rattle.dp_engine.proofs.StopMoments.{found_next}
use Rattle.dp_meaning.specs.declared.writes.Write.{Write as ProgramWrite}
use Rattle.dp_meaning.specs.Trace.{program_trace}
use Rattle.dp_packet.specs.declared.error_codes.ErrorCode.{ErrorCode}
use Rattle.dp_packet.specs.declared.packet.Response.{Response}
use Rattle.dp_packet.specs.Parts.{Text}
use Rattle.dp_session_laws.proofs.WatchedRuns.{IsPlaced, IsPlain}
use Rattle.dp_state.specs.declared.moments.Moment.{Moment}
use Rattle.dp_state.specs.declared.state.State.{State as Program}
use Rattle.dp_tree.specs.declared.bundle.Bundle.{Bundle}
use Rattle.dp_write_commands.specs.Requests.{requested_write}
use Rattle.dp_write_commands.specs.Responses.{write_response}

-- ---- a command that is no continuation passes no moment

abbrev HasCount : State → State → Type 0
HasCount state next = moments_so_far next ≡ moments_so_far state

continued_counts : (command id : Text) (mode : Continuation) (phase : Phase) (state : State)
    → going_in phase (Session (request.Continue mode)) ≡ None
    → HasCount state (continued command id mode phase state).next
continued_counts command id mode Starting state none = absurd cc
continued_counts command id mode Break state none = absurd cc
continued_counts command id mode Stopping state none = refl

session_counts : (command id : Text) (r : SessionRequest) (state : State) → going_in state.phase (Session r) ≡ None
    → HasCount state (session_done command id r state).next
session_counts command id (request.Continue mode) state none =
    continued_counts command id mode state.phase state none
session_counts command id (request.FeatureSet name value) state none = refl
session_counts command id (request.Finish StopNow) state none = refl
session_counts command id (request.Finish Detach) state none = refl
session_counts command id (request.Redirect Stdout mode) state none = refl
session_counts command id (request.Redirect Stderr mode) state none = refl
session_counts command id r state none = refl

-- a write is kept at a moment
write_counts : (state : State) (w : ProgramWrite) → state.phase ≡ Break → HasCount state (with_write w state)
write_counts state w is =
    ap (λ (p : Phase). moments_by p state.bundle state.bound (with_write w state).writes state.moment) is
    ∙ sym (ap (λ (p : Phase). moments_by p state.bundle state.bound state.writes state.moment) is)

done_counts : (command id : Text) (r : Request) (state : State) → IsTimely state.phase r
    → going_in state.phase r ≡ None → HasCount state (performed command id r state).next
done_counts command id (Session r) state timely none = session_counts command id r state none
done_counts command id (Breakpoints r) state timely none = refl
done_counts command id (Look r) state timely none = refl
done_counts command id (Write r) state timely none =
    by (write_response state.bundle state.features (program_of state) command id r)
    (requested_write (program_of state) r) where
      by : (told : Result Response ErrorCode) (w : Result ProgramWrite ErrorCode)
          → HasCount state (kept_if told w state)
      by (Ok told) (Ok w) = write_counts state w timely
      by (Ok told) (Err code) = refl
      by (Err code) w = refl

asked_counts : (line : Line) (name : Option CommandName) (state : State)
    → of_command (allows state.phase) name ≡ true
    → going_by None state.phase (option_map (command_as line) name) ≡ None
    → HasCount state (turn_by_command line.name (id_of line) (option_map (command_as line) name) state).next
asked_counts line None state a none = refl
asked_counts line (Some name) state a none =
    done_counts line.name (id_of line) (request_of name line) state (writes_at_break name line state.phase a) none

turn_of_counts : (line : Option Line) (code : Option ErrorCode) (state : State) → refusal_of_line state line ≡ code
    → going_by code state.phase (option_and_then command_of line) ≡ None
    → HasCount state (turn_of line code state).next
turn_of_counts line (Some code) state e none = refl
turn_of_counts None None state e none = absurd cc
turn_of_counts (Some line) None state e none =
    asked_counts line (name_of line.name) state (allowed state line e).0 none

answer_counts : (state : State) (bytes : List ℕ) → departing state (line_of bytes) ≡ None
    → HasCount state (answer state bytes).state
unfolding answer turn
answer_counts state bytes none =
    turn_of_counts (line_of bytes) (refusal_of_line state (line_of bytes)) state refl none

-- ---- the next moment

module _ (state : State) where
  abbrev next : Option ℕ
  next = stop_past every state.bundle state.bound state.writes state.breaks.held state.moment

  next_some : (at : Moment × Program) → slice_get (moments_of state) state.moment ≡ Some at
      → next ≡ Some (state.moment + 1)
  next_some at is =
      sym (found-stop state.bundle every state.breaks.held state.moment (drop state.moment (moments_of state)))
      ∙ ap (λ (f : Option ℕ × List Breakpoint). f.0)
      (found_next every state.bundle state.moment (moments_of state) state.breaks.held at is)

  next_none : slice_get (moments_of state) state.moment ≡ None → next ≡ None
  next_none none =
      sym (found-stop state.bundle every state.breaks.held state.moment (drop state.moment (moments_of state)))
      ∙ ap (λ (l : List (Moment × Program)). (found every state.bundle state.breaks.held state.moment l).0)
      (drop-past state.moment (moments_of state) none)

  -- where it has come to
  abbrev counted_at : Option ℕ → ℕ
  counted_at stop =
      moments_so_far (moved (record state {
        breaks = table_past every state.bundle state.bound state.writes state.breaks state.moment;
      }) stop)

  -- it is no end: one moment more has come
  on_counts : (stops : Bool) → passing_at next stops ≢ End → moments_so_far (passed_on state) ≡ state.moment + 1
  on_counts stops goes = by (slice_get (moments_of state) state.moment) refl where
    by : (o : Option (Moment × Program)) → slice_get (moments_of state) state.moment ≡ o
        → moments_so_far (passed_on state) ≡ state.moment + 1
    by None e = absurd (goes (ap (λ (o : Option ℕ). passing_at o stops) (next_none e)))
    by (Some at) e = ap counted_at (next_some at e)

  no_end : (n : ℕ) (stops : Bool) → passing_at (Some n) stops ≡ End → ⊥
  no_end n true e = cc
  no_end n false e = cc

  -- it is one: so many have come as there are
  end_counts : (stops : Bool) → passing_at next stops ≡ End → length (moments_of state) ≤ state.moment
      × (moments_so_far (passed_on state) ≡ length (moments_of state))
  end_counts stops ends = by (slice_get (moments_of state) state.moment) refl where
    few : {A : Type 0} (l : List A) (n : ℕ) → slice_get l n ≡ None → length l ≤ n
    few [] n e = omega arith
    few (x ∷ l) zero e = absurd cc
    few (x ∷ l) (suc n) e = omega (arith, few l n e)

    by : (o : Option (Moment × Program)) → slice_get (moments_of state) state.moment ≡ o
        → length (moments_of state) ≤ state.moment × (moments_so_far (passed_on state) ≡ length (moments_of state))
    by None e = (few (moments_of state) state.moment e, ap counted_at (next_none e))
    by (Some at) e =
        absurd (no_end (state.moment + 1) stops (ap (λ (o : Option ℕ). passing_at o stops) (sym (next_some at e))
        ∙ ends))

module _ (bundle : Bundle) (bound : ℕ) where
  -- so many have come as the trace has at most
  within : (phase : Phase) (state : State) → IsPlain bundle bound state → phase ≢ Stopping
      → IsPlaced bundle bound state.writes phase state.moment → state.moment ≤ length (moments_of state)
  within Starting state h before placed = omega (arith, placed)
  within Break state h before placed =
      let long = slice_get_within (program_trace bundle bound state.writes).moments placed.0 placed.1 placed.3 in
      let same : length (moments_of state) ≡ length (program_trace bundle bound state.writes).moments =
      λ i. length (program_trace (h.of i) (h.within i) state.writes).moments in
      omega (arith, placed.2, long, same)
  within Stopping state h before placed = absurd (before refl)

  passed_counts : (phase : Phase) (mode : Continuation) (depth : ℕ) (state : State)
      → passing_by phase mode depth state ≢ End
      → moments_so_far (passed_by phase state) ≡ moments_by phase state.bundle state.bound state.writes state.moment + 1
  passed_counts Starting mode depth state goes =
      on_counts state (stops_next (stops mode depth) state.bundle state.bound state.writes state.breaks.held
      state.moment) goes
  passed_counts Break mode depth state goes =
      on_counts state (stops_next (stops mode depth) state.bundle state.bound state.writes state.breaks.held
      state.moment) goes
  passed_counts Stopping mode depth state goes = absurd (goes refl)

  ended_counts : (phase : Phase) (mode : Continuation) (depth : ℕ) (state : State) → state.phase ≡ phase
      → IsPlain bundle bound state → IsPlaced bundle bound state.writes phase state.moment
      → passing_by phase mode depth state ≡ End
      → moments_so_far (passed_by phase state) ≡ moments_by phase state.bundle state.bound state.writes state.moment
  ended_counts Starting mode depth state e h placed ends =
      let c = end_counts state (stops_next (stops mode depth) state.bundle state.bound state.writes
      state.breaks.held state.moment) ends in
      let most = within Starting state h (λ f. cc) placed in
      let same : length (moments_of state) ≡ state.moment = omega (arith, c.0, most) in
      c.1 ∙ same
  ended_counts Break mode depth state e h placed ends =
      let c = end_counts state (stops_next (stops mode depth) state.bundle state.bound state.writes
      state.breaks.held state.moment) ends in
      let most = within Break state h (λ f. cc) placed in
      let same : length (moments_of state) ≡ state.moment = omega (arith, c.0, most) in
      c.1 ∙ same
  ended_counts Stopping mode depth state e h placed ends =
      ap (λ (p : Phase). moments_by p state.bundle state.bound state.writes state.moment) e

  -- ---- all that was heard

  abbrev state_of : {log : List Arrival} {done : Done} {s : Situation} → Heard bundle bound log done s → State
  state_of {s} heard = s.state

  -- what a moment is that is none of the others
  stop_not : (p : Passing) → p ≡ Stop → p ≢ End
  stop_not p e f = let no : Stop ≡ End = sym e ∙ f in absurd cc

  on_not : (p : Passing) → p ≡ On → p ≢ End
  on_not p e f = let no : On ≡ End = sym e ∙ f in absurd cc

  one_more : (moments : ℕ) (mode : Continuation) (depth : ℕ) (state : State) → moments ≡ moments_so_far state
      → passing mode depth state ≢ End → moments + 1 ≡ moments_so_far (passed state)
  one_more moments mode depth state e goes =
      ap (λ (n : ℕ). n + 1) e ∙ sym (passed_counts state.phase mode depth state goes)

  pub counted : {log : List Arrival} {done : Done} {s : Situation} → Heard bundle bound log done s
      → s.moments ≡ moments_so_far s.state
  counted Opens = refl
  counted (AnswersOwn h line rest begins response own) = counted h
  counted (Answers h line rest begins own none unended) =
      counted h ∙ sym (answer_counts (state_of h) line none)
  counted (Departs h line rest begins own going sets_out) = counted h
  counted (Comes h partial free a number some) = counted h
  counted (Ceases h partial free a number none) = counted h
  counted (Fills h none full) = counted h
  counted (Passes going stage h may free on) =
      one_more _ (mode_of going) (depth_from going) (state_of h) (counted h) (on_not _ on)
  counted (PassesTo going stage h may free on a number some) =
      one_more _ (mode_of going) (depth_from going) (state_of h) (counted h) (on_not _ on)
  counted (PassesToEnd going stage h may free on a number none) =
      one_more _ (mode_of going) (depth_from going) (state_of h) (counted h) (on_not _ on)
  counted (Stops going stage h may free halts) =
      one_more _ (mode_of going) (depth_from going) (state_of h) (counted h) (stop_not _ halts)
  counted (Ends going stage h may free ends) =
      let state = state_of h in
      let plain = (follows bundle bound h).plain in
      counted h
      ∙ sym (ended_counts state.phase (mode_of going) (depth_from going) state refl plain plain.placed ends)
  counted (PassesLimit going stage h may full) = counted h
  counted (TellsStatus going h line rest begins other status) = counted h
  counted (HearsBreak going h line rest begins breaks) = counted h
  counted (Arrives going h) = counted h
  counted (Leaves going stage h) =
      counted h ∙ sym (ap moments_so_far (quiet_is (state_of h) (follows bundle bound h).before))
