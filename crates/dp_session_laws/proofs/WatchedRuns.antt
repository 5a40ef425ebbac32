-- Watching a program changes nothing of it.
use Rattle.std.proofs.Common.{◌≡◌, ◌≢◌, ℕ, suc, ◌+◌, ◌≤◌, true, List, [], ◌∷◌, ◌++◌, length, drop, Option, Some, None, refl, sym, ap, subst, ◌∙◌, arith, add-one, append_assoc, append-nil}
use Rattle.std.specs.Prelude.{if◌then◌else◌, nat_eq, option_map, slice_get, unwrap_or, Bool, Result, Ok, Err}
use Rattle.std.specs.Option.{option_map_or}
use Rattle.std.proofs.lemmas.List.{drop_all}
use Rattle.std.proofs.Math.Seq.{drop-append_seam}
use Rattle.dp_tree.specs.declared.bundle.Bundle.{Bundle}
use Rattle.dp_command.specs.declared.command.Continuation.{Continuation}
use Rattle.dp_command.specs.declared.command.Finish.TheVariants.{Stop, Detach}
use Rattle.dp_command.specs.declared.command.Request.{Request}
use Rattle.dp_command.specs.declared.command.Request.TheVariants.{Session, Breakpoints, Look, Write}
use Rattle.dp_command.specs.declared.command.SessionRequest.{SessionRequest}
use Rattle.dp_command.specs.declared.command.SessionRequest.TheVariants as request
use Rattle.dp_command.specs.declared.command.Stream.TheVariants.{Stdout, Stderr}
use Rattle.dp_command.specs.declared.command.StreamMode.{StreamMode}
use Rattle.dp_command.specs.declared.command.StreamMode.TheVariants.{Disable, Copy, Redirect}
use Rattle.dp_command.specs.declared.line.Line.{Line}
use Rattle.dp_command.specs.declared.names.CommandName.{CommandName}
use Rattle.dp_command.specs.Commands.{command_as, request_of}
use Rattle.dp_command.specs.Lines.{line_of}
use Rattle.dp_command.specs.Names.{name_of}
use Rattle.dp_command.specs.Refusals.{id_of}
use Rattle.dp_features.specs.Features.{Features}
use Rattle.dp_meaning.specs.declared.writes.NumberedWrite.{NumberedWrite}
use Rattle.dp_meaning.specs.declared.writes.Write.{Write as ProgramWrite}
use Rattle.dp_meaning.specs.Trace.{now, outcome, output, program_trace}
use Rattle.dp_actions.specs.Setting.{Setting}
use Rattle.dp_meaning.specs.Writes.{evaluation_setting, one_write, written, written_by, writes_of}
use Rattle.dp_packet.specs.declared.error_codes.ErrorCode.{ErrorCode}
use Rattle.dp_packet.specs.declared.packet.Response.{Response}
use Rattle.dp_packet.specs.Parts.{Text}
use Rattle.dp_conversation.specs.Folds.{Reply, unless_ended, followed, replies}
use Rattle.dp_state.specs.declared.moments.Moment.{Moment}
use Rattle.dp_break.specs.Tables.{Table}
use Rattle.dp_state.specs.declared.state.State.{State as ProgramState}
use Rattle.dp_state.specs.States.{opening as first_state}
use Rattle.dp_write_commands.specs.Requests.{requested_write}
use Rattle.dp_write_commands.specs.Responses.{write_response}
use Rattle.dp_engine.specs.declared.session.SessionEnd.{SessionEnd}
use Rattle.dp_engine.specs.declared.session.SessionEnd.TheVariants.{Finished, Killed, Detached}
use Rattle.dp_engine.specs.declared.states.Phase.{Phase}
use Rattle.dp_engine.specs.declared.states.Phase.TheVariants.{Starting, Break, Stopping}
use Rattle.dp_engine.specs.Answers.{answer, at_end, at_stop, continued, gone_on, kept_if, moved, performed, session_done, to_program, turn, turn_by_command, turn_of, with_write}
use Rattle.dp_engine.specs.Refusals.{of_command, refusal_of_line}
use Rattle.dp_engine.specs.Served.{answers_to, ending_after, ending_with, own_with, rest_after, writes_with}
use Rattle.dp_conversation.specs.Growth.{Begins}
use Rattle.dp_session_laws.specs.AllOutput.{IsRunWith, NeverRedirects, UnlessEnded, all_output_with, writing}
use Rattle.dp_engine.specs.Session.{State, breaks_of, depth_at, opening, outcome_of, output_by, output_so_far, program_by, program_of, trace_of, unwritten, whole_output, written_between}
use Rattle.dp_session_laws.specs.Shown.{IsInRun, IsInRunAt}
use Rattle.dp_engine.specs.States.{allows}
use Rattle.dp_engine.specs.NextStop.{stop_past}
use Rattle.dp_engine.specs.inner.Turns.{IsTimely}
use Rattle.dp_engine.specs.Stops.{stops}
use Rattle.dp_engine.proofs.NewWrites.{own_number, same_pair}
use Rattle.dp_session_laws.proofs.Outputs.{begins_all, begins_same, stays_written, with_writes, write_adds, writes_add}
use Rattle.dp_engine.proofs.RefusalLaws.{allowed, writes_at_break}
use Rattle.dp_engine.proofs.StopMoments.{stop_is_there}

-- ---- what a turn does to a session: nothing, it sets features or breakpoints, or the program goes on

pub data Moves (state : State) : State → Type 0 where
  stays : Moves state state
  sets : (features : Features) → Moves state (record state { features = features })
  directs : (mode : StreamMode) → Moves state (record state { stdout = mode })
  holds : (breaks : Table) → Moves state (record state { breaks = breaks })
  writes_on : (w : ProgramWrite) → state.phase ≡ Break → Moves state (with_write w state)
  goes : (mode : Continuation) → state.phase ≢ Stopping → Moves state (gone_on mode state)

not_stopping : (phase other : Phase) → other ≢ Stopping → phase ≡ other → phase ≢ Stopping
not_stopping phase other n e f = n (sym e ∙ f)

continued_moves : (command id : Text) (mode : Continuation) (phase : Phase) (state : State) → state.phase ≡ phase
    → Moves state (continued command id mode phase state).next
continued_moves command id mode Starting state e = goes mode (not_stopping state.phase Starting (λ f. cc) e)
continued_moves command id mode Break state e = goes mode (not_stopping state.phase Break (λ f. cc) e)
continued_moves command id mode Stopping state e = stays

session_moves : (command id : Text) (r : SessionRequest) (state : State)
    → Moves state (session_done command id r state).next
session_moves command id (request.FeatureSet name value) state = sets _
session_moves command id (request.Continue mode) state = continued_moves command id mode state.phase state refl
session_moves command id (request.Finish Stop) state = stays
session_moves command id (request.Finish Detach) state = stays
session_moves command id (request.Redirect Stdout mode) state = directs mode
session_moves command id (request.Redirect Stderr mode) state = stays
session_moves command id r state = stays

done_moves : (command id : Text) (r : Request) (state : State) → IsTimely state.phase r
    → Moves state (performed command id r state).next
done_moves command id (Session r) state h = session_moves command id r state
done_moves command id (Breakpoints r) state h = holds _
done_moves command id (Look r) state h = stays
done_moves command id (Write r) state h =
    by (write_response state.bundle state.features (program_of state) command id r)
    (requested_write (program_of state) r) where
      by : (told : Result Response ErrorCode) (w : Result ProgramWrite ErrorCode) → Moves state (kept_if told w state)
      by (Ok r) (Ok w) = writes_on w h
      by (Ok r) (Err code) = stays
      by (Err code) w = stays

asked_moves : (line : Line) (name : Option CommandName) (state : State) → of_command (allows state.phase) name ≡ true
    → Moves state (turn_by_command line.name (id_of line) (option_map (command_as line) name) state).next
asked_moves line None state a = stays
asked_moves line (Some name) state a =
    done_moves line.name (id_of line) (request_of name line) state (writes_at_break name line state.phase a)

turn_of_moves : (line : Option Line) (code : Option ErrorCode) (state : State) → refusal_of_line state line ≡ code
    → Moves state (turn_of line code state).next
turn_of_moves line (Some code) state e = stays
turn_of_moves None None state e = absurd cc
turn_of_moves (Some line) None state e = asked_moves line (name_of line.name) state (allowed state line e).0

pub turn_moves : (state : State) (bytes : List ℕ) → Moves state (turn state bytes).next
unfolding turn
turn_moves state bytes = turn_of_moves (line_of bytes) (refusal_of_line state (line_of bytes)) state refl

-- ---- writes

-- a write is made last of its number
written_more : (setting : Setting) (ws : List NumberedWrite) (w : NumberedWrite) (s : ProgramState)
    → written_by setting (ws ++ w ∷ []) w.moment s ≡ one_write setting w.write (written_by setting ws w.moment s)
written_more setting [] w s = ap (λ (b : Bool). if b then one_write setting w.write s else s) (own_number w.moment)
written_more setting (v ∷ ws) w s =
    written_more setting ws w (if nat_eq v.moment w.moment then one_write setting v.write s else s)

written_at : (bundle : Bundle) (ws : List NumberedWrite) (w : NumberedWrite) (n : ℕ) (s : ProgramState) → w.moment ≡ n
    → written (writes_of bundle (ws ++ w ∷ [])) n s ≡ one_write (evaluation_setting bundle) w.write
    (written (writes_of bundle ws) n s)
written_at bundle ws w n s is =
    ap (λ (k : ℕ). written_by (evaluation_setting bundle) (ws ++ w ∷ []) k s) (sym is)
    ∙ written_more (evaluation_setting bundle) ws w s
    ∙ ap (λ (k : ℕ). one_write (evaluation_setting bundle) w.write (written_by (evaluation_setting bundle) ws k s)) is

-- ---- lists

begins_none : (l : List ℕ) → Begins [] l
begins_none l = (l, refl)

-- what follows the first list in the second, and what follows the second in the third
pieces_join : (a b c : List ℕ) → Begins a b → Begins b c → drop (length a) b ++ drop (length b) c ≡ drop (length a) c
pieces_join a b c p q =
    let first : drop (length a) b ≡ p.0 = ap (drop (length a)) p.1 ∙ drop-append_seam a p.0 in
    let second : drop (length b) c ≡ q.0 = ap (drop (length b)) q.1 ∙ drop-append_seam b q.0 in
    let whole : drop (length a) c ≡ p.0 ++ q.0 =
    ap (drop (length a)) (q.1 ∙ ap (λ (x : List ℕ). x ++ q.0) p.1 ∙ append_assoc a p.0 q.0)
    ∙ drop-append_seam a (p.0 ++ q.0) in
    (λ i. first i ++ second i) ∙ sym whole

pub whole_piece : (a b : List ℕ) → Begins a b → a ++ drop (length a) b ≡ b
whole_piece a b p = ap (λ (x : List ℕ). a ++ x) (ap (drop (length a)) p.1 ∙ drop-append_seam a p.0) ∙ sym p.1

-- features change nothing of the output
features_apart : (phase : Phase) (state : State) (features : Features)
    → output_by phase state ≡ output_by phase (record state { features = features })
features_apart Starting state features = refl
features_apart Break state features = refl
features_apart Stopping state features = refl

-- so does where it goes
modes_apart : (phase : Phase) (state : State) (mode : StreamMode)
    → output_by phase state ≡ output_by phase (record state { stdout = mode })
modes_apart Starting state mode = refl
modes_apart Break state mode = refl
modes_apart Stopping state mode = refl

-- so do breakpoints
breaks_apart : (phase : Phase) (state : State) (breaks : Table)
    → output_by phase state ≡ output_by phase (record state { breaks = breaks })
breaks_apart Starting state breaks = refl
breaks_apart Break state breaks = refl
breaks_apart Stopping state breaks = refl

-- ---- where output goes is no matter of what the session knows

abbrev AreSame : Reply State SessionEnd → Reply State SessionEnd → Type 0
AreSame a b = (a.state ≡ b.state) × (a.ended ≡ b.ended)

same_replies : (state : State) (lines : List (List ℕ))
    → AreSame (replies answer state lines) (replies writing state lines)
same_replies state [] = (refl, refl)
same_replies state (line ∷ lines) = cases (answer state line).ended (same_replies (answer state line).state lines) where
  rest : Reply State SessionEnd
  rest = replies answer (answer state line).state lines

  written : Reply State SessionEnd
  written = replies writing (answer state line).state lines

  cases : (ended : Option SessionEnd) → AreSame rest written
      → AreSame (unless_ended ended (answer state line) rest) (unless_ended ended (writing state line) written)
  cases (Some end) later = (refl, refl)
  cases None later = later

-- where it does not go to the IDE alone, all of it goes to the program's own output
printed_whole : (mode : StreamMode) (output : List ℕ) → mode ≢ Redirect → to_program mode output ≡ output
printed_whole Disable output h = refl
printed_whole Copy output h = refl
printed_whole Redirect output h = absurd (h refl)

answer_prints : (state : State) (line : List ℕ) → state.stdout ≢ Redirect
    → (answer state line).program ≡ (writing state line).program
unfolding answer
answer_prints state line h = printed_whole state.stdout (written_between state (turn state line).next) h

own_programs : (state : State) (lines : List (List ℕ)) → NeverRedirects state lines
    → (replies answer state lines).program ≡ (replies writing state lines).program
own_programs state [] h = refl
own_programs state (line ∷ lines) h =
    cases (answer state line).ended h.1 (own_programs (answer state line).state lines) where
      rest : Reply State SessionEnd
      rest = replies answer (answer state line).state lines

      written : Reply State SessionEnd
      written = replies writing (answer state line).state lines

      cases : (ended : Option SessionEnd) → UnlessEnded ended (NeverRedirects (answer state line).state lines)
          → (NeverRedirects (answer state line).state lines → rest.program ≡ written.program)
          → (unless_ended ended (answer state line) rest).program ≡
          (unless_ended ended (writing state line) written).program
      cases (Some end) none later = answer_prints state line h.0
      cases None more later =
          let first = answer_prints state line h.0 in let second = later more in λ i. first i ++ second i

-- ---- sessions

module _ (bundle : Bundle) (bound : ℕ) where
  abbrev pub moments_with : List NumberedWrite → List (Moment × ProgramState)
  moments_with ws = (program_trace bundle bound ws).moments

  -- where the program stands: before its first moment, at a moment, or at its end
  abbrev pub IsPlaced : List NumberedWrite → Phase → ℕ → Type 0
  IsPlaced ws Starting moment = moment ≡ 0
  IsPlaced ws Break moment =
      (k : ℕ) × (p : Moment × ProgramState) × (moment ≡ k + 1) × (slice_get (moments_with ws) k ≡ Some p)
  IsPlaced ws Stopping moment = Unit {0}

  pub record IsPlain (state : State) : Type 0 where
    pub of : state.bundle ≡ bundle
    pub within : state.bound ≡ bound
    pub placed : IsPlaced state.writes state.phase state.moment

  -- the session's values
  at_values : (state : State) → IsPlain state → (ws : List NumberedWrite) (moment : ℕ)
      → option_map_or (λ (s : ProgramState). s.output) (now state.bundle state.bound ws moment) [] ≡ option_map_or
      (λ (s : ProgramState). s.output) (now bundle bound ws moment) []
  at_values state h ws moment =
      λ i. option_map_or (λ (s : ProgramState). s.output) (now (h.of i) (h.within i) ws moment) []

  pub whole_is : (state : State) → IsPlain state → whole_output state ≡ output bundle bound state.writes
  whole_is state h = λ i. output (h.of i) (h.within i) state.writes

  pub outcome_is : (state : State) → IsPlain state → outcome_of state ≡ outcome bundle bound state.writes
  outcome_is state h = λ i. outcome (h.of i) (h.within i) state.writes

  -- the output at a moment, after its writes
  abbrev output_after : List NumberedWrite → ℕ → ProgramState → List ℕ
  output_after ws number s = (with_writes bundle bound ws number s).output

  output_past : (ws : List NumberedWrite) (k : ℕ) (p : Moment × ProgramState) → slice_get (moments_with ws) k ≡ Some p
      → option_map_or (λ (s : ProgramState). s.output) (now bundle bound ws (k + 1)) [] ≡ output_after ws (suc k) p.1
  output_past ws k p is =
      ap (λ (n : ℕ). option_map_or (λ (s : ProgramState). s.output) (now bundle bound ws n) []) (add-one k)
      ∙ ap (λ (o : Option (Moment × ProgramState)). option_map_or (λ (s : ProgramState). s.output)
      (option_map (λ (m : Moment × ProgramState). with_writes bundle bound ws (suc k) m.1) o) []) is

  -- what is written so far, in a break
  in_break : (state : State) → IsPlain state → (k : ℕ) (p : Moment × ProgramState) → state.moment ≡ k + 1
      → slice_get (moments_with state.writes) k ≡ Some p
      → output_by Break state ≡ output_after state.writes (suc k) p.1
  in_break state h k p e is =
      at_values state h state.writes state.moment
      ∙ ap (λ (n : ℕ). option_map_or (λ (s : ProgramState). s.output) (now bundle bound state.writes n) []) e
      ∙ output_past state.writes k p is

  -- and before the first moment
  in_starting : (state : State) → IsPlain state → state.moment ≡ 0 → output_by Starting state ≡ []
  in_starting state h e =
      at_values state h state.writes state.moment
      ∙ ap (λ (n : ℕ). option_map_or (λ (s : ProgramState). s.output) (now bundle bound state.writes n) []) e

  pub so_far_begins : (phase : Phase) (state : State) → IsPlain state → IsPlaced state.writes phase state.moment
      → Begins (output_by phase state) (output bundle bound state.writes)
  so_far_begins Starting state h placed =
      subst (λ (o : List ℕ). Begins o (output bundle bound state.writes)) (sym (in_starting state h placed))
      (begins_none (output bundle bound state.writes))
  so_far_begins Break state h placed =
      subst (λ (o : List ℕ). Begins o (output bundle bound state.writes))
      (sym (in_break state h placed.0 placed.1 placed.2 placed.3))
      (stays_written bundle bound state.writes placed.0 placed.1 placed.3).end
  so_far_begins Stopping state h placed =
      subst (λ (o : List ℕ). Begins o (output bundle bound state.writes)) (sym (whole_is state h))
      (begins_same (output bundle bound state.writes))

  -- ---- the output grows from turn to turn

  trace_is : (state : State) → IsPlain state → (trace_of state).moments ≡ moments_with state.writes
  trace_is state h = λ i. (program_trace (h.of i) (h.within i) state.writes).moments

  -- the output at the moment at which the program stops
  stopped_output : (state : State) → IsPlain state → (k : ℕ) (m : Moment × ProgramState) (j : ℕ) → j ≡ k + 1
      → slice_get (moments_with state.writes) k ≡ Some m
      → output_so_far (at_stop state j) ≡ output_after state.writes (suc k) m.1
  stopped_output state h k m j e is =
      at_values state h state.writes j
      ∙ ap (λ (n : ℕ). option_map_or (λ (s : ProgramState). s.output) (now bundle bound state.writes n) []) e
      ∙ output_past state.writes k m is

  later_begins : (phase : Phase) (state : State) → IsPlain state → phase ≢ Stopping
      → IsPlaced state.writes phase state.moment → (k : ℕ) (m : Moment × ProgramState) → state.moment ≤ k
      → slice_get (moments_with state.writes) k ≡ Some m → Begins (output_by phase state) m.1.output
  later_begins Starting state h not_over placed k m late is =
      subst (λ (o : List ℕ). Begins o m.1.output) (sym (in_starting state h placed)) (begins_none m.1.output)
  later_begins Break state h not_over placed k m late is =
      subst (λ (o : List ℕ). Begins o m.1.output) (sym (in_break state h placed.0 placed.1 placed.2 placed.3))
      ((stays_written bundle bound state.writes placed.0 placed.1 placed.3).later k m is
      (omega (arith, late, placed.2)))
  later_begins Stopping state h not_over placed k m late is = absurd (not_over refl)

  pub record Grows (state next : State) : Type 0 where
    pub is_plain : IsPlain next
    pub begins : Begins (output_so_far state) (output_so_far next)

  ended_grows : (state : State) → IsPlain state → Grows state (at_end state)
  ended_grows state h = record {
    is_plain = record { of = h.of; within = h.within; placed = tt };
    begins = subst (Begins (output_so_far state)) (sym (whole_is state h)) (so_far_begins state.phase state h h.placed);
  }

  -- it stops by a test, past the current moment
  abbrev StopsBy : (Moment → Bool) → State → Option ℕ → Type 0
  StopsBy test state stop =
      stop_past test state.bundle state.bound state.writes state.breaks.held state.moment ≡ stop

  stopped_grows : (state : State) → IsPlain state → state.phase ≢ Stopping → (test : Moment → Bool) (j : ℕ)
      → StopsBy test state (Some j) → Grows state (at_stop state j)
  stopped_grows state h not_over test j e =
      let there = stop_is_there test state.bundle state.breaks.held state.moment (trace_of state).moments j e in
      let is : slice_get (moments_with state.writes) there.0 ≡ Some there.1 = ap
      (λ (l : List (Moment × ProgramState)). slice_get l there.0) (sym (trace_is state h)) ∙ there.4 in
      let come = output_after state.writes (suc there.0) there.1.1 in
      record {
        is_plain = record { of = h.of; within = h.within; placed = (there.0, there.1, there.2, is) };
        begins =
            subst (Begins (output_so_far state)) (sym (stopped_output state h there.0 there.1 j there.2 is))
            (begins_all (output_so_far state) there.1.1.output come
            (later_begins state.phase state h not_over h.placed there.0 there.1 there.3 is)
            (writes_add bundle state.writes (suc there.0) there.1.1));
      }

  moved_grows : (state : State) → IsPlain state → state.phase ≢ Stopping → (test : Moment → Bool) (stop : Option ℕ)
      → StopsBy test state stop → Grows state (moved state stop)
  moved_grows state h not_over test None e = ended_grows state h
  moved_grows state h not_over test (Some j) e = stopped_grows state h not_over test j e

  -- one write more, in a break
  written_grows : (state : State) → IsPlain state → (w : ProgramWrite) → state.phase ≡ Break
      → Grows state (with_write w state)
  written_grows state h w e = by state.phase e h.placed where
    next : State
    next = with_write w state

    by : (phase : Phase) → phase ≡ Break → IsPlaced state.writes phase state.moment → Grows state next
    by Starting f placed = absurd cc
    by Stopping f placed = absurd cc
    by Break f placed =
        let k = placed.0 in
        let p = placed.1 in
        let n : NumberedWrite = record { moment = state.moment; write = w } in
        let number : n.moment ≡ suc k = placed.2 ∙ add-one k in
        let is : slice_get (moments_with next.writes) k ≡ Some p = sym (same_pair bundle bound state.writes n k number)
        ∙ placed.3 in
        let there : IsPlaced next.writes Break next.moment = (k, p, placed.2, is) in
        let plain : IsPlain next = record {
          of = h.of;
          within = h.within;
          placed = subst
              (λ (q : Phase). IsPlaced next.writes q next.moment) (sym e) there;
        } in
        let before : output_so_far state ≡ output_after state.writes (suc k) p.1 = ap
        (λ (q : Phase). output_by q state) e ∙ in_break state h k p placed.2 placed.3 in
        let after : output_so_far next ≡ output_after next.writes (suc k) p.1 = ap (λ (q : Phase). output_by q next) e
        ∙ in_break next plain k p placed.2 is in
        let more : with_writes bundle bound next.writes (suc k) p.1 ≡ one_write (evaluation_setting bundle) w
        (with_writes bundle bound state.writes (suc k) p.1) =
        written_at bundle state.writes n (suc k) p.1 number in
        record {
          is_plain = plain;
          begins =
              subst (Begins (output_so_far state)) (sym (after ∙ ap (λ (s : ProgramState). s.output) more))
              (subst (λ (o : List ℕ). Begins o (one_write (evaluation_setting bundle) w
              (with_writes bundle bound state.writes (suc k) p.1)).output) (sym before)
              (write_adds bundle w (with_writes bundle bound state.writes (suc k) p.1)));
        }

  -- with other breakpoints
  with_breaks : (state next : State) (breaks : Table) → Grows state next → Grows state (record next { breaks = breaks })
  with_breaks state next breaks g = record {
    is_plain = record { of = g.is_plain.of; within = g.is_plain.within; placed = g.is_plain.placed };
    begins = subst (Begins (output_so_far state)) (breaks_apart next.phase next breaks) g.begins;
  }

  with_table : (state : State) (breaks : Table) (stop : Option ℕ) → Grows state (moved state stop)
      → Grows state (moved (record state { breaks = breaks }) stop)
  with_table state breaks None g = with_breaks state (at_end state) breaks g
  with_table state breaks (Some j) g = with_breaks state (at_stop state j) breaks g

  -- it goes on, by a test and from any moment
  pub gone_grows : (state : State) → IsPlain state → state.phase ≢ Stopping → (test : Moment → Bool) (breaks : Table)
      → Grows state (moved (record state { breaks = breaks })
      (stop_past test state.bundle state.bound state.writes state.breaks.held state.moment))
  gone_grows state h not_over test breaks =
      with_table state breaks (stop_past test state.bundle state.bound state.writes state.breaks.held state.moment)
      (moved_grows state h not_over test
      (stop_past test state.bundle state.bound state.writes state.breaks.held state.moment) refl)

  pub move_grows : (state next : State) → IsPlain state → Moves state next → Grows state next
  move_grows state _ h stays = record { is_plain = h; begins = begins_same (output_so_far state) }
  move_grows state _ h (sets features) = record {
    is_plain = record { of = h.of; within = h.within; placed = h.placed };
    begins =
        subst (Begins (output_so_far state)) (features_apart state.phase state features)
        (begins_same (output_so_far state));
  }
  move_grows state _ h (directs mode) = record {
    is_plain = record { of = h.of; within = h.within; placed = h.placed };
    begins =
        subst (Begins (output_so_far state)) (modes_apart state.phase state mode) (begins_same (output_so_far state));
  }
  move_grows state _ h (holds breaks) =
      with_breaks state state breaks (record { is_plain = h; begins = begins_same (output_so_far state) })
  move_grows state _ h (writes_on w e) = written_grows state h w e
  move_grows state _ h (goes mode not_over) =
      gone_grows state h not_over (stops mode (depth_at state)) (breaks_of mode state)

  -- ---- over all commands

  -- what a session has shown is what the program has written from its first state to its last
  record Shows (state : State) (r : Reply State SessionEnd) : Type 0 where
    is_plain : IsPlain r.state
    begins : Begins (output_so_far state) (output_so_far r.state)
    shown : r.program ≡ drop (length (output_so_far state)) (output_so_far r.state)

  writing_shows : (state : State) (line : List ℕ) → IsPlain state → Shows state (writing state line)
  unfolding answer
  writing_shows state line h =
      let grown = move_grows state (turn state line).next h (turn_moves state line) in
      record { is_plain = grown.is_plain; begins = grown.begins; shown = refl }

  followed_shows : (state : State) (first rest : Reply State SessionEnd) → Shows state first → Shows first.state rest
      → Shows state (followed first rest)
  followed_shows state first rest p q = cases first.ended where
    cases : (ended : Option SessionEnd) → Shows state (unless_ended ended first rest)
    cases (Some end) = p
    cases None = record {
      is_plain = q.is_plain;
      begins =
          begins_all (output_so_far state) (output_so_far first.state) (output_so_far rest.state) p.begins q.begins;
      shown =
          (λ i. p.shown i ++ q.shown i)
          ∙ pieces_join (output_so_far state) (output_so_far first.state) (output_so_far rest.state) p.begins q.begins;
    }

  replies_show : (state : State) (lines : List (List ℕ)) → IsPlain state → Shows state (replies writing state lines)
  replies_show state [] h = record {
    is_plain = h;
    begins = begins_same (output_so_far state);
    shown = sym (drop_all (length (output_so_far state)) (output_so_far state) (omega arith));
  }
  replies_show state (line ∷ lines) h =
      let first = writing_shows state line h in
      followed_shows state (writing state line) (replies writing (answer state line).state lines) first
      (replies_show (answer state line).state lines first.is_plain)

  pub opening_plain : IsPlain (opening bundle bound)
  opening_plain = record { of = refl; within = refl; placed = refl }

  -- where a session stands
  pub stands_by : (phase : Phase) (state : State) → IsPlain state → IsPlaced state.writes phase state.moment
      → IsInRunAt phase bundle bound state.writes state.moment (program_by phase state)
  stands_by Starting state h placed =
      (placed, (λ i. unwrap_or (now (h.of i) (h.within i) state.writes (placed i)) (first_state (h.of i))))
  stands_by Break state h placed =
      let k = placed.0 in
      let come : ProgramState = with_writes bundle bound state.writes (suc k) placed.1.1 in
      let is : now bundle bound state.writes state.moment ≡ Some come =
      ap (λ (n : ℕ). now bundle bound state.writes n) (placed.2 ∙ add-one k)
      ∙ ap (λ (o : Option (Moment × ProgramState)). option_map
      (λ (m : Moment × ProgramState). with_writes bundle bound state.writes (suc k) m.1) o) placed.3 in
      let same : program_by Break state ≡ come =
      (λ i. unwrap_or (now (h.of i) (h.within i) state.writes state.moment) (first_state (h.of i)))
      ∙ ap (λ (o : Option ProgramState). unwrap_or o (first_state bundle)) is in
      (omega (arith, placed.2), is ∙ ap (λ (s : ProgramState). Some s) (sym same))
  stands_by Stopping state h placed = λ i. (program_trace (h.of i) (h.within i) state.writes).state

  pub stands : (lines : List (List ℕ)) → IsInRun bundle bound (answers_to bundle bound lines).state
  stands lines =
      let start = opening bundle bound in
      let plain = (replies_show start lines opening_plain).is_plain in
      let r = replies writing start lines in
      let there : IsInRun bundle bound r.state = record {
        of = plain.of;
        within = plain.within;
        by = stands_by
            r.state.phase r.state plain plain.placed;
      } in
      subst (IsInRun bundle bound) (sym (same_replies start lines).0) there

  -- the program goes on to its end
  goes_on_whole : (state : State) (r : Reply State SessionEnd) → output_so_far state ≡ [] → Shows state r
      → r.program ++ unwritten r.state ≡ output bundle bound r.state.writes
  goes_on_whole state r none s =
      let program : r.program ≡ output_so_far r.state = s.shown
      ∙ ap (λ (o : List ℕ). drop (length o) (output_so_far r.state)) none in
      let whole = whole_is r.state s.is_plain in
      (λ i. program i ++ drop (length (output_so_far r.state)) (whole i))
      ∙ whole_piece (output_so_far r.state) (output bundle bound r.state.writes)
      (so_far_begins r.state.phase r.state s.is_plain s.is_plain.placed)

  front_of_whole : (state : State) (r : Reply State SessionEnd) → output_so_far state ≡ [] → Shows state r
      → Begins (r.program ++ []) (output bundle bound r.state.writes)
  front_of_whole state r none s =
      let program : r.program ++ [] ≡ output_so_far r.state = append-nil r.program ∙ s.shown
      ∙ ap (λ (o : List ℕ). drop (length o) (output_so_far r.state)) none in
      subst (λ (o : List ℕ). Begins o (output bundle bound r.state.writes)) (sym program)
      (so_far_begins r.state.phase r.state s.is_plain s.is_plain.placed)

  abbrev own_by : Reply State SessionEnd → Option SessionEnd → List ℕ
  own_by r ended = r.program ++ rest_after ended r.state

  run_by : (state : State) (r : Reply State SessionEnd) → output_so_far state ≡ [] → Shows state r
      → (ended : Option SessionEnd)
      → IsRunWith bundle bound r.state.writes (own_by r ended) (ending_after ended r.state)
  run_by state r none s None = (goes_on_whole state r none s, outcome_is r.state s.is_plain)
  run_by state r none s (Some Detached) = (goes_on_whole state r none s, outcome_is r.state s.is_plain)
  run_by state r none s (Some (Finished o)) = (goes_on_whole state r none s, outcome_is r.state s.is_plain)
  run_by state r none s (Some Killed) = front_of_whole state r none s

  pub is_run : (lines : List (List ℕ)) → IsRunWith bundle bound (writes_with bundle bound lines)
      (all_output_with bundle bound lines) (ending_with bundle bound lines)
  is_run lines =
      let start = opening bundle bound in
      let r = replies writing start lines in
      let same = same_replies start lines in
      let run = run_by start r refl (replies_show start lines opening_plain) r.ended in
      subst (λ (state : State). IsRunWith bundle bound state.writes (all_output_with bundle bound lines)
      (ending_after (answers_to bundle bound lines).ended state)) (sym same.0)
      (subst (λ (ended : Option SessionEnd). IsRunWith bundle bound r.state.writes (all_output_with bundle bound lines)
      (ending_after ended r.state)) (sym same.1) run)

  pub watched_run : (lines : List (List ℕ)) → writes_with bundle bound lines ≡ []
      → IsRunWith bundle bound [] (all_output_with bundle bound lines) (ending_with bundle bound lines)
  watched_run lines none =
      subst (λ (ws : List NumberedWrite). IsRunWith bundle bound ws (all_output_with bundle bound lines)
      (ending_with bundle bound lines)) none (is_run lines)

  pub own_is_all : (lines : List (List ℕ)) → NeverRedirects (opening bundle bound) lines
      → own_with bundle bound lines ≡ all_output_with bundle bound lines
  own_is_all lines h =
      let start = opening bundle bound in
      let same = same_replies start lines in
      λ i. own_programs start lines h i ++ rest_after (same.1 i) (same.0 i)
