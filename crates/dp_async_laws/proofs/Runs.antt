-- Wherever what it heard has led a session that listens it stands in its program's run, and what it delivers is what
-- the program has written.
use Rattle.std.proofs.Common.{◌≡◌, ◌≢◌, ℕ, Bool, true, false, if◌then◌else◌, List, [], ◌∷◌, ◌++◌, length, drop, Option, Some, None, refl, sym, ap, subst, ◌∙◌, append_assoc, append-nil, codes}
use Rattle.std.specs.Prelude.{is_none, nat_le}
use Rattle.std.specs.List.{AllByRecursion, flat_map}
use Rattle.std.proofs.lemmas.List.Concat.{flat_map-append}
use Rattle.dp_async.specs.declared.arrival.Arrival.{Arrival}
use Rattle.dp_async.specs.Heard.{Answers, AnswersOwn, Arrives, Begins as Opens, Ceases, Comes, Departs, Done, Ends, Fills, GoesOn, Heard, HeardTo, HearsBreak, IsEnded, IsRead, Leaves, MayGoOn, OnItsWay, Passes, PassesLimit, PassesTo, PassesToEnd, SetOut, Situation, Stage, Stopped, Stops, TellsStatus, arrival_of, left_alone, on_its_way, stage_after, with_reply}
use Rattle.dp_async.specs.Listens.{break_refusal, break_response, running_response}
use Rattle.dp_async_laws.specs.Delivered.{Delivery, IsPrinted, Notifies, Responds, ReportsRun, Writes, packets_in, printed_in, written_in}
use Rattle.dp_async_laws.proofs.Quiet.{quiet_off, quieted}
use Rattle.dp_command.specs.declared.command.Continuation.{Continuation}
use Rattle.dp_command.specs.declared.command.StreamMode.{StreamMode}
use Rattle.dp_command.specs.declared.command.StreamMode.TheVariants.{Disable, Copy, Redirect}
use Rattle.dp_command.specs.declared.line.Line.{Line}
use Rattle.dp_command.specs.Lines.{line_of}
use Rattle.dp_conversation.specs.Growth.{Begins}
use Rattle.dp_engine.specs.declared.passes.Going.{Going}
use Rattle.dp_engine.specs.declared.passes.Passing.TheVariants.{On}
use Rattle.dp_engine.specs.declared.session.SessionEnd.{SessionEnd}
use Rattle.dp_engine.specs.declared.session.SessionEnd.TheVariants.{Finished, Killed, Detached}
use Rattle.dp_engine.specs.declared.states.Phase.{Phase}
use Rattle.dp_engine.specs.declared.states.Phase.TheVariants.{Starting, Break, Stopping}
use Rattle.dp_engine.specs.Answers.{Turn, answer, moved, news, sent, state_response, to_ide, to_program, turn}
use Rattle.dp_engine.specs.NextStop.{every, stop_past, stops_next, table_past}
use Rattle.dp_engine.specs.Passes.{SetsOut, addressee_of, depth_from, mode_of, passed, passed_by, passing, passing_at, passing_by, shown_before}
use Rattle.dp_engine.specs.Responses.{notice_text, response_text}
use Rattle.dp_engine.specs.Served.{ending_after, rest_after}
use Rattle.dp_engine.specs.Session.{State, opening, output_so_far, unwritten, written_between}
use Rattle.dp_engine.specs.Stops.{stops}
use Rattle.dp_engine.proofs.PassedMoments.{goes_before}
use Rattle.dp_meaning.specs.declared.writes.NumberedWrite.{NumberedWrite}
use Rattle.dp_meaning.specs.Trace.{output}
use Rattle.dp_packet.specs.declared.packet.Notify.{Notify}
use Rattle.dp_packet.specs.declared.packet.Response.{Response}
use Rattle.dp_packet.specs.Parts.{Text}
use Rattle.dp_session_laws.specs.AllOutput.{IsRunWith}
use Rattle.dp_session_laws.specs.Shown.{IsInRun}
use Rattle.dp_session_laws.proofs.Outputs.{begins_all, begins_same}
use Rattle.dp_session_laws.proofs.WatchedRuns.{Grows, IsPlain, gone_grows, move_grows, opening_plain, outcome_is, so_far_begins, stands_by, turn_moves, whole_is, whole_piece}
use Rattle.dp_tree.specs.declared.bundle.Bundle.{Bundle}
use Rattle.dp_wire.specs.Frames.{packet_limit}

-- ---- what is delivered

pub record IsDelivered (deliveries : List Delivery) (packets : List Text) (program : List ℕ) : Type 0 where
  pub packets_are : packets ≡ flat_map packets_in deliveries
  pub program_is : program ≡ flat_map printed_in deliveries

-- these, and then others
both : (first more : List Delivery) (packets others : List Text) (program rest : List ℕ)
    → IsDelivered first packets program → IsDelivered more others rest
    → IsDelivered (first ++ more) (packets ++ others) (program ++ rest)
both first more packets others program rest d e = record {
  packets_are = (λ i. d.packets_are i ++ e.packets_are i) ∙ sym (flat_map-append packets_in first more);
  program_is = (λ i. d.program_is i ++ e.program_is i) ∙ sym (flat_map-append printed_in first more);
}

-- these, and then a response
responded : (first : List Delivery) (packets : List Text) (program : List ℕ) (r : Response)
    → IsDelivered first packets program
    → IsDelivered (first ++ Responds r ∷ []) (packets ++ response_text r ∷ []) program
responded first packets program r d = record {
  packets_are =
      ap (λ (l : List Text). l ++ response_text r ∷ []) d.packets_are
      ∙ sym (flat_map-append packets_in first (Responds r ∷ []));
  program_is =
      d.program_is ∙ sym (append-nil (flat_map printed_in first))
      ∙ sym (flat_map-append printed_in first (Responds r ∷ []));
}

response_writes : (first : List Delivery) (r : Response)
    → flat_map written_in first ≡ flat_map written_in (first ++ Responds r ∷ [])
response_writes first r =
    sym (append-nil (flat_map written_in first)) ∙ sym (flat_map-append written_in first (Responds r ∷ []))

-- ---- news

abbrev news_in : Option Notify → List Delivery
news_in None = []
news_in (Some n) = if nat_le (length (notice_text n)) packet_limit then Notifies n ∷ [] else []

news_sent : (n : Option Notify) → flat_map packets_in (news_in n) ≡ news n
news_sent None = refl
news_sent (Some n) = by (nat_le (length (notice_text n)) packet_limit) where
  by : (b : Bool) → flat_map packets_in (if b then Notifies n ∷ [] else [])
      ≡ (if b then notice_text n ∷ [] else [])
  by true = refl
  by false = refl

news_printed : (n : Option Notify) → flat_map printed_in (news_in n) ≡ []
news_printed None = refl
news_printed (Some n) = by (nat_le (length (notice_text n)) packet_limit) where
  by : (b : Bool) → flat_map printed_in (if b then Notifies n ∷ [] else []) ≡ []
  by true = refl
  by false = refl

news_written : (n : Option Notify) → flat_map written_in (news_in n) ≡ []
news_written None = refl
news_written (Some n) = by (nat_le (length (notice_text n)) packet_limit) where
  by : (b : Bool) → flat_map written_in (if b then Notifies n ∷ [] else []) ≡ []
  by true = refl
  by false = refl

-- ---- a turn: the output that was written in it, news, and the response

abbrev behind_output : Turn → List Delivery
behind_output t = news_in t.before ++ Responds t.response ∷ []

abbrev in_turn : State → Turn → List Delivery
in_turn state t = Writes state.stdout (written_between state t.next) ∷ behind_output t

turn_delivered : (state : State) (t : Turn)
    → IsDelivered (in_turn state t) (sent state t).packets (sent state t).program
turn_delivered state t =
    let written = written_between state t.next in
    let answered : flat_map packets_in (behind_output t) ≡ news t.before ++ response_text t.response ∷ [] =
    flat_map-append packets_in (news_in t.before) (Responds t.response ∷ [])
    ∙ ap (λ (l : List Text). l ++ response_text t.response ∷ []) (news_sent t.before) in
    let silent : flat_map printed_in (behind_output t) ≡ [] =
    flat_map-append printed_in (news_in t.before) (Responds t.response ∷ [])
    ∙ ap (λ (l : List ℕ). l ++ []) (news_printed t.before) in
    record {
      packets_are =
          append_assoc (to_ide state.stdout written) (news t.before) (response_text t.response ∷ [])
          ∙ ap (λ (l : List Text). to_ide state.stdout written ++ l) (sym answered);
      program_is =
          sym (append-nil (to_program state.stdout written))
          ∙ ap (λ (l : List ℕ). to_program state.stdout written ++ l) (sym silent);
    }

turn_writes : (state : State) (t : Turn) → flat_map written_in (in_turn state t) ≡ written_between state t.next
turn_writes state t =
    let silent : flat_map written_in (behind_output t) ≡ [] =
    flat_map-append written_in (news_in t.before) (Responds t.response ∷ [])
    ∙ ap (λ (l : List ℕ). l ++ []) (news_written t.before) in
    ap (λ (l : List ℕ). written_between state t.next ++ l) silent ∙ append-nil (written_between state t.next)

-- ---- a continuation where its program has stopped: the output that was not shown before, and the response

abbrev unshown : Going → State → List ℕ
unshown going state = drop (shown_before going) (output_so_far state)

abbrev at_arrival : Going → State → List Delivery
at_arrival going state =
    Writes state.stdout (unshown going state)
    ∷ Responds (state_response (addressee_of going).command (addressee_of going).id state) ∷ []

arrival_delivered : (going : Going) (state : State)
    → IsDelivered (at_arrival going state) (arrival_of going state).packets (arrival_of going state).program
arrival_delivered going state = record {
  packets_are = refl;
  program_is = sym (append-nil (to_program state.stdout (unshown going state)));
}

-- one that is left alone: its output goes to the program's own
left_delivered : (going : Going) (state : State) → state.phase ≢ Stopping
    → IsDelivered (Writes Disable (unshown going (quieted state)) ∷ []) (left_alone going state).packets
    (left_alone going state).program
left_delivered going state before = record {
  packets_are = refl;
  program_is =
      ap (λ (m : StreamMode). to_program m (unshown going (quieted state))) (quiet_off state before)
      ∙ sym (append-nil (unshown going (quieted state)));
}

-- ---- the next moment

-- a moment at which a continuation goes on is one at which the program has not ended
on_is_break : (next : Option ℕ) (stops : Bool) (state : State) → passing_at next stops ≡ On
    → (moved state next).phase ≡ Break
on_is_break None stops state e = absurd cc
on_is_break (Some n) stops state e = refl

-- with the hits of the next moment
abbrev hit_next : State → State
hit_next state = record state {
  breaks = table_past every state.bundle state.bound state.writes state.breaks state.moment;
}

passed_is_break : (phase : Phase) (mode : Continuation) (depth : ℕ) (state : State)
    → passing_by phase mode depth state ≡ On → (passed_by phase state).phase ≡ Break
passed_is_break Starting mode depth state e =
    on_is_break (stop_past every state.bundle state.bound state.writes state.breaks.held state.moment)
    (stops_next (stops mode depth) state.bundle state.bound state.writes state.breaks.held state.moment)
    (hit_next state) e
passed_is_break Break mode depth state e =
    on_is_break (stop_past every state.bundle state.bound state.writes state.breaks.held state.moment)
    (stops_next (stops mode depth) state.bundle state.bound state.writes state.breaks.held state.moment)
    (hit_next state) e
passed_is_break Stopping mode depth state e = absurd cc

in_break : (phase : Phase) → phase ≡ Break → phase ≢ Stopping
in_break phase e over = let no : Break ≡ Stopping = sym e ∙ over in absurd cc

passed_before_end : (going : Going) (state : State) → passing (mode_of going) (depth_from going) state ≡ On
    → (passed state).phase ≢ Stopping
passed_before_end going state on =
    in_break (passed state).phase
    (passed_is_break state.phase (mode_of going) (depth_from going) state on)

-- ---- before its program stops a continuation has not come to the end

abbrev pub GoesBefore : Stage → State → Type 0
GoesBefore SetOut state = state.phase ≢ Stopping
GoesBefore GoesOn state = state.phase ≢ Stopping
GoesBefore Stopped state = Unit {0}

abbrev pub IsBefore : Bool → Option OnItsWay → State → Type 0
IsBefore over None state = Unit {0}
IsBefore true (Some way) state = state.phase ≢ Stopping
IsBefore false (Some way) state = GoesBefore way.stage state

may_before : (stage : Stage) (held : List ℕ) (state : State) → MayGoOn stage held → GoesBefore stage state
    → state.phase ≢ Stopping
may_before SetOut held state may before = before
may_before GoesOn held state may before = before
may_before Stopped held state may before = absurd may

break_before : (stops : Bool) (state : State) → state.phase ≢ Stopping → GoesBefore (stage_after stops) state
break_before true state before = tt
break_before false state before = before

-- What was delivered is what the program had written where nothing is on its way; else what it had written where the
-- continuation on its way set out.
abbrev pub IsTold : Option OnItsWay → State → List ℕ → Type 0
IsTold None state written = written ≡ output_so_far state
IsTold (Some way) state written =
    (length written ≡ shown_before way.going) × Begins written (output_so_far state)

module _ (bundle : Bundle) (bound : ℕ) where
  -- where it stands, and what it has delivered
  pub record IsReached (packets : List Text) (program : List ℕ) (over : Bool) (way : Option OnItsWay) (state : State)
      : Type 0 where
    pub plain : IsPlain bundle bound state
    pub deliveries : List Delivery
    pub delivered : IsDelivered deliveries packets program
    pub told : IsTold way state (flat_map written_in deliveries)
    pub before : IsBefore over way state

  opened : IsReached [] [] false None (opening bundle bound)
  opened = record {
    plain = opening_plain bundle bound;
    deliveries = [];
    delivered = record { packets_are = refl; program_is = refl };
    told = refl;
    before = tt;
  }

  -- with one more response
  and_response : (packets : List Text) (program : List ℕ) (over : Bool) (way : Option OnItsWay) (state : State)
      (r : Response) → IsReached packets program over way state
      → IsReached (packets ++ response_text r ∷ []) program over way state
  and_response packets program over way state r f = record {
    plain = f.plain;
    deliveries = f.deliveries ++ Responds r ∷ [];
    delivered = responded f.deliveries packets program r f.delivered;
    told = subst (IsTold way state) (response_writes f.deliveries r) f.told;
    before = f.before;
  }

  -- no more is read
  and_over : (packets : List Text) (program : List ℕ) (over : Bool) (state : State)
      → IsReached packets program false None state → IsReached packets program over None state
  and_over packets program over state f = record {
    plain = f.plain;
    deliveries = f.deliveries;
    delivered = f.delivered;
    told = f.told;
    before = tt;
  }

  -- a command is answered
  answered : (packets : List Text) (program : List ℕ) (state : State) (bytes : List ℕ)
      → IsReached packets program false None state
      → IsReached (packets ++ (answer state bytes).packets) (program ++ (answer state bytes).program) false None
      (answer state bytes).state
  unfolding answer
  answered packets program state bytes f =
      let t = turn state bytes in
      let grown = move_grows bundle bound state t.next f.plain (turn_moves state bytes) in
      record {
        plain = grown.is_plain;
        deliveries = f.deliveries ++ in_turn state t;
        delivered = both f.deliveries (in_turn state t) packets (sent state t).packets program (sent state t).program
            f.delivered (turn_delivered state t);
        told =
            flat_map-append written_in f.deliveries (in_turn state t)
            ∙ (λ i. f.told i ++ turn_writes state t i)
            ∙ whole_piece (output_so_far state) (output_so_far t.next) grown.begins;
        before = tt;
      }

  -- a continuation sets out
  departed : (packets : List Text) (program : List ℕ) (state : State) (line : Option Line) (going : Going)
      → SetsOut state line going → IsReached packets program false None state
      → IsReached packets program false (on_its_way going SetOut) state
  departed packets program state line going sets f = record {
    plain = f.plain;
    deliveries = f.deliveries;
    delivered = f.delivered;
    told = (
      ap length f.told ∙ sym sets.shown,
      subst (λ (l : List ℕ). Begins l (output_so_far state)) (sym f.told) (begins_same (output_so_far state)),
    );
    before = goes_before state line (mode_of going) sets.requested;
  }

  -- its stage, and whether more is read, change nothing of what was delivered
  restaged : (packets : List Text) (program : List ℕ) (over after : Bool) (going : Going) (stage next : Stage)
      (state : State) → IsBefore after (on_its_way going next) state
      → IsReached packets program over (on_its_way going stage) state
      → IsReached packets program after (on_its_way going next) state
  restaged packets program over after going stage next state before f = record {
    plain = f.plain;
    deliveries = f.deliveries;
    delivered = f.delivered;
    told = f.told;
    before = before;
  }

  -- the next moment comes, or the end
  passed_grows : (phase : Phase) (state : State) → state.phase ≡ phase → IsPlain bundle bound state
      → Grows bundle bound state (passed_by phase state)
  passed_grows Starting state e h =
      gone_grows bundle bound state h (λ f. let no : Starting ≡ Stopping = sym e ∙ f in cc) every
      (table_past every state.bundle state.bound state.writes state.breaks state.moment)
  passed_grows Break state e h =
      gone_grows bundle bound state h (in_break state.phase e) every
      (table_past every state.bundle state.bound state.writes state.breaks state.moment)
  passed_grows Stopping state e h = record { is_plain = h; begins = begins_same (output_so_far state) }

  passed_so : (packets : List Text) (program : List ℕ) (over : Bool) (going : Going) (stage next : Stage)
      (state : State) → IsBefore over (on_its_way going next) (passed state)
      → IsReached packets program false (on_its_way going stage) state
      → IsReached packets program over (on_its_way going next) (passed state)
  passed_so packets program over going stage next state before f =
      let grown = passed_grows state.phase state refl f.plain in
      record {
        plain = grown.is_plain;
        deliveries = f.deliveries;
        delivered = f.delivered;
        told = (
          f.told.0,
          begins_all (flat_map written_in f.deliveries) (output_so_far state) (output_so_far (passed state)) f.told.1
              grown.begins,
        );
        before = before;
      }

  -- what was not shown before is shown
  shown_whole : (going : Going) (state : State) (written : List ℕ) → length written ≡ shown_before going
      → Begins written (output_so_far state) → written ++ (unshown going state ++ []) ≡ output_so_far state
  shown_whole going state written long begins =
      ap (λ (l : List ℕ). written ++ l) (append-nil (unshown going state))
      ∙ ap (λ (n : ℕ). written ++ drop n (output_so_far state)) (sym long)
      ∙ whole_piece written (output_so_far state) begins

  -- it is answered
  arrived_so : (packets : List Text) (program : List ℕ) (going : Going) (stage : Stage) (state : State)
      → IsReached packets program false (on_its_way going stage) state
      → IsReached (packets ++ (arrival_of going state).packets) (program ++ (arrival_of going state).program) false None
      state
  arrived_so packets program going stage state f = record {
    plain = f.plain;
    deliveries = f.deliveries ++ at_arrival going state;
    delivered = both f.deliveries (at_arrival going state) packets (arrival_of going state).packets program
        (arrival_of going state).program f.delivered (arrival_delivered going state);
    told =
        flat_map-append written_in f.deliveries (at_arrival going state)
        ∙ shown_whole going state (flat_map written_in f.deliveries) f.told.0 f.told.1;
    before = tt;
  }

  -- or left alone
  left_so : (packets : List Text) (program : List ℕ) (going : Going) (stage : Stage) (state : State)
      → IsReached packets program true (on_its_way going stage) state
      → IsReached (packets ++ (left_alone going state).packets) (program ++ (left_alone going state).program) true None
      (left_alone going state).state
  unfolding answer
  left_so packets program going stage state f =
      let asked = codes "stdout -i 1 -c 0" in
      let next = (turn state asked).next in
      let grown = move_grows bundle bound state next f.plain (turn_moves state asked) in
      let piece : List Delivery = Writes Disable (unshown going next) ∷ [] in
      record {
        plain = grown.is_plain;
        deliveries = f.deliveries ++ piece;
        delivered = both f.deliveries piece packets (left_alone going state).packets program
            (left_alone going state).program f.delivered (left_delivered going state f.before);
        told =
            flat_map-append written_in f.deliveries piece
            ∙ shown_whole going next (flat_map written_in f.deliveries) f.told.0
            (begins_all (flat_map written_in f.deliveries) (output_so_far state) (output_so_far next) f.told.1
            grown.begins);
        before = tt;
      }

  -- ---- all that was heard

  abbrev state_of : {log : List Arrival} {done : Done} {s : Situation} → Heard bundle bound log done s → State
  state_of {s} heard = s.state

  abbrev held_of : {log : List Arrival} {done : Done} {s : Situation} → Heard bundle bound log done s → List ℕ
  held_of {s} heard = s.held

  abbrev packets_of : {log : List Arrival} {done : Done} {s : Situation} → Heard bundle bound log done s → List Text
  packets_of {done} heard = done.packets

  abbrev program_of : {log : List Arrival} {done : Done} {s : Situation} → Heard bundle bound log done s → List ℕ
  program_of {done} heard = done.program

  pub follows : {log : List Arrival} {done : Done} {s : Situation} → Heard bundle bound log done s
      → IsReached done.packets done.program s.over s.way s.state
  follows Opens = opened
  follows (AnswersOwn h line rest begins response own) =
      and_response (packets_of h) (program_of h) false None (state_of h) response (follows h)
  follows (Answers h line rest begins own none unended) =
      answered (packets_of h) (program_of h) (state_of h) line (follows h)
  follows (Departs h line rest begins own going sets_out) =
      departed (packets_of h) (program_of h) (state_of h) (line_of line) going sets_out (follows h)
  follows (Comes h partial free a number some) = follows h
  follows (Ceases h partial free a number none) =
      and_over (packets_of h) (program_of h) true (state_of h) (follows h)
  follows (Fills h none full) = and_over (packets_of h) (program_of h) true (state_of h) (follows h)
  follows (Passes going stage h may free on) =
      passed_so (packets_of h) (program_of h) false going stage GoesOn (state_of h)
      (passed_before_end going (state_of h) on) (follows h)
  follows (PassesTo going stage h may free on a number some) =
      passed_so (packets_of h) (program_of h) false going stage GoesOn (state_of h)
      (passed_before_end going (state_of h) on) (follows h)
  follows (PassesToEnd going stage h may free on a number none) =
      passed_so (packets_of h) (program_of h) true going stage GoesOn (state_of h)
      (passed_before_end going (state_of h) on) (follows h)
  follows (Stops going stage h may free halts) =
      passed_so (packets_of h) (program_of h) false going stage Stopped (state_of h) tt (follows h)
  follows (Ends going stage h may free ends) =
      passed_so (packets_of h) (program_of h) false going stage Stopped (state_of h) tt (follows h)
  follows (PassesLimit going stage h may full) =
      let f = follows h in
      restaged (packets_of h) (program_of h) false true going stage stage (state_of h)
      (may_before stage (held_of h) (state_of h) may f.before) f
  follows (TellsStatus going h line rest begins other status) =
      and_response (packets_of h) (program_of h) false (on_its_way going GoesOn) (state_of h)
      (running_response (line_of line)) (follows h)
  follows (HearsBreak going h line rest begins breaks) =
      let f = follows h in
      let stops = is_none (break_refusal true (line_of line)) in
      and_response (packets_of h) (program_of h) false (on_its_way going (stage_after stops)) (state_of h)
      (break_response true (line_of line))
      (restaged (packets_of h) (program_of h) false false going GoesOn (stage_after stops) (state_of h)
      (break_before stops (state_of h) f.before) f)
  follows (Arrives going h) =
      arrived_so (packets_of h) (program_of h) going Stopped (state_of h) (follows h)
  follows (Leaves going stage h) = left_so (packets_of h) (program_of h) going stage (state_of h) (follows h)

  -- where it stands
  pub stands : {log : List Arrival} {done : Done} {s : Situation} → Heard bundle bound log done s
      → IsInRun bundle bound s.state
  stands h =
      let plain = (follows h).plain in
      record {
        of = plain.of;
        within = plain.within;
        by = stands_by bundle bound (state_of h).phase (state_of h) plain plain.placed;
      }

  -- ---- how it ends

  run_whole : (state : State) → IsPlain bundle bound state → (written : List ℕ) → written ≡ output_so_far state
      → written ++ unwritten state ≡ output bundle bound state.writes
  run_whole state h written told =
      (λ i. told i ++ drop (length (output_so_far state)) (whole_is bundle bound state h i))
      ∙ whole_piece (output_so_far state) (output bundle bound state.writes)
      (so_far_begins bundle bound state.phase state h h.placed)

  run_by : (state : State) → IsPlain bundle bound state → (written : List ℕ) → written ≡ output_so_far state
      → (ended : Option SessionEnd)
      → IsRunWith bundle bound state.writes (written ++ rest_after ended state) (ending_after ended state)
  run_by state h written told None = (run_whole state h written told, outcome_is bundle bound state h)
  run_by state h written told (Some Detached) = (run_whole state h written told, outcome_is bundle bound state h)
  run_by state h written told (Some (Finished o)) = (run_whole state h written told, outcome_is bundle bound state h)
  run_by state h written told (Some Killed) =
      subst (λ (l : List ℕ). Begins l (output bundle bound state.writes)) (sym (append-nil written ∙ told))
      (so_far_begins bundle bound state.phase state h h.placed)

  -- output that does not go to the IDE alone goes to the program's own output
  print_all : (mode : StreamMode) (written : List ℕ) → mode ≢ Redirect → to_program mode written ≡ written
  print_all Disable written h = refl
  print_all Copy written h = refl
  print_all Redirect written h = absurd (h refl)

  printed_all : (deliveries : List Delivery) → AllByRecursion IsPrinted deliveries
      → flat_map printed_in deliveries ≡ flat_map written_in deliveries
  printed_all [] h = refl
  printed_all (Writes mode written ∷ more) h =
      let first = print_all mode written h.0 in let later = printed_all more h.1 in λ i. first i ++ later i
  printed_all (Notifies n ∷ more) h = printed_all more h.1
  printed_all (Responds r ∷ more) h = printed_all more h.1

  tells : (over : Bool) (done : Done) (state : State) (ended : Option SessionEnd)
      → IsReached done.packets done.program over None state → ReportsRun bundle bound state.writes done ended state
  tells over done state ended f =
      let run = run_by state f.plain (flat_map written_in f.deliveries) f.told ended in
      record {
        deliveries = f.deliveries;
        sent = f.delivered.packets_are;
        printed = f.delivered.program_is;
        run = run;
        own = λ all. subst (λ (l : List ℕ). IsRunWith bundle bound state.writes (l ++ rest_after ended state)
            (ending_after ended state)) (sym (f.delivered.program_is ∙ printed_all f.deliveries all)) run;
      }

  abbrev done_of : {log : List Arrival} {done : Done} {s : Situation} → Heard bundle bound log done s → Done
  done_of {done} heard = done

  pub heard_run : {log : List Arrival} {done : Done} {ended : Option SessionEnd} {state : State} {rest : List ℕ}
      → HeardTo bundle bound log done ended state rest → ReportsRun bundle bound state.writes done ended state
  heard_run (IsRead h) = tells true (done_of h) (state_of h) None (follows h)
  heard_run (IsEnded h line rest begins own none end is) =
      tells false (with_reply (answer (state_of h) line) (done_of h)) (answer (state_of h) line).state (Some end)
      (answered (packets_of h) (program_of h) (state_of h) line (follows h))

  pub heard_alone : {log : List Arrival} {done : Done} {ended : Option SessionEnd} {state : State} {rest : List ℕ}
      → HeardTo bundle bound log done ended state rest → state.writes ≡ []
      → ReportsRun bundle bound [] done ended state
  heard_alone {done = done} {ended = ended} {state = state} heard none =
      subst (λ (ws : List NumberedWrite). ReportsRun bundle bound ws done ended state) none (heard_run heard)
