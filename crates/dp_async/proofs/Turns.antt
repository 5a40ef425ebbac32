-- Where a session that listens stands after each step of its code.
use Rattle.std.proofs.Common.{◌≡◌, ◌≢◌, ℕ, ◌+◌, ◌≤◌, ◌<◌, Bool, true, false, List, [], ◌∷◌, ◌++◌, length, Option, Some, None, refl, sym, ap, subst, ◌∙◌, length-append, arith, inl, inr}
use Rattle.std.specs.List.{flat_map}
use Rattle.std.specs.Io.KnownBytes.{Appends}
use Rattle.std.specs.Prelude.{codes, option_map}
use Rattle.dp_outside.specs.Changes.{Change}
use Rattle.dp_outside.specs.Streams.{AppendsFront}
use Rattle.dp_command.specs.Lines.{line_of}
use Rattle.dp_wire.specs.Frames.{BeginsCommand, BeginsNoCommand, IsPartialCommand, packet_frame}
use Rattle.dp_conversation.specs.declared.link.Fault.{Fault}
use Rattle.dp_conversation.specs.declared.link.SessionOver.TheVariants as over
use Rattle.dp_conversation.specs.declared.responder.Answer.{Answer}
use Rattle.dp_conversation.specs.Deliveries.{CutsAnswer, SendFault}
use Rattle.dp_conversation.specs.Folds.{Reply, reply_of}
use Rattle.dp_engine.specs.declared.passes.Going.{Going}
use Rattle.dp_engine.specs.declared.passes.Passing.TheVariants.{On, Stop, End}
use Rattle.dp_engine.specs.declared.session.SessionEnd.{SessionEnd}
use Rattle.dp_engine.specs.Answers.{answer as answer_to}
use Rattle.dp_engine.specs.Passes.{depth_from, mode_of, passed, passing}
use Rattle.dp_engine.specs.Session.{State}
use Rattle.dp_async.specs.declared.answers.RunningAnswer.{RunningAnswer}
use Rattle.dp_async.specs.declared.arrival.Arrival.{Arrival}
use Rattle.dp_async.specs.Heard.{Arrives, Ceases, Comes, Done, Ends, Fills, GoesOn, Heard, HoldsNone, IsFree, IsRead, IsTooMuch, Leaves, MayGoOn, Passes, PassesLimit, PassesTo, PassesToEnd, Situation, Stage, Stopped, Stops, arrival_of, at_end, byte_limit, bytes_of, left_alone, program_alone, number_of_arrival, on_its_way, stage_after, standing, with_look, with_reply}
use Rattle.dp_async.specs.Served.{HeardUpTo, Input, IsLater, Reads, ends_empty}
use Rattle.dp_async.specs.declared.listener.Listener.{Listener}
use Rattle.dp_async.specs.inner.Standing.{HearsAt, StandsAt, hearing_of, AnswerIsDue, AnswerLeads, EndsWith, IsCut, IsEnded, IsRunningAnswer, ObeyedBy, Objects, Start, IsAt, Agrees, with_answer, with_input, with_link, with_sinks, with_text}
use Rattle.dp_async.proofs.Standings.{cut_delivery, cut_send, heard_told, length_more, reads_on, agrees_delivered, agrees_found, agrees_looked, agrees_sent, agrees_waited}

-- it stands so as other things that are the same
pub stands_as : (start : Start) (log log' : List Arrival) (s s' : Situation) (count count' : ℕ) (o : Objects)
    → log ≡ log' → s ≡ s' → count ≡ count' → IsAt start log s count o → IsAt start log' s' count' o
stands_as start log log' s s' count count' o e f g stands =
    subst (λ (l : List Arrival). IsAt start l s' count' o) e
    (subst (λ (x : Situation). IsAt start log x count' o) f
    (subst (λ (n : ℕ). IsAt start log s n o) g stands))

-- a limit was not passed, or was
pub is_free : (start : Start) (log : List Arrival) (s : Situation) (count : ℕ) (o : Objects) (held : List ℕ)
    → IsAt start log s count o → (BeginsNoCommand held → ⊥) → count < byte_limit → IsFree log held
is_free start log s count o held stands may less = (may, omega (arith, stands.counted, less))

-- what the command that it heard is to it
pub hears_by : (start : Start) (going : Going) (l : Listener) (o : Objects) (stops : Bool)
    → StandsAt start (on_its_way going (stage_after stops)) l o → HearsAt (hearing_of stops) start going l o
hears_by start going l o true stands = stands
hears_by start going l o false stands = stands

-- what of the bytes held was no command
pub rest_within : (held line rest : List ℕ) (count : ℕ) → BeginsCommand held line rest → length held ≤ count
    → length rest ≤ count
rest_within held line rest count begins fits =
    omega (arith, fits, ap length begins.whole, length-append (line ++ 0 ∷ []) rest)

-- a command at the front is at that of the same bytes
pub begins_as : (held same line rest : List ℕ) → same ≡ held → BeginsCommand held line rest
    → BeginsCommand same line rest
begins_as held same line rest e begins = subst (λ (h : List ℕ). BeginsCommand h line rest) (sym e) begins

pub rest_shorter : (held line rest : List ℕ) → BeginsCommand held line rest → length rest < length held
rest_shorter held line rest begins =
    omega (arith, ap length begins.whole, length-append (line ++ 0 ∷ []) rest, length-append line (0 ∷ []))

module _ (start : Start) (log : List Arrival) (count : ℕ) (o : Objects) where
  -- ---- a running program hears a command

  module _ (going : Going) (state : State) (moments : ℕ) (held line rest : List ℕ) (told : RunningAnswer)
      (stands : IsAt start log (standing (on_its_way going GoesOn) state moments held) count o)
      (begins : BeginsCommand held line rest) (is : IsRunningAnswer (line_of line) (Some told))
      (now : List ℕ) (dropped : now ≡ rest) (taken : Option (List ℕ)) (faults : ℕ) (later : o.faults ≤ faults) where
    heard_then : Heard start.bundle start.bound log (with_text told.text stands.done)
        (standing (on_its_way going (stage_after told.stops)) state moments now)
    heard_then =
        subst (λ (l : List ℕ). Heard start.bundle start.bound log (with_text told.text stands.done)
        (standing (on_its_way going (stage_after told.stops)) state moments l)) (sym dropped)
        (heard_told start.bundle start.bound log stands.done going state moments held line rest told stands.heard
        begins is)

    pub stands_told : Appends o.taken taken (packet_frame told.text)
        → IsAt start log (standing (on_its_way going (stage_after told.stops)) state moments now) count
        (with_link taken faults o)
    stands_told sent = record {
      done = with_text told.text stands.done;
      heard = heard_then;
      agrees = agrees_sent start log stands.done o stands.agrees told.text taken faults sent later;
      counted = stands.counted;
      fits =
          subst (λ (l : List ℕ). length l ≤ count) (sym dropped)
          (rest_within held line rest count begins stands.fits);
      reads_on = stands.reads_on;
    }

    pub cut_told : (fault : Fault SessionEnd) (sink : Change) → sink.faults_before ≡ o.faults → sink.faults ≡ faults
        → AppendsFront o.taken taken (packet_frame told.text) → SendFault fault sink
        → IsCut start fault log state (with_link taken faults o)
    cut_told fault sink was is_now sent why =
        cut_send start log stands.done o stands.agrees told.text state taken faults fault sink was is_now
        (inl (
          standing (on_its_way going (stage_after told.stops)) state moments now,
          heard_then,
          refl,
          refl,
        )) sent later why

  -- ---- it is answered where it has stopped

  module _ (going : Going) (state next : State) (moments : ℕ) (held : List ℕ) (answer : Answer SessionEnd)
      (stands : IsAt start log (standing (on_its_way going Stopped) state moments held) count o)
      (is : reply_of answer next ≡ arrival_of going state) where
    heard_arrival : Heard start.bundle start.bound log (with_answer answer stands.done)
        (standing None next moments held)
    heard_arrival =
        subst (λ (r : Reply State SessionEnd). Heard start.bundle start.bound log (with_reply r stands.done)
        (standing None r.state moments held)) (sym is) (Arrives going stands.heard)

    pub stands_arrived : (taken : Option (List ℕ)) (faults : ℕ) (printed : Option (List ℕ)) (fails : ℕ)
        → Appends o.taken taken (flat_map packet_frame answer.packets) → Appends o.printed printed answer.program
        → o.faults ≤ faults → o.fails ≤ fails
        → IsAt start log (standing None next moments held) count (with_sinks taken faults printed fails o)
    stands_arrived taken faults printed fails sent put later later_out = record {
      done = with_answer answer stands.done;
      heard = heard_arrival;
      agrees =
          agrees_delivered start log stands.done o stands.agrees answer taken faults printed fails sent put later
          later_out;
      counted = stands.counted;
      fits = stands.fits;
      reads_on = stands.reads_on;
    }

    pub cut_arrived : (fault : Fault SessionEnd) (sink out : Change) → sink.told_before ≡ o.taken
        → sink.faults_before ≡ o.faults → out.told_before ≡ o.printed → out.faults_before ≡ o.fails
        → sink.faults_before ≤ sink.faults → out.faults_before ≤ out.faults → CutsAnswer answer fault sink out
        → IsCut start fault log next (with_sinks sink.told sink.faults out.told out.faults o)
    cut_arrived fault sink out taken faults printed fails later later_out cut =
        cut_delivery start log stands.done o stands.agrees answer next fault sink out taken faults printed fails
        (inl (
          standing None next moments held,
          heard_arrival,
          ap (λ (r : Reply State SessionEnd). r.ended) is,
          refl,
        )) later later_out cut

  -- ---- or left alone where no more is read

  module _ (going : Going) (stage : Stage) (state next : State) (moments : ℕ) (held : List ℕ)
      (answer : Answer SessionEnd)
      (stands : IsAt start log (at_end (on_its_way going stage) state moments held) count o)
      (is : reply_of answer next ≡ left_alone going state) where
    heard_leaving : Heard start.bundle start.bound log (with_answer answer stands.done) (at_end None next moments held)
    heard_leaving =
        subst (λ (r : Reply State SessionEnd). Heard start.bundle start.bound log (with_reply r stands.done)
        (at_end None r.state moments held)) (sym is) (Leaves going stage stands.heard)

    pub stands_left : (taken : Option (List ℕ)) (faults : ℕ) (printed : Option (List ℕ)) (fails : ℕ)
        → Appends o.taken taken (flat_map packet_frame answer.packets) → Appends o.printed printed answer.program
        → o.faults ≤ faults → o.fails ≤ fails
        → IsAt start log (at_end None next moments held) count (with_sinks taken faults printed fails o)
    stands_left taken faults printed fails sent put later later_out = record {
      done = with_answer answer stands.done;
      heard = heard_leaving;
      agrees =
          agrees_delivered start log stands.done o stands.agrees answer taken faults printed fails sent put later
          later_out;
      counted = stands.counted;
      fits = stands.fits;
      reads_on = stands.reads_on;
    }

    pub cut_left : (fault : Fault SessionEnd) (sink out : Change) → sink.told_before ≡ o.taken
        → sink.faults_before ≡ o.faults → out.told_before ≡ o.printed → out.faults_before ≡ o.fails
        → sink.faults_before ≤ sink.faults → out.faults_before ≤ out.faults → CutsAnswer answer fault sink out
        → IsCut start fault log next (with_sinks sink.told sink.faults out.told out.faults o)
    cut_left fault sink out taken faults printed fails later later_out cut =
        cut_delivery start log stands.done o stands.agrees answer next fault sink out taken faults printed fails
        (inl (
          at_end None next moments held,
          heard_leaving,
          ap (λ (r : Reply State SessionEnd). r.ended) is,
          refl,
        )) later later_out cut

  -- ---- it passes a moment

  module _ (going : Going) (stage : Stage) (state : State) (moments : ℕ) (held : List ℕ)
      (stands : IsAt start log (standing (on_its_way going stage) state moments held) count o)
      (may : MayGoOn stage held) (free : IsFree log held) where
    pub stands_stopped : passing (mode_of going) (depth_from going) state ≡ Stop
        → IsAt start log (standing (on_its_way going Stopped) (passed state) (moments + 1) held) count o
    stands_stopped is = record {
      done = stands.done;
      heard = Stops going stage stands.heard may free is;
      agrees = stands.agrees;
      counted = stands.counted;
      fits = stands.fits;
      reads_on = stands.reads_on;
    }

    pub stands_ended : passing (mode_of going) (depth_from going) state ≡ End
        → IsAt start log (standing (on_its_way going Stopped) (passed state) moments held) count o
    stands_ended is = record {
      done = stands.done;
      heard = Ends going stage stands.heard may free is;
      agrees = stands.agrees;
      counted = stands.counted;
      fits = stands.fits;
      reads_on = stands.reads_on;
    }

    module _ (is : passing (mode_of going) (depth_from going) state ≡ On) (input : Input)
        (later : IsLater o.input input) (one : input.looks ≡ o.input.looks + 1) where
      pub stands_passed : Reads o.input input []
          → IsAt start log (standing (on_its_way going GoesOn) (passed state) (moments + 1) held) count
          (with_input input o)
      stands_passed read = record {
        done = with_look stands.done;
        heard = Passes going stage stands.heard may free is;
        agrees = agrees_looked start log stands.done o stands.agrees input read later one;
        counted = stands.counted;
        fits = stands.fits;
        reads_on = stands.reads_on;
      }

      pub stands_passed_to : (a : Arrival) → a.moment ≡ number_of_arrival (passed state) (moments + 1)
          → a.bytes ≢ [] → Reads o.input input a.bytes
          → IsAt start (log ++ a ∷ [])
          (standing (on_its_way going GoesOn) (passed state) (moments + 1) (held ++ a.bytes)) (count + length a.bytes)
          (with_input input o)
      stands_passed_to a at some read = record {
        done = with_look stands.done;
        heard = PassesTo going stage stands.heard may free is a at some;
        agrees = agrees_found start log stands.done o stands.agrees a input read later one;
        counted = omega (arith, stands.counted, length_more log a);
        fits = omega (arith, stands.fits, length-append held a.bytes);
        reads_on = λ _. reads_on log a some;
      }

      pub stands_passed_to_end : (a : Arrival) → a.moment ≡ number_of_arrival (passed state) (moments + 1)
          → a.bytes ≡ [] → Reads o.input input a.bytes
          → IsAt start (log ++ a ∷ [])
          (at_end (on_its_way going GoesOn) (passed state) (moments + 1) held) count
          (with_input input o)
      stands_passed_to_end a at none read = record {
        done = with_look stands.done;
        heard = PassesToEnd going stage stands.heard may free is a at none;
        agrees = agrees_found start log stands.done o stands.agrees a input read later one;
        counted = omega (arith, stands.counted, length_more log a, ap length none);
        fits = stands.fits;
        reads_on = λ on. absurd (let no : true ≡ false = on in cc);
      }

  pub stands_limit : (going : Going) (stage : Stage) (state : State) (moments : ℕ) (held : List ℕ)
      → IsAt start log (standing (on_its_way going stage) state moments held) count o → MayGoOn stage held
      → IsTooMuch log held
      → IsAt start log (at_end (on_its_way going stage) state moments held) count o
  stands_limit going stage state moments held stands may much = record {
    done = stands.done;
    heard = PassesLimit going stage stands.heard may much;
    agrees = stands.agrees;
    counted = stands.counted;
    fits = stands.fits;
    reads_on = λ on. absurd (let no : true ≡ false = on in cc);
  }

  -- ---- while none is on its way

  module _ (state : State) (moments : ℕ) (held : List ℕ)
      (stands : IsAt start log (standing None state moments held) count o) where
    module _ (partial : IsPartialCommand held) (free : IsFree log held) (a : Arrival)
        (at : a.moment ≡ number_of_arrival state moments) (input : Input)
        (read : Reads o.input input a.bytes) (later : IsLater o.input input)
        (same : input.looks ≡ o.input.looks) where
      pub stands_come : a.bytes ≢ []
          → IsAt start (log ++ a ∷ []) (standing None state moments (held ++ a.bytes)) (count + length a.bytes)
          (with_input input o)
      stands_come some = record {
        done = stands.done;
        heard = Comes stands.heard partial free a at some;
        agrees = agrees_waited start log stands.done o stands.agrees a input read later same;
        counted = omega (arith, stands.counted, length_more log a);
        fits = omega (arith, stands.fits, length-append held a.bytes);
        reads_on = λ _. reads_on log a some;
      }

      pub ends_come : a.bytes ≡ []
          → IsEnded start (log ++ a ∷ []) None state held count (with_input input o)
      ends_come none = record {
        done = stands.done;
        heard = IsRead (Ceases stands.heard partial free a at none);
        agrees = agrees_waited start log stands.done o stands.agrees a input read later same;
        counted = omega (arith, stands.counted, length_more log a, ap length none);
      }

    pub ends_full : HoldsNone held → IsTooMuch log held → IsEnded start log None state held count o
    ends_full none much = record {
      done = stands.done;
      heard = IsRead (Fills stands.heard none much);
      agrees = stands.agrees;
      counted = stands.counted;
    }

  pub ends_left : (state : State) (moments : ℕ) (held : List ℕ)
      → IsAt start log (at_end None state moments held) count o → IsEnded start log None state held count o
  ends_left state moments held stands = record {
    done = stands.done;
    heard = IsRead stands.heard;
    agrees = stands.agrees;
    counted = stands.counted;
  }

  -- ---- an answer that is due

  module _ (answer : Answer SessionEnd) (state : State) (moments : ℕ) (held : List ℕ) (done : Done)
      (agrees : Agrees start log done o) (counted : count ≡ length (bytes_of log)) (fits : length held ≤ count)
      (on : ends_empty log ≡ false) where
    pub obeyed_on : AnswerLeads None start (with_answer answer done) log state moments held
        → (taken : Option (List ℕ)) (faults : ℕ) (printed : Option (List ℕ)) (fails : ℕ)
        → Appends o.taken taken (flat_map packet_frame answer.packets) → Appends o.printed printed answer.program
        → o.faults ≤ faults → o.fails ≤ fails
        → IsAt start log (standing None state moments held) count (with_sinks taken faults printed fails o)
    obeyed_on leads taken faults printed fails sent put later later_out = record {
      done = with_answer answer done;
      heard = leads;
      agrees = agrees_delivered start log done o agrees answer taken faults printed fails sent put later later_out;
      counted = counted;
      fits = fits;
      reads_on = λ _. on;
    }

    pub obeyed_over : (end : SessionEnd) → AnswerLeads (Some end) start (with_answer answer done) log state moments held
        → (taken : Option (List ℕ)) (faults : ℕ) (printed : Option (List ℕ)) (fails : ℕ)
        → Appends o.taken taken (flat_map packet_frame answer.packets) → Appends o.printed printed answer.program
        → o.faults ≤ faults → o.fails ≤ fails
        → EndsWith (over.Ended end) start log state held count (with_sinks taken faults printed fails o)
    obeyed_over end leads taken faults printed fails sent put later later_out = (
      record {
        done = with_answer answer done;
        heard = leads;
        agrees = agrees_delivered start log done o agrees answer taken faults printed fails sent put later later_out;
        counted = counted;
      },
      on,
    )

    -- what it leads to
    up_to : (ended : Option SessionEnd) → AnswerLeads ended start (with_answer answer done) log state moments held
        → HeardUpTo start.bundle start.bound log (with_answer answer done) ended state
    up_to None leads = inl (standing None state moments held, leads, refl, refl)
    up_to (Some end) leads = inr (held, leads)

    pub obeyed_cut : AnswerLeads answer.ended start (with_answer answer done) log state moments held
        → (fault : Fault SessionEnd) (sink out : Change) → sink.told_before ≡ o.taken
        → sink.faults_before ≡ o.faults → out.told_before ≡ o.printed → out.faults_before ≡ o.fails
        → sink.faults_before ≤ sink.faults → out.faults_before ≤ out.faults → CutsAnswer answer fault sink out
        → IsCut start fault log state (with_sinks sink.told sink.faults out.told out.faults o)
    obeyed_cut leads fault sink out taken faults printed fails later later_out cut =
        cut_delivery start log done o agrees answer state fault sink out taken faults printed fails
        (up_to answer.ended leads) later later_out cut

-- an answer that was delivered leaves the session on its way, or has ended it
pub obeyed_by : (start : Start) (answer : Answer SessionEnd) (log : List Arrival) (state : State) (moments : ℕ)
    (held : List ℕ) (count : ℕ) (o : Objects) (due : AnswerIsDue start answer log state moments held count o)
    (taken : Option (List ℕ)) (faults : ℕ) (printed : Option (List ℕ)) (fails : ℕ)
    → Appends o.taken taken (flat_map packet_frame answer.packets) → Appends o.printed printed answer.program
    → o.faults ≤ faults → o.fails ≤ fails → (ended : Option SessionEnd) → answer.ended ≡ ended
    → ObeyedBy (option_map (λ (end : SessionEnd). over.Ended end) ended) start log state moments held count
    (with_sinks taken faults printed fails o)
obeyed_by start answer log state moments held count o due taken faults printed fails sent put later later_out None e =
    obeyed_on start log count o answer state moments held due.done due.agrees due.counted due.fits due.reads_on
    (subst (λ (x : Option SessionEnd). AnswerLeads x start (with_answer answer due.done) log state moments held) e
    due.leads) taken faults printed fails sent put later later_out
obeyed_by start answer log state moments held count o due taken faults printed fails sent put later later_out
    (Some end) e =
    obeyed_over start log count o answer state moments held due.done due.agrees due.counted due.fits due.reads_on end
    (subst (λ (x : Option SessionEnd). AnswerLeads x start (with_answer answer due.done) log state moments held) e
    due.leads) taken faults printed fails sent put later later_out

-- an answer without its packets is what goes out of a continuation that is left alone
pub left_is : (going : Going) (state quieted next : State) (asked arrived answer : Answer SessionEnd)
    → reply_of asked quieted ≡ answer_to state (codes "stdout -i 1 -c 0")
    → reply_of arrived next ≡ arrival_of going quieted → answer ≡ record arrived { packets = [] }
    → reply_of answer next ≡ left_alone going state
left_is going state quieted next asked arrived answer asks is bare =
    let quiet_is : quieted ≡ program_alone state = ap (λ (r : Reply State SessionEnd). r.state) asks in
    let whole : reply_of arrived next ≡ arrival_of going (program_alone state) =
    is ∙ ap (λ (s : State). arrival_of going s) quiet_is in
    ap (λ (a : Answer SessionEnd). reply_of a next) bare
    ∙ (λ i. record {
      packets = [];
      program = (whole i).program;
      state = (whole i).state;
      ended = (whole i).ended;
    })
