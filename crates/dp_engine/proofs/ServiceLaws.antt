-- What serving a session comes to, from how it went and what became of the program.
use Rattle.std.proofs.Common.{◌≡◌, ◌≤◌, ◌⊎◌, ℕ, List, [], ◌++◌, length, Option, None, Some, refl, sym, ap, ◌∙◌, subst, arith, inl, inr, append-nil, length-append}
use Rattle.std.specs.Io.KnownBytes.{Appends, Consumes}
use Rattle.std.proofs.KnownBytes.{Appends-trans}
use Rattle.dp_tree.specs.declared.bundle.Bundle.{Bundle}
use Rattle.dp_outside.specs.Changes.{Change, change}
use Rattle.dp_outside.specs.Streams.{AppendsFront}
use Rattle.dp_conversation.specs.declared.link.Fault.{Fault}
use Rattle.dp_conversation.specs.declared.link.Fault.TheVariants as fault
use Rattle.dp_conversation.specs.declared.link.SessionOver.{SessionOver}
use Rattle.dp_conversation.specs.declared.link.SessionOver.TheVariants as over
use Rattle.dp_conversation.specs.Folds.{Reply}
use Rattle.dp_conversation.specs.Service.{AppendsPast, IsConversationCut, IsConversed, IsReadUpTo, byte_limit, piece_limit}
use Rattle.dp_conversation.proofs.FrontLaws.{front_all, front_none, past_after, past_less, past_none, past_of_more, past_same, past_whole}
use Rattle.dp_conversation.proofs.GrowthLaws.{replies_go_on}
use Rattle.dp_conversation.proofs.NextAnswerLaws.{commands_go_on}
use Rattle.dp_wire.specs.Frames.{commands_in, packet_frame, rest_of}
use Rattle.dp_engine.specs.declared.service.ServeEnd.{ServeEnd}
use Rattle.dp_engine.specs.declared.service.ServeEnd.TheVariants.{Stopped, Detached, LinkEnd, ReadFault, WriteFault, OutFault, BadCommandFrame, ByteLimit, Memory}
use Rattle.dp_engine.specs.declared.service.Served.{Served}
use Rattle.dp_engine.specs.declared.session.SessionEnd.{SessionEnd}
use Rattle.dp_engine.specs.declared.session.SessionEnd.TheVariants as end
use Rattle.dp_engine.specs.Answers.{answer}
use Rattle.dp_engine.specs.RestOfRun.{RanOn, RanOnTo, IsLeft, Closes, ClosesCut}
use Rattle.dp_engine.specs.Responses.{init_text}
use Rattle.dp_engine.specs.Served.{alone_with, answers, answers_to, ending_after, own_with, rest_after}
use Rattle.dp_engine.specs.Service.{CutBy, EndsBy, IsCut, IsServed, Serves, ServesTo}
use Rattle.dp_engine.specs.Session.{State, opening, outcome_of, unwritten}

module _ {W X Y : Type 0} (left : W → Option (List ℕ)) (breaks : W → ℕ) (told : X → Option (List ℕ)) (faults : X → ℕ)
    (prints : Y → Option (List ℕ)) (fails : Y → ℕ)
    (bundle : Bundle) (bound : ℕ) (key init : List ℕ) (start state : State) (w0 w1 : W) (x0 x1 : X) (y0 y1 y2 : Y) where
  abbrev source : Change
  source = change left breaks w0 w1

  abbrev sink : Change
  sink = change told faults x0 x1

  -- ---- the program's own output

  -- with these commands, and the rest that the program writes after the session
  module _ (taken : List (List ℕ)) where
    abbrev reply_to : Reply State SessionEnd
    reply_to = answers_to bundle bound taken

    rest_is : reply_to.state ≡ state → rest_after reply_to.ended state ≡ unwritten state
        → rest_after reply_to.ended reply_to.state ≡ unwritten state
    rest_is is_state rest = ap (rest_after reply_to.ended) is_state ∙ rest

    own_whole : Appends (prints y0) (prints y1) reply_to.program → reply_to.state ≡ state
        → rest_after reply_to.ended state ≡ unwritten state → Appends (prints y1) (prints y2) (unwritten state)
        → Appends (prints y0) (prints y2) (own_with bundle bound taken)
    own_whole printed is_state rest p =
        Appends-trans (prints y0) (prints y1) (prints y2) reply_to.program _ printed
        (subst (Appends (prints y1) (prints y2)) (sym (rest_is is_state rest)) p)

    -- all that the commands lead to, and a front of the rest
    own_past : (rest : List ℕ) → Appends (prints y0) (prints y1) reply_to.program
        → AppendsFront (prints y1) (prints y2) rest
        → AppendsPast (prints y0) (prints y2) reply_to.program (reply_to.program ++ rest)
    own_past rest printed p =
        past_same (prints y0) (prints y2) _ _ _ _ (sym (append-nil reply_to.program)) refl
        (past_after (prints y0) (prints y1) (prints y2) reply_to.program [] rest printed
        (past_none (prints y1) (prints y2) rest p))

    own_front : Appends (prints y0) (prints y1) reply_to.program → reply_to.state ≡ state
        → rest_after reply_to.ended state ≡ unwritten state → AppendsFront (prints y1) (prints y2) (unwritten state)
        → AppendsPast (prints y0) (prints y2) reply_to.program (own_with bundle bound taken)
    own_front printed is_state rest p =
        own_past (rest_after reply_to.ended reply_to.state) printed
        (subst (AppendsFront (prints y1) (prints y2)) (sym (rest_is is_state rest)) p)

  -- the first commands print no more than they do with others
  prints_less : (done last : List (List ℕ))
      → length (answers_to bundle bound done).program ≤ length (answers_to bundle bound (done ++ last)).program
  prints_less done last =
      let more = replies_go_on answer (opening bundle bound) done last in
      omega (arith, ap length more.more_program, length-append (answers_to bundle bound done).program more.program)

  -- ---- a session in which the program's own output has taken what was written in it

  abbrev Sends : List ℕ → List (List ℕ) → List (List ℕ) → Type 0
  Sends read done taken =
      ((read ≡ []) × AppendsFront sink.told_before sink.told (packet_frame (init_text bundle key)))
      ⊎ AppendsPast sink.told_before sink.told (alone_with bundle bound key done) (alone_with bundle bound key taken)

  -- the commands that it took, and what the sinks have taken for them
  record HasPrinted : Type 0 where
    read : List ℕ
    within : length read ≤ byte_limit
    up_to : IsReadUpTo answer (opening bundle bound) piece_limit read
    consumed : Consumes source.told_before source.told read
    done : List (List ℕ)
    last : List (List ℕ)
    later : List (List ℕ)
    first : commands_in read ≡ (done ++ last) ++ later
    one : length last ≤ 1
    lately : List (List ℕ)
    behind : done ≡ commands_in up_to.front ++ lately
    sent : Sends read done (done ++ last)
    printed : Appends (prints y0) (prints y1) (answers_to bundle bound (done ++ last)).program
    is_state : (answers_to bundle bound (done ++ last)).state ≡ state

  abbrev taken_in : HasPrinted → List (List ℕ)
  taken_in h = h.done ++ h.last

  abbrev ended_in : HasPrinted → Option SessionEnd
  ended_in h = (answers_to bundle bound (taken_in h)).ended

  -- it was cut short in the end
  cut_to : (h : HasPrinted) (served : Served) (e : ServeEnd) → served.end ≡ e
      → AppendsPast (prints y0) (prints y2) (answers_to bundle bound (taken_in h)).program
      (own_with bundle bound (taken_in h))
      → CutBy e served.outcome bundle bound h.done (taken_in h) sink (change prints fails y0 y2)
      → IsCut served bundle bound key source sink (change prints fails y0 y2)
  cut_to h served e is past by = record {
    read = h.read;
    within = h.within;
    up_to = h.up_to;
    consumed = h.consumed;
    done = h.done;
    last = h.last;
    later = h.later;
    first = h.first;
    one = h.one;
    lately = h.lately;
    behind = h.behind;
    sent = h.sent;
    in_order = inr past;
    by =
        subst (λ (e : ServeEnd). CutBy e served.outcome bundle bound h.done (taken_in h) sink
        (change prints fails y0 y2)) (sym is) by;
  }

  -- its output failed after the session, or memory ran out
  out_failed : (h : HasPrinted) (served : Served) (asked : ServeEnd) → served.end ≡ OutFault
      → rest_after (ended_in h) state ≡ unwritten state → fails y0 ≤ fails y1
      → RanOnTo OutFault asked served state (change prints fails y1 y2)
      → IsCut served bundle bound key source sink (change prints fails y0 y2)
  out_failed h served asked is rest later r =
      let past = own_front (taken_in h) h.printed h.is_state rest r.2 in
      cut_to h served OutFault is past (
        omega (arith, r.0),
        past_less (prints y0) (prints y2) _ _ _ (prints_less h.done h.last) past,
        r.1,
      )

  starved : (h : HasPrinted) (served : Served) (asked : ServeEnd) → served.end ≡ Memory
      → rest_after (ended_in h) state ≡ unwritten state
      → RanOnTo Memory asked served state (change prints fails y1 y2)
      → IsCut served bundle bound key source sink (change prints fails y0 y2)
  starved h served asked is rest r =
      let past = own_front (taken_in h) h.printed h.is_state rest r.1 in cut_to h served Memory is past (past, r.0)

  -- ---- a session that no fault has cut short

  -- the conversation of the session served alone
  abbrev Alone : SessionOver SessionEnd → Type 0
  Alone o =
      IsConversed answer (opening bundle bound) state (init_text bundle key) o source sink (change prints fails y0 y1)

  alone_is : (o : SessionOver SessionEnd) → start ≡ opening bundle bound → init ≡ init_text bundle key
      → IsConversed answer start state init o source sink (change prints fails y0 y1) → Alone o
  alone_is o first begun c =
      subst (λ (l : List ℕ). IsConversed answer (opening bundle bound) state l o source sink
      (change prints fails y0 y1)) begun
      (subst (λ (s : State). IsConversed answer s state init o source sink (change prints fails y0 y1)) first c)

  abbrev ended_by : (o : SessionOver SessionEnd) → Alone o → Option SessionEnd
  ended_by o c = (answers bundle bound c.read).ended

  -- what holds with its commands
  abbrev at_all : (o : SessionOver SessionEnd) (c : Alone o) (P : List (List ℕ) → Type 0) → P (commands_in c.read)
      → P (commands_in c.read ++ [])
  at_all o c P p = subst P (sym (append-nil (commands_in c.read))) p

  abbrev all_printed : (o : SessionOver SessionEnd) → Alone o → HasPrinted
  all_printed o c = record {
    read = c.read;
    within = c.within;
    up_to = c.up_to;
    consumed = c.consumed;
    done = commands_in c.read;
    last = [];
    later = [];
    first = sym (append-nil (commands_in c.read ++ []) ∙ append-nil (commands_in c.read));
    one = omega arith;
    lately = commands_in (rest_of c.up_to.front ++ c.up_to.piece);
    behind = ap commands_in c.up_to.whole ∙ commands_go_on c.up_to.front c.up_to.piece;
    sent =
        inr (at_all o c (λ l. AppendsPast (told x0) (told x1) (alone_with bundle bound key (commands_in c.read))
        (alone_with bundle bound key l)) (past_whole (told x0) (told x1) _ c.sent));
    printed = at_all o c (λ l. Appends (prints y0) (prints y1) (answers_to bundle bound l).program) c.printed;
    is_state = at_all o c (λ l. (answers_to bundle bound l).state ≡ state) c.is_state;
  }

  all_rest : (o : SessionOver SessionEnd) (c : Alone o) → rest_after (ended_by o c) state ≡ unwritten state
      → rest_after (ended_in (all_printed o c)) state ≡ unwritten state
  all_rest o c rest =
      at_all o c (λ l. rest_after (answers_to bundle bound l).ended state ≡ unwritten state) rest

  -- the program ran on to its end
  served_to : (o : SessionOver SessionEnd) (c : Alone o) (served : Served) (asked e : ServeEnd) → served.end ≡ e
      → EndsBy asked (ended_by o c) (rest_of c.read) c.read source
      → rest_after (ended_by o c) state ≡ unwritten state → ending_after (ended_by o c) state ≡ Some (outcome_of state)
      → fails y0 ≤ fails y1 → RanOnTo e asked served state (change prints fails y1 y2)
      → ServesTo e served bundle bound key source sink (change prints fails y0 y2)
  served_to o c served asked e is ends rest ending_is later ran = by e is ran where
    out : Change
    out = change prints fails y0 y2

    whole : (e : ServeEnd) → served.end ≡ e → e ≡ asked → served.outcome ≡ Some (outcome_of state)
        → Appends (prints y1) (prints y2) (unwritten state) → IsServed served bundle bound key source sink out
    whole e is same told_outcome rest_told =
        let reply = answers bundle bound c.read in
        record {
          read = c.read;
          within = c.within;
          up_to = c.up_to;
          consumed = c.consumed;
          sent = c.sent;
          printed = own_whole (commands_in c.read) c.printed c.is_state rest rest_told;
          outcome = told_outcome ∙ sym ending_is ∙ ap (ending_after reply.ended) (sym c.is_state);
          ends = subst (λ (e : ServeEnd). EndsBy e reply.ended (rest_of c.read) c.read source) (sym (is ∙ same)) ends;
        }

    by : (e : ServeEnd) → served.end ≡ e → RanOnTo e asked served state (change prints fails y1 y2)
        → ServesTo e served bundle bound key source sink out
    by Stopped is r = whole Stopped is r.0 r.1 r.2
    by Detached is r = whole Detached is r.0 r.1 r.2
    by LinkEnd is r = whole LinkEnd is r.0 r.1 r.2
    by ReadFault is r = whole ReadFault is r.0 r.1 r.2
    by WriteFault is r =
        absurd (subst (λ (e : ServeEnd). EndsBy e (ended_by o c) (rest_of c.read) c.read source) (sym r.0) ends)
    by (BadCommandFrame offset) is r = whole (BadCommandFrame offset) is r.0 r.1 r.2
    by OutFault is r = out_failed (all_printed o c) served asked is (all_rest o c rest) later r
    by ByteLimit is r = whole ByteLimit is r.0 r.1 r.2
    by Memory is r = starved (all_printed o c) served asked is (all_rest o c rest) r

  -- a command has stopped the program
  killed_to : (c : Alone (over.Ended end.Killed)) (served : Served) → IsLeft Stopped served (change prints fails y1 y2)
      → Serves served bundle bound key source sink (change prints fails y0 y2)
  killed_to c served k =
      subst (λ (e : ServeEnd). ServesTo e served bundle bound key source sink (change prints fails y0 y2))
      (sym k.is_end) (record {
        read = c.read;
        within = c.within;
        up_to = c.up_to;
        consumed = c.consumed;
        sent = c.sent;
        printed =
            subst (Appends (prints y0) (prints y2)) (sym (ap (λ (e : Option SessionEnd). reply.program
            ++ rest_after e reply.state) c.ends ∙ append-nil reply.program)) there;
        outcome = k.outcome ∙ sym (ap (λ (e : Option SessionEnd). ending_after e reply.state) c.ends);
        ends = subst (λ (e : ServeEnd). EndsBy e reply.ended (rest_of c.read) c.read source) (sym k.is_end)
            (inl c.ends);
      }) where
        reply : Reply State SessionEnd
        reply = answers bundle bound c.read

        there : Appends (prints y0) (prints y2) reply.program
        there = subst (λ (t : Option (List ℕ)). Appends (prints y0) t reply.program) (sym k.kept) c.printed

  ran_from : (o : SessionOver SessionEnd) (c : Alone o) (served : Served) (asked : ServeEnd) (ended : Option SessionEnd)
      → ended_by o c ≡ ended → rest_after ended state ≡ unwritten state
      → ending_after ended state ≡ Some (outcome_of state)
      → EndsBy asked (ended_by o c) (rest_of c.read) c.read source → fails y0 ≤ fails y1
      → RanOn asked served state (change prints fails y1 y2)
      → Serves served bundle bound key source sink (change prints fails y0 y2)
  ran_from o c served asked ended same rest ending_is ends later ran =
      served_to o c served asked served.end refl ends (ap (λ (e : Option SessionEnd). rest_after e state) same ∙ rest)
      (ap (λ (e : Option SessionEnd). ending_after e state) same ∙ ending_is) later ran

  closed_to : (o : SessionOver SessionEnd) (c : Alone o) (served : Served)
      → Closes o served state (change prints fails y1 y2)
      → fails y0 ≤ fails y1 → Serves served bundle bound key source sink (change prints fails y0 y2)
  closed_to (over.Ended end.Killed) c served closes later = killed_to c served closes
  closed_to (over.Ended end.Detached) c served closes later =
      ran_from (over.Ended end.Detached) c served Detached (Some end.Detached) c.ends refl refl c.ends later closes
  closed_to (over.Ended (end.Finished o)) c served closes later =
      ran_from (over.Ended (end.Finished o)) c served Stopped (Some (end.Finished o)) c.ends refl refl
      (inr (o, c.ends)) later closes
  closed_to over.LinkEnd c served closes later =
      ran_from over.LinkEnd c served LinkEnd None c.ends.0 refl refl c.ends later closes
  closed_to over.ReadFault c served closes later =
      ran_from over.ReadFault c served ReadFault None c.ends.0 refl refl c.ends later closes
  closed_to (over.BadCommandFrame offset) c served closes later =
      ran_from (over.BadCommandFrame offset) c served (BadCommandFrame offset) None c.ends.0 refl refl c.ends later
      closes
  closed_to over.ByteLimit c served closes later =
      ran_from over.ByteLimit c served ByteLimit None c.ends.0 refl refl c.ends later closes

  pub serves_closed : (o : SessionOver SessionEnd) (served : Served) → start ≡ opening bundle bound
      → init ≡ init_text bundle key → IsConversed answer start state init o source sink (change prints fails y0 y1)
      → Closes o served state (change prints fails y1 y2) → fails y0 ≤ fails y1
      → Serves served bundle bound key source sink (change prints fails y0 y2)
  serves_closed o served first begun c closes later = closed_to o (alone_is o first begun c) served closes later

  -- ---- a session that a fault has cut short

  abbrev Broken : Fault SessionEnd → Type 0
  Broken f =
      IsConversationCut answer (opening bundle bound) state (init_text bundle key) f source sink
      (change prints fails y0 y1)

  broken_is : (f : Fault SessionEnd) → start ≡ opening bundle bound → init ≡ init_text bundle key
      → IsConversationCut answer start state init f source sink (change prints fails y0 y1) → Broken f
  broken_is f first begun c =
      subst (λ (l : List ℕ). IsConversationCut answer (opening bundle bound) state l f source sink
      (change prints fails y0 y1)) begun
      (subst (λ (s : State). IsConversationCut answer s state init f source sink (change prints fails y0 y1)) first c)

  -- the commands that it took
  abbrev taken_by : (f : Fault SessionEnd) → Broken f → List (List ℕ)
  taken_by f c = c.done ++ c.last

  abbrev InOrder : (f : Fault SessionEnd) → Broken f → Type 0
  InOrder f c =
      Appends sink.told_before sink.told (alone_with bundle bound key c.done)
      ⊎ AppendsPast (prints y0) (prints y2) (answers_to bundle bound (taken_by f c)).program
      (own_with bundle bound (taken_by f c))

  -- the program was left where it stood
  left_to : (f : Fault SessionEnd) (c : Broken f) (served : Served) (e : ServeEnd) → served.end ≡ e → InOrder f c
      → CutBy e served.outcome bundle bound c.done (taken_by f c) sink (change prints fails y0 y2)
      → IsCut served bundle bound key source sink (change prints fails y0 y2)
  left_to f c served e is in_order by = record {
    read = c.read;
    within = c.within;
    up_to = c.up_to;
    consumed = c.consumed;
    done = c.done;
    last = c.last;
    later = c.later;
    first = c.first;
    one = c.one;
    lately = c.lately;
    behind = c.behind;
    sent = c.sent;
    in_order = in_order;
    by =
        subst (λ (e : ServeEnd). CutBy e served.outcome bundle bound c.done (taken_by f c) sink
        (change prints fails y0 y2)) (sym is) by;
  }

  -- nothing more was written after the session
  left_front : (rest : List ℕ) → prints y2 ≡ prints y1 → AppendsFront (prints y1) (prints y2) rest
  left_front rest stays = subst (λ (t : Option (List ℕ)). AppendsFront (prints y1) t rest) (sym stays)
      (front_none (prints y1) rest)

  killed_cut : (c : Broken (fault.Write (Some end.Killed))) (served : Served)
      → IsLeft WriteFault served (change prints fails y1 y2)
      → IsCut served bundle bound key source sink (change prints fails y0 y2)
  killed_cut c served l =
      let taken = c.done ++ c.last in
      let reply = answers_to bundle bound taken in
      let there : Appends (prints y0) (prints y2) reply.program = subst
      (λ (t : Option (List ℕ)). Appends (prints y0) t reply.program) (sym l.kept) c.by.2 in
      left_to (fault.Write (Some end.Killed)) c served WriteFault l.is_end
      (inr (own_past taken (rest_after reply.ended reply.state) c.by.2 (left_front _ l.kept))) (
        c.by.0,
        subst (Appends (prints y0) (prints y2)) (sym (append-nil reply.program)
            ∙ ap (λ (e : Option SessionEnd). reply.program ++ rest_after e reply.state) c.by.1) there,
        l.outcome ∙ ap (λ (e : Option SessionEnd). ending_after e reply.state) c.by.1,
      )

  abbrev written : (ended : Option SessionEnd) → Broken (fault.Write ended) → HasPrinted
  written ended c = record {
    read = c.read;
    within = c.within;
    up_to = c.up_to;
    consumed = c.consumed;
    done = c.done;
    last = c.last;
    later = c.later;
    first = c.first;
    one = c.one;
    lately = c.lately;
    behind = c.behind;
    sent = c.sent;
    printed = c.by.2;
    is_state = c.is_state;
  }

  -- the link failed, and the program ran on to its end
  ran_on_cut : (ended : Option SessionEnd) (c : Broken (fault.Write ended)) (served : Served) (e : ServeEnd)
      → served.end ≡ e → rest_after ended state ≡ unwritten state → ending_after ended state ≡ Some (outcome_of state)
      → fails y0 ≤ fails y1 → RanOnTo e WriteFault served state (change prints fails y1 y2)
      → ServesTo e served bundle bound key source sink (change prints fails y0 y2)
  ran_on_cut ended c served e is rest ending_is later ran = by e is ran where
    reply : Reply State SessionEnd
    reply = answers_to bundle bound (c.done ++ c.last)

    rest_told : rest_after reply.ended state ≡ unwritten state
    rest_told = ap (λ (o : Option SessionEnd). rest_after o state) (sym c.by.1) ∙ rest

    outcome_told : ending_after reply.ended reply.state ≡ Some (outcome_of state)
    outcome_told =
        ap (ending_after reply.ended) c.is_state ∙ ap (λ (o : Option SessionEnd). ending_after o state) (sym c.by.1)
        ∙ ending_is

    by : (e : ServeEnd) → served.end ≡ e → RanOnTo e WriteFault served state (change prints fails y1 y2)
        → ServesTo e served bundle bound key source sink (change prints fails y0 y2)
    by Stopped is r = absurd (cc)
    by Detached is r = absurd (cc)
    by LinkEnd is r = absurd (cc)
    by ReadFault is r = absurd (cc)
    by WriteFault is r =
        cut_to (written ended c) served WriteFault is
        (own_front (c.done ++ c.last) c.by.2 c.is_state rest_told (front_all (prints y1) (prints y2) _ r.2)) (
          c.by.0,
          own_whole (c.done ++ c.last) c.by.2 c.is_state rest_told r.2,
          r.1 ∙ sym outcome_told,
        )
    by (BadCommandFrame offset) is r = absurd (cc)
    by OutFault is r = out_failed (written ended c) served WriteFault is rest_told later r
    by ByteLimit is r = absurd (cc)
    by Memory is r = starved (written ended c) served WriteFault is rest_told r

  cut_by : (f : Fault SessionEnd) (c : Broken f) (served : Served)
      → ClosesCut f served state (change prints fails y1 y2) → fails y0 ≤ fails y1 → fails y1 ≤ fails y2
      → Serves served bundle bound key source sink (change prints fails y0 y2)
  cut_by (fault.Write (Some end.Killed)) c served l later after =
      subst (λ (e : ServeEnd). ServesTo e served bundle bound key source sink (change prints fails y0 y2))
      (sym l.is_end) (killed_cut c served l)
  cut_by (fault.Write (Some end.Detached)) c served ran later after =
      ran_on_cut (Some end.Detached) c served served.end refl refl refl later ran
  cut_by (fault.Write (Some (end.Finished o))) c served ran later after =
      ran_on_cut (Some (end.Finished o)) c served served.end refl refl refl later ran
  cut_by (fault.Write None) c served ran later after = ran_on_cut None c served served.end refl refl refl later ran
  cut_by fault.Out c served l later after =
      let reply = answers_to bundle bound (c.done ++ c.last) in
      subst (λ (e : ServeEnd). ServesTo e served bundle bound key source sink (change prints fails y0 y2))
      (sym l.is_end)
      (left_to fault.Out c served OutFault l.is_end (inl c.by.2) (
        omega (arith, c.by.0, after),
        past_of_more (prints y0) (prints y2) _ reply.program (rest_after reply.ended reply.state)
            (prints_less c.done c.last)
            (subst (λ (t : Option (List ℕ)). AppendsPast (prints y0) t (answers_to bundle bound c.done).program
            reply.program) (sym l.kept) c.by.1),
        l.outcome,
      ))
  cut_by fault.Memory c served l later after =
      let taken = c.done ++ c.last in
      let past = own_past taken (rest_after (answers_to bundle bound taken).ended (answers_to bundle bound
      taken).state) c.by (left_front _ l.kept) in
      subst (λ (e : ServeEnd). ServesTo e served bundle bound key source sink (change prints fails y0 y2))
      (sym l.is_end) (left_to fault.Memory c served Memory l.is_end (inr past) (past, l.outcome))

  pub serves_cut : (f : Fault SessionEnd) (served : Served) → start ≡ opening bundle bound → init ≡ init_text bundle key
      → IsConversationCut answer start state init f source sink (change prints fails y0 y1)
      → ClosesCut f served state (change prints fails y1 y2) → fails y0 ≤ fails y1 → fails y1 ≤ fails y2
      → Serves served bundle bound key source sink (change prints fails y0 y2)
  serves_cut f served first begun c closes later after = cut_by f (broken_is f first begun c) served closes later after
