-- What serving the gateway comes to, from how it went and what became of the program.
use Rattle.std.proofs.Common.{◌≡◌, ◌≤◌, ℕ, Bool, true, false, cond, List, [], ◌∷◌, ◌++◌, length, drop, Option, None, Some, refl, sym, ap, ◌∙◌, subst, arith, inl, inr, append-nil, take-append-drop}
use Rattle.std.specs.List.{flat_map, list_all, prefix_len, take_while}
use Rattle.std.specs.Io.KnownBytes.{Appends, Consumes}
use Rattle.std.proofs.KnownBytes.{Appends-nil}
use Rattle.std.proofs.lemmas.Bool.{and_from, and_parts}
use Rattle.std.proofs.lemmas.List.Folds.{list_all-append}
use Rattle.std.proofs.lemmas.List.Sums.{take_while-cons}
use Rattle.dp_bodies.specs.Frames.{body_frame}
use Rattle.dp_tree.specs.declared.bundle.Bundle.{Bundle}
use Rattle.dp_outside.specs.Changes.{Change}
use Rattle.dp_outside.specs.Streams.{AppendsFront}
use Rattle.dp_conversation.specs.declared.link.Fault.{Fault}
use Rattle.dp_conversation.specs.declared.link.Fault.TheVariants as fault
use Rattle.dp_conversation.specs.declared.link.SessionOver.{SessionOver}
use Rattle.dp_conversation.specs.declared.link.SessionOver.TheVariants as over
use Rattle.dp_conversation.specs.Folds.{Reply, replies}
use Rattle.dp_conversation.specs.Service.{AppendsPast, byte_limit}
use Rattle.dp_conversation.proofs.FrontLaws.{front_none, past_none, past_whole}
use Rattle.dp_engine.specs.declared.service.ServeEnd.{ServeEnd}
use Rattle.dp_engine.specs.declared.service.ServeEnd.TheVariants.{Stopped, Detached, LinkEnd, ReadFault, WriteFault, OutFault, BadCommandFrame, ByteLimit, Memory}
use Rattle.dp_engine.specs.declared.service.Served.{Served}
use Rattle.dp_engine.specs.declared.session.SessionEnd.{SessionEnd}
use Rattle.dp_engine.specs.declared.session.SessionEnd.TheVariants as end
use Rattle.dp_engine.specs.RestOfRun.{RanOn, RanOnTo, IsLeft, Closes, ClosesCut}
use Rattle.dp_engine.specs.Served.{ending_after, rest_after}
use Rattle.dp_engine.specs.Session.{outcome_of, unwritten}
use Rattle.dp_dap.specs.Dap.{answers_to, dap, ending, ending_of, is_request, reply, rest, rest_of}
use Rattle.dp_dap.specs.Known.{Known, opening}
use Rattle.dp_dap.specs.Service.{CutBy, EndsBy, IsCut, IsFramed, IsReadUpTo, IsServed, Serves, ServesTo}
use Rattle.dp_dap.specs.inner.Exchanges.{Cut, Exchanged, sent_of}
use Rattle.dp_dap.proofs.ServiceLaws.{all_requests}

-- ---- the requests before the first body that is none

one_taken : (text : List ℕ) (taken : List (List ℕ)) → list_all is_request taken ≡ true → (b : Bool)
    → is_request text ≡ b → list_all is_request (cond b (text ∷ taken) []) ≡ true
one_taken text taken rest true e = and_from _ _ e rest
one_taken text taken rest false e = refl

taken_are : (texts : List (List ℕ)) → list_all is_request (take_while is_request texts) ≡ true
taken_are [] = refl
taken_are (text ∷ texts) =
    ap (list_all is_request) (take_while-cons is_request text texts)
    ∙ one_taken text (take_while is_request texts) (taken_are texts) (is_request text) refl

-- first ones of requests are requests
first_are : (done last : List (List ℕ)) → list_all is_request (done ++ last) ≡ true → list_all is_request done ≡ true
first_are done last are = (and_parts _ _ (sym (list_all-append is_request done last) ∙ are)).0

module _ (bundle : Bundle) (bound : ℕ) where
  -- of requests nothing is left out
  answers_are : (texts : List (List ℕ)) → list_all is_request texts ≡ true
      → answers_to bundle bound texts ≡ replies reply (opening bundle bound) texts
  answers_are texts are = ap (replies reply (opening bundle bound)) (all_requests texts are)

  dap_is : (texts : List (List ℕ)) → list_all is_request texts ≡ true
      → dap bundle bound texts ≡ sent_of (opening bundle bound) texts
  unfolding dap
  dap_is texts are = ap (λ (r : Reply Known SessionEnd). flat_map body_frame r.packets) (answers_are texts are)

  sent_whole : (texts : List (List ℕ)) (sink : Change)
      → Appends sink.told_before sink.told (sent_of (opening bundle bound) (take_while is_request texts))
      → Appends sink.told_before sink.told (dap bundle bound texts)
  unfolding dap
  sent_whole texts sink sent = sent

  module _ (now : Known) (source sink out : Change) where
    -- what a program that runs on still writes, and how it ends
    rest_told : (all : Reply Known SessionEnd) (ended : Option SessionEnd) → all.ended ≡ ended → now ≡ all.state
        → rest_after ended now.session ≡ unwritten now.session → rest_of all ≡ unwritten now.session
    rest_told all ended same is free =
        ap (λ (o : Option SessionEnd). rest_after o all.state.session) same
        ∙ ap (λ (k : Known). rest_after ended k.session) (sym is) ∙ free

    ending_told : (all : Reply Known SessionEnd) (ended : Option SessionEnd) → all.ended ≡ ended → now ≡ all.state
        → ending_after ended now.session ≡ Some (outcome_of now.session)
        → ending_of all ≡ Some (outcome_of now.session)
    ending_told all ended same is free =
        ap (λ (o : Option SessionEnd). ending_after o all.state.session) same
        ∙ ap (λ (k : Known). ending_after ended k.session) (sym is) ∙ free

    -- ---- a program's output that failed, or memory that ran out

    -- the requests that were obeyed, and what was sent of their answers
    record Obeyed : Type 0 where
      read : List ℕ
      within : length read ≤ byte_limit
      up_to : IsReadUpTo (opening bundle bound) read
      consumed : Consumes source.told_before source.told read
      done : List (List ℕ)
      last : List (List ℕ)
      later : List (List ℕ)
      left : List ℕ
      framed : IsFramed read ((done ++ last) ++ later) left
      requests : list_all is_request (done ++ last) ≡ true
      first : list_all is_request done ≡ true
      one : length last ≤ 1
      lately : List (List ℕ)
      behind : done ≡ up_to.before ++ lately
      sent : AppendsPast sink.told_before sink.told (sent_of (opening bundle bound) done)
          (sent_of (opening bundle bound) (done ++ last))

    cut_to : (h : Obeyed) (served : Served) (e : ServeEnd) → served.end ≡ e
        → CutBy e served.outcome bundle bound (h.done ++ h.last) sink out
        → IsCut served bundle bound source sink out
    cut_to h served e is by = record {
      read = h.read;
      within = h.within;
      up_to = h.up_to;
      consumed = h.consumed;
      done = h.done;
      last = h.last;
      later = h.later;
      left = h.left;
      framed = h.framed;
      requests = h.requests;
      one = h.one;
      lately = h.lately;
      behind = h.behind;
      sent =
          subst (λ (l : List ℕ). AppendsPast sink.told_before sink.told l (dap bundle bound (h.done ++ h.last)))
          (sym (dap_is h.done h.first))
          (subst (AppendsPast sink.told_before sink.told (sent_of (opening bundle bound) h.done))
          (sym (dap_is (h.done ++ h.last) h.requests)) h.sent);
      by =
          subst (λ (e : ServeEnd). CutBy e served.outcome bundle bound (h.done ++ h.last) sink out) (sym is) by;
    }

    -- a front of what the program still writes
    front_told : (h : Obeyed) → rest bundle bound (h.done ++ h.last) ≡ unwritten now.session
        → AppendsFront out.told_before out.told (unwritten now.session)
        → AppendsPast out.told_before out.told [] (rest bundle bound (h.done ++ h.last))
    front_told h told front =
        subst (AppendsPast out.told_before out.told []) (sym told) (past_none out.told_before out.told _ front)

    out_failed : (h : Obeyed) (served : Served) (asked : ServeEnd) → served.end ≡ OutFault
        → rest bundle bound (h.done ++ h.last) ≡ unwritten now.session → RanOnTo OutFault asked served now.session out
        → IsCut served bundle bound source sink out
    out_failed h served asked is told r = cut_to h served OutFault is (r.0, front_told h told r.2, r.1)

    starved : (h : Obeyed) (served : Served) (asked : ServeEnd) → served.end ≡ Memory
        → rest bundle bound (h.done ++ h.last) ≡ unwritten now.session → RanOnTo Memory asked served now.session out
        → IsCut served bundle bound source sink out
    starved h served asked is told r = cut_to h served Memory is (front_told h told r.1, r.0)

    -- ---- a gateway that no fault has cut short

    abbrev Over : SessionOver SessionEnd → Type 0
    Over o = Exchanged (opening bundle bound) now o source sink

    abbrev all_of : (o : SessionOver SessionEnd) → Over o → Reply Known SessionEnd
    all_of o c = answers_to bundle bound c.texts

    abbrev obeyed_in : (o : SessionOver SessionEnd) → Over o → Obeyed
    obeyed_in o c =
        let done = take_while is_request c.texts in
        let later = drop (prefix_len is_request c.texts) c.texts in
        record {
          read = c.read;
          within = c.within;
          up_to = c.up_to;
          consumed = c.consumed;
          done = done;
          last = [];
          later = later;
          left = c.left;
          framed =
              subst (λ (l : List (List ℕ)). IsFramed c.read l c.left)
              (sym (ap (λ (l : List (List ℕ)). l ++ later) (append-nil done)
              ∙ take-append-drop (prefix_len is_request c.texts) c.texts)) c.framed;
          requests = ap (list_all is_request) (append-nil done) ∙ taken_are c.texts;
          first = taken_are c.texts;
          one = omega arith;
          lately = c.lately;
          behind = c.behind;
          sent =
              subst (λ (l : List (List ℕ)). AppendsPast sink.told_before sink.told
              (sent_of (opening bundle bound) done) (sent_of (opening bundle bound) l)) (sym (append-nil done))
              (past_whole sink.told_before sink.told _ c.sent);
        }

    -- what the program still writes is what it does with all bodies
    obeyed_rest : (o : SessionOver SessionEnd) (c : Over o)
        → rest bundle bound (take_while is_request c.texts ++ []) ≡ rest bundle bound c.texts
    obeyed_rest o c =
        let done = take_while is_request c.texts in
        ap rest_of (answers_are (done ++ []) (ap (list_all is_request) (append-nil done) ∙ taken_are c.texts)
        ∙ ap (replies reply (opening bundle bound)) (append-nil done))

    -- the program ran on to its end
    served_to : (o : SessionOver SessionEnd) (c : Over o) (served : Served) (asked e : ServeEnd) → served.end ≡ e
        → EndsBy asked (all_of o c).ended c.texts c.left c.read source
        → rest bundle bound c.texts ≡ unwritten now.session
        → ending bundle bound c.texts ≡ Some (outcome_of now.session)
        → RanOnTo e asked served now.session out → ServesTo e served bundle bound source sink out
    served_to o c served asked e is ends told end_told ran = by e is ran where
      whole : (e : ServeEnd) → served.end ≡ e → e ≡ asked → served.outcome ≡ Some (outcome_of now.session)
          → Appends out.told_before out.told (unwritten now.session) → IsServed served bundle bound source sink out
      whole e is same told_outcome printed = record {
        read = c.read;
        within = c.within;
        up_to = c.up_to;
        consumed = c.consumed;
        texts = c.texts;
        left = c.left;
        framed = c.framed;
        sent = sent_whole c.texts sink c.sent;
        printed = subst (Appends out.told_before out.told) (sym told) printed;
        outcome = told_outcome ∙ sym end_told;
        ends =
            subst (λ (e : ServeEnd). EndsBy e (all_of o c).ended c.texts c.left c.read source) (sym (is ∙ same)) ends;
      }

      by : (e : ServeEnd) → served.end ≡ e → RanOnTo e asked served now.session out
          → ServesTo e served bundle bound source sink out
      by Stopped is r = whole Stopped is r.0 r.1 r.2
      by Detached is r = whole Detached is r.0 r.1 r.2
      by LinkEnd is r = whole LinkEnd is r.0 r.1 r.2
      by ReadFault is r = whole ReadFault is r.0 r.1 r.2
      by WriteFault is r =
          absurd (subst (λ (e : ServeEnd). EndsBy e (all_of o c).ended c.texts c.left c.read source) (sym r.0) ends)
      by (BadCommandFrame offset) is r = whole (BadCommandFrame offset) is r.0 r.1 r.2
      by OutFault is r = out_failed (obeyed_in o c) served asked is (obeyed_rest o c ∙ told) r
      by ByteLimit is r = whole ByteLimit is r.0 r.1 r.2
      by Memory is r = starved (obeyed_in o c) served asked is (obeyed_rest o c ∙ told) r

    -- a request has stopped the program
    killed_to : (c : Over (over.Ended end.Killed)) (served : Served) → IsLeft Stopped served out
        → Serves served bundle bound source sink out
    killed_to c served k =
        let all = answers_to bundle bound c.texts in
        subst (λ (e : ServeEnd). ServesTo e served bundle bound source sink out) (sym k.is_end) (record {
          read = c.read;
          within = c.within;
          up_to = c.up_to;
          consumed = c.consumed;
          texts = c.texts;
          left = c.left;
          framed = c.framed;
          sent = sent_whole c.texts sink c.sent;
          printed =
              subst (Appends out.told_before out.told)
              (sym (ap (λ (e : Option SessionEnd). rest_after e all.state.session) c.ends))
              (subst (λ (t : Option (List ℕ)). Appends out.told_before t []) (sym k.kept)
              (Appends-nil out.told_before));
          outcome =
              k.outcome ∙ sym (ap (λ (e : Option SessionEnd). ending_after e all.state.session) c.ends);
          ends =
              subst (λ (e : ServeEnd). EndsBy e all.ended c.texts c.left c.read source) (sym k.is_end) (inl c.ends);
        })

    ran_from : (o : SessionOver SessionEnd) (c : Over o) (served : Served) (asked : ServeEnd)
        (ended : Option SessionEnd) → (all_of o c).ended ≡ ended
        → rest_after ended now.session ≡ unwritten now.session
        → ending_after ended now.session ≡ Some (outcome_of now.session)
        → EndsBy asked (all_of o c).ended c.texts c.left c.read source → RanOn asked served now.session out
        → Serves served bundle bound source sink out
    ran_from o c served asked ended same free end_free ends ran =
        served_to o c served asked served.end refl ends (rest_told (all_of o c) ended same c.state free)
        (ending_told (all_of o c) ended same c.state end_free) ran

    pub serves_closed : (o : SessionOver SessionEnd) (served : Served) → Over o → Closes o served now.session out
        → Serves served bundle bound source sink out
    serves_closed (over.Ended end.Killed) served c closes = killed_to c served closes
    serves_closed (over.Ended end.Detached) served c closes =
        ran_from (over.Ended end.Detached) c served Detached (Some end.Detached) c.ends refl refl c.ends closes
    serves_closed (over.Ended (end.Finished o)) served c closes =
        ran_from (over.Ended (end.Finished o)) c served Stopped (Some (end.Finished o)) c.ends refl refl
        (inr (o, c.ends)) closes
    serves_closed over.LinkEnd served c closes =
        ran_from over.LinkEnd c served LinkEnd None c.ends.0 refl refl c.ends closes
    serves_closed over.ReadFault served c closes =
        ran_from over.ReadFault c served ReadFault None c.ends.0 refl refl c.ends closes
    serves_closed (over.BadCommandFrame offset) served c closes =
        ran_from (over.BadCommandFrame offset) c served (BadCommandFrame offset) None c.ends.0 refl refl c.ends closes
    serves_closed over.ByteLimit served c closes =
        ran_from over.ByteLimit c served ByteLimit None c.ends.0 refl refl c.ends closes

    -- ---- a gateway that a fault has cut short

    abbrev Broken : Fault SessionEnd → Type 0
    Broken f = Cut (opening bundle bound) now f source sink

    abbrev obeyed_by : (f : Fault SessionEnd) → Broken f → Obeyed
    obeyed_by f c =
        let taken = c.short.done ++ c.short.last in
        record {
          read = c.read;
          within = c.within;
          up_to = c.up_to;
          consumed = c.consumed;
          done = c.short.done;
          last = c.short.last;
          later = [];
          left = c.short.behind;
          framed =
              subst (λ (l : List (List ℕ)). IsFramed c.read l c.short.behind) (sym (append-nil taken))
              (record { whole = c.short.whole; each = c.short.are_bodies });
          requests = c.short.are_requests;
          first = first_are c.short.done c.short.last c.short.are_requests;
          one = c.short.one;
          lately = c.lately;
          behind = c.behind;
          sent = c.short.sent;
        }

    -- what the bodies that were obeyed come to
    abbrev taken_by : (f : Fault SessionEnd) → Broken f → Reply Known SessionEnd
    taken_by f c = replies reply (opening bundle bound) (c.short.done ++ c.short.last)

    taken_is : (f : Fault SessionEnd) (c : Broken f)
        → answers_to bundle bound (c.short.done ++ c.short.last) ≡ taken_by f c
    taken_is f c = answers_are (c.short.done ++ c.short.last) c.short.are_requests

    killed_cut : (c : Broken (fault.Write (Some end.Killed))) (served : Served) → IsLeft WriteFault served out
        → IsCut served bundle bound source sink out
    killed_cut c served l =
        let f = fault.Write (Some end.Killed) in
        let ended : (answers_to bundle bound (c.short.done ++ c.short.last)).ended ≡ Some end.Killed =
        ap (λ (r : Reply Known SessionEnd). r.ended) (taken_is f c) ∙ sym c.short.by.0 in
        let state = (answers_to bundle bound (c.short.done ++ c.short.last)).state.session in
        cut_to (obeyed_by f c) served WriteFault l.is_end (
          c.short.by.1,
          subst (Appends out.told_before out.told)
              (sym (ap (λ (e : Option SessionEnd). rest_after e state) ended))
              (subst (λ (t : Option (List ℕ)). Appends out.told_before t []) (sym l.kept)
              (Appends-nil out.told_before)),
          l.outcome ∙ sym (ap (λ (e : Option SessionEnd). ending_after e state) ended),
        )

    -- the link failed, and the program ran on to its end
    ran_on_cut : (ended : Option SessionEnd) (c : Broken (fault.Write ended)) (served : Served) (e : ServeEnd)
        → served.end ≡ e → rest_after ended now.session ≡ unwritten now.session
        → ending_after ended now.session ≡ Some (outcome_of now.session)
        → RanOnTo e WriteFault served now.session out → ServesTo e served bundle bound source sink out
    ran_on_cut ended c served e is free end_free ran = by e is ran where
      f : Fault SessionEnd
      f = fault.Write ended

      told : rest bundle bound (c.short.done ++ c.short.last) ≡ unwritten now.session
      told = ap rest_of (taken_is f c)
          ∙ rest_told (taken_by f c) ended (sym c.short.by.0) (sym c.short.state) free

      end_told : ending bundle bound (c.short.done ++ c.short.last) ≡ Some (outcome_of now.session)
      end_told = ap ending_of (taken_is f c)
          ∙ ending_told (taken_by f c) ended (sym c.short.by.0) (sym c.short.state) end_free

      by : (e : ServeEnd) → served.end ≡ e → RanOnTo e WriteFault served now.session out
          → ServesTo e served bundle bound source sink out
      by Stopped is r = absurd (cc)
      by Detached is r = absurd (cc)
      by LinkEnd is r = absurd (cc)
      by ReadFault is r = absurd (cc)
      by WriteFault is r =
          cut_to (obeyed_by f c) served WriteFault is
          (c.short.by.1, subst (Appends out.told_before out.told) (sym told) r.2, r.1 ∙ sym end_told)
      by (BadCommandFrame offset) is r = absurd (cc)
      by OutFault is r = out_failed (obeyed_by f c) served WriteFault is told r
      by ByteLimit is r = absurd (cc)
      by Memory is r = starved (obeyed_by f c) served WriteFault is told r

    pub serves_cut : (f : Fault SessionEnd) (served : Served) → Broken f → ClosesCut f served now.session out
        → Serves served bundle bound source sink out
    serves_cut (fault.Write (Some end.Killed)) served c l =
        subst (λ (e : ServeEnd). ServesTo e served bundle bound source sink out) (sym l.is_end) (killed_cut c served l)
    serves_cut (fault.Write (Some end.Detached)) served c ran =
        ran_on_cut (Some end.Detached) c served served.end refl refl refl ran
    serves_cut (fault.Write (Some (end.Finished o))) served c ran =
        ran_on_cut (Some (end.Finished o)) c served served.end refl refl refl ran
    serves_cut (fault.Write None) served c ran = ran_on_cut None c served served.end refl refl refl ran
    serves_cut fault.Out served c l = absurd c.short.by
    serves_cut fault.Memory served c l =
        subst (λ (e : ServeEnd). ServesTo e served bundle bound source sink out) (sym l.is_end)
        (cut_to (obeyed_by fault.Memory c) served Memory l.is_end (
          past_none out.told_before out.told _
              (subst (λ (t : Option (List ℕ)). AppendsFront out.told_before t
              (rest bundle bound (c.short.done ++ c.short.last))) (sym l.kept) (front_none out.told_before _)),
          l.outcome,
        ))
