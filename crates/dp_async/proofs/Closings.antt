-- What a session that listened comes to once it is over, or was cut short, and its program has run
-- on or was left.
use Rattle.std.proofs.Common.{◌≡◌, false, ℕ, ◌+◌, ◌≤◌, List, [], ◌++◌, length, Option, Some, None, Result, Ok, Err, refl, sym, subst, ◌∙◌, append-nil, arith, inl, inr}
use Rattle.std.specs.Prelude.{MatchResult}
use Rattle.std.proofs.KnownBytes.{Appends-nil, Appends-trans}
use Rattle.std.specs.List.{flat_map}
use Rattle.std.specs.Io.KnownBytes.{Appends}
use Rattle.dp_outside.specs.Changes.{Change}
use Rattle.dp_outside.specs.Streams.{AppendsFront}
use Rattle.dp_tree.specs.declared.bundle.Bundle.{Bundle}
use Rattle.dp_wire.specs.Frames.{packet_frame}
use Rattle.dp_conversation.specs.declared.link.Fault.{Fault}
use Rattle.dp_conversation.specs.declared.link.Fault.TheVariants as fault
use Rattle.dp_conversation.specs.declared.link.SessionOver.{SessionOver}
use Rattle.dp_conversation.specs.declared.link.SessionOver.TheVariants as over
use Rattle.dp_conversation.proofs.FrontLaws.{front_after, front_all, front_none, front_of_more}
use Rattle.dp_engine.specs.declared.service.ServeEnd.{ServeEnd}
use Rattle.dp_engine.specs.declared.service.ServeEnd.TheVariants.{Stopped, Detached, LinkEnd, ReadFault, WriteFault, OutFault, BadCommandFrame, ByteLimit, Memory}
use Rattle.dp_engine.specs.declared.service.Served.{Served}
use Rattle.dp_engine.specs.declared.session.SessionEnd.{SessionEnd}
use Rattle.dp_engine.specs.declared.session.SessionEnd.TheVariants as end
use Rattle.dp_engine.specs.RestOfRun.{Closes, ClosesCut, IsLeft, RanOnTo}
use Rattle.dp_engine.specs.Responses.{init_text}
use Rattle.dp_engine.specs.Served.{ending_after, rest_after}
use Rattle.dp_engine.specs.Session.{State, opening, outcome_of, unwritten}
use Rattle.dp_async.specs.declared.arrival.Arrival.{Arrival}
use Rattle.dp_async.specs.declared.listener.Listener.{Listener}
use Rattle.dp_async.specs.declared.service.AsyncServed.{AsyncServed}
use Rattle.dp_async.specs.Heard.{Begins, Done, before_all, byte_limit, bytes_of, nothing}
use Rattle.dp_async.specs.Served.{HeardCutBy, HeardEndsBy, HearsTo, Input, IsHeard, IsHeardCut, all_sent, ends_empty}
use Rattle.dp_async.specs.inner.Standing.{AreLater, EndsAt, EndsWith, IsCut, IsEnded, Objects, Start}

-- what the link and the program's own output came to
abbrev pub link_change : Start → Objects → Change
link_change start o = record {
  told_before = start.before.taken;
  told = o.taken;
  faults_before = start.before.faults;
  faults = o.faults;
}

abbrev pub out_change : Start → Option (List ℕ) → ℕ → Change
out_change start printed fails = record {
  told_before = start.before.printed;
  told = printed;
  faults_before = start.before.fails;
  faults = fails;
}

abbrev pub rest_change : Objects → Option (List ℕ) → ℕ → Change
rest_change o printed fails = record {
  told_before = o.printed;
  told = printed;
  faults_before = o.fails;
  faults = fails;
}

module _ (start : Start) (key : List ℕ) (first : start.first ≡ packet_frame (init_text start.bundle key))
    (log : List Arrival) (served : Served) (o : Objects) (printed : Option (List ℕ)) (fails : ℕ) where
  abbrev all : AsyncServed
  all = record { served = served; log = log }

  abbrev To : ServeEnd → Type 0
  To e = HearsTo e all start.bundle start.bound key start.before.input o.input
      (link_change start o) (out_change start printed fails)

  -- what was sent begins with the first packet
  sent_whole : (done : Done)
      → Appends start.before.taken o.taken (start.first ++ flat_map packet_frame done.packets)
      → Appends start.before.taken o.taken (all_sent start.bundle key done)
  sent_whole done sent =
      subst (λ (l : List ℕ). Appends start.before.taken o.taken (l ++ flat_map packet_frame done.packets)) first sent

  sent_front : (done : Done)
      → AppendsFront start.before.taken o.taken (start.first ++ flat_map packet_frame done.packets)
      → AppendsFront start.before.taken o.taken (all_sent start.bundle key done)
  sent_front done sent =
      subst (λ (l : List ℕ). AppendsFront start.before.taken o.taken (l ++ flat_map packet_frame done.packets)) first
      sent

  -- ---- one that is over

  module _ (ended : Option SessionEnd) (state : State) (rest : List ℕ) (count : ℕ)
      (is : IsEnded start log ended state rest count o) (most : count ≤ byte_limit) (later : o.fails ≤ fails) where
    within : length (bytes_of log) ≤ byte_limit
    within = subst (λ (n : ℕ). n ≤ byte_limit) is.counted most

    -- it was left where it stood, or ran on to its end
    heard_whole : Appends o.printed printed (rest_after ended state) → served.outcome ≡ ending_after ended state
        → HeardEndsBy served.end log ended rest start.before.input o.input
        → IsHeard all start.bundle start.bound key start.before.input o.input
        (link_change start o) (out_change start printed fails)
    heard_whole put outcome ends = record {
      done = is.done;
      ended = ended;
      state = state;
      rest = rest;
      heard = is.heard;
      read = is.agrees.read;
      within = within;
      sent = sent_whole is.done is.agrees.sent;
      printed =
          Appends-trans start.before.printed o.printed printed is.done.program (rest_after ended state)
          is.agrees.printed put;
      outcome = outcome;
      looked = is.agrees.looked;
      ends = ends;
    }

    -- its output failed, or memory ran out
    heard_cut : AppendsFront o.printed printed (rest_after ended state)
        → HeardCutBy served.end log start.before.input o.input (link_change start o) (out_change start printed fails)
        → IsHeardCut all start.bundle start.bound key start.before.input o.input (link_change start o)
        (out_change start printed fails)
    heard_cut put why = record {
      front = log;
      later = [];
      first = sym (append-nil log);
      done = is.done;
      ended = ended;
      state = state;
      heard = inr (rest, is.heard);
      sent = front_all start.before.taken o.taken _ (sent_whole is.done is.agrees.sent);
      printed =
          front_after start.before.printed o.printed printed is.done.program (rest_after ended state)
          is.agrees.printed put;
      by = why;
    }

    -- it ran on
    module _ (asked : ServeEnd) (ends : HeardEndsBy asked log ended rest start.before.input o.input)
        (runs : unwritten state ≡ rest_after ended state)
        (known : Some (outcome_of state) ≡ ending_after ended state) where
      went : (e : ServeEnd) → served.end ≡ e → e ≡ asked → served.outcome ≡ Some (outcome_of state)
          → Appends o.printed printed (unwritten state)
          → IsHeard all start.bundle start.bound key start.before.input o.input
          (link_change start o) (out_change start printed fails)
      went e is_end same outcome put =
          heard_whole (subst (Appends o.printed printed) runs put) (outcome ∙ known)
          (subst (λ (x : ServeEnd). HeardEndsBy x log ended rest start.before.input o.input) (sym (is_end ∙ same)) ends)

      ran : (e : ServeEnd) → served.end ≡ e
          → RanOnTo e asked served state (rest_change o printed fails) → To e
      ran OutFault is_end r =
          heard_cut (subst (AppendsFront o.printed printed) runs r.2)
          (subst (λ (x : ServeEnd). HeardCutBy x log start.before.input o.input (link_change start o)
          (out_change start printed fails)) (sym is_end)
          (omega (arith, r.0, is.agrees.later.fails), is.agrees.read))
      ran Memory is_end r =
          heard_cut (subst (AppendsFront o.printed printed) runs r.1)
          (subst (λ (x : ServeEnd). HeardCutBy x log start.before.input o.input (link_change start o)
          (out_change start printed fails)) (sym is_end) tt)
      ran WriteFault is_end r =
          absurd (subst (λ (x : ServeEnd). HeardEndsBy x log ended rest start.before.input o.input) (sym r.0) ends)
      ran Stopped is_end r = went Stopped is_end r.0 r.1 r.2
      ran Detached is_end r = went Detached is_end r.0 r.1 r.2
      ran LinkEnd is_end r = went LinkEnd is_end r.0 r.1 r.2
      ran ReadFault is_end r = went ReadFault is_end r.0 r.1 r.2
      ran (BadCommandFrame offset) is_end r = went (BadCommandFrame offset) is_end r.0 r.1 r.2
      ran ByteLimit is_end r = went ByteLimit is_end r.0 r.1 r.2

  -- it was left where a command had killed it
  killed : (state : State) (rest : List ℕ) (count : ℕ) → IsEnded start log (Some end.Killed) state rest count o
      → ends_empty log ≡ false → count ≤ byte_limit → o.fails ≤ fails
      → IsLeft Stopped served (rest_change o printed fails) → To served.end
  killed state rest count is last within later left =
      subst To (sym left.is_end)
      (heard_whole (Some end.Killed) state rest count is within later
      (subst (λ (p : Option (List ℕ)). Appends o.printed p []) (sym left.kept) (Appends-nil o.printed)) left.outcome
      (subst (λ (x : ServeEnd). HeardEndsBy x log (Some end.Killed) rest start.before.input o.input) (sym left.is_end)
      (inl refl, last)))

  -- by how it came to be over
  pub closes_over : (reason : SessionOver SessionEnd) (state : State) (rest : List ℕ) (count : ℕ)
      → EndsWith reason start log state rest count o → count ≤ byte_limit → o.fails ≤ fails
      → Closes reason served state (rest_change o printed fails) → To served.end
  closes_over (over.Ended end.Killed) state rest count e most later c = killed state rest count e.0 e.1 most later c
  closes_over (over.Ended end.Detached) state rest count e most later c =
      ran (Some end.Detached) state rest count e.0 most later Detached (refl, e.1) refl refl served.end refl c
  closes_over (over.Ended (end.Finished outcome)) state rest count e most later c =
      ran (Some (end.Finished outcome)) state rest count e.0 most later Stopped (inr (outcome, refl), e.1) refl refl
      served.end refl c
  closes_over over.LinkEnd state rest count e most later c =
      ran None state rest count e.0 most later LinkEnd (refl, e.1.0, e.1.1, e.1.2) refl refl served.end refl c
  closes_over over.ReadFault state rest count e most later c =
      ran None state rest count e.0 most later ReadFault (refl, e.1.0, e.1.1, e.1.2) refl refl served.end refl c
  closes_over (over.BadCommandFrame offset) state rest count e most later c =
      ran None state rest count e.0 most later (BadCommandFrame offset)
      (refl, e.1.0, e.1.1, e.1.2 ∙ e.0.counted) refl refl served.end refl c
  closes_over over.ByteLimit state rest count e most later c =
      let all_read : length (bytes_of log) ≡ byte_limit = omega (arith, e.0.counted, e.1.1, most) in
      ran None state rest count e.0 most later ByteLimit (refl, e.1.0, all_read) refl refl served.end refl c

  -- ---- one that was cut short

  cut_as : (fault : Fault SessionEnd) (state : State) → (cut : IsCut start fault log state o)
      → AppendsFront start.before.printed printed (cut.done.program ++ rest_after cut.ended cut.reached)
      → HeardCutBy served.end log start.before.input o.input (link_change start o) (out_change start printed fails)
      → IsHeardCut all start.bundle start.bound key start.before.input o.input (link_change start o)
      (out_change start printed fails)
  cut_as fault state cut put why = record {
    front = cut.front;
    later = cut.behind;
    first = cut.first;
    done = cut.done;
    ended = cut.ended;
    state = cut.reached;
    heard = cut.heard;
    sent = sent_front cut.done cut.sent;
    printed = put;
    by = why;
  }

  -- the end that was told
  told_cut : (e : ServeEnd) → served.end ≡ e
      → HeardCutBy e log start.before.input o.input (link_change start o) (out_change start printed fails)
      → HeardCutBy served.end log start.before.input o.input (link_change start o) (out_change start printed fails)
  told_cut e is_end why =
      subst (λ (x : ServeEnd). HeardCutBy x log start.before.input o.input (link_change start o)
      (out_change start printed fails)) (sym is_end) why

  -- its output stays where the program is left
  kept : (fault : Fault SessionEnd) (state : State) → (cut : IsCut start fault log state o)
      → printed ≡ o.printed → AppendsFront start.before.printed o.printed cut.done.program
      → AppendsFront start.before.printed printed (cut.done.program ++ rest_after cut.ended cut.reached)
  kept fault state cut same put =
      subst (λ (p : Option (List ℕ)). AppendsFront start.before.printed p (cut.done.program ++ rest_after cut.ended
      cut.reached)) (sym same)
      (front_of_more start.before.printed o.printed cut.done.program _ put)

  -- the link failed, and the program ran on
  module _ (last : Option SessionEnd) (state : State) (cut : IsCut start (fault.Write last) log state o)
      (later : o.fails ≤ fails) (runs : unwritten state ≡ rest_after last state) where
    -- what it still writes is what is left by the last command
    rest_is : unwritten state ≡ rest_after cut.ended cut.reached
    rest_is = runs ∙ (λ i. rest_after (cut.by.2 i) (cut.by.3 i))

    put_on : AppendsFront o.printed printed (unwritten state)
        → AppendsFront start.before.printed printed (cut.done.program ++ rest_after cut.ended cut.reached)
    put_on put =
        front_after start.before.printed o.printed printed cut.done.program _ cut.by.4
        (subst (AppendsFront o.printed printed) rest_is put)

    ran_cut : (e : ServeEnd) → served.end ≡ e
        → RanOnTo e WriteFault served state (rest_change o printed fails) → To e
    ran_cut OutFault is_end r =
        cut_as (fault.Write last) state cut (put_on r.2)
        (told_cut OutFault is_end (omega (arith, r.0, cut.later.fails), cut.by.1))
    ran_cut Memory is_end r = cut_as (fault.Write last) state cut (put_on r.1) (told_cut Memory is_end tt)
    ran_cut WriteFault is_end r =
        cut_as (fault.Write last) state cut (put_on (front_all o.printed printed (unwritten state) r.2))
        (told_cut WriteFault is_end (cut.by.0, cut.by.1))
    ran_cut Stopped is_end r = absurd (let f : Stopped ≡ WriteFault = r.0 in cc)
    ran_cut Detached is_end r = absurd (let f : Detached ≡ WriteFault = r.0 in cc)
    ran_cut LinkEnd is_end r = absurd (let f : LinkEnd ≡ WriteFault = r.0 in cc)
    ran_cut ReadFault is_end r = absurd (let f : ReadFault ≡ WriteFault = r.0 in cc)
    ran_cut (BadCommandFrame offset) is_end r =
        absurd (let f : BadCommandFrame offset ≡ WriteFault = r.0 in cc)
    ran_cut ByteLimit is_end r = absurd (let f : ByteLimit ≡ WriteFault = r.0 in cc)

  pub closes_cut : (fault : Fault SessionEnd) (state : State) → IsCut start fault log state o → o.fails ≤ fails
      → ClosesCut fault served state (rest_change o printed fails) → To served.end
  closes_cut (fault.Write (Some end.Killed)) state cut later c =
      subst To (sym c.is_end)
      (cut_as (fault.Write (Some end.Killed)) state cut
      (kept (fault.Write (Some end.Killed)) state cut c.kept
      (front_all start.before.printed o.printed cut.done.program cut.by.4))
      (told_cut WriteFault c.is_end (cut.by.0, cut.by.1)))
  closes_cut (fault.Write (Some end.Detached)) state cut later c =
      ran_cut (Some end.Detached) state cut later refl served.end refl c
  closes_cut (fault.Write (Some (end.Finished outcome))) state cut later c =
      ran_cut (Some (end.Finished outcome)) state cut later refl served.end refl c
  closes_cut (fault.Write None) state cut later c = ran_cut None state cut later refl served.end refl c
  closes_cut fault.Out state cut later c =
      subst To (sym c.is_end)
      (cut_as fault.Out state cut (kept fault.Out state cut c.kept cut.by.2)
      (told_cut OutFault c.is_end (omega (arith, cut.by.0, later), cut.by.1)))
  closes_cut fault.Memory state cut later c =
      subst To (sym c.is_end)
      (cut_as fault.Memory state cut (kept fault.Memory state cut c.kept cut.by) (told_cut Memory c.is_end tt))

-- the session did not begin
pub cut_at_start : (bundle : Bundle) (bound : ℕ) (key : List ℕ) (before now : Input) (sink out : Change)
    → sink.told ≡ sink.told_before → out.told ≡ out.told_before
    → IsHeardCut (record { served = record { end = Memory; outcome = None }; log = [] }) bundle bound key before now
    sink out
cut_at_start bundle bound key before now sink out sent printed = record {
  front = [];
  later = [];
  first = refl;
  done = nothing;
  ended = None;
  state = opening bundle bound;
  heard = inl (before_all bundle bound, Begins, refl, refl);
  sent =
      subst (λ (p : Option (List ℕ)). AppendsFront sink.told_before p (all_sent bundle key nothing)) (sym sent)
      (front_none sink.told_before (all_sent bundle key nothing));
  printed =
      subst (λ (p : Option (List ℕ)). AppendsFront out.told_before p ([] ++ rest_after None (opening bundle bound)))
      (sym printed) (front_none out.told_before ([] ++ rest_after None (opening bundle bound)));
  by = tt;
}

-- a session that listened, whichever of the two it came to
pub served_by : (start : Start) (key : List ℕ) → start.first ≡ packet_frame (init_text start.bundle key)
    → (l : Listener) (served : Served) (o : Objects) (printed : Option (List ℕ)) (fails : ℕ) → l.count ≤ byte_limit
    → o.fails ≤ fails → (over : Result (SessionOver SessionEnd) (Fault SessionEnd))
    → MatchResult over (λ reason. EndsAt reason start l o) (λ fault. IsCut start fault l.log.items l.session o)
    → MatchResult over (λ reason. Closes reason served l.session (rest_change o printed fails))
    (λ fault. ClosesCut fault served l.session (rest_change o printed fails))
    → HearsTo served.end (record { served = served; log = l.log.items }) start.bundle start.bound key start.before.input
    o.input
    (link_change start o) (out_change start printed fails)
served_by start key first l served o printed fails within later (Ok reason) ends closes =
    closes_over start key first l.log.items served o printed fails reason l.session l.held.held l.count ends within
    later closes
served_by start key first l served o printed fails within later (Err fault) cut closes =
    closes_cut start key first l.log.items served o printed fails fault l.session cut later closes

-- no count of faults fell on the way
pub later_by : (start : Start) (l : Listener) (o : Objects)
    → (over : Result (SessionOver SessionEnd) (Fault SessionEnd))
    → MatchResult over (λ reason. EndsAt reason start l o) (λ fault. IsCut start fault l.log.items l.session o)
    → AreLater start.before o
later_by start l o (Ok (over.Ended end)) ends = ends.0.agrees.later
later_by start l o (Ok over.LinkEnd) ends = ends.0.agrees.later
later_by start l o (Ok over.ReadFault) ends = ends.0.agrees.later
later_by start l o (Ok (over.BadCommandFrame offset)) ends = ends.0.agrees.later
later_by start l o (Ok over.ByteLimit) ends = ends.0.agrees.later
later_by start l o (Err fault) cut = cut.later

-- a session over this bundle, before its first packet
abbrev pub start_of : Bundle → ℕ → List ℕ → Objects → Start
start_of bundle bound key o = record {
  bundle = bundle;
  bound = bound;
  first = packet_frame (init_text bundle key);
  before = o;
}
