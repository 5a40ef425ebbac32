-- The service of an engine, step by step.
use Rattle.std.proofs.Common.{◌≡◌, ◌==◌, ℕ, ◌+◌, true, false, List, [], ◌∷◌, ◌++◌, drop, slice_range, Option, None, Some, Ok, Err}
use Rattle.std.specs.Prelude.{⊤}
use Rattle.std.proofs.Common.{refl, sym, ap, subst, ◌∙◌, inl, inr, append_assoc, append-nil, arith}
use Rattle.std.proofs.lemmas.Bool.Decides.{nat_tests}
use Rattle.dp_outside.specs.declared.sinks.Sink as sink_of
use Rattle.dp_outside.specs.declared.sources.Source as source_of
use Rattle.dp_wire.specs.declared.errors.WireError.{WireError}
use Rattle.dp_wire.specs.Frames.{IsPartialPacket, packet_frame}
use Rattle.dp_lanes.specs.declared.lane.Lane.{Lane}
use Rattle.dp_lanes.specs.declared.lane.LaneKind.{LaneKind}
use Rattle.dp_lanes.specs.declared.lane.LaneKind.TheVariants.{Up}
use Rattle.dp_lanes.specs.Lanes.{is_bad}
use Rattle.dp_lanes.specs.Passed.{HasPassed}
use Rattle.dp_lanes.specs.Places.{IsFront, BeginsNone, Causes, Follows, IsBadIn, kind_of, received_in}
use Rattle.dp_lanes.proofs.PassedLaws.{passes_follows, passes_bad}
use Rattle.dp_registry.specs.declared.entry.Entry.TheVariants.{Admit}
use Rattle.dp_registry.specs.declared.pass.Pass.{Pass}
use Rattle.dp_registry.specs.declared.refusal.Refusal.{Refusal}
use Rattle.dp_registry.specs.declared.refusal.Refusal.TheVariants as refusal
use Rattle.dp_registry.specs.Verdicts.{admit_verdict, admit_reply_of}
use Rattle.dp_desk.specs.Desks.{Known, Called, Dismissed, without}
use Rattle.dp_proxy.specs.Inits.{GivesKey}
use Rattle.dp_proxy.specs.declared.errors.InitError.{InitError}
use Rattle.dp_proxy.specs.declared.errors.InitError.TheVariants as init_error
use Rattle.dp_relay.specs.declared.ends.LaneEnd.{LaneEnd}
use Rattle.dp_relay.specs.declared.ends.LaneEnd.TheVariants as lane_end
use Rattle.dp_relay.specs.declared.ends.RelayEnd.{RelayEnd}
use Rattle.dp_relay.specs.declared.ends.RelayEnd.TheVariants.{Joined, BadInit, NoSession, DialFault}
use Rattle.dp_relay.specs.declared.ends.RelayEnd.TheVariants.{NoThread, ReadFault, BadFrame, Memory}
use Rattle.dp_relay.specs.Ends.{Ends, Gives, Failed, IsFresh, ends, crossed, link_of, Gave}
use Rattle.dp_relay.specs.LaneRuns.{LaneRan, Ended}
use Rattle.dp_relay.specs.Engines.{Standing, standing, ComesWith, IsKeyless, IsBadFirst, Heard, Dialed, HadSession, Unasked, Refused, EngineServed}
use Rattle.dp_relay.specs.inner.Turns.{Behind, ReadFails, Fed}
use Rattle.dp_relay.specs.inner.Openings.{IsUndropped, HasNoKey, Fronts, Opens, Opened, end_of_reading, end_of_refusal, LanesRan, JoinEnds}
use Rattle.dp_relay.proofs.EndLaws.{gives_on}

-- ---- the first packet

undropped_passes : (lane : Lane) → IsUndropped lane → HasPassed Up lane (received_in lane).held []
undropped_passes lane is = record {
  way = is.0;
  texts = [];
  each = tt;
  whole = refl;
  put = refl;
  dropped = let start = is.1 in omega (arith, start);
}

module _ (lane : Lane) (is : IsUndropped lane) where
  pub front_comes : (start end : ℕ) (key : List ℕ) → IsFront (kind_of lane) (received_in lane).held start end
      → GivesKey (slice_range (received_in lane).held start end) key → ComesWith (received_in lane).held key
  front_comes start end key front gives =
      let held = (received_in lane).held in record {
        text = slice_range held start end;
        rest = drop (end + 1) held;
        begins = (subst (λ (k : LaneKind). IsFront k held start end) is.0 front).whole;
        gives = gives;
      }

  pub front_keyless : (start end : ℕ) → IsFront (kind_of lane) (received_in lane).held start end
      → ((key : List ℕ) → GivesKey (slice_range (received_in lane).held start end) key → ⊥)
      → HasNoKey (received_in lane).held
  front_keyless start end front none =
      let held = (received_in lane).held in (
        slice_range held start end,
        drop (end + 1) held,
        (subst (λ (k : LaneKind). IsFront k held start end) is.0 front).whole,
        none,
      )

  pub bad_first : (why : WireError) (offset : ℕ) → BeginsNone (kind_of lane) (received_in lane).held
      → Causes (kind_of lane) (received_in lane) why
      → ((kind : LaneKind) (stream : List ℕ) → Follows kind lane stream → is_bad kind stream ≡ true
      → IsBadIn kind stream offset)
      → IsBadFirst (received_in lane).held offset
  bad_first why offset none cause place =
      let held = (received_in lane).held in
      let passed = undropped_passes lane is in
      let bad = passes_bad Up lane held [] passed why none cause in (
        subst (λ (k : LaneKind). BeginsNone k held) is.0 none,
        place Up held (passes_follows Up lane held [] passed (inr none)) bad.bad,
      )

-- a text in which no key was found has none
pub no_key : (text : List ℕ) (why : InitError) → why ≡ init_error.BadInit
    → ((key : List ℕ) → GivesKey text key → why ≡ init_error.Memory) → (key : List ℕ) → GivesKey text key → ⊥
no_key text why is only key gives = let both = sym is ∙ only key gives in absurd cc

pub front_opens : (lane : Lane) (held : List ℕ) (rest : Option (List ℕ)) (a b : ℕ) (end : RelayEnd)
    → Fronts held (Err end) → b ≡ a → Opens lane held rest a b (Err end)
front_opens lane held rest a b BadInit f same = (inl f, same)
front_opens lane held rest a b (BadFrame offset) f same = (f, same)
front_opens lane held rest a b Memory f same = same
front_opens lane held rest a b (Joined number up down) f same = absurd f
front_opens lane held rest a b (NoSession why) f same = absurd f
front_opens lane held rest a b DialFault f same = absurd f
front_opens lane held rest a b NoThread f same = absurd f
front_opens lane held rest a b ReadFault f same = absurd f

-- ---- a piece more of it

module _ (lane last : Lane) (ahead mid rest before then after : Option (List ℕ)) (a b d : ℕ)
    (gives : Gives ahead mid before then (received_in lane).held) (same : b ≡ a)
    (part : IsPartialPacket (received_in lane).held) where
  abbrev held : List ℕ
  held = (received_in lane).held

  still_part : (piece : List ℕ) → piece ≡ [] → IsPartialPacket (held ++ piece)
  still_part piece none = subst IsPartialPacket (sym (ap (λ l. held ++ l) none ∙ append-nil held)) part

  unread : (piece : List ℕ) (end : LaneEnd) → Behind lane last piece (Err end) → ReadFails (Err end) b d
      → Opens last (held ++ piece) rest a d (Err (end_of_reading end))
  unread piece lane_end.End s f = absurd s
  unread piece lane_end.ReadFault s f = (still_part piece s.0, subst (λ (n : ℕ). Failed n d) same f)
  unread piece lane_end.WriteFault s f = absurd s
  unread piece (lane_end.BadFrame offset) s f = absurd s
  unread piece lane_end.Memory s f = f ∙ same

  pub opens_unread : (end : LaneEnd) → Fed lane last mid rest then after b d (Err end)
      → Opened last ahead rest before after a d (Err (end_of_reading end))
  opens_unread end fed = record {
    read = held ++ fed.piece;
    gives = gives_on ahead mid rest before then after held fed.piece gives fed.gives;
    opens = unread fed.piece end fed.behind fed.fails;
  }

  pub opens_ended : Fed lane last mid rest then after b d (Ok false)
      → Opened last ahead rest before after a d (Err BadInit)
  opens_ended fed = record {
    read = held ++ fed.piece;
    gives = gives_on ahead mid rest before then after held fed.piece gives fed.gives;
    opens = (inr (still_part fed.piece fed.behind.0, fed.at_end), fed.fails ∙ same);
  }

  pub reads_on : Fed lane last mid rest then after b d (Ok true)
      → Gives ahead rest before after (received_in last).held
  reads_on fed =
      subst (λ (l : List ℕ). Gives ahead rest before after l) (sym fed.behind.0)
      (gives_on ahead mid rest before then after held fed.piece gives fed.gives)

-- ---- links that were finished

pub finished : {S K : Type 0} (s : source_of.Ghosts S) (k : sink_of.Ghosts K) (x : S) (y z : K)
    → k.taken z ≡ k.taken y → k.faults z ≡ k.faults y → ends s k x z ≡ ends s k x y
finished s k x y z taken faults = λ i. record {
  left = s.left x;
  given = s.given x;
  taken = taken i;
  source_faults = s.faults x;
  sink_faults = faults i;
}

-- ---- the dial

module _ (held : List ℕ) (x y : Standing) (pass : Pass) (before after : Ends) (fresh : IsFresh before)
    (dialed : Dialed x y pass (Some (link_of before))) where
  pub join_ends : (end : RelayEnd)
      → LanesRan held pass.session x.engine y.engine before after x.starts y.starts x.start_faults y.start_faults end
      → JoinEnds held x y pass (Some after) end
  join_ends (Joined number up down) ran = (
    ran.0,
    record {
      before = before;
      after = after;
      fresh = fresh;
      dialed = dialed;
      link = refl;
      ran = ran.1;
    },
  )
  join_ends NoThread ran = record {
    link = before;
    fresh = fresh;
    dialed = dialed;
    untouched = ap Some ran.ide;
    engine = ran.engine;
    start = ran.start;
    failed = ran.failed;
  }
  join_ends BadInit ran = absurd ran
  join_ends ReadFault ran = absurd ran
  join_ends (BadFrame offset) ran = absurd ran
  join_ends Memory ran = absurd ran
  join_ends (NoSession why) ran = absurd ran
  join_ends DialFault ran = absurd ran

-- ---- the session

without_first : (s : ℕ) (ns : List ℕ) → without s (s ∷ ns) ≡ ns
without_first s ns = let yes : (s == s) ≡ true = grind (arith, nat_tests) in rw yes refl

pub had_session : (v u w : Known) (key : List ℕ) (pass : Pass)
    → Called v u (λ journal. admit_verdict journal key) (λ reply. Admit key reply) admit_reply_of (Ok pass)
    → Dismissed u w pass.session → HadSession v w key pass
had_session v u w key pass admitted dismissed = record {
  between = u;
  admitted = admitted;
  dismissed = dismissed;
  held = dismissed.entered.held ∙ ap (without pass.session) admitted.entered.held
      ∙ without_first pass.session v.held;
}

-- the engine's link after its first packet: its sink is as it was
module _ (v w : Known) (x : Standing) (n : Ends) (read : List ℕ) (gave : Gave x.engine n read) where
  abbrev pub opened_at : Standing
  opened_at = standing (crossed n x.engine) x.dials x.dial_faults x.starts x.start_faults

  heard : (y : Standing) → y.engine ≡ crossed n x.engine → Heard x y read
  heard y is = record {
    gave = subst (λ (e : Ends). Gave x.engine e read) (sym is) gave;
    silent = ap (λ (e : Ends). e.taken) is;
    held = ap (λ (e : Ends). e.sink_faults) is;
  }

  -- the desk was not asked
  unasked : (cause : List ℕ → Type 0) → cause read → Unasked v v x opened_at None cause
  unasked cause is = record {
    read = read;
    heard = heard opened_at refl;
    cause = is;
    clerk = refl;
    no_dial = record { dials = refl; faults = refl };
    no_start = record { starts = refl; faults = refl };
    no_link = refl;
  }

  pub served_unasked : (lane : Lane) (end : RelayEnd)
      → Opens lane read n.left x.engine.source_faults n.source_faults (Err end)
      → EngineServed v v x opened_at None end
  served_unasked lane BadInit o = (unasked (λ l. IsKeyless l n.left) o.0, o.1)
  served_unasked lane ReadFault o = (unasked IsPartialPacket o.0, o.1)
  served_unasked lane (BadFrame offset) o = (unasked (λ l. IsBadFirst l offset) o.0, o.1)
  served_unasked lane Memory o = inl (unasked (λ l. ⊤) tt, o)
  served_unasked lane (Joined number up down) o = absurd o
  served_unasked lane (NoSession why) o = absurd o
  served_unasked lane DialFault o = absurd o
  served_unasked lane NoThread o = absurd o

  module _ (key : List ℕ) (comes : ComesWith read key) (same : n.source_faults ≡ x.engine.source_faults) where
    -- it refused
    refused : (why : Refusal)
        → Called v w (λ journal. admit_verdict journal key) (λ reply. Admit key reply) admit_reply_of (Err why)
        → Refused v w x opened_at None why
    refused why asked = record {
      read = read;
      key = key;
      heard = heard opened_at refl;
      source = same;
      comes = comes;
      called = asked;
      no_dial = record { dials = refl; faults = refl };
      no_start = record { starts = refl; faults = refl };
      no_link = refl;
    }

    pub served_refused : (why : Refusal)
        → Called v w (λ journal. admit_verdict journal key) (λ reply. Admit key reply) admit_reply_of (Err why)
        → EngineServed v w x opened_at None (end_of_refusal why)
    served_refused refusal.Memory asked = inr (refused refusal.Memory asked)
    served_refused (refusal.Taken host port) asked = (refused (refusal.Taken host port) asked, λ e. absurd cc)
    served_refused refusal.Unknown asked = (refused refusal.Unknown asked, λ e. absurd cc)
    served_refused refusal.NotYours asked = (refused refusal.NotYours asked, λ e. absurd cc)
    served_refused (refusal.Busy session) asked = (refused (refusal.Busy session) asked, λ e. absurd cc)
    served_refused (refusal.Full events live) asked = (refused (refusal.Full events live) asked, λ e. absurd cc)

    -- it gave a session
    comes_more : (more : List ℕ) → ComesWith (read ++ more) key
    comes_more more = record {
      text = comes.text;
      rest = comes.rest ++ more;
      begins = record {
        is_text = comes.begins.is_text;
        whole = ap (λ l. l ++ more) comes.begins.whole ∙ append_assoc (packet_frame comes.text) comes.rest more;
      };
      gives = comes.gives;
    }

    ended_all : (i b : Ends) (end : LaneEnd) → Ended (crossed (crossed n x.engine) i) b end
        → Ended (crossed x.engine i) b end
    ended_all i b lane_end.End e = (e.0 ∙ same, e.1, e.2)
    ended_all i b lane_end.ReadFault e = (subst (λ (c : ℕ). Failed c b.source_faults) same e.0, e.1)
    ended_all i b lane_end.WriteFault e = (e.0 ∙ same, e.1)
    ended_all i b (lane_end.BadFrame offset) e = (e.0 ∙ same, e.1)
    ended_all i b lane_end.Memory e = (e.0 ∙ same, e.1)

    abbrev ran_all : (i b : Ends) (end : LaneEnd) → (ran : LaneRan Up read (crossed (crossed n x.engine) i) b end)
        → LaneRan Up [] (crossed x.engine i) b end
    ran_all i b end ran = record {
      read = read ++ ran.read;
      written = ran.written;
      gave = gives_on x.engine.left n.left b.left x.engine.given n.given b.given read ran.read gave ran.gave;
      took = ran.took;
      passed = ran.passed;
      ended = ended_all i b end ran.ended;
    }

    pub served_joined : (y : Standing) (pass : Pass) (ide : Option Ends) (end : RelayEnd)
        → HadSession v w key pass → JoinEnds read opened_at y pass ide end → EngineServed v w x y ide end
    served_joined y pass ide (Joined number up down) session j = record {
      key = key;
      pass = pass;
      before = j.1.before;
      after = j.1.after;
      numbered = j.0;
      session = session;
      fresh = j.1.fresh;
      dialed = record { dials = j.1.dialed.dials; later = j.1.dialed.later };
      starts = j.1.ran.start;
      granted = j.1.ran.granted;
      link = j.1.link;
      packets = ran_all j.1.before (crossed y.engine j.1.after) up j.1.ran.packets;
      commands = j.1.ran.commands;
      comes = comes_more j.1.ran.packets.read;
    }
    served_joined y pass ide NoThread session j = record {
      read = read;
      key = key;
      pass = pass;
      link = j.link;
      heard = heard y j.engine;
      source = ap (λ (e : Ends). e.source_faults) j.engine ∙ same;
      comes = comes;
      session = session;
      fresh = j.fresh;
      dialed = record { dials = j.dialed.dials; later = j.dialed.later };
      start = j.start;
      failed = j.failed;
      untouched = j.untouched;
    }
    served_joined y pass ide DialFault session j = record {
      read = read;
      key = key;
      pass = pass;
      heard = heard y j.engine;
      source = ap (λ (e : Ends). e.source_faults) j.engine ∙ same;
      comes = comes;
      session = session;
      dialed = record { dials = j.dialed.dials; later = j.dialed.later };
      failed = j.failed;
      no_start = record { starts = j.no_start.starts; faults = j.no_start.faults };
      no_link = j.no_link;
    }
    served_joined y pass ide BadInit session j = absurd j
    served_joined y pass ide ReadFault session j = absurd j
    served_joined y pass ide (BadFrame offset) session j = absurd j
    served_joined y pass ide Memory session j = absurd j
    served_joined y pass ide (NoSession why) session j = absurd j
