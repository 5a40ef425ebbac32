-- What becomes of a session is told by its own link, and its engine has sent what was read of it.
use Rattle.std.proofs.Common.{◌≡◌, ◌⊎◌, ℕ, ◌≤◌, ◌==◌, Bool, true, false, ◌&&◌, List, [], ◌∷◌, ◌++◌, length, take, drop, flat_map}
use Rattle.std.proofs.Common.{fold, Ok, refl, sym, ap, subst, ◌∙◌, inl, inr, append_assoc, append-nil, arith}
use Rattle.std.proofs.Common.{length-append}
use Rattle.std.proofs.lemmas.Bool.{eqb-true, eq-eqb, or_parts}
use Rattle.std.proofs.lemmas.Bool.Decides.{nat_tests}
use Rattle.std.proofs.lemmas.Grind.{fold-append}
use Rattle.std.proofs.lemmas.List.{take_at, take-append-drop}
use Rattle.std.proofs.lemmas.List.Concat.{flat_map-append}
use Rattle.std.proofs.Math.Seq.{drop-append_seam}
use Rattle.dp_world.specs.Alone.{Engines, alone}
use Rattle.dp_lanes.specs.declared.lane.LaneKind.TheVariants.{Up, Down}
use Rattle.dp_conversation.specs.Growth.{Begins}
use Rattle.dp_events.specs.declared.event.Act.{Act}
use Rattle.dp_events.specs.declared.event.Act.TheVariants.{Ide, Engine, Give, Move, Close}
use Rattle.dp_events.specs.declared.event.Event.{Event}
use Rattle.dp_events.specs.Lists.{AllFit, Fits, makes, was}
use Rattle.dp_proxy.specs.declared.events.Act.{Act as ProxyAct}
use Rattle.dp_proxy.specs.Links.{stream, brought, ends}
use Rattle.dp_proxy.specs.Pasts.{Link, New, Joined, Ended, Past, Lead, start, came, lead, acts_of}
use Rattle.dp_proxy.proofs.HandedLaws.{all_is_handed}
use Rattle.dp_proxy.proofs.PassLaws.{stream_push}
use Rattle.dp_proxy.proofs.ActLaws.{engine_comes, given_before, moved_before, closed_before, joined_on, joined_over, over_still}
use Rattle.dp_registry.specs.declared.entry.Entry.{Entry}
use Rattle.dp_registry.specs.declared.pass.Pass.{Pass}
use Rattle.dp_wire.specs.Frames.{packet_frame, packets_in}
use Rattle.dp_world.specs.Engines.{act_of, followed, past_of, acts_on, by_itself, alone_on}
use Rattle.dp_world.specs.Headline.{EachReceives, IsSession, Receives}
use Rattle.dp_world.specs.Transcript.{session_of, shown, shown_at, shown_of, transcript}

-- ---- fronts

pub longer : (a b : List ℕ) → Begins a b → length a ≤ length b
longer a b f = omega (arith, ap length f.1, length-append a f.0)

-- one that begins stays, where nothing more is read
still_begins : (up sends more : List ℕ) → Begins up sends → Begins sends more → Begins (up ++ []) more
still_begins up sends more f g = (
  f.0 ++ g.0,
  g.1 ∙ ap (λ l. l ++ g.0) (f.1 ∙ ap (λ l. l ++ f.0) (sym (append-nil up)))
      ∙ append_assoc (up ++ []) f.0 g.0,
)

-- the next bytes behind it begin it too
reads_on : (up sends : List ℕ) (count : ℕ) → Begins up sends
    → Begins (up ++ take count (drop (length up) sends)) sends
reads_on up sends count f =
    let behind : drop (length up) sends ≡ f.0 = ap (drop (length up)) f.1 ∙ drop-append_seam up f.0 in
    let piece : take count (drop (length up) sends) ≡ take count f.0 = ap (take count) behind in (
      drop count f.0,
      f.1 ∙ ap (λ l. up ++ l) (sym (take-append-drop count f.0))
          ∙ sym (append_assoc up (take count f.0) (drop count f.0))
          ∙ ap (λ l. up ++ l ++ drop count f.0) (sym piece),
    )

pub front_of : (up sends : List ℕ) → Begins up sends → up ≡ take (length up) sends
front_of up sends f = sym (ap (take (length up)) f.1 ∙ take_at up f.0 (length up) refl)

module _ {S E : Type 0} (engines : Engines S E) (grows : (key bytes more : List ℕ)
    → Begins (alone engines key bytes) (alone engines key (bytes ++ more))) where
  -- ---- other links

  apart : (past : Past) (e : Event) (link : ℕ) → (e.link == link) ≡ false
      → (followed engines past e).link link ≡ past.link link
  apart past e link isnt = let other : (link == e.link) ≡ false = grind (arith, nat_tests) in rw other refl

  here : (past : Past) (e : Event) (link : ℕ) → (e.link == link) ≡ true
      → (followed engines past e).link link ≡ (lead past.journal (past.link link)
      (act_of engines (past.link link) e.act)).link
  here past e link is =
      let same : e.link ≡ link = eqb-true e.link link is in
      let self : (link == link) ≡ true = eq-eqb link link refl in
      subst (λ (n : ℕ). (came past n (act_of engines (past.link n) e.act)).link link ≡
      (lead past.journal (past.link link) (act_of engines (past.link link) e.act)).link)
      (sym same) (rw self refl)

  -- a link that was not made is new
  idle_new : (journal : List Entry) (act : Act) → makes act ≡ false
      → (lead journal New (act_of engines New act)).link ≡ New
  idle_new journal (Ide host) none = absurd cc
  idle_new journal (Engine key) none = absurd cc
  idle_new journal (Give bytes) none = ap (λ (t : Lead). t.link) (given_before journal bytes)
  idle_new journal (Move count) none = ap (λ (t : Lead). t.link) (moved_before journal [])
  idle_new journal Close none = ap (λ (t : Lead). t.link) (closed_before journal)

  still_new : (past : Past) (events : List Event) (link : ℕ) → past.link link ≡ New → was makes link events ≡ false
      → (fold (followed engines) past events).link link ≡ New
  still_new past [] link new none = new
  still_new past (e ∷ events) link new none =
      let parts = or_parts ((e.link == link) && makes e.act) (was makes link events) none in
      still_new (followed engines past e) events link (by (e.link == link) refl parts.0) parts.1
    where
      by : (t : Bool) → (e.link == link) ≡ t → ((e.link == link) && makes e.act) ≡ false
          → (followed engines past e).link link ≡ New
      by true is both =
          let none : makes e.act ≡ false = rw is at both in
          here past e link is ∙ ap (λ l. (lead past.journal l (act_of engines l e.act)).link) new ∙ idle_new
          past.journal e.act none
      by false isnt both = apart past e link isnt ∙ new

  -- ---- a session

  module _ (key : List ℕ) (pass : Pass) where
    -- it is open or over, after these acts; and what was read begins what its engine has sent
    record IsServed (link : Link) : Type 0 where
      acts : List ProxyAct
      is : (link ≡ Joined key pass acts) ⊎ (link ≡ Ended key pass acts)
      sent : Begins (stream Up acts) (alone engines key (stream Down acts))

    pub sent_on : (acts : List ProxyAct) (act : Act)
        → Begins (stream Up acts) (alone engines key (stream Down acts))
        → Begins (stream Up (acts ++ act_of engines (Joined key pass acts) act ∷ []))
        (alone engines key (stream Down (acts ++ act_of engines (Joined key pass acts) act ∷ [])))
    sent_on acts act sent =
        let now = act_of engines (Joined key pass acts) act in
        subst (λ s. Begins s (alone engines key (stream Down (acts ++ now ∷ []))))
        (sym (stream_push Up acts now))
        (subst (λ s. Begins (stream Up acts ++ brought Up now) (alone engines key s))
        (sym (stream_push Down acts now)) (by act))
      where
        same : (bytes : List ℕ)
            → Begins (stream Up acts ++ []) (alone engines key (stream Down acts ++ bytes))
        same bytes =
            still_begins (stream Up acts) (alone engines key (stream Down acts))
            (alone engines key (stream Down acts ++ bytes)) sent (grows key (stream Down acts) bytes)

        by : (a : Act) → Begins (stream Up acts ++ brought Up (act_of engines (Joined key pass acts) a))
            (alone engines key (stream Down acts
            ++ brought Down (act_of engines (Joined key pass acts) a)))
        by (Ide host) = same []
        by (Engine other) = same []
        by (Give bytes) = same bytes
        by Close = same []
        by (Move count) =
            let sends = alone engines key (stream Down acts) in
            let piece = take count (drop (length (stream Up acts)) sends) in
            subst (λ s. Begins (stream Up acts ++ piece) (alone engines key s))
            (sym (append-nil (stream Down acts)))
            (reads_on (stream Up acts) sends count sent)

    abbrev now_at : List ProxyAct → Act → ProxyAct
    now_at acts act = act_of engines (Joined key pass acts) act

    served_on : (journal : List Entry) (link : Link) (act : Act) → IsServed link
        → IsServed (lead journal link (act_of engines link act)).link
    served_on journal link act s = elim s.is [
      | inl live ↦ subst (λ l. IsServed (lead journal l (act_of engines l act)).link) (sym live)
          (by (ends s.acts (now_at s.acts act)) refl)
      | inr over ↦ record {
        acts = s.acts;
        is = inr (ap (λ l. (lead journal l (act_of engines l act)).link) over ∙
            stays);
        sent = s.sent;
      }
    ] where
      stays : (lead journal (Ended key pass s.acts) (act_of engines (Ended key pass s.acts) act)).link ≡ Ended key
          pass s.acts
      stays =
          ap (λ (t : Lead). t.link) (over_still journal (Ended key pass s.acts)
          (act_of engines (Ended key pass s.acts) act) tt)

      by : (t : Bool) → ends s.acts (now_at s.acts act) ≡ t
          → IsServed (lead journal (Joined key pass s.acts) (now_at s.acts act)).link
      by true e = record {
        acts = s.acts;
        is = inr (ap (λ (t : Lead). t.link) (joined_over journal key pass s.acts (now_at s.acts act) e));
        sent = s.sent;
      }
      by false e = record {
        acts = s.acts ++ now_at s.acts act ∷ [];
        is = inl (ap (λ (t : Lead). t.link) (joined_on journal key pass s.acts (now_at s.acts act) e));
        sent = sent_on s.acts act s.sent;
      }

    -- the journal has no say in it
    no_say : (journal : List Entry) (link : Link) (act : Act) → IsServed link
        → (lead journal link (act_of engines link act)).link ≡ (lead [] link (act_of engines link act)).link
    no_say journal link act s = elim s.is [
      | inl live ↦
          let P : Link → Type 0 = λ l. (lead journal l (act_of engines l act)).link ≡
          (lead [] l (act_of engines l act)).link in
          subst P (sym live) (by (ends s.acts (now_at s.acts act)) refl)
      | inr over ↦
          let P : Link → Type 0 = λ l. (lead journal l (act_of engines l act)).link ≡
          (lead [] l (act_of engines l act)).link in
          subst P (sym over) (still journal ∙ sym (still []))
    ] where
      still : (j : List Entry)
          → (lead j (Ended key pass s.acts) (act_of engines (Ended key pass s.acts) act)).link ≡ Ended key pass
          s.acts
      still j =
          ap (λ (t : Lead). t.link) (over_still j (Ended key pass s.acts)
          (act_of engines (Ended key pass s.acts) act) tt)

      by : (t : Bool) → ends s.acts (now_at s.acts act) ≡ t
          → (lead journal (Joined key pass s.acts) (now_at s.acts act)).link ≡
          (lead [] (Joined key pass s.acts) (now_at s.acts act)).link
      by true e =
          ap (λ (t : Lead). t.link) (joined_over journal key pass s.acts (now_at s.acts act) e) ∙ sym
          (ap (λ (t : Lead). t.link) (joined_over [] key pass s.acts (now_at s.acts act) e))
      by false e =
          ap (λ (t : Lead). t.link) (joined_on journal key pass s.acts (now_at s.acts act) e) ∙ sym
          (ap (λ (t : Lead). t.link) (joined_on [] key pass s.acts (now_at s.acts act) e))

    abbrev step : Link → Act → Link
    step link act = (lead [] link (act_of engines link act)).link

    -- all events come to what those of its own link come to
    its_own : (past : Past) (events : List Event) (link : ℕ) → IsServed (past.link link)
        → (fold (followed engines) past events).link link ≡ fold step (past.link link) (acts_on link events)
    its_own past [] link s = refl
    its_own past (e ∷ events) link s = by (λ p q. its_own p events link q) (e.link == link) refl where
      by : ((p : Past) → IsServed (p.link link)
          → (fold (followed engines) p events).link link ≡ fold step (p.link link) (acts_on link events))
          → (t : Bool) → (e.link == link) ≡ t
          → (fold (followed engines) (followed engines past e) events).link link ≡ fold step (past.link link)
          (acts_on link (e ∷ events))
      by rest true is =
          let one : (followed engines past e).link link ≡ step
          (past.link link) e.act = here past e link is ∙ no_say past.journal (past.link link) e.act s in
          let now : IsServed ((followed engines past e).link link) = subst IsServed (sym (here past e link is))
          (served_on past.journal (past.link link) e.act s) in
          rest (followed engines past e) now ∙ ap (λ l. fold step l (acts_on link events)) one ∙ rw is refl
      by rest false isnt =
          let one : (followed engines past e).link link ≡ past.link link = apart past e link isnt in
          rest (followed engines past e) (subst IsServed (sym one) s) ∙ ap
          (λ l. fold step l (acts_on link events)) one ∙ rw isnt refl

    begun : IsServed (Joined key pass [])
    begun = record { acts = []; is = inl refl; sent = (alone engines key [], refl) }

    all_served : (link : Link) (acts : List Act) → IsServed link → IsServed (fold step link acts)
    all_served link [] s = s
    all_served link (act ∷ acts) s = all_served (step link act) acts (served_on [] link act s)

    acts_served : (link : Link) (s : IsServed link) → acts_of link ≡ s.acts
    acts_served link s = elim s.is [ inl live ↦ ap acts_of live | inr over ↦ ap acts_of over ]

    -- what was read of its engine by itself begins what that has sent
    pub its_sent : (acts : List Act)
        → Begins (stream Up (alone_on engines key pass acts))
        (alone engines key (stream Down (alone_on engines key pass acts)))
    its_sent acts =
        let link = by_itself engines key pass acts in
        let s = all_served (Joined key pass []) acts begun in
        subst (λ a. Begins (stream Up a) (alone engines key (stream Down a))) (sym (acts_served link s)) s.sent

    shown_served : (number : ℕ) (link : Link) (s : IsServed link)
        → shown engines number link ≡ session_of engines number key pass (stream Down (acts_of link))
        (length (stream Up (acts_of link)))
    shown_served number link s =
        let P : Link → Type 0 = λ l. shown engines number l ≡ session_of engines number key pass
        (stream Down (acts_of l)) (length (stream Up (acts_of l))) in
        elim s.is [ inl live ↦ subst P (sym live) refl | inr over ↦ subst P (sym over) refl ]

  -- ---- the headline

  fit_at : (before so_far : List Event) (e : Event) (after : List Event) → AllFit so_far (before ++ e ∷ after)
      → Fits (so_far ++ before) e
  fit_at [] so_far e after h = subst (λ b. Fits b e) (sym (append-nil so_far)) h.0
  fit_at (first ∷ before) so_far e after h =
      subst (λ b. Fits b e) (append_assoc so_far (first ∷ []) before) (fit_at before (so_far ++ first ∷ []) e after h.1)

  module _ (events : List Event) (fit : AllFit [] events) (link : ℕ) (key : List ℕ) (pass : Pass)
      (its : IsSession engines events link key pass) where
    abbrev connects : Event
    connects = record { link = link; act = Engine key }

    abbrev before : Past
    before = past_of engines its.before

    abbrev alone_link : Link
    alone_link = by_itself engines key pass (acts_on link its.after)

    abbrev acts : List ProxyAct
    acts = alone_on engines key pass (acts_on link its.after)

    abbrev given : List ℕ
    given = stream Down acts

    served : IsServed key pass alone_link
    served = all_served key pass (Joined key pass []) (acts_on link its.after) (begun key pass)

    new : before.link link ≡ New
    new =
        let f = fit_at its.before [] connects its.after (subst (AllFit []) its.connects fit) in
        still_new start its.before link refl f.follows

    joined : (followed engines before connects).link link ≡ Joined key pass []
    joined =
        here before connects link (eq-eqb link link refl) ∙ ap
        (λ l. (lead before.journal l (act_of engines l (Engine key))).link) new
        ∙ ap (λ (t : Lead). t.link) (engine_comes before.journal key (Ok pass) (sym its.gives))

    after : (past_of engines events).link link ≡ alone_link
    after =
        ap (λ es. (past_of engines es).link link) its.connects
        ∙ ap (λ (p : Past). p.link link) (fold-append (followed engines) start its.before (connects ∷ its.after))
        ∙ its_own key pass (followed engines before connects) its.after link
        (subst (IsServed key pass) (sym joined) (begun key pass))
        ∙ ap (λ l. fold (step key pass) l (acts_on link its.after)) joined

    own_lines : shown_at engines (past_of engines events) connects ≡ session_of engines link key pass
        given (length (stream Up acts))
    own_lines = ap (shown engines link) after ∙ shown_served key pass link alone_link served

    lines : transcript engines events
        ≡ shown_of engines (past_of engines events) its.before
        ++ session_of engines link key pass given (length (stream Up acts))
        ++ shown_of engines (past_of engines events) its.after
    lines =
        let past = past_of engines events in
        let first = shown_of engines past its.before in
        let last = shown_of engines past its.after in
        ap (shown_of engines past) its.connects
        ∙ flat_map-append (shown_at engines past) its.before (connects ∷ its.after)
        ∙ ap (λ l. first ++ (l ++ last)) own_lines
        ∙ sym (append_assoc first (session_of engines link key pass given (length (stream Up acts))) last)

    sent : Begins (stream Up acts) (alone engines key given)
    sent = its_sent key pass (acts_on link its.after)

    receives : Receives engines events link key pass its
    receives = record {
      given = given;
      read = length (stream Up acts);
      its_ide = refl;
      its_engine = refl;
      sent = longer (stream Up acts) (alone engines key given) sent;
      handed = all_is_handed Up acts
          ∙ ap (λ s. flat_map packet_frame (packets_in s)) (front_of (stream Up acts) (alone engines key given) sent);
      commands = all_is_handed Down acts;
      printed = lines;
    }

  pub holds : (events : List Event) → EachReceives engines events
  holds events = λ fit link key pass its. receives events fit link key pass its
