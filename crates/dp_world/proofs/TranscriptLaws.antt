-- The transcript, as it is written link by link.
use Rattle.std.proofs.Common.{◌≡◌, ℕ, ◌≤◌, Bool, true, false, List, [], ◌∷◌, ◌++◌, length, take, flat_map, codes}
use Rattle.std.proofs.Common.{Option, Some, None, Result, Ok, Err, nat_eq, decimal, refl, sym, ap, subst, ◌∙◌, append_assoc, append-nil, arith}
use Rattle.std.specs.Io.KnownBytes.{Appends}
use Rattle.std.specs.List.{AllByRecursion, IsDistinct}
use Rattle.std.specs.Map.{keys_of}
use Rattle.std.specs.Result.{OnOk}
use Rattle.std.proofs.KnownBytes.{Appends-trans}
use Rattle.std.proofs.lemmas.Bool.{eqb-true, eq-eqb}
use Rattle.std.proofs.lemmas.List.Concat.{flat_map-append}
use Rattle.std.proofs.lemmas.Result.{on_ok_weaker}
use Rattle.dp_outside.specs.Changes.{Change}
use Rattle.dp_outside.specs.Streams.{AppendsFront}
use Rattle.dp_conversation.proofs.FrontLaws.{front_after, front_of_more}
use Rattle.dp_world.specs.Alone.{Engines}
use Rattle.dp_lanes.specs.declared.lane.LaneKind.TheVariants.{Up, Down}
use Rattle.dp_registry.specs.declared.pass.Pass.{Pass}
use Rattle.dp_events.specs.declared.event.Event.{Event}
use Rattle.dp_events.specs.Lists.{hex, makes}
use Rattle.dp_proxy.specs.declared.events.Act.{Act as ProxyAct}
use Rattle.dp_proxy.specs.Links.{stream}
use Rattle.dp_proxy.specs.Pasts.{Link, New, Asking, Settled, Joined, Ended as Over, Refused, Past}
use Rattle.dp_world.specs.declared.engine.Ended.{Ended}
use Rattle.dp_world.specs.declared.engine.Engine.{Engine}
use Rattle.dp_world.specs.declared.errors.ReplayError.{ReplayError}
use Rattle.dp_world.specs.declared.errors.ReplayError.TheVariants.{OutFault, Memory}
use Rattle.dp_world.specs.declared.shown.Shown.{Shown}
use Rattle.dp_world.specs.Replays.{Replays}
use Rattle.dp_world.specs.Transcript.{line, session, session_of, shown, shown_of, transcript}
use Rattle.dp_state.specs.Statuses.{status}
use Rattle.dp_world.specs.inner.KeptLinks.{IsTo, Has, IsShown, IsShownAt, AreShown, kept_at, made}
use Rattle.dp_world.specs.inner.EngineStates.{IsEngineAfter}
use Rattle.dp_world.specs.inner.LinkLines.{Writes, lines_at, lines_of, AllShown}
use Rattle.dp_world.proofs.EngineLaws.{ended_shows}

-- ---- a session

abbrev told_of : Ended → List ℕ
told_of end =
    line (codes "ide") (hex end.received.items) ++ line (codes "engine") (hex end.given.items)
    ++ line (codes "output") (hex end.own.items) ++ line (codes "end") (decimal (status end.outcome))

module _ {S E : Type 0} (engines : Engines S E) (link : ℕ) (key host : List ℕ) (port : ℕ) (engine : Engine S E)
    (end : Ended)
    (front : end.received.items ≡ take engine.received engine.sent.items) (given : end.given.items ≡ engine.given.items)
    (own : end.own.items ≡ engine.own.items ++ engines.rest_after engine.ended engine.session)
    (outcome : end.outcome ≡ engines.ending_after engine.ended engine.session) where
  session_is : (to : List ℕ) (pass : Pass) (acts : List ProxyAct) → IsTo to pass key host port
      → IsEngineAfter engines to acts engine
      → session link key (codes " to " ++ host ++ codes ":" ++ decimal port) ++ told_of end
      ≡ session_of engines link to pass (stream Down acts) (length (stream Up acts))
  session_is to pass acts is stands =
      let s = ended_shows engines to acts engine stands end front given own outcome in
      λ i. session link (is.0 i) (codes " to " ++ is.1 i ++ codes ":" ++ decimal (is.2 i))
      ++ (line (codes "ide") (hex (s.received i)) ++ line (codes "engine") (hex (s.commands i))
      ++ line (codes "output") (hex (s.output i)) ++ line (codes "end") (decimal (status (s.outcome i))))

  has_shown : (of : Link) → Has engines of key host port engine
      → session link key (codes " to " ++ host ++ codes ":" ++ decimal port) ++ told_of end ≡ shown engines link of
  has_shown New h = absurd h
  has_shown (Asking name heard) h = absurd h
  has_shown (Settled name reply) h = absurd h
  has_shown (Refused to why) h = absurd h
  has_shown (Joined to pass acts) h = session_is to pass acts h.0 h.1
  has_shown (Over to pass acts) h = session_is to pass acts h.0 h.1

  pub puts_session : {F : Type 0} (r : Result (Unit {0}) F) (old mid new : List ℕ) (of : Link)
      → Has engines of key host port engine
      → mid ≡ old ++ session link key (codes " to " ++ host ++ codes ":" ++ decimal port)
      → OnOk r (new ≡ mid ++ told_of end)
      → OnOk r (new ≡ old ++ shown engines link of)
  puts_session r old mid new of h first rest =
      let head = session link key (codes " to " ++ host ++ codes ":" ++ decimal port) in
      on_ok_weaker r
      (λ (e : new ≡ mid ++ told_of end). e ∙ ap (λ l. l ++ told_of end) first ∙ append_assoc old head (told_of end) ∙ ap
      (λ l. old ++ l) (has_shown of h))
      rest

-- ---- links one after another

module _ {S E : Type 0} (engines : Engines S E) (past : Past) where
  none_is : (number : ℕ) (links : List (ℕ × Shown S E)) → AllByRecursion (λ k. nat_eq number k ≡ false) (keys_of links)
      → kept_at links number ≡ None
  none_is number [] h = refl
  none_is number (e ∷ links) h = rw h.0 (none_is number links h.1)

  abbrev EachKnown : List (ℕ × Shown S E) → Type 0
  EachKnown links =
      (number : ℕ) (kept : Shown S E) → kept_at links number ≡ Some kept → IsShown engines (past.link number) kept

  all_known : (links : List (ℕ × Shown S E)) → IsDistinct nat_eq (keys_of links) → EachKnown links
      → AllShown engines past links
  unfolding IsDistinct
  all_known [] distinct known = tt
  all_known (e ∷ links) distinct known =
      let self : nat_eq e.0 e.0 ≡ true = eq-eqb e.0 e.0 refl in (
        known e.0 e.1 (rw self refl),
        all_known links distinct.1 (λ number kept is. by number kept is (nat_eq number e.0) refl),
      )
    where
      by : (number : ℕ) (kept : Shown S E) → kept_at links number ≡ Some kept → (t : Bool) → nat_eq number e.0 ≡ t
          → IsShown engines (past.link number) kept
      by number kept is true same =
          let here : number ≡ e.0 = eqb-true number e.0 same in
          let none : kept_at links number ≡ None = ap (kept_at links) here ∙ none_is e.0 links distinct.0 in
          let clash : Some kept ≡ None = sym is ∙ none in
          absurd cc
      by number kept is false other = known number kept (rw other is)

  pub all_shown : (links : List (ℕ × Shown S E)) → IsDistinct nat_eq (keys_of links) → AreShown engines past links
      → AllShown engines past links
  all_shown links distinct are =
      all_known links distinct (λ number kept is. subst (IsShownAt engines (past.link number)) is (are number))

  pub next_shown : (done : List (ℕ × Shown S E)) (e : ℕ × Shown S E) (left : List (ℕ × Shown S E))
      → AllShown engines past (done ++ e ∷ left)
      → IsShown engines (past.link e.0) e.1
  next_shown [] e left h = h.0
  next_shown (first ∷ done) e left h = next_shown done e left h.1

  module _ (done : List (ℕ × Shown S E)) (e : ℕ × Shown S E) (a b c : Option (List ℕ))
      (so_far : Appends a b (lines_of engines past done)) where
    pub wrote_one : Appends b c (lines_at engines past e)
        → Appends a c (lines_of engines past (done ++ e ∷ []))
    wrote_one more =
        subst (Appends a c)
        (sym (flat_map-append (lines_at engines past) done (e ∷ []) ∙ ap
        (λ l. lines_of engines past done ++ l) (append-nil (lines_at engines past e))))
        (Appends-trans a b c (lines_of engines past done) (lines_at engines past e) so_far more)

    module _ (left : List (ℕ × Shown S E)) where
      wrote_front : AppendsFront b c (lines_at engines past e)
          → AppendsFront a c (lines_of engines past (done ++ e ∷ left))
      wrote_front front =
          let first = lines_of engines past done in
          let next = lines_at engines past e in
          let rest = lines_of engines past left in
          subst (AppendsFront a c) (sym (flat_map-append (lines_at engines past) done (e ∷ left) ∙ sym
          (append_assoc first next rest)))
          (front_of_more a c (first ++ next) rest (front_after a b c first next so_far front))

      pub wrote_some : (why : ReplayError) (f g h : ℕ) → f ≤ g
          → Writes (Err why) (lines_at engines past e) (record
          { told_before = b; told = c; faults_before = g; faults = h })
          → Writes (Err why) (lines_of engines past (done ++ e ∷ left))
          (record { told_before = a; told = c; faults_before = f; faults = h })
      wrote_some OutFault f g h before w = let rose = w.0 in (omega arith, wrote_front w.1)
      wrote_some Memory f g h before w = wrote_front w

-- ---- the transcript

module _ {S E : Type 0} (engines : Engines S E) (past : Past) where
  abbrev at : ℕ → List ℕ
  at number = shown engines number (past.link number)

  by_keys : (links : List (ℕ × Shown S E)) → lines_of engines past links ≡ flat_map at (keys_of links)
  by_keys [] = refl
  by_keys (e ∷ links) = ap (λ l. at e.0 ++ l) (by_keys links)

  by_events : (events : List Event) → shown_of engines past events ≡ flat_map at (made events)
  by_events [] = refl
  by_events (e ∷ events) = by (makes e.act) refl (by_events events) where
    by : (t : Bool) → makes e.act ≡ t → shown_of engines past events ≡ flat_map at (made events)
        → shown_of engines past (e ∷ events) ≡ flat_map at (made (e ∷ events))
    by true is others = rw is (ap (λ l. at e.link ++ l) others)
    by false isnt others = rw isnt others

  pub all_lines : (events : List Event) (links : List (ℕ × Shown S E)) → keys_of links ≡ made events
      → lines_of engines past links ≡ shown_of engines past events
  all_lines events links keys = by_keys links ∙ ap (flat_map at) keys ∙ sym (by_events events)

pub replays : {S E : Type 0} (r : Result (Unit {0}) ReplayError) (engines : Engines S E) (events : List Event)
    (out : Change)
    → Writes r (transcript engines events) out → Replays r engines events out
replays (Ok done) engines events out w = w
replays (Err OutFault) engines events out w = w
replays (Err Memory) engines events out w = w
