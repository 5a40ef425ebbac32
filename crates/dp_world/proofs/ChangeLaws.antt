-- What is kept of a link stands for it after an act.
use Rattle.std.proofs.Common.{◌≡◌, ◌⊎◌, ℕ, Bool, true, false, List, [], ◌∷◌, ◌++◌, ◌+◌, length, take, drop, Option, Some, None, is_none, refl, sym, ap, subst, ◌∙◌, inl, inr}
use Rattle.std.proofs.lemmas.Bool.{false≢true}
use Rattle.std.proofs.lemmas.Option.{same_Some}
use Rattle.dp_registry.specs.declared.entry.Entry.{Entry}
use Rattle.dp_registry.specs.declared.pass.Pass.{Pass}
use Rattle.dp_lanes.specs.declared.lane.LaneKind.TheVariants.{Up, Down}
use Rattle.dp_proxy.specs.declared.events.Act.{Act}
use Rattle.dp_proxy.specs.declared.events.Act.TheVariants.{Ide, Engine as Comes, Given, Moved, Closed}
use Rattle.dp_proxy.specs.declared.events.Effect.{Effect}
use Rattle.dp_proxy.specs.declared.events.Effect.TheVariants.{Nothing, Reply, Admitted, Turned, ToEngine, ToIde}
use Rattle.dp_proxy.specs.Links.{handed, is_broken, effect_of, passed, ends}
use Rattle.dp_proxy.specs.Pasts.{Link, New, Asking, Settled, Joined, Ended, Refused, Lead, lead, without_effect, question, listening, opened}
use Rattle.dp_proxy.specs.Replies.{reply_frame}
use Rattle.dp_proxy.specs.Invariant.{IsOver}
use Rattle.dp_proxy.proofs.ActLaws.{ide_comes, engine_comes, given_before, moved_before, closed_before, heard_more, heard_all, joined_on, joined_over, over_still}
use Rattle.dp_registry.specs.Verdicts.{admit_verdict}
use Rattle.dp_world.specs.Alone.{Engines}
use Rattle.dp_world.specs.declared.engine.Engine.{Engine}
use Rattle.dp_world.specs.declared.shown.Shown.{Shown}
use Rattle.dp_world.specs.declared.shown.Shown.TheVariants.{Registration, Refused as Turned_away, Session}
use Rattle.dp_world.specs.inner.KeptLinks.{IsRegistration, IsTo, Has, HasFor, IsReadWith, IsShown, IsShownAt, IsReady, IsReadyAt, Passes, LeadsAs}
use Rattle.dp_events.specs.declared.event.Act.TheVariants.{Move}
use Rattle.dp_world.specs.Engines.{next_sent}
use Rattle.dp_world.specs.inner.EngineStates.{IsEngineAfter}
use Rattle.dp_world.specs.inner.Changes.{IsTaken, IsTakenAt, After, AfterAt, Reads, ReadsAt}
use Rattle.dp_world.proofs.ActLaws as act_law

-- what is told is nothing, or what is handed out
told_is : (out : List ℕ → Effect) (bytes : List ℕ) (broken : Bool) (e : Effect) → effect_of out bytes broken ≡ Some e
    → ((bytes ≡ []) × (e ≡ Nothing)) ⊎ (e ≡ out bytes)
told_is out [] true e is = absurd cc
told_is out [] false e is = inl (refl, sym (same_Some Nothing e is))
told_is out (byte ∷ bytes) broken e is = inr (sym (same_Some (out (byte ∷ bytes)) e is))

listening_registers : (name heard host reply : List ℕ) (act : Act) → host ≡ name → reply ≡ []
    → IsRegistration (listening name heard act) host reply
listening_registers name heard host reply (Given bytes) p q = (p, q)
listening_registers name heard host reply Closed p q = (p, q)
listening_registers name heard host reply (Ide other) p q = (p, q)
listening_registers name heard host reply (Comes key) p q = (p, q)
listening_registers name heard host reply (Moved bytes) p q = (p, q)

-- where the session ends, nothing is handed out
ends_told : (acts : List Act) (act : Act) (e : Effect) → ends acts act ≡ true → passed acts act ≡ Some e → e ≡ Nothing
ends_told acts Closed e t is = closed (is_broken acts) is where
  closed : (b : Bool) → effect_of ToIde [] b ≡ Some e → e ≡ Nothing
  closed true h = absurd cc
  closed false h = sym (same_Some Nothing e h)
ends_told acts (Given bytes) e t is = absurd (false≢true (ap is_none (sym is) ∙ t))
ends_told acts (Moved bytes) e t is = absurd (false≢true (ap is_none (sym is) ∙ t))
ends_told acts (Ide host) e t is = absurd (false≢true t)
ends_told acts (Comes key) e t is = absurd (false≢true t)

idle_taken : (S E : Type 0) (host reply : List ℕ) (e : Effect) → IsTaken {S = S} {E = E} (Registration host reply) e
idle_taken S E host reply Nothing = tt
idle_taken S E host reply (Reply frame) = tt
idle_taken S E host reply (Admitted session name port) = tt
idle_taken S E host reply (Turned why) = tt
idle_taken S E host reply (ToEngine commands) = tt
idle_taken S E host reply (ToIde frames) = tt

module _ {S E : Type 0} (engines : Engines S E) (journal : List Entry) (act : Act) where
  abbrev led : Link → Lead
  led link = lead journal link act

  -- nothing comes of it
  module _ (kept : Shown S E) (link next : Link) (turned : led link ≡ without_effect journal next) (e : Effect)
      (is : (led link).effect ≡ Some e) where
    no_effect : e ≡ Nothing
    no_effect = sym (same_Some Nothing e (sym (ap (λ (t : Lead). t.effect) turned) ∙ is))

    still : (now : Shown S E) → IsShown engines next kept → After engines kept e now
        → IsShown engines (led link).link now
    still now shown after =
        let stays : now ≡ kept = subst (λ (x : Effect). After engines kept x now) no_effect after in
        subst (λ (l : Link). IsShown engines l now) (sym (ap (λ (t : Lead). t.link) turned))
        (subst (IsShown engines next) (sym stays) shown)

  -- ---- an IDE that asks

  module _ (name heard host reply : List ℕ) (p : host ≡ name) (q : reply ≡ []) (e : Effect)
      (is : (led (Asking name heard)).effect ≡ Some e) (now : Shown S E)
      (after : After engines (Registration host reply) e now) where
    asked_shown : (o : Option (List ℕ)) → question heard act ≡ o
        → IsShown engines (led (Asking name heard)).link now
    asked_shown None none =
        still (Registration host reply) (Asking name heard) (listening name heard act)
        (heard_more journal name heard act (listening name heard act) none refl) e is now
        (listening_registers name heard host reply act p q) after
    asked_shown (Some command) some =
        let turned = heard_all journal name heard act command some in
        let frame : List ℕ = reply_frame journal name command in
        let same : e ≡ Reply frame = sym (same_Some (Reply frame) e (sym (ap (λ (t : Lead). t.effect) turned) ∙ is)) in
        let put : now ≡ Registration host frame =
        subst (λ (x : Effect). After engines (Registration host reply) x now) same
        after in
        subst (λ (l : Link). IsShown engines l now) (sym (ap (λ (t : Lead). t.link) turned))
        (subst (IsShown engines (Settled name frame)) (sym put) (p, refl))

  -- ---- a session

  module _ (key : List ℕ) (pass : Pass) (acts : List Act) (name host : List ℕ) (port : ℕ) (engine : Engine S E)
      (to : IsTo key pass name host port)
      (stands : IsEngineAfter engines key acts engine) (ready : IsReadWith acts act engine) where
    abbrev kept : Shown S E
    kept = Session name host port engine

    over_shown : ends acts act ≡ true → (e : Effect) (now : Shown S E) → (led (Joined key pass acts)).effect ≡ Some e
        → After engines kept e now
        → IsShown engines (led (Joined key pass acts)).link now
    over_shown t e now is after =
        let turned = joined_over journal key pass acts act t in
        let none : e ≡ Nothing = ends_told acts act e t (sym (ap (λ (x : Lead). x.effect) turned) ∙ is) in
        let stays : now ≡ kept = subst (λ (x : Effect). After engines kept x now) none after in
        subst (λ (l : Link). IsShown engines l now) (sym (ap (λ (x : Lead). x.link) turned))
        (subst (IsShown engines (Ended key pass acts)) (sym stays) (to, stands))

  module _ (key : List ℕ) (pass : Pass) (acts : List Act) (name host : List ℕ) (port : ℕ) (engine : Engine S E)
      (to : IsTo key pass name host port)
      (stands : IsEngineAfter engines key acts engine) where
    passed_on : (a : Act) → IsReadWith acts a engine → ends acts a ≡ false → (e : Effect) (now : Shown S E)
        → passed acts a ≡ Some e → After engines (Session name host port engine) e now
        → IsShown engines (Joined key pass (acts ++ a ∷ [])) now
    passed_on (Given bytes) ready t e now is after =
        by (told_is ToEngine (handed Down acts (Given bytes)) (is_broken (acts ++ Given bytes ∷ [])) e is) where
          none_up : handed Up acts (Given bytes) ≡ []
          none_up = act_law.nothing_handed Up acts (Given bytes) refl

          by : ((handed Down acts (Given bytes) ≡ []) × (e ≡ Nothing)) ⊎ (e ≡ ToEngine (handed Down acts (Given bytes)))
              → IsShown engines (Joined key pass (acts ++ Given bytes ∷ [])) now
          by (inl none) =
              let stays : now ≡ Session name host port engine = subst
              (λ (x : Effect). After engines (Session name host port engine) x now) none.1 after in
              let s = act_law.stays engines key acts engine stands (Given bytes) ready none.0 none_up in
              subst (IsShown engines (Joined key pass (acts ++ Given bytes ∷ []))) (sym stays) (to, s.0, s.1)
          by (inr same) =
              let taken = subst (λ (x : Effect). After engines (Session name host port engine) x now) same after in
              let s = act_law.takes engines key acts engine stands (Given bytes) ready taken.0 refl taken.2 in
              subst (IsShown engines (Joined key pass (acts ++ Given bytes ∷ []))) (sym taken.1) (to, s.0, s.1)
    passed_on (Moved bytes) ready t e now is after =
        by (told_is ToIde (handed Up acts (Moved bytes)) (is_broken (acts ++ Moved bytes ∷ [])) e is) where
          none_down : handed Down acts (Moved bytes) ≡ []
          none_down = act_law.nothing_handed Down acts (Moved bytes) refl

          by : ((handed Up acts (Moved bytes) ≡ []) × (e ≡ Nothing)) ⊎ (e ≡ ToIde (handed Up acts (Moved bytes)))
              → IsShown engines (Joined key pass (acts ++ Moved bytes ∷ [])) now
          by (inl none) =
              let stays : now ≡ Session name host port engine = subst
              (λ (x : Effect). After engines (Session name host port engine) x now) none.1 after in
              let s = act_law.stays engines key acts engine stands (Moved bytes) ready none_down none.0 in
              subst (IsShown engines (Joined key pass (acts ++ Moved bytes ∷ []))) (sym stays) (to, s.0, s.1)
          by (inr same) =
              let put = subst (λ (x : Effect). After engines (Session name host port engine) x now) same after in
              let s = act_law.receives engines key acts engine stands (Moved bytes) ready refl in
              subst (IsShown engines (Joined key pass (acts ++ Moved bytes ∷ []))) (sym put) (to, s.0, s.1)
    passed_on (Ide other) ready t e now is after =
        let stays : now ≡ Session name host port engine = subst
        (λ (x : Effect). After engines (Session name host port engine) x now) (sym (same_Some Nothing e is)) after in
        let s = act_law.stays engines key acts engine stands (Ide other) ready
        (act_law.nothing_handed Down acts (Ide other) refl) (act_law.nothing_handed Up acts (Ide other) refl) in
        subst (IsShown engines (Joined key pass (acts ++ Ide other ∷ []))) (sym stays) (to, s.0, s.1)
    passed_on (Comes other) ready t e now is after =
        let stays : now ≡ Session name host port engine = subst
        (λ (x : Effect). After engines (Session name host port engine) x now) (sym (same_Some Nothing e is)) after in
        let s = act_law.stays engines key acts engine stands (Comes other) ready
        (act_law.nothing_handed Down acts (Comes other) refl) (act_law.nothing_handed Up acts (Comes other) refl) in
        subst (IsShown engines (Joined key pass (acts ++ Comes other ∷ []))) (sym stays) (to, s.0, s.1)
    passed_on Closed ready t e now is after = absurd (false≢true (sym t))

    -- what may be passed on
    may_take : (a : Act) → IsReadWith acts a engine → ends acts a ≡ false → (e : Effect) → passed acts a ≡ Some e
        → IsTaken (Session name host port engine) e
    may_take (Given bytes) ready t e is =
        by (told_is ToEngine (handed Down acts (Given bytes)) (is_broken (acts ++ Given bytes ∷ [])) e is) where
          by : ((handed Down acts (Given bytes) ≡ []) × (e ≡ Nothing)) ⊎ (e ≡ ToEngine (handed Down acts (Given bytes)))
              → IsTaken (Session name host port engine) e
          by (inl none) = subst (IsTaken (Session name host port engine)) (sym none.1) tt
          by (inr same) =
              subst (IsTaken (Session name host port engine)) (sym same) (act_law.down_whole acts (Given bytes))
    may_take (Moved bytes) ready t e is =
        by (told_is ToIde (handed Up acts (Moved bytes)) (is_broken (acts ++ Moved bytes ∷ [])) e is) where
          by : ((handed Up acts (Moved bytes) ≡ []) × (e ≡ Nothing)) ⊎ (e ≡ ToIde (handed Up acts (Moved bytes)))
              → IsTaken (Session name host port engine) e
          by (inl none) = subst (IsTaken (Session name host port engine)) (sym none.1) tt
          by (inr same) =
              subst (IsTaken (Session name host port engine)) (sym same)
              (act_law.may_receive engines key acts engine stands (Moved bytes) ready)
    may_take (Ide other) ready t e is = subst (IsTaken (Session name host port engine)) (same_Some Nothing e is) tt
    may_take (Comes other) ready t e is = subst (IsTaken (Session name host port engine)) (same_Some Nothing e is) tt
    may_take Closed ready t e is = absurd (false≢true (sym t))

  -- ---- whatever is kept

  over_without_effect : (link : Link) → IsOver link → led link ≡ without_effect journal link
  over_without_effect link over = over_still journal link act over

  shown_passed : (kept : Shown S E) (link : Link) → IsReady engines link act kept → (e : Effect) (now : Shown S E)
      → (led link).effect ≡ Some e → After engines kept e now
      → IsShown engines (led link).link now
  shown_passed (Registration host reply) (Asking name heard) r e now is after =
      asked_shown name heard host reply r.0 r.1 e is now after (question heard act) refl
  shown_passed (Registration host reply) (Settled name answer) r e now is after =
      still (Registration host reply) (Settled name answer) (Settled name answer)
      (over_without_effect (Settled name answer) tt) e is now r after
  shown_passed (Registration host reply) New r e now is after = absurd r
  shown_passed (Registration host reply) (Joined key pass acts) r e now is after = absurd r
  shown_passed (Registration host reply) (Ended key pass acts) r e now is after = absurd r
  shown_passed (Registration host reply) (Refused key why) r e now is after = absurd r
  shown_passed (Turned_away key why) link r e now is after =
      still (Turned_away key why) link link (over_without_effect link (subst IsOver (sym r) tt)) e is now r after
  shown_passed (Session name host port engine) (Joined key pass acts) r e now is after = by (ends acts act) refl where
    by : (t : Bool) → ends acts act ≡ t → IsShown engines (led (Joined key pass acts)).link now
    by true t = over_shown key pass acts name host port engine r.0 r.1 r.2 t e now is after
    by false t =
        let turned = joined_on journal key pass acts act t in
        subst (λ (l : Link). IsShown engines l now) (sym (ap (λ (x : Lead). x.link) turned))
        (passed_on key pass acts name host port engine r.0 r.1 act r.2 t e now
        (sym (ap (λ (x : Lead). x.effect) turned) ∙ is) after)
  shown_passed (Session name host port engine) (Ended key pass acts) r e now is after =
      still (Session name host port engine) (Ended key pass acts) (Ended key pass acts)
      (over_without_effect (Ended key pass acts) tt) e is now r after
  shown_passed (Session name host port engine) New r e now is after = absurd r
  shown_passed (Session name host port engine) (Asking other heard) r e now is after = absurd r
  shown_passed (Session name host port engine) (Settled other answer) r e now is after = absurd r
  shown_passed (Session name host port engine) (Refused key why) r e now is after = absurd r

  shown_takes : (kept : Shown S E) (link : Link) → IsReady engines link act kept → (e : Effect)
      → (led link).effect ≡ Some e → IsTaken kept e
  shown_takes (Registration host reply) link r e is = idle_taken S E host reply e
  shown_takes (Turned_away key why) link r e is =
      subst (IsTaken {S = S} {E = E} (Turned_away key why)) (sym (no_effect (Turned_away key why) link link
      (over_without_effect link (subst IsOver (sym r) tt)) e is)) tt
  shown_takes (Session name host port engine) (Joined key pass acts) r e is = by (ends acts act) refl where
    by : (t : Bool) → ends acts act ≡ t → IsTaken (Session name host port engine) e
    by true t =
        let turned = joined_over journal key pass acts act t in
        subst (IsTaken (Session name host port engine)) (sym (ends_told acts act e t
        (sym (ap (λ (x : Lead). x.effect) turned) ∙ is))) tt
    by false t =
        let turned = joined_on journal key pass acts act t in
        may_take key pass acts name host port engine r.0 r.1 act r.2 t e (sym (ap (λ (x : Lead). x.effect) turned) ∙ is)
  shown_takes (Session name host port engine) (Ended key pass acts) r e is =
      subst (IsTaken (Session name host port engine)) (sym (no_effect (Session name host port engine)
      (Ended key pass acts) (Ended key pass acts) (over_without_effect (Ended key pass acts) tt) e is)) tt
  shown_takes (Session name host port engine) New r e is = absurd r
  shown_takes (Session name host port engine) (Asking other heard) r e is = absurd r
  shown_takes (Session name host port engine) (Settled other answer) r e is = absurd r
  shown_takes (Session name host port engine) (Refused key why) r e is = absurd r

  -- a quiet link is not broken
  not_broken : {P : Type 0} (link next : Link) → led link ≡ without_effect journal next → (led link).effect ≡ None → P
  not_broken link next turned none =
      let clash : Some Nothing ≡ None = sym (ap (λ (t : Lead). t.effect) turned) ∙ none in absurd cc

  shown_broken : (kept : Shown S E) (link : Link) → IsReady engines link act kept → (led link).effect ≡ None
      → IsShown engines (led link).link kept
  shown_broken (Registration host reply) (Asking name heard) r none = by (question heard act) refl where
    by : (o : Option (List ℕ)) → question heard act ≡ o
        → IsShown engines (led (Asking name heard)).link (Registration host reply)
    by None q =
        not_broken (Asking name heard) (listening name heard act)
        (heard_more journal name heard act (listening name heard act) q refl) none
    by (Some command) q =
        let clash : Some (Reply (reply_frame journal name command)) ≡ None = sym
        (ap (λ (t : Lead). t.effect) (heard_all journal name heard act command q)) ∙ none in absurd cc
  shown_broken (Registration host reply) (Settled name answer) r none =
      not_broken (Settled name answer) (Settled name answer) (over_without_effect (Settled name answer) tt) none
  shown_broken (Registration host reply) New r none = absurd r
  shown_broken (Registration host reply) (Joined key pass acts) r none = absurd r
  shown_broken (Registration host reply) (Ended key pass acts) r none = absurd r
  shown_broken (Registration host reply) (Refused key why) r none = absurd r
  shown_broken (Turned_away key why) link r none = not_broken link link
      (over_without_effect link (subst IsOver (sym r) tt)) none
  shown_broken (Session name host port engine) (Joined key pass acts) r none = by (ends acts act) refl where
    ends_so : (a : Act) → passed acts a ≡ None → ends acts a ≡ true
    ends_so Closed h = refl
    ends_so (Given bytes) h = ap is_none h
    ends_so (Moved bytes) h = ap is_none h
    ends_so (Ide other) h = ap is_none h
    ends_so (Comes other) h = ap is_none h

    by : (t : Bool) → ends acts act ≡ t
        → IsShown engines (led (Joined key pass acts)).link (Session name host port engine)
    by true t =
        subst (λ (l : Link). IsShown engines l (Session name host port engine))
        (sym (ap (λ (x : Lead). x.link) (joined_over journal key pass acts act t))) (r.0, r.1)
    by false t =
        let silent : passed acts act ≡ None = sym (ap (λ (x : Lead). x.effect) (joined_on journal key pass acts act t))
        ∙ none in
        absurd (false≢true (sym t ∙ ends_so act silent))
  shown_broken (Session name host port engine) (Ended key pass acts) r none =
      not_broken (Ended key pass acts) (Ended key pass acts) (over_without_effect (Ended key pass acts) tt) none
  shown_broken (Session name host port engine) New r none = absurd r
  shown_broken (Session name host port engine) (Asking other heard) r none = absurd r
  shown_broken (Session name host port engine) (Settled other answer) r none = absurd r
  shown_broken (Session name host port engine) (Refused key why) r none = absurd r

  -- ---- what is kept, or nothing

  unmade : Passes act → led New ≡ without_effect journal New
  unmade passes = by act passes where
    by : (a : Act) → Passes a → lead journal New a ≡ without_effect journal New
    by (Given bytes) p = given_before journal bytes
    by (Moved bytes) p = moved_before journal bytes
    by Closed p = closed_before journal
    by (Ide host) p = absurd p
    by (Comes key) p = absurd p

  pub some_effect : (led New).effect ≡ None → ⊥
  some_effect none = by act none where
    by : (a : Act) → (lead journal New a).effect ≡ None → ⊥
    by (Given bytes) h =
        let clash : Some Nothing ≡ None = sym (ap (λ (t : Lead). t.effect) (given_before journal bytes)) ∙ h in cc
    by (Moved bytes) h =
        let clash : Some Nothing ≡ None = sym (ap (λ (t : Lead). t.effect) (moved_before journal bytes)) ∙ h in cc
    by Closed h = let clash : Some Nothing ≡ None = sym (ap (λ (t : Lead). t.effect) (closed_before journal)) ∙ h in cc
    by (Ide host) h =
        let clash : Some Nothing ≡ None = sym (ap (λ (t : Lead). t.effect) (ide_comes journal host)) ∙ h in cc
    by (Comes key) h =
        let clash : (opened journal key (admit_verdict journal key)).effect ≡ None = sym
        (ap (λ (t : Lead). t.effect) (engine_comes journal key (admit_verdict journal key) refl)) ∙ h in cc

  pub kept_passed : (kept after : Option (Shown S E)) (link : Link) (e : Effect) → Passes act
      → IsReadyAt engines link act kept → (led link).effect ≡ Some e → AfterAt engines kept e after
      → IsShownAt engines (led link).link after
  kept_passed None after link e passes new is stays =
      subst (IsShownAt engines (led link).link) (sym stays)
      (subst (λ (l : Link). (led l).link ≡ New) (sym new) (ap (λ (t : Lead). t.link) (unmade passes)))
  kept_passed (Some kept) after link e passes ready is a =
      subst (IsShownAt engines (led link).link) (sym a.1) (shown_passed kept link ready e a.0 is a.2)

  pub kept_takes : (kept : Option (Shown S E)) (link : Link) (e : Effect) → IsReadyAt engines link act kept
      → (led link).effect ≡ Some e → IsTakenAt kept e
  kept_takes None link e new is = tt
  kept_takes (Some kept) link e ready is = shown_takes kept link ready e is

  pub kept_broken : (kept : Option (Shown S E)) (link : Link) → IsReadyAt engines link act kept
      → (led link).effect ≡ None → IsShownAt engines (led link).link kept
  kept_broken None link new none = absurd (some_effect (subst (λ (l : Link). (led l).effect ≡ None) new none))
  kept_broken (Some kept) link ready none = shown_broken kept link ready none

  pub none_ready : (kept : Option (Shown S E)) → IsReadyAt engines New act kept → kept ≡ None
  none_ready None h = refl
  none_ready (Some (Registration host reply)) h = absurd h
  none_ready (Some (Turned_away key why)) h = absurd cc
  none_ready (Some (Session name host port engine)) h = absurd h

-- ---- bytes that were read of an engine

module _ {S E : Type 0} (engines : Engines S E) (count : ℕ) (piece : List ℕ) where
  abbrev AsAsked : Link → Type 0
  AsAsked link = LeadsAs engines link (Move count) (Moved piece)

  none_as : (link : Link) → piece ≡ next_sent engines link count → AsAsked link
  none_as link e = λ journal. ap (λ p. lead journal link (Moved p)) e

  session_ready : (link : Link) (name host : List ℕ) (port : ℕ) (engine : Engine S E)
      → Has engines link name host port engine
      → piece ≡ take count (drop engine.read engine.sent.items)
      → HasFor engines link (Moved piece) name host port (record engine { read = engine.read + length piece })
      × AsAsked link
  session_ready (Joined key pass acts) name host port engine h is = (
    (
      h.0,
      act_law.read_stands engines key acts engine h.1 count piece is,
      act_law.read_with engines key acts
          engine h.1 count piece is h.2,
    ),
    none_as (Joined key pass acts) (act_law.read_sent engines key acts engine h.1 count piece is h.2),
  )
  session_ready (Ended key pass acts) name host port engine h is = (
    (h.0, act_law.read_stands engines key acts engine h.1 count piece is),
    λ journal. over_still journal (Ended key pass acts) (Moved piece) tt ∙ sym
        (over_still journal (Ended key pass acts) (Moved []) tt),
  )
  session_ready New name host port engine h is = absurd h
  session_ready (Asking other heard) name host port engine h is = absurd h
  session_ready (Settled other answer) name host port engine h is = absurd h
  session_ready (Refused key why) name host port engine h is = absurd h

  idle_shown : (link : Link) (host reply : List ℕ) → IsRegistration link host reply → piece ≡ [] → AsAsked link
  idle_shown (Asking other heard) host reply h none = none_as (Asking other heard) none
  idle_shown (Settled other answer) host reply h none = none_as (Settled other answer) none
  idle_shown New host reply h none = absurd h
  idle_shown (Joined key pass acts) host reply h none = absurd h
  idle_shown (Ended key pass acts) host reply h none = absurd h
  idle_shown (Refused key why) host reply h none = absurd h

  read_ready : (kept now : Shown S E) (link : Link) → IsShown engines link kept → Reads kept count piece now
      → IsReady engines link (Moved piece) now × AsAsked link
  read_ready (Registration host reply) now link h r =
      (subst (IsReady engines link (Moved piece)) (sym r.1) h, idle_shown link host reply h r.0)
  read_ready (Turned_away key why) now link h r = (
    subst (IsReady engines link (Moved piece)) (sym r.1) h,
    subst AsAsked (sym h)
        (none_as (Refused key why) r.0),
  )
  read_ready (Session name host port engine) now link h r =
      let s = session_ready link name host port engine h r.0 in
      (subst (IsReady engines link (Moved piece)) (sym r.1) s.0, s.1)

  pub moved_ready : (kept after : Option (Shown S E)) (link : Link) → IsShownAt engines link kept
      → ReadsAt kept count piece after
      → IsReadyAt engines link (Moved piece) after × AsAsked link
  moved_ready None after link h r =
      (subst (IsReadyAt engines link (Moved piece)) (sym r.1) h, subst AsAsked (sym h) (none_as New r.0))
  moved_ready (Some kept) after link h r =
      let s = read_ready kept r.0 link h r.2 in
      (subst (IsReadyAt engines link (Moved piece)) (sym r.1) s.0, s.1)
