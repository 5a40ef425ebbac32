-- One event more: what is kept stands for the events with it, and is sound.
use Rattle.std.proofs.Common.{◌≡◌, ℕ, ◌==◌, Bool, true, false, ◌&&◌, if◌then◌else◌, List, [], ◌∷◌, ◌++◌, Option, Some, None, Result, Ok, Err}
use Rattle.std.proofs.Common.{is_some, Contains, refl, sym, ap, subst, ◌∙◌, inl, inr, arith}
use Rattle.std.proofs.lemmas.Bool.{eqb-true, eq-eqb, false≢true}
use Rattle.std.proofs.lemmas.Bool.Decides.{nat_tests}
use Rattle.std.proofs.lemmas.Option.{same_Some}
use Rattle.std.proofs.lemmas.Grind.{fold-append}
use Rattle.dp_registry.specs.declared.entry.Entry.{Entry}
use Rattle.dp_registry.specs.Journal.{live}
use Rattle.dp_proxy.specs.declared.errors.ProxyError.{ProxyError}
use Rattle.dp_proxy.specs.declared.errors.ProxyError.TheVariants.{BadInit, BadFrame, Memory}
use Rattle.dp_proxy.specs.declared.events.Effect.{Effect}
use Rattle.dp_proxy.specs.declared.events.Event.{Event}
use Rattle.dp_proxy.specs.declared.kept.Kept.{Kept}
use Rattle.dp_proxy.specs.declared.kept.Kept.TheVariants as keep
use Rattle.dp_proxy.specs.declared.kept.Step.{Step}
use Rattle.dp_proxy.specs.Pasts.{Past, Lead, lead, came, start, past_of}
use Rattle.dp_proxy.specs.Invariant.{Keeps, kept_at, IsKept, Represents, RepresentsAfter, session_in, IsSound, AreSound}
use Rattle.dp_proxy.specs.inner.Acts.{Leads, Moves, LeavesOthers, IsOwn}

-- ---- the events with one more

pub past_push : (events : List Event) (e : Event) → past_of (events ++ e ∷ []) ≡ came (past_of events) e.link e.act
past_push events e = fold-append (λ past event. came past event.link event.act) start events (e ∷ [])

module _ (old new : Keeps) (e : Event) (step : Step) (others : (o : ℕ) → (e.link == o) ≡ false
    → kept_at new.links o ≡ kept_at old.links o)
    (here : kept_at new.links e.link ≡ step.kept) where
  -- ---- standing for the events

  module _ (events : List Event) (stands : Represents old events)
      (leads : Leads old.journal ((past_of events).link e.link) e.act new.journal step) where
    past : Past
    past = past_of events

    abbrev led : Lead
    led = lead (past_of events).journal ((past_of events).link e.link) e.act

    moved : new.journal ≡ (lead old.journal ((past_of events).link e.link) e.act).journal
        → IsKept step.kept (lead old.journal ((past_of events).link e.link) e.act).link → Represents new
        (events ++ e ∷ [])
    moved j k = record {
      journal = j ∙ ap (λ (i : List Entry). (lead i ((past_of events).link e.link) e.act).journal) stands.journal
          ∙ ap (λ (p : Past). p.journal) (sym (past_push events e));
      links =
          λ o. subst (λ (p : Past). IsKept (kept_at new.links o) (p.link o)) (sym (past_push events e))
          (at o (o == e.link) refl);
    } where
      kept_now : IsKept step.kept led.link
      kept_now =
          subst (λ (i : List Entry). IsKept step.kept (lead i ((past_of events).link e.link) e.act).link) stands.journal
          k

      other_way : (o : ℕ) → (o == e.link) ≡ false → (e.link == o) ≡ false
      other_way o isnt = grind (arith, nat_tests)

      at : (o : ℕ) (t : Bool) → (o == e.link) ≡ t
          → IsKept (kept_at new.links o) (if o == e.link then led.link else (past_of events).link o)
      at o true is =
          let same : e.link ≡ o = sym (eqb-true o e.link is) in
          rw is (subst (λ (n : ℕ). IsKept (kept_at new.links n) led.link) same
          (subst (λ (x : Option Kept). IsKept x led.link) (sym here) kept_now))
      at o false isnt =
          rw isnt (subst (λ (x : Option Kept). IsKept x ((past_of events).link o)) (sym (others o (other_way o isnt)))
          (stands.links o))

    stayed : new.journal ≡ old.journal → step.kept ≡ None → kept_at old.links e.link ≡ None → Represents new events
    stayed j none before = record {
      journal = j ∙ stands.journal;
      links =
          λ o. subst (λ (x : Option Kept). IsKept x ((past_of events).link o)) (sym (at o (e.link == o) refl))
          (stands.links o);
    } where
      at : (o : ℕ) (t : Bool) → (e.link == o) ≡ t → kept_at new.links o ≡ kept_at old.links o
      at o true is =
          let same : e.link ≡ o = eqb-true e.link o is in
          subst (λ (n : ℕ). kept_at new.links n ≡ kept_at old.links n) same (here ∙ none ∙ sym before)
      at o false isnt = others o isnt

    pub represents_after : (step.kept ≡ None → kept_at old.links e.link ≡ None)
        → RepresentsAfter new events e step.answer
    represents_after made = by step.answer leads.moves where
      by : (told : Result Effect ProxyError)
          → Moves old.journal ((past_of events).link e.link) e.act new.journal step.kept told
          → RepresentsAfter new events e told
      by (Ok effect) m = moved m.0 m.1
      by (Err BadInit) m = stayed m.0 m.1 (made m.1)
      by (Err (BadFrame offset)) m = moved m.0 m.1
      by (Err Memory) m = tt

-- ---- being sound

module _ (old new : Keeps) (number : ℕ) (kept : Option Kept) (others : (o : ℕ) → (number == o) ≡ false
    → kept_at new.links o ≡ kept_at old.links o)
    (here : kept_at new.links number ≡ kept) (sound : AreSound old) (is : IsSound new.journal kept)
    (own : IsOwn old.journal (kept_at old.links number) kept)
    (leaves : LeavesOthers old.journal new.journal (kept_at old.links number)) where
  -- what is kept of another link has another session
  other_session : (o s : ℕ) → (number == o) ≡ false → session_in (kept_at old.links o) ≡ Some s
      → session_in (kept_at old.links number) ≡ Some s → ⊥
  other_session o s isnt p q =
      let same = sound.apart number o s q p in
      let sure : (number == o) ≡ true = eq-eqb number o same in
      false≢true (sym isnt ∙ sure)

  still_sound : (k : Option Kept) → IsSound old.journal k
      → ((s : ℕ) → session_in k ≡ Some s → session_in (kept_at old.links number) ≡ Some s → ⊥) → IsSound new.journal k
  still_sound None h apart = tt
  still_sound (Some (keep.Asking host heard)) h apart = h
  still_sound (Some (keep.Joined pass up down)) h apart = leaves pass.session h (apart pass.session refl)
  still_sound (Some keep.Over) h apart = tt

  live_in : (k : Option Kept) (s : ℕ) → session_in k ≡ Some s → IsSound old.journal k → Contains (live old.journal) s
  live_in None s e h = absurd cc
  live_in (Some (keep.Asking host heard)) s e h = absurd cc
  live_in (Some (keep.Joined pass up down)) s e h =
      subst (λ (n : ℕ). Contains (live old.journal) n) (same_Some pass.session s e) h
  live_in (Some keep.Over) s e h = absurd cc

  each_now : (o : ℕ) (t : Bool) → (number == o) ≡ t → IsSound new.journal (kept_at new.links o)
  each_now o true sure =
      let same : number ≡ o = eqb-true number o sure in
      subst (λ (n : ℕ). IsSound new.journal (kept_at new.links n)) same (subst (IsSound new.journal) (sym here) is)
  each_now o false isnt =
      subst (IsSound new.journal) (sym (others o isnt)) (still_sound (kept_at old.links o) (sound.each o)
      (λ s p q. other_session o s isnt p q))

  -- no other link has the session that is kept here
  alone : (o s : ℕ) → (number == o) ≡ false → session_in kept ≡ Some s → session_in (kept_at old.links o) ≡ Some s → ⊥
  alone o s isnt p q = elim (own s p) [
    | inl same ↦ other_session o s isnt q same
    | inr dead ↦ dead (live_in (kept_at old.links o) s q (sound.each o))
  ]

  apart_now : (m o s : ℕ) (t u : Bool) → (number == m) ≡ t → (number == o) ≡ u
      → session_in (kept_at new.links m) ≡ Some s
      → session_in (kept_at new.links o) ≡ Some s → m ≡ o
  apart_now m o s true true p q a b = sym (eqb-true number m p) ∙ eqb-true number o q
  apart_now m o s true false p q a b =
      let same : number ≡ m = eqb-true number m p in
      let mine : session_in kept ≡ Some s = ap session_in (sym here)
      ∙ ap (λ (n : ℕ). session_in (kept_at new.links n)) same ∙ a in
      absurd (alone o s q mine (ap session_in (sym (others o q)) ∙ b))
  apart_now m o s false true p q a b =
      let same : number ≡ o = eqb-true number o q in
      let mine : session_in kept ≡ Some s = ap session_in (sym here)
      ∙ ap (λ (n : ℕ). session_in (kept_at new.links n)) same ∙ b in
      absurd (alone m s p mine (ap session_in (sym (others m p)) ∙ a))
  apart_now m o s false false p q a b =
      sound.apart m o s (ap session_in (sym (others m p)) ∙ a) (ap session_in (sym (others o q)) ∙ b)

  pub sound_after : AreSound new
  sound_after = record {
    each = λ o. each_now o (number == o) refl;
    apart = λ m o s a b. apart_now m o s (number == m) (number == o) refl refl a b;
  }

-- ---- the links, taken and put

abbrev pub over_if : Option Kept → Option Kept
over_if o = if is_some o then Some keep.Over else None

module _ (links mid after : List (ℕ × Kept)) (number : ℕ) (kept : Option Kept) (left : (o : ℕ) → kept_at mid o
    ≡ (if number == o then (if is_some (kept_at links number) then Some keep.Over else None) else kept_at links o))
  where
    pub mid_others : (o : ℕ) → (number == o) ≡ false → kept_at mid o ≡ kept_at links o
    mid_others o isnt = rw isnt at (left o)

    self : (number == number) ≡ true
    self = eq-eqb number number refl

    pub mid_here : kept_at mid number ≡ over_if (kept_at links number)
    mid_here = rw self at (left number)

    module _ (put : (o : ℕ) → kept_at after o ≡ (if (number == o) && is_some kept then kept else kept_at mid o)) where
      pub put_others : (o : ℕ) → (number == o) ≡ false → kept_at after o ≡ kept_at links o
      put_others o isnt = let at : kept_at after o ≡ kept_at mid o = rw isnt at (put o) in at ∙ mid_others o isnt

      pub put_here : (kept ≡ None → kept_at links number ≡ None) → kept_at after number ≡ kept
      put_here made = by kept (rw self at (put number)) made where
        by : (k : Option Kept) → kept_at after number ≡ (if is_some k then k else kept_at mid number)
            → (k ≡ None → kept_at links number ≡ None) → kept_at after number ≡ k
        by None e m = e ∙ mid_here ∙ ap over_if (m refl)
        by (Some k) e m = e

pub over_sound : (journal : List Entry) (o : Option Kept) → IsSound journal (if is_some o then Some keep.Over else None)
over_sound journal None = tt
over_sound journal (Some k) = tt

pub over_own : (journal : List Entry) (kept o : Option Kept)
    → IsOwn journal kept (if is_some o then Some keep.Over else None)
over_own journal kept None = λ s e. absurd cc
over_own journal kept (Some k) = λ s e. absurd cc
