-- One event more: the proxy and what is kept of the links stand for the events with it.
use Rattle.std.proofs.Common.{◌≡◌, ℕ, ◌==◌, ◌&&◌, Bool, true, false, cond, if◌then◌else◌, List, [], ◌∷◌, ◌++◌, map, filter, nat_eq, take, length, get_or, zero, suc, ◌+◌, ◌<◌, OnOk, append_assoc, add-one, Option, Some, None, is_some, refl, sym, ap, subst, ◌∙◌, append-nil, arith}
use Rattle.std.proofs.Common.{Result, Ok, Err}
use Rattle.std.specs.Map.{keys_of}
use Rattle.std.specs.List.{list_any}
use Rattle.std.proofs.lemmas.Bool.{eqb-true, eq-eqb, false≢true, or_parts}
use Rattle.std.proofs.lemmas.Bool.Decides.{nat_tests}
use Rattle.std.proofs.lemmas.Grind.{fold-append}
use Rattle.std.proofs.lemmas.List.{map-append}
use Rattle.std.proofs.lemmas.List.Elements.{filter-append}
use Rattle.indexmap.specs.IndexMap.{insert_entry}
use Rattle.dp_events.specs.declared.event.Act.{Act}
use Rattle.dp_events.specs.declared.event.Act.TheVariants.{Ide, Engine, Give, Move, Close}
use Rattle.dp_events.specs.declared.event.Event.{Event}
use Rattle.dp_events.specs.Lists.{Fits, MayFollow, AllFit, makes, was}
use Rattle.dp_proxy.specs.declared.errors.ProxyError.{ProxyError}
use Rattle.dp_proxy.specs.declared.errors.ProxyError.TheVariants.{BadFrame}
use Rattle.dp_proxy.specs.declared.events.Act.{Act as ProxyAct}
use Rattle.dp_proxy.specs.declared.events.Effect.{Effect}
use Rattle.dp_proxy.specs.declared.events.Event.{Event as ProxyEvent}
use Rattle.dp_proxy.specs.Pasts.{Link, New, Past, Lead, lead, came, start}
use Rattle.dp_proxy.specs.Pasts as core
use Rattle.dp_proxy.specs.Invariant.{Keeps, Represents, RepresentsAfter}
use Rattle.dp_proxy.specs.Steps.{Answers}
use Rattle.dp_world.specs.Alone.{Engines}
use Rattle.dp_world.specs.declared.shown.Shown.{Shown}
use Rattle.dp_world.specs.Engines.{act_of, followed, past_of}
use Rattle.dp_world.specs.inner.KeptLinks.{IsShownAt, IsReadyAt, Passes, LeadsAs, KeepsOthers, kept_at, made, AreShown, IsWorldAfter}
use Rattle.dp_world.specs.inner.Changes.{IsTakenAt, AfterAt, IsAppended, IsMadeIn}
use Rattle.dp_world.proofs.ChangeLaws.{kept_passed, kept_takes, kept_broken, some_effect, none_ready}

-- ---- keys

-- a link that no event made is none of these
was_made : (link : ℕ) (events : List Event) → was makes link events ≡ false
    → list_any (λ k. nat_eq link k) (made events) ≡ false
was_made link [] none = refl
was_made link (e ∷ events) none = by (makes e.act) refl (was_made link events rest.1) where
  rest : (((e.link == link) && makes e.act) ≡ false) × (was makes link events ≡ false)
  rest = or_parts ((e.link == link) && makes e.act) (was makes link events) none

  by : (t : Bool) → makes e.act ≡ t → list_any (λ k. nat_eq link k) (made events) ≡ false
      → list_any (λ k. nat_eq link k) (made (e ∷ events)) ≡ false
  by true is others =
      let apart : (e.link == link) ≡ false = both (e.link == link) (rw is at rest.0) in
      let other : nat_eq link e.link ≡ false = grind (arith, nat_tests) in
      rw (is, other) others
    where
      both : (t : Bool) → (t && true) ≡ false → t ≡ false
      both true h = h
      both false h = refl
  by false isnt others = rw isnt others

none_kept : {S E : Type 0} (links : List (ℕ × Shown S E)) (number : ℕ)
    → list_any (λ k. nat_eq number k) (keys_of links) ≡ false
    → kept_at links number ≡ None
none_kept [] number h = refl
none_kept (e ∷ links) number h =
    let parts = or_parts (nat_eq number e.0) (list_any (λ k. nat_eq number k) (keys_of links)) h in
    rw parts.0 (none_kept links number parts.1)

-- what is put under a new key stands behind the others
pub put_behind : {S E : Type 0} (links : List (ℕ × Shown S E)) (number : ℕ) (kept : Shown S E)
    → kept_at links number ≡ None
    → keys_of (insert_entry nat_eq links number kept) ≡ keys_of links ++ number ∷ []
put_behind [] number kept none = refl
put_behind (e ∷ links) number kept none = by (put_behind links number kept) (nat_eq number e.0) refl where
  by : (kept_at links number ≡ None → keys_of (insert_entry nat_eq links number kept) ≡ keys_of links ++ number ∷ [])
      → (t : Bool) → nat_eq number e.0 ≡ t
      → keys_of (insert_entry nat_eq (e ∷ links) number kept) ≡ keys_of (e ∷ links) ++ number ∷ []
  by rest true is = let clash : Some e.1 ≡ None = rw is at none in absurd cc
  by rest false isnt =
      let less : kept_at links number ≡ None = rw isnt at none in
      rw isnt (ap (λ l. e.0 ∷ l) (rest less))

pub put_is : {S E : Type 0} (links after : List (ℕ × Shown S E)) (number : ℕ) (kept : Shown S E)
    → kept_at links number ≡ None
    → after ≡ insert_entry nat_eq links number kept
    → ((other : ℕ) → kept_at after other ≡ cond (nat_eq number other) (Some kept) (kept_at links other))
    → IsAppended links after number (Some kept)
put_is links after number kept none entries updates = record {
  keys = ap keys_of entries ∙ put_behind links number kept none;
  here = let self : nat_eq number number ≡ true = eq-eqb number number refl in updates number ∙ rw self refl;
  others = λ other isnt. updates other ∙ rw isnt refl;
}

pub made_more : {S E : Type 0} (engines : Engines S E) (links after : List (ℕ × Shown S E)) (number : ℕ)
    (kept : Option (Shown S E))
    (link : Link)
    → (is_some kept ≡ true) × IsShownAt engines link kept → IsAppended links after number kept
    → IsMadeIn engines links after number link
made_more engines links after number kept link shown put = record {
  keys = put.keys ∙ ap (λ (t : Bool). keys_of links ++ (if t then number ∷ [] else [])) shown.0;
  here = subst (IsShownAt engines link) (sym put.here) shown.1;
  others = put.others;
}

-- ---- the past

came_as : (past : Past) (number : ℕ) (a b : ProxyAct)
    → lead past.journal (past.link number) a ≡ lead past.journal (past.link number) b
    → came past number a ≡ came past number b
came_as past number a b e = λ i. record {
  journal = (e i).journal;
  link = λ other. if other == number then (e i).link else past.link other;
}

made_push : (events : List Event) (e : Event) → made (events ++ e ∷ []) ≡ made events ++ made (e ∷ [])
made_push events e =
    ap (map (λ (x : Event). x.link)) (filter-append (λ (x : Event). makes x.act) events (e ∷ []))
    ∙ map-append (λ (x : Event). x.link) (filter (λ (x : Event). makes x.act) events)
    (filter (λ (x : Event). makes x.act) (e ∷ []))

other_way : (a b : ℕ) → (a == b) ≡ false → (b == a) ≡ false
other_way a b isnt = grind (arith, nat_tests)

module _ {S E : Type 0} (engines : Engines S E) (events : List Event) (e : Event) (keeps : Keeps)
    (links : List (ℕ × Shown S E))
    (w : IsWorldAfter engines events keeps links) where
  abbrev past : Past
  past = past_of engines events

  abbrev link : Link
  link = past.link e.link

  past_push : past_of engines (events ++ e ∷ []) ≡ followed engines past e
  past_push = fold-append (followed engines) core.start events (e ∷ [])

  -- a link that is made was not there
  module _ (fits : Fits events e) (is : makes e.act ≡ true) where
    fresh : was makes e.link events ≡ false
    fresh = by e fits is where
      by : (x : Event) → Fits events x → makes x.act ≡ true → was makes x.link events ≡ false
      by x f m = by_act x.act f.follows m where
        by_act : (a : Act) → MayFollow events x.link a → makes a ≡ true → was makes x.link events ≡ false
        by_act (Ide host) h t = h
        by_act (Engine key) h t = h
        by_act (Give bytes) h t = absurd (false≢true t)
        by_act (Move count) h t = absurd (false≢true t)
        by_act Close h t = absurd (false≢true t)

    pub not_kept : kept_at links e.link ≡ None
    not_kept = none_kept links e.link (ap (list_any (λ k. nat_eq e.link k)) w.keys ∙ was_made e.link events fresh)

    pub is_new : link ≡ New
    is_new = subst (IsShownAt engines link) not_kept (w.each e.link)

  -- ---- with what the proxy was told

  module _ (act : ProxyAct) (mid : List (ℕ × Shown S E)) (others : KeepsOthers links mid e.link)
      (ready : IsReadyAt engines link act (kept_at mid e.link) × LeadsAs engines link e.act act)
      (now : Keeps) where
    abbrev comes : ProxyEvent
    comes = record { link = e.link; act = act }

    abbrev led : Lead
    led = lead past.journal link act

    abbrev led_by : Lead
    led_by = lead past.journal link (act_of engines link e.act)

    -- the answer is one at this past
    pub told_at : (r : Result Effect ProxyError) → Answers (core.past_of w.came) e.link act r
        → Answers past e.link act r
    told_at r h = subst (λ (p : Past). Answers p e.link act r) w.past h

    next_past : core.past_of (w.came ++ comes ∷ []) ≡ past_of engines (events ++ e ∷ [])
    next_past =
        fold-append (λ (p : Past) (x : ProxyEvent). came p x.link x.act) core.start w.came (comes ∷ [])
        ∙ ap (λ (p : Past). came p e.link act) w.past
        ∙ came_as past e.link act (act_of engines link e.act) (ready.1 past.journal)
        ∙ sym past_push

    each_after : (after : List (ℕ × Shown S E)) → IsShownAt engines led.link (kept_at after e.link)
        → ((other : ℕ) → (e.link == other) ≡ false → kept_at after other ≡ kept_at mid other)
        → AreShown engines (past_of engines (events ++ e ∷ [])) after
    each_after after here apart =
        λ n. subst (λ (p : Past). IsShownAt engines (p.link n) (kept_at after n)) (sym past_push)
        (at n (n == e.link) refl) where
          at : (n : ℕ) (t : Bool) → (n == e.link) ≡ t
              → IsShownAt engines ((followed engines past e).link n) (kept_at after n)
          at n true is =
              let same : e.link ≡ n = sym (eqb-true n e.link is) in
              let led_is = ap (λ (x : Lead). x.link) (ready.1 past.journal) in
              rw is (subst (λ (m : ℕ). IsShownAt engines led_by.link (kept_at after m)) same
              (subst (λ (l : Link). IsShownAt engines l (kept_at after e.link)) led_is here))
          at n false isnt =
              let away : (e.link == n) ≡ false = other_way n e.link isnt in
              rw isnt (subst (IsShownAt engines (past.link n))
              (sym (apart n away ∙ others.others n away)) (w.each n))

    -- a link that was made passes the act on
    module _ (isnt : makes e.act ≡ false) where
      keys_stay : (after : List (ℕ × Shown S E)) → keys_of after ≡ keys_of mid → keys_of after ≡ made (events ++ e ∷ [])
      keys_stay after same =
          same ∙ others.keys ∙ w.keys ∙ sym (made_push events e ∙ ap (λ l. made events ++ l) none ∙ append-nil
          (made events))
        where
          none : made (e ∷ []) ≡ []
          none = rw isnt refl

      pub taken : (effect : Effect) → led.effect ≡ Some effect → IsTakenAt (kept_at mid e.link) effect
      taken effect is = kept_takes engines past.journal act (kept_at mid e.link) link effect ready.0 is

      pub passed_stands : (after : List (ℕ × Shown S E)) (effect : Effect) → led.effect ≡ Some effect
          → Represents now (w.came ++ comes ∷ []) → Passes act
          → KeepsOthers mid after e.link → AfterAt engines (kept_at mid e.link) effect (kept_at after e.link)
          → IsWorldAfter engines (events ++ e ∷ []) now after
      passed_stands after effect is stands passes keeps_others put = record {
        came = w.came ++ comes ∷ [];
        represents = stands;
        past = next_past;
        keys = keys_stay after keeps_others.keys;
        each =
            each_after after (kept_passed engines past.journal act (kept_at mid e.link)
            (kept_at after e.link) link effect passes ready.0 is put) keeps_others.others;
      }

      broken_on : led.effect ≡ None → Represents now (w.came ++ comes ∷ [])
          → IsWorldAfter engines (events ++ e ∷ []) now mid
      broken_on none stands = record {
        came = w.came ++ comes ∷ [];
        represents = stands;
        past = next_past;
        keys = keys_stay mid refl;
        each =
            each_after mid (kept_broken engines past.journal act (kept_at mid e.link) link ready.0 none)
            (λ other away. refl);
      }

    -- a link is made
    pub made_stands : (after : List (ℕ × Shown S E)) → makes e.act ≡ true → link ≡ New → Represents now
        (w.came ++ comes ∷ [])
        → IsMadeIn engines mid after e.link (lead past.journal New (act_of engines New e.act)).link
        → IsWorldAfter engines (events ++ e ∷ []) now after
    made_stands after is new stands put = record {
      came = w.came ++ comes ∷ [];
      represents = stands;
      past = next_past;
      keys =
          put.keys ∙ ap (λ l. l ++ e.link ∷ []) (others.keys ∙ w.keys) ∙ sym
          (made_push events e ∙ ap (λ l. made events ++ l) one);
      each = each_after after
          (subst (λ (l : Link). IsShownAt engines l (kept_at after e.link))
          (ap (λ (x : Lead). x.link) (sym led_new)) put.here) put.others;
    } where
      one : made (e ∷ []) ≡ e.link ∷ []
      one = rw is refl

      led_new : lead past.journal link act ≡ lead past.journal New (act_of engines New e.act)
      led_new = ready.1 past.journal ∙ ap (λ (l : Link). lead past.journal l (act_of engines l e.act)) new

    -- the link is broken: it was made before
    pub broken_stands : (makes e.act ≡ true → link ≡ New) → led.effect ≡ None → Represents now (w.came ++ comes ∷ [])
        → IsWorldAfter engines (events ++ e ∷ []) now mid
    broken_stands new none stands = by (makes e.act) refl where
      by : (t : Bool) → makes e.act ≡ t → IsWorldAfter engines (events ++ e ∷ []) now mid
      by true is =
          absurd (some_effect engines past.journal act (subst
          (λ (l : Link). (lead past.journal l act).effect ≡ None) (new is) none))
      by false isnt = broken_on isnt none stands

    pub broken_told : (why : ProxyError) (offset : ℕ) → why ≡ BadFrame offset
        → Answers (core.past_of w.came) e.link act (Err why) → RepresentsAfter now w.came comes (Err why)
        → (makes e.act ≡ true → link ≡ New) → IsWorldAfter engines (events ++ e ∷ []) now mid
    broken_told why offset is answers stands new =
        let told = subst (λ (x : ProxyError). Answers past e.link act (Err x)) is (told_at (Err why) answers) in
        broken_stands new told.1 (subst (λ (x : ProxyError). RepresentsAfter now w.came comes (Err x)) is stands)

    pub mid_none : link ≡ New → kept_at mid e.link ≡ None
    mid_none new =
        none_ready engines past.journal act (kept_at mid e.link)
        (subst (λ (l : Link). IsReadyAt engines l act (kept_at mid e.link)) new ready.0)

    pub made_told : (effect : Effect) → link ≡ New → led.effect ≡ Some effect
        → (lead past.journal New (act_of engines New e.act)).effect ≡ Some effect
    made_told effect new is =
        sym (ap (λ (x : Lead). x.effect) (ready.1 past.journal ∙ ap
        (λ (l : Link). lead past.journal l (act_of engines l e.act)) new)) ∙ is

-- ---- before any event

pub on_ok : {T E P Q : Type 0} (r : Result T E) → (P → Q) → OnOk r P → OnOk r Q
on_ok (Ok value) f h = f h
on_ok (Err why) f h = tt

-- ---- the next event of a list

pub fit_item : (before events : List Event) (i : ℕ) (e : Event) → AllFit before events → i < length events
    → e ≡ get_or events i e → Fits (before ++ take i events) e
fit_item before [] i e fit less is = absurd (omega arith)
fit_item before (x ∷ events) zero e fit less is =
    subst (λ (b : List Event). Fits b e) (sym (append-nil before)) (subst (Fits before) (sym is) fit.0)
fit_item before (x ∷ events) (suc i) e fit less is =
    subst (λ (b : List Event). Fits b e) (append_assoc before (x ∷ []) (take i events))
    (fit_item (before ++ x ∷ []) events i e fit.1 (omega arith) is)

pub take_item : (events : List Event) (i : ℕ) (e : Event) → i < length events → e ≡ get_or events i e
    → take (i + 1) events ≡ take i events ++ e ∷ []
take_item events i e less is = ap (λ n. take n events) (add-one i) ∙ by events i less is where
  by : (es : List Event) (n : ℕ) → n < length es → e ≡ get_or es n e → take (suc n) es ≡ take n es ++ e ∷ []
  by [] n l s = absurd (omega arith)
  by (x ∷ es) zero l s = ap (λ (y : Event). y ∷ []) (sym s)
  by (x ∷ es) (suc n) l s = ap (λ t. x ∷ t) (by es n (omega arith) s)
