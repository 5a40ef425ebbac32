-- The numbers of a replay, as they are added link by link.
use Rattle.std.proofs.Common.{◌≡◌, ℕ, ◌+◌, Bool, true, false, List, [], ◌∷◌, ◌++◌, length, take, refl, sym, ap, subst, ◌∙◌, arith}
use Rattle.std.specs.Map.{keys_of}
use Rattle.dp_world.specs.Alone.{Engines, alone}
use Rattle.dp_wire.specs.Frames.{commands_in, packets_in}
use Rattle.dp_lanes.specs.declared.lane.LaneKind.TheVariants.{Up, Down}
use Rattle.dp_lanes.specs.Lanes.{texts_in}
use Rattle.dp_lanes.proofs.GoodLaws.{texts_again}
use Rattle.dp_registry.specs.declared.pass.Pass.{Pass}
use Rattle.dp_events.specs.declared.event.Event.{Event}
use Rattle.dp_events.specs.Lists.{makes}
use Rattle.dp_proxy.specs.declared.events.Act.{Act as ProxyAct}
use Rattle.dp_proxy.specs.Links.{stream}
use Rattle.dp_proxy.specs.Pasts.{Link, New, Asking, Settled, Joined, Ended as Over, Refused, Past}
use Rattle.dp_world.specs.declared.engine.Ended.{Ended}
use Rattle.dp_world.specs.declared.engine.Engine.{Engine}
use Rattle.dp_world.specs.declared.shown.Shown.{Shown}
use Rattle.dp_world.specs.declared.numbers.Tally.{Tally}
use Rattle.dp_world.specs.Tallies.{nothing, one_served, plus, tally_on, tally_in, kept, in_words}
use Rattle.dp_world.specs.inner.EngineStates.{IsEngineAfter}
use Rattle.dp_world.specs.inner.KeptLinks.{Has, IsShown, made}
use Rattle.dp_world.specs.inner.LinkLines.{AllShown}
use Rattle.dp_world.specs.inner.LinkTallies.{tallies_of}
use Rattle.dp_world.proofs.EngineLaws.{ended_shows}

-- ---- one session

abbrev pub counted : ℕ → ℕ → ℕ → Tally
counted packets commands output = record {
  sessions = 1;
  refused = 0;
  packets = packets;
  commands = commands;
  output = output;
}

module _ {S E : Type 0} (engines : Engines S E) (key host : List ℕ) (port : ℕ) (engine : Engine S E) (end : Ended)
    (packets commands : ℕ)
    (front : end.received.items ≡ take engine.received engine.sent.items) (given : end.given.items ≡ engine.given.items)
    (own : end.own.items ≡ engine.own.items ++ engines.rest_after engine.ended engine.session)
    (outcome : end.outcome ≡ engines.ending_after engine.ended engine.session)
    (up : packets ≡ length (texts_in Up end.received.items))
    (down : commands ≡ length (texts_in Down end.given.items)) where
  counted_is : (to : List ℕ) (pass : Pass) (acts : List ProxyAct) → IsEngineAfter engines to acts engine
      → counted packets commands (length end.own.items)
      ≡ one_served engines to (stream Down acts) (length (stream Up acts))
  counted_is to pass acts stands =
      let s = ended_shows engines to acts engine stands end front given own outcome in
      let sent = take (length (stream Up acts)) (alone engines to (stream Down acts)) in
      let p : packets ≡ length (packets_in sent) =
      up ∙ ap (λ l. length (texts_in Up l)) s.received ∙ ap length (texts_again Up sent) in
      let c : commands ≡ length (commands_in (stream Down acts)) =
      down ∙ ap (λ l. length (texts_in Down l)) s.commands ∙ ap length (texts_again Down (stream Down acts)) in
      λ i. counted (p i) (c i) (length (s.output i))

  pub counts_session : (of : Link) → Has engines of key host port engine
      → counted packets commands (length end.own.items) ≡ tally_on engines of
  counts_session New h = absurd h
  counts_session (Asking name heard) h = absurd h
  counts_session (Settled name reply) h = absurd h
  counts_session (Refused to why) h = absurd h
  counts_session (Joined to pass acts) h = counted_is to pass acts h.1
  counts_session (Over to pass acts) h = counted_is to pass acts h.1

-- ---- sums in 64 bits

kept_sum : (a b r : ℕ) → kept (kept (a + b) + r) ≡ kept (a + (b + r))
kept_sum a b r = omega arith

kept_twice : (a : ℕ) → kept (kept a) ≡ kept a
kept_twice a = omega arith

pub first_sum : (t : Tally) → in_words (plus nothing t) ≡ in_words t
first_sum t =
    let same : (n : ℕ) → kept (0 + n) ≡ kept n = λ n. zero_on n in
    λ i. record {
      sessions = same t.sessions i;
      refused = same t.refused i;
      packets = same t.packets i;
      commands = same t.commands i;
      output = same t.output i;
    }
  where
    zero_on : (n : ℕ) → kept (0 + n) ≡ kept n
    zero_on n = omega arith

pub last_sum : (t : Tally) → in_words t ≡ t → in_words (plus t nothing) ≡ t
last_sum t fits =
    (λ i. record {
      sessions = on_zero t.sessions i;
      refused = on_zero t.refused i;
      packets = on_zero t.packets i;
      commands = on_zero t.commands i;
      output = on_zero t.output i;
    }) ∙ fits
  where
    on_zero : (n : ℕ) → kept (n + 0) ≡ kept n
    on_zero n = omega arith

pub next_sum : (t one rest : Tally) → in_words (plus (in_words (plus t one)) rest) ≡ in_words (plus t (plus one rest))
next_sum t one rest = λ i. record {
  sessions = kept_sum t.sessions one.sessions rest.sessions i;
  refused = kept_sum t.refused one.refused rest.refused i;
  packets = kept_sum t.packets one.packets rest.packets i;
  commands = kept_sum t.commands one.commands rest.commands i;
  output = kept_sum t.output one.output rest.output i;
}

pub still_words : (t : Tally) → in_words (in_words t) ≡ in_words t
still_words t = λ i. record {
  sessions = kept_twice t.sessions i;
  refused = kept_twice t.refused i;
  packets = kept_twice t.packets i;
  commands = kept_twice t.commands i;
  output = kept_twice t.output i;
}

-- ---- all links

-- these links are left, and what was added with theirs is all
abbrev pub IsAdded : {S E : Type 0} → Engines S E → List (ℕ × Shown S E) → List (ℕ × Shown S E) → Tally → Type 0
IsAdded engines all left t =
    (in_words t ≡ t)
    × ((past : Past) → AllShown engines past all
    → AllShown engines past left
    × (in_words (plus t (tallies_of engines past left)) ≡ in_words (tallies_of engines past all)))

pub none_added : {S E : Type 0} (engines : Engines S E) (all : List (ℕ × Shown S E)) → IsAdded engines all all nothing
none_added engines all = (refl, λ past shown. (shown, first_sum (tallies_of engines past all)))

pub added_one : {S E : Type 0} (engines : Engines S E) (all left rest : List (ℕ × Shown S E)) (e : ℕ × Shown S E)
    (t one : Tally) → IsAdded engines all left t → left ≡ e ∷ rest
    → ((of : Link) → IsShown engines of e.1 → one ≡ tally_on engines of)
    → IsAdded engines all rest (in_words (plus t one))
added_one {S} {E} engines all left rest e t one added is counts = (
  still_words (plus t one),
  λ past shown.
      let before = added.1 past shown in
      let now = subst (AllShown engines past) is before.0 in
      let here : one ≡ tally_on engines (past.link e.0) = counts (past.link e.0) now.0 in (
        now.1,
        next_sum t one (tallies_of engines past rest)
            ∙ ap (λ (o : Tally). in_words (plus t (plus o (tallies_of engines past rest)))) here
            ∙ ap (λ (l : List (ℕ × Shown S E)). in_words (plus t (tallies_of engines past l))) (sym is)
            ∙ before.1,
      ),
)

pub added_all : {S E : Type 0} (engines : Engines S E) (all left : List (ℕ × Shown S E)) (t : Tally)
    → IsAdded engines all left t → left ≡ [] → (past : Past) → AllShown engines past all
    → t ≡ in_words (tallies_of engines past all)
added_all {S} {E} engines all left t added none past shown =
    sym (last_sum t added.0)
    ∙ ap (λ (l : List (ℕ × Shown S E)). in_words (plus t (tallies_of engines past l))) (sym none)
    ∙ (added.1 past shown).1

-- ---- links and events

module _ {S E : Type 0} (engines : Engines S E) (past : Past) where
  tallies_at : List ℕ → Tally
  tallies_at [] = nothing
  tallies_at (number ∷ numbers) = plus (tally_on engines (past.link number)) (tallies_at numbers)

  by_keys : (links : List (ℕ × Shown S E)) → tallies_of engines past links ≡ tallies_at (keys_of links)
  unfolding tallies_at
  by_keys [] = refl
  by_keys (e ∷ links) = ap (plus (tally_on engines (past.link e.0))) (by_keys links)

  by_events : (events : List Event) → tally_in engines past events ≡ tallies_at (made events)
  unfolding tallies_at
  by_events [] = refl
  by_events (e ∷ events) = by (makes e.act) refl (by_events events) where
    by : (t : Bool) → makes e.act ≡ t → tally_in engines past events ≡ tallies_at (made events)
        → tally_in engines past (e ∷ events) ≡ tallies_at (made (e ∷ events))
    by true is others = rw is (ap (plus (tally_on engines (past.link e.link))) others)
    by false isnt others = rw isnt others

  pub all_tallies : (events : List Event) (links : List (ℕ × Shown S E)) → keys_of links ≡ made events
      → tallies_of engines past links ≡ tally_in engines past events
  all_tallies events links keys = by_keys links ∙ ap tallies_at keys ∙ sym (by_events events)
