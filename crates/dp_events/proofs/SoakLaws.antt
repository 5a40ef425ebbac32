-- The events that are drawn are a list of events: each fits those before it.
use Rattle.std.proofs.Common.{◌≡◌, ℕ, zero, suc, ◌+◌, ◌-◌, ◌*◌, ◌<◌, ◌≤◌, ◌==◌, ◌^◌, ◌/◌, Bool, true, false, ◌&&◌, ◌||◌, nat_le, List, [], ◌∷◌, ◌++◌}
use Rattle.std.proofs.Common.{Result, codes, decimal, refl, sym, ap, subst, ◌∙◌, append_assoc, append-nil, arith}
use Rattle.std.proofs.lemmas.Bool.{eq-eqb, le-leb, and_from, or_left, or_right}
use Rattle.std.proofs.lemmas.Bool.Decides.{nat_tests}
use Rattle.std.proofs.lemmas.Fmt.{decimal_digit}
use Rattle.std.proofs.lemmas.List.Folds.{list_any-append}
use Rattle.std.proofs.lemmas.Nat.{mod_below}
use Rattle.std.proofs.lemmas.Result.{on_ok_weaker}
use Rattle.std.specs.Result.{OnOk}
use Rattle.std.specs.List.{AllByRecursion}
use Rattle.dp_outside.specs.Names.{IsHost, IsKey, host_limit, key_limit, is_name}
use Rattle.dp_outside.proofs.NameLaws.{name_is}
use Rattle.dp_events.specs.declared.event.Act.{Act}
use Rattle.dp_events.specs.declared.event.Act.TheVariants.{Ide, Engine, Give, Move, Close}
use Rattle.dp_events.specs.declared.event.Event.{Event}
use Rattle.dp_events.specs.Lists.{AllFit, IsFormed, MayFollow, is_engine, makes, was, link_limit}
use Rattle.dp_events.specs.Soak.{next_state, state_after, drawn, on, key, registration, registrations, command, given_command, commands}
use Rattle.dp_events.specs.Soak.{last_reads, session, behind_session, sessions, soak, soak_limit}

-- ---- draws

pub drawn_below : (below state : ℕ) → 0 < below → drawn below state < below
unfolding drawn
drawn_below below state some = mod_below (next_state state / 2 ^ 33) below some

-- ---- fitting

fit_both : (before a b : List Event) → AllFit before a → AllFit (before ++ a) b → AllFit before (a ++ b)
fit_both before [] b f g = subst (λ l. AllFit l b) (append-nil before) g
fit_both before (e ∷ a) b f g = (
  f.0,
  fit_both (before ++ e ∷ []) a b f.1 (subst (λ l. AllFit l b) (sym (append_assoc before (e ∷ []) a)) g),
)

-- no link from this one on was made
abbrev Free : ℕ → List Event → Type 0
Free link events = (other : ℕ) → link ≤ other → was makes other events ≡ false

abbrev AllOn : ℕ → List Event → Type 0
AllOn link events = AllByRecursion (λ e. e.link ≡ link) events

elsewhere : (link other : ℕ) (events : List Event) → link < other → AllOn link events
    → was makes other events ≡ false
elsewhere link other [] less h = refl
elsewhere link other (e ∷ events) less h =
    let here : e.link ≡ link = h.0 in
    let isnt : (e.link == other) ≡ false = grind (arith, nat_tests) in
    rw isnt (elsewhere link other events less h.1)

-- what happens on one link leaves those behind it free
still_free : (link : ℕ) (before events : List Event) → Free link before → AllOn link events
    → Free (link + 1) (before ++ events)
still_free link before events free on = λ other from.
    let less : link < other = omega arith in
    let behind : link ≤ other = omega arith in
    list_any-append (λ e. (e.link == other) && makes e.act) before events
    ∙ ap (λ b. b || was makes other events) (free other behind) ∙ elsewhere link other events less on

was_still : (sort : Act → Bool) (link : ℕ) (before more : List Event) → was sort link before ≡ true
    → was sort link (before ++ more) ≡ true
was_still sort link before more h =
    list_any-append (λ e. (e.link == link) && sort e.act) before more
    ∙ or_left (was sort link before) (was sort link more) h

was_now : (sort : Act → Bool) (link : ℕ) (act : Act) (before : List Event) → sort act ≡ true
    → was sort link (before ++ on link act ∷ []) ≡ true
was_now sort link act before is =
    let self : (link == link) ≡ true = eq-eqb link link refl in
    list_any-append (λ e. (e.link == link) && sort e.act) before (on link act ∷ [])
    ∙ or_right (was sort link before) (was sort link (on link act ∷ [])) (rw (self, is) refl)

-- ---- what is done on the link of an engine

abbrev IsUse : Act → Type 0
IsUse (Ide host) = ⊥
IsUse (Engine name) = ⊥
IsUse (Give bytes) = Unit {0}
IsUse (Move count) = count < 2 ^ 32
IsUse Close = Unit {0}

abbrev Uses : ℕ → List Event → Type 0
Uses link events = AllByRecursion (λ e. (e.link ≡ link) × IsUse e.act) events

uses_both : (link : ℕ) (a b : List Event) → Uses link a → Uses link b → Uses link (a ++ b)
uses_both link [] b f g = g
uses_both link (e ∷ a) b f g = (f.0, uses_both link a b f.1 g)

uses_on : (link : ℕ) (events : List Event) → Uses link events → AllOn link events
uses_on link [] h = tt
uses_on link (e ∷ events) h = (h.0.0, uses_on link events h.1)

use_formed : (act : Act) → IsUse act → IsFormed act
use_formed (Ide host) h = absurd h
use_formed (Engine name) h = absurd h
use_formed (Give bytes) h = tt
use_formed (Move count) h = h
use_formed Close h = tt

use_follows : (before : List Event) (link : ℕ) (act : Act) → IsUse act → was makes link before ≡ true
    → was is_engine link before ≡ true
    → MayFollow before link act
use_follows before link (Ide host) h made engine = absurd h
use_follows before link (Engine name) h made engine = absurd h
use_follows before link (Give bytes) h made engine = made
use_follows before link (Move count) h made engine = engine
use_follows before link Close h made engine = made

uses_fit : (link : ℕ) (before events : List Event) → 1 ≤ link → link ≤ link_limit → was makes link before ≡ true
    → was is_engine link before ≡ true → Uses link events
    → AllFit before events
uses_fit link before [] some known made engine h = tt
uses_fit link before (e ∷ events) some known made engine h =
    let same : e.link ≡ link = h.0.0 in (
      record {
        some = omega arith;
        known = omega arith;
        formed = use_formed e.act h.0.1;
        follows = subst (λ (l : ℕ). MayFollow before l e.act) (sym same)
            (use_follows before link e.act h.0.1 made engine);
      },
      uses_fit link (before ++ e ∷ []) events some known (was_still makes link before (e ∷ []) made)
          (was_still is_engine link before (e ∷ []) engine) h.1,
    )

commands_use : (link count number state : ℕ) → Uses link (commands link count number state)
commands_use link zero number state = tt
commands_use link (suc count) number state =
    ((refl, tt), ((refl, tt), commands_use link count (number + 1) (state_after 2 state)))

reads_use : (link state : ℕ) → Uses link (last_reads link state)
reads_use link state =
    let less = drawn_below 4000 state (omega arith) in
    let first : 1 + drawn 4000 state < 2 ^ 32 = omega arith in
    let all : 4294967295 < 2 ^ 32 = omega arith in
    ((refl, first), ((refl, all), ((refl, tt), tt)))

-- ---- names with a digit

graphic_digit : (n : ℕ) → n < 10 → (nat_le 0x21 (48 + n) && nat_le (48 + n) 0x7e) ≡ true
graphic_digit n small =
    and_from (nat_le 0x21 (48 + n)) (nat_le (48 + n) 0x7e) (le-leb 0x21 (48 + n) (omega arith))
    (le-leb (48 + n) 0x7e (omega arith))

key_is : (n : ℕ) → n < 10 → IsKey (key n)
key_is n small =
    let text : key n ≡ 75 ∷ (48 + n) ∷ [] = ap (λ d. codes "K" ++ d) (decimal_digit n small) in
    let yes : is_name key_limit (75 ∷ (48 + n) ∷ []) ≡ true = rw (graphic_digit n small) refl in
    subst IsKey (sym text) (name_is key_limit (75 ∷ (48 + n) ∷ []) yes)

host_is : (n : ℕ) → n < 10 → IsHost (codes "10.0.0." ++ decimal n)
host_is n small =
    let text : codes "10.0.0." ++ decimal n ≡ codes "10.0.0." ++ (48 + n) ∷ [] =
    ap (λ d. codes "10.0.0." ++ d) (decimal_digit n small) in
    let yes : is_name host_limit (codes "10.0.0." ++ (48 + n) ∷ []) ≡ true = rw (graphic_digit n small) refl in
    subst IsHost (sym text) (name_is host_limit (codes "10.0.0." ++ (48 + n) ∷ []) yes)

-- ---- all events

module _ (link state : ℕ) (before : List Event) (some : 1 ≤ link) (known : link ≤ link_limit)
    (free : Free link before) where
  abbrev name : List ℕ
  name = key (1 + drawn 9 state)

  abbrev rest : List Event
  rest =
      commands link (drawn 4 (next_state state)) 1 (state_after 2 state)
      ++ last_reads link (state_after (2 * drawn 4 (next_state state)) (state_after 2 state))

  rest_use : Uses link rest
  rest_use =
      uses_both link (commands link (drawn 4 (next_state state)) 1 (state_after 2 state))
      (last_reads link (state_after (2 * drawn 4 (next_state state)) (state_after 2 state)))
      (commands_use link (drawn 4 (next_state state)) 1 (state_after 2 state))
      (reads_use link (state_after (2 * drawn 4 (next_state state)) (state_after 2 state)))

  session_on : AllOn link (session link state)
  session_on = (refl, uses_on link rest rest_use)

  session_fits : AllFit before (session link state)
  session_fits =
      let less = drawn_below 9 state (omega arith) in
      let engine : Event = on link (Engine name) in
      let small : 1 + drawn 9 state < 10 = omega arith in (
        record {
          some = some;
          known = known;
          formed = key_is (1 + drawn 9 state) small;
          follows = free link (omega arith);
        },
        uses_fit link (before ++ engine ∷ []) rest some known (was_now makes link (Engine name) before refl)
            (was_now is_engine link (Engine name) before refl) rest_use,
      )

sessions_fit : (link count state : ℕ) (before : List Event) → 1 ≤ link → link + count ≤ link_limit → Free link before
    → AllFit before (sessions link count state)
sessions_fit link zero state before some known free = tt
sessions_fit link (suc count) state before some known free =
    let here : link ≤ link_limit = omega arith in
    let first : 1 ≤ link + 1 = omega arith in
    let last : link + 1 + count ≤ link_limit = omega arith in
    fit_both before (session link state) (sessions (link + 1) count (behind_session state))
    (session_fits link state before some here free)
    (sessions_fit (link + 1) count (behind_session state) (before ++ session link state) first last
    (still_free link before (session link state) free (session_on link state before some here free)))

registration_fits : (n : ℕ) (before : List Event) → 1 ≤ n → n < 10 → Free n before → AllFit before (registration n)
registration_fits n before some small free =
    let ide : Act = Ide (codes "10.0.0." ++ decimal n) in
    let known : n ≤ link_limit = omega arith in (
      record { some = some; known = known; formed = host_is n small; follows = free n (omega arith) },
      (
        record { some = some; known = known; formed = tt; follows = was_now makes n ide before refl },
        tt,
      ),
    )

-- the IDEs, and what follows them where no link behind theirs was made
registrations_fit : (n count : ℕ) (before more : List Event) → 1 ≤ n → n + count ≤ 9 → Free n before
    → ((after : List Event) → Free (n + count) after → AllFit after more)
    → AllFit before (registrations n count ++ more)
registrations_fit n zero before more some small free all =
    let here : n ≡ n + 0 = omega arith in
    all before (subst (λ (m : ℕ). Free m before) here free)
registrations_fit n (suc count) before more some small free all =
    let digit : n < 10 = omega arith in
    let first : 1 ≤ n + 1 = omega arith in
    let last : n + 1 + count ≤ 9 = omega arith in
    let end : n + 1 + count ≡ n + suc count = omega arith in
    let after = before ++ registration n in
    subst (AllFit before) (sym (append_assoc (registration n) (registrations (n + 1) count) more))
    (fit_both before (registration n) (registrations (n + 1) count ++ more)
    (registration_fits n before some digit free)
    (registrations_fit (n + 1) count after more first last
    (still_free n before (registration n) free (refl, (refl, tt)))
    (λ later free_later. all later (subst (λ (m : ℕ). Free m later) end free_later))))

pub soak_fits : (count seed : ℕ) → count ≤ soak_limit → AllFit [] (soak count seed)
soak_fits count seed most =
    let small : 1 + 8 ≤ 9 = omega arith in
    let first : 1 ≤ 1 = omega arith in
    registrations_fit 1 8 [] (sessions 9 count seed) first small (λ other from. refl)
    (λ after free. sessions_fit 9 count seed after (omega arith) (omega arith) free)

-- ---- one turn of each loop

module _ (old new all : List Event) where
  pub commands_turn : (link left number state next : ℕ) → 0 < left → new ≡ old ++ given_command link number state
      → next ≡ state_after 2 state → old ++ commands link left number state ≡ all
      → new ++ commands link (left - 1) (number + 1) next ≡ all
  commands_turn link zero number state next some put goes is = absurd (omega arith)
  commands_turn link (suc left) number state next some put goes is =
      let less : suc left - 1 ≡ left = omega arith in
      let rest = commands link left (number + 1) (state_after 2 state) in
      (λ i. put i ++ commands link (less i) (number + 1) (goes i))
      ∙ append_assoc old (given_command link number state) rest ∙ is

  pub sessions_turn : (link left state next : ℕ) → 0 < left → new ≡ old ++ session link state
      → next ≡ behind_session state → old ++ sessions link left state ≡ all
      → new ++ sessions (link + 1) (left - 1) next ≡ all
  sessions_turn link zero state next some put goes is = absurd (omega arith)
  sessions_turn link (suc left) state next some put goes is =
      let less : suc left - 1 ≡ left = omega arith in
      let rest = sessions (link + 1) left (behind_session state) in
      (λ i. put i ++ sessions (link + 1) (less i) (goes i)) ∙ append_assoc old (session link state) rest ∙ is

  pub ides_turn : (number left : ℕ) → 0 < left → new ≡ old ++ registration number
      → old ++ registrations number left ≡ all
      → new ++ registrations (number + 1) (left - 1) ≡ all
  ides_turn number zero some put is = absurd (omega arith)
  ides_turn number (suc left) some put is =
      let less : suc left - 1 ≡ left = omega arith in
      let rest = registrations (number + 1) left in
      (λ i. put i ++ registrations (number + 1) (less i)) ∙ append_assoc old (registration number) rest ∙ is

pub states_turn : (left state next last : ℕ) → 0 < left → next ≡ state_after 2 state
    → state_after (2 * left) state ≡ last
    → state_after (2 * (left - 1)) next ≡ last
states_turn zero state next last some goes is = absurd (omega arith)
states_turn (suc left) state next last some goes is =
    let less : 2 * (suc left - 1) ≡ 2 * left = omega arith in
    let more : suc (suc (2 * left)) ≡ 2 * suc left = omega arith in
    (λ i. state_after (less i) (goes i)) ∙ ap (λ (n : ℕ). state_after n state) more ∙ is

pub registered : {E : Type 0} (r : Result (Unit {0}) E) (number link : ℕ) (host command asked : List ℕ)
    (old mid new : List Event) → link ≡ number → host ≡ codes "10.0.0." ++ decimal number
    → asked ≡ codes "proxyinit -p 9000 -k K" ++ decimal number → command ≡ asked ++ (codes " -m 1" ++ 0 ∷ [])
    → mid ≡ old ++ on link (Ide host) ∷ [] → OnOk r (new ≡ mid ++ on link (Give command) ∷ [])
    → OnOk r (new ≡ old ++ registration number)
registered r number link host command asked old mid new same name first last put more =
    let ide = on number (Ide (codes "10.0.0." ++ decimal number)) in
    let text : command ≡ codes "proxyinit -p 9000 -k K" ++ decimal number ++ codes " -m 1" ++ 0 ∷ [] =
    last ∙ ap (λ l. l ++ (codes " -m 1" ++ 0 ∷ [])) first
    ∙ sym (append_assoc (codes "proxyinit -p 9000 -k K" ++ decimal number) (codes " -m 1") (0 ∷ [])) in
    on_ok_weaker r
    (λ (e : new ≡ mid ++ on link (Give command) ∷ []). e ∙ ap (λ l. l ++ on link (Give command) ∷ []) put
    ∙ append_assoc old (on link (Ide host) ∷ []) (on link (Give command) ∷ [])
    ∙ (λ i. old ++ (on (same i) (Ide (name i)) ∷ on (same i) (Give (text i)) ∷ [])))
    more
