-- Gates at which a proxy served, and what serving comes to.
use Rattle.std.proofs.Common.{◌≡◌, ◌⊎◌, ℕ, zero, suc, ◌<◌, ◌≤◌, ◌+◌, Bool, true, false, List, [], ◌∷◌, ◌++◌, map, Option, None, Some, Ok, Err, Result, refl, sym, ap, ◌∙◌, subst, arith, inl, inr}
use Rattle.std.specs.Prelude.{MatchResult}
use Rattle.std.specs.Option.{option_map_or}
use Rattle.dp_outside.specs.Causes.{Rose}
use Rattle.dp_outside.specs.Changes.{Change, IsUntouched}
use Rattle.dp_outside.specs.Links.{CountsReturned, Door}
use Rattle.dp_outside.specs.Reports.{grown}
use Rattle.dp_outside.specs.declared.links.Gate as gate_of
use Rattle.dp_program.proofs.GrownNames.{grown_again, grown_by_none}
use Rattle.dp_registry.specs.declared.entry.Entry.{Entry}
use Rattle.dp_crews.specs.Bounds.{IsBounded}
use Rattle.dp_crews.specs.Gates.{Gating, gating}
use Rattle.dp_crews.specs.Relays.{AllBack, AllServed, Faults, OneOf, faults}
use Rattle.dp_crews.specs.Relays as relay
use Rattle.dp_crews.specs.declared.errors.AllError.{AllError}
use Rattle.dp_crews.specs.declared.errors.AllError.TheVariants.{GateFault, NoThread, Memory}
use Rattle.dp_crews.specs.declared.summaries.Summary.{Summary}
use Rattle.dp_top.specs.declared.failures.Failure.TheVariants as failure
use Rattle.dp_bytes.specs.Decimals.{decimal_in}
use Rattle.dp_words.specs.Words.{Service, not_zero, served_count_of, served_limit}
use Rattle.dp_top.specs.Proxy.{CountsGates, HasFailed, IsHalfGated, IsNew, IsRun, IsUnserved, ProxyFails, by_telling, door_of, failure_of}
use Rattle.dp_top.specs.Links.{IsUngated}
use Rattle.dp_top.specs.Seen.{Net}
use Rattle.dp_top.specs.inner.Proxied.{AreShut, Came, Ran, RanAt}
use Rattle.dp_top.proofs.SoakLaws.{decimal_below}
use Rattle.dp_top.proofs.TaskLaws.{returned_rose}
use Rattle.dp_top.proofs.TellingLaws.{bounds_told, map_both, served_told}

-- ---- counts of what came back

stands_or_rose : (failed before after : ℕ) → CountsReturned failed before after
    → (after ≡ before) ⊎ Rose before after
stands_or_rose zero before after same = inl same
stands_or_rose (suc n) before after rose = inr rose

-- a count that rose or stood, and then rose
rises_then : (a b c : ℕ) → (b ≡ a) ⊎ Rose a b → Rose b c → Rose a c
rises_then a b c (inl same) rose = subst (λ (n : ℕ). Rose n c) same rose
rises_then a b c (inr first) rose = omega (arith, first, rose)

-- one that rose, and then rose or stood
rises_and : (a b c : ℕ) → Rose a b → (c ≡ b) ⊎ Rose b c → Rose a c
rises_and a b c rose (inl same) = subst (λ (n : ℕ). Rose a n) (sym same) rose
rises_and a b c rose (inr more) = omega (arith, rose, more)

goes_on : (a b c : ℕ) → (b ≡ a) ⊎ Rose a b → (c ≡ b) ⊎ Rose b c → (c ≡ a) ⊎ Rose a c
goes_on a b c (inl same) (inl still) = inl (still ∙ same)
goes_on a b c (inl same) (inr rose) = inr (rises_then a b c (inl same) rose)
goes_on a b c (inr rose) rest = inr (rises_and a b c rose rest)

counts_stand : (gates : List Gating) (before after : ℕ) → CountsGates gates before after
    → (after ≡ before) ⊎ Rose before after
counts_stand [] before after same = inl same
counts_stand (gate ∷ gates) before after h =
    goes_on before h.0 after (stands_or_rose (gate.faults + gate.returned) before h.0 h.1)
    (counts_stand gates h.0 after h.2)

counts_rose : (gates : List Gating) (before after : ℕ) → OneOf (λ gate. 0 < gate.faults) gates
    → CountsGates gates before after → Rose before after
counts_rose [] before after one h = absurd one
counts_rose (gate ∷ gates) before after (inl some) h =
    rises_and before h.0 after (returned_rose (gate.faults + gate.returned) before h.0 h.1 (omega (arith, some)))
    (counts_stand gates h.0 after h.2)
counts_rose (gate ∷ gates) before after (inr one) h =
    rises_then before h.0 after (stands_or_rose (gate.faults + gate.returned) before h.0 h.1)
    (counts_rose gates h.0 after one h.2)

counts_more : (gates : List Gating) (gate : Gating) (a b c : ℕ) → CountsGates gates a b
    → CountsReturned (gate.faults + gate.returned) b c → CountsGates (gates ++ gate ∷ []) a c
counts_more [] gate a b c same last =
    (c, subst (λ (n : ℕ). CountsReturned (gate.faults + gate.returned) n c) same last, refl)
counts_more (first ∷ gates) gate a b c h last = (h.0, h.1, counts_more gates gate h.0 b c h.2 last)

counts_both : (xs ys : List Gating) (a b c : ℕ) → CountsGates xs a b → CountsGates ys b c
    → CountsGates (xs ++ ys) a c
counts_both [] ys a b c same second = subst (λ (n : ℕ). CountsGates ys n c) same second
counts_both (x ∷ xs) ys a b c h second = (h.0, h.1, counts_both xs ys h.0 b c h.2 second)

-- ---- gates that are shut

pub shut_none : (net : Net) → AreShut [] net net
shut_none net = record {
  faults = refl;
  later = omega arith;
  returned = refl;
  dials = refl;
  retired = refl;
  requested = refl;
  shut = grown_by_none net.shut;
}

shut_more : (gates : List Gating) (gate : Gating) (old mid new : Net) → AreShut gates old mid
    → new.faults ≡ mid.faults → CountsReturned (gate.faults + gate.returned) mid.returned new.returned
    → mid.returned ≤ new.returned → new.dials ≡ mid.dials → new.retired ≡ mid.retired
    → new.requested ≡ mid.requested → new.shut ≡ grown mid.shut (door_of gate ∷ [])
    → AreShut (gates ++ gate ∷ []) old new
shut_more gates gate old mid new before faults counted later dials retired requested shut = record {
  faults = faults ∙ before.faults;
  later = omega (arith, before.later, later);
  returned = counts_more gates gate old.returned mid.returned new.returned before.returned counted;
  dials = dials ∙ before.dials;
  retired = retired ∙ before.retired;
  requested = requested ∙ before.requested;
  shut =
      shut ∙ ap (λ (t : Option (List Door)). grown t (door_of gate ∷ [])) before.shut
      ∙ grown_again old.shut (map door_of gates) (door_of gate ∷ [])
      ∙ ap (grown old.shut) (sym (map_both door_of gates (gate ∷ [])));
}

module _ {D In Out : Type 0} (g : gate_of.Ghosts D In Out) where
  abbrev all_told : List D → List Gating
  all_told doors = map (gating g) doors

  pub shut_one_more : (doors : List D) (door : D) (old mid new : Net) → AreShut (all_told doors) old mid
      → new.faults ≡ mid.faults → CountsReturned (g.faults door + g.returned door) mid.returned new.returned
      → mid.returned ≤ new.returned → new.dials ≡ mid.dials → new.retired ≡ mid.retired
      → new.requested ≡ mid.requested → new.shut ≡ grown mid.shut (door_of (gating g door) ∷ [])
      → AreShut (all_told (doors ++ door ∷ [])) old new
  shut_one_more doors door old mid new before faults counted later dials retired requested shut =
      subst (λ (l : List Gating). AreShut l old new) (sym (map_both (gating g) doors (door ∷ [])))
      (shut_more (all_told doors) (gating g door) old mid new before faults counted later dials retired requested shut)

  -- ---- what serving at two new gates comes to

  pub ran : (service : Service) (ides engines : D) → IsNew service.ides (gating g ides)
      → IsNew service.engines (gating g engines)
      → (old over first new : Net) (starts : Faults) (gs hs : List D)
      (result : Result (Summary × List Entry) AllError)
      → AllServed g g ides engines service.registrations service.sessions (faults old.faults over.faults) starts gs hs
      result
      → IsBounded g g ides engines service.registrations service.sessions gs hs result
      → over.returned ≡ old.returned → over.dials ≡ old.dials → over.retired ≡ old.retired
      → over.requested ≡ old.requested → over.shut ≡ old.shut
      → AreShut (all_told gs) over first → AreShut (all_told hs) first new → RanAt service result old new starts
  ran service ides engines new_ides new_engines old over first new starts gs hs result all bounds returned dials retired
      requested shut asked served = record {
        ides = gating g ides;
        engines = gating g engines;
        new_ides = new_ides;
        new_engines = new_engines;
        asking = all_told gs;
        serving = all_told hs;
        dials = served.dials ∙ asked.dials ∙ dials;
        retired = served.retired ∙ asked.retired ∙ retired;
        requested = served.requested ∙ asked.requested ∙ requested;
        shut =
            served.shut
            ∙ ap (λ (t : Option (List Door)). grown t (map door_of (all_told hs)))
            (asked.shut ∙ ap (λ (t : Option (List Door)). grown t (map door_of (all_told gs))) shut)
            ∙ grown_again old.shut (map door_of (all_told gs)) (map door_of (all_told hs))
            ∙ ap (grown old.shut) (sym (map_both door_of (all_told gs) (all_told hs)));
        returned = subst (λ (n : ℕ). CountsGates (all_told gs ++ all_told hs) n new.returned) returned
            (counts_both (all_told gs) (all_told hs) over.returned first.returned new.returned asked.returned
            served.returned);
        served = subst (λ (n : ℕ). AllServed by_telling by_telling (gating g ides) (gating g engines)
            service.registrations service.sessions (faults old.faults n) starts (all_told gs) (all_told hs) result)
            (sym (served.faults ∙ asked.faults))
            (served_told g ides engines service.registrations service.sessions gs hs
            (faults old.faults over.faults) starts result all);
        bounds = bounds_told g ides engines service.registrations service.sessions gs hs result bounds;
      }

-- and whatever journal it left
pub ran_so : (service : Service) (old new : Net) (starts : Faults) (kept : Result Summary AllError)
    (result : Result (Summary × List Entry) AllError)
    → MatchResult kept (λ s. (journal : List Entry) × (result ≡ Ok (s, journal))) (λ why. result ≡ Err why)
    → RanAt service result old new starts → Ran service kept old new starts
ran_so service old new starts (Ok s) result is r =
    (is.0, subst (λ (k : Result (Summary × List Entry) AllError). RanAt service k old new starts) is.1 r)
ran_so service old new starts (Err why) result is r =
    subst (λ (k : Result (Summary × List Entry) AllError). RanAt service k old new starts) is r

-- ---- from before the gates were opened

module _ (service : Service) (old first mid new : Net) (starts : Faults)
    (dials1 : first.dials ≡ old.dials) (retired1 : first.retired ≡ old.retired) (shut1 : first.shut ≡ old.shut)
    (returned1 : first.returned ≡ old.returned) (later1 : old.faults ≤ first.faults)
    (requested1 : first.requested ≡ grown old.requested ((service.ides, true) ∷ []))
    (dials2 : mid.dials ≡ first.dials) (retired2 : mid.retired ≡ first.retired) (shut2 : mid.shut ≡ first.shut)
    (returned2 : mid.returned ≡ first.returned) (later2 : first.faults ≤ mid.faults) where
  -- both gates were opened
  run_from : (result : Result (Summary × List Entry) AllError)
      → mid.requested ≡ grown first.requested ((service.engines, true) ∷ [])
      → RanAt service result mid new starts → IsRun service result old new starts
  run_from result requested2 r = record {
    ides = r.ides;
    engines = r.engines;
    new_ides = r.new_ides;
    new_engines = r.new_engines;
    asking = r.asking;
    serving = r.serving;
    gated = record {
      requested =
          r.requested ∙ requested2
          ∙ ap (λ (t : Option (List (ℕ × Bool))). grown t ((service.engines, true) ∷ [])) requested1
          ∙ grown_again old.requested ((service.ides, true) ∷ []) ((service.engines, true) ∷ []);
      shut =
          r.shut ∙ ap (λ (t : Option (List Door)). grown t (map door_of (r.asking ++ r.serving))) (shut2 ∙ shut1);
      returned = subst (λ (n : ℕ). CountsGates (r.asking ++ r.serving) n new.returned) (returned2 ∙ returned1)
          r.returned;
      dials = r.dials ∙ dials2 ∙ dials1;
      retired = r.retired ∙ retired2 ∙ retired1;
    };
    opened = mid.faults;
    before = omega (arith, later1, later2);
    served = r.served;
    bounds = r.bounds;
  }

  pub came_from : (kept : Result Summary AllError)
      → mid.requested ≡ grown first.requested ((service.engines, true) ∷ [])
      → Ran service kept mid new starts → Came service kept old new starts
  came_from (Ok s) requested2 r = (r.0, run_from (Ok (s, r.0)) requested2 r.1)
  came_from (Err why) requested2 r = inr (run_from (Err why) requested2 r)

  -- the second gate could not be opened
  pub half_gated : (gate : Gating) → IsNew service.ides gate
      → mid.requested ≡ grown first.requested ((service.engines, false) ∷ []) → Rose first.faults mid.faults
      → new.faults ≡ mid.faults → CountsReturned (gate.faults + gate.returned) mid.returned new.returned
      → new.dials ≡ mid.dials → new.retired ≡ mid.retired → new.requested ≡ mid.requested
      → new.shut ≡ grown mid.shut (door_of gate ∷ [])
      → IsHalfGated service old new
  half_gated gate is requested2 rose same counted dials retired requested shut = record {
    gate = gate;
    is_new = is;
    requested =
        requested ∙ requested2
        ∙ ap (λ (t : Option (List (ℕ × Bool))). grown t ((service.engines, false) ∷ [])) requested1
        ∙ grown_again old.requested ((service.ides, true) ∷ []) ((service.engines, false) ∷ []);
    shut = shut ∙ ap (λ (t : Option (List Door)). grown t (door_of gate ∷ [])) (shut2 ∙ shut1);
    dials = dials ∙ dials2 ∙ dials1;
    retired = retired ∙ retired2 ∙ retired1;
    faults = omega (arith, later1, rose, same);
    returned =
        stands (gate.faults + gate.returned) (omega (arith, is.faults, is.returned)) counted ∙ returned2 ∙ returned1;
  } where
    stands : (failed : ℕ) → failed ≡ 0 → CountsReturned failed mid.returned new.returned → new.returned ≡ mid.returned
    stands zero none c = c
    stands (suc n) none c = absurd (omega (arith, none))

-- ---- what failed, where not all were served

one_before : {X : Type 0} (P : X → Type 0) (xs ys : List X) → OneOf P xs → OneOf P (xs ++ ys)
one_before P [] ys one = absurd one
one_before P (x ∷ xs) ys (inl one) = inl one
one_before P (x ∷ xs) ys (inr one) = inr (one_before P xs ys one)

one_behind : {X : Type 0} (P : X → Type 0) (xs ys : List X) → OneOf P ys → OneOf P (xs ++ ys)
one_behind P [] ys one = one
one_behind P (x ∷ xs) ys one = inr (one_behind P xs ys one)

one_early : {X : Type 0} (P Q : X → Type 0) (xs : List X) (y : X) → ((x : X) → P x → Q x) → OneOf P xs
    → OneOf Q (xs ++ y ∷ [])
one_early P Q [] y goes one = absurd one
one_early P Q (x ∷ xs) y goes (inl one) = inl (goes x one)
one_early P Q (x ∷ xs) y goes (inr one) = inr (one_early P Q xs y goes one)

one_last : {X : Type 0} (Q : X → Type 0) (xs : List X) (y : X) → Q y → OneOf Q (xs ++ y ∷ [])
one_last Q [] y one = inl one
one_last Q (x ∷ xs) y one = inr (one_last Q xs y one)

-- a gate whose count rose has failed
gate_failed : (handed : Gating) (gates : List Gating) (back : AllBack by_telling handed gates)
    → relay.HasFailed by_telling handed gates back → OneOf (λ gate. 0 < gate.faults) gates
gate_failed handed gates back (inl twin) =
    subst (λ (l : List Gating). OneOf (λ gate. 0 < gate.faults) l) (sym back.are)
    (one_early (λ (gate : Gating). Rose 0 gate.faults) (λ (gate : Gating). 0 < gate.faults) back.twins back.last
    (λ gate rose. omega (arith, rose)) twin)
gate_failed handed gates back (inr rose) =
    subst (λ (l : List Gating). OneOf (λ gate. 0 < gate.faults) l) (sym back.are)
    (one_last (λ (gate : Gating). 0 < gate.faults) back.twins back.last (omega (arith, rose)))

run_failed : (service : Service) (why : AllError) (old new : Net) (starts : Faults)
    → IsRun service (Err why) old new starts → failure_of why ≡ failure.Network → HasFailed old new starts
run_failed service GateFault old new starts r is = by r.served.came.2 where
  by : relay.HasFailed by_telling r.ides r.asking r.served.came.0
      ⊎ (relay.HasFailed by_telling r.engines r.serving r.served.came.1 ⊎ Rose r.opened new.faults)
      → HasFailed old new starts
  by (inl gate) =
      inr (inl (counts_rose (r.asking ++ r.serving) old.returned new.returned
      (one_before (λ (x : Gating). 0 < x.faults) r.asking r.serving
      (gate_failed r.ides r.asking r.served.came.0 gate)) r.gated.returned))
  by (inr (inl gate)) =
      inr (inl (counts_rose (r.asking ++ r.serving) old.returned new.returned
      (one_behind (λ (x : Gating). 0 < x.faults) r.asking r.serving
      (gate_failed r.engines r.serving r.served.came.1 gate)) r.gated.returned))
  by (inr (inr dial)) = let before = r.before in inl (omega (arith, dial, before))
run_failed service NoThread old new starts r is = inr (inr r.served.came.2)
run_failed service Memory old new starts r is = absurd cc

unserved_failed : (service : Service) (why : AllError) (old new : Net) (starts : Faults)
    → IsUnserved service why old new starts → failure_of why ≡ failure.Network → HasFailed old new starts
unserved_failed service why old new starts (inl h) is = by h.1 where
  by : IsUngated service.ides old new ⊎ IsHalfGated service old new → HasFailed old new starts
  by (inl u) = inl u.faults
  by (inr half) = inl half.faults
unserved_failed service why old new starts (inr r) is = run_failed service why old new starts r is

-- ---- the line

module _ (service : Service) (out : Change) (old new : Net) (starts : Faults) where
  pub undone : (why : AllError) (name : List ℕ) → name ≡ [] → IsUnserved service why old new starts
      → IsUntouched out → ProxyFails (failure_of why) name service out old new starts
  undone GateFault name none unserved still = (
    none,
    inr (inl (
      refl,
      record {
        end = GateFault;
        is_network = refl;
        failed = unserved_failed service GateFault old new starts unserved refl;
        undone = record { unserved = unserved; out_stays = still };
      },
    )),
  )
  undone NoThread name none unserved still = (
    none,
    inr (inl (
      refl,
      record {
        end = NoThread;
        is_network = refl;
        failed = unserved_failed service NoThread old new starts unserved refl;
        undone = record { unserved = unserved; out_stays = still };
      },
    )),
  )
  undone Memory name none unserved still =
      (none, inl (refl, inl (Memory, record { unserved = unserved; out_stays = still })))

-- ---- the numbers of the words

pub served_within : (word : List ℕ) (count : ℕ) → served_count_of word ≡ Some count
    → (1 ≤ count) × (count ≤ served_limit)
served_within word count e = by (decimal_in served_limit word) refl e where
  by : (o : Option ℕ) → decimal_in served_limit word ≡ o → not_zero o ≡ Some count
      → (1 ≤ count) × (count ≤ served_limit)
  by None is none = absurd cc
  by (Some zero) is none = absurd cc
  by (Some (suc n)) is some =
      let same : suc n ≡ count = ap (λ (o : Option ℕ). option_map_or (λ x. x) o 0) some in
      (omega (arith, same), (let small = decimal_below served_limit (suc n) word is in omega (arith, small, same)))
