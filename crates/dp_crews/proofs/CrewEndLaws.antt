-- What a crew of workers comes to, once its tasks were hired, done and gathered.
use Rattle.std.proofs.Common.{◌≡◌, ◌⊎◌, ◌≤◌, ◌<◌, ℕ, ◌+◌, Bool, true, false, true≢false, List, [], ◌∷◌, ◌++◌, length, Result, Ok, Err, refl, sym, ◌∙◌, ap, subst, inl, inr, arith, MatchResult, cond}
use Rattle.std.specs.Prelude.{⊤}
use Rattle.std.specs.Prelude.{map, count_by, is_err}
use Rattle.std.specs.List.{AllZip}
use Rattle.std.proofs.lemmas.List.Sums.{sum_by-cons}
use mathlib.Core.List.{IsPrefix}
use Rattle.dp_outside.specs.declared.jobs.Spawner as spawner_of
use Rattle.dp_outside.specs.declared.links.Dialer as dialer_of
use Rattle.dp_outside.specs.declared.links.Gate as gate_of
use Rattle.dp_outside.specs.Causes.{Rose}
use Rattle.dp_desk.proofs.Keeps.{prefix_self, prefix_trans}
use Rattle.dp_desk.specs.Desks.{Known}
use Rattle.dp_desk.specs.Made.{Counts, Made, is_admit, is_register, made, plus}
use Rattle.dp_registry.specs.Legal.{IsLegal}
use Rattle.dp_registry.specs.declared.entry.Entry.{Entry}
use Rattle.dp_registry.specs.declared.entry.Entry.TheVariants.{Register, Stop, Admit, Dismiss}
use Rattle.dp_registry.specs.declared.entry.AdmitReply.TheVariants.{Given, Unknown, Busy}
use Rattle.dp_crews.specs.declared.accounts.Account.{Account}
use Rattle.dp_crews.specs.declared.errors.AllError.{AllError}
use Rattle.dp_crews.specs.declared.errors.AllError.TheVariants.{GateFault, NoThread, Memory}
use Rattle.dp_crews.specs.declared.summaries.Summary.{Summary}
use Rattle.dp_crews.specs.declared.tallies.Tally.{Tally}
use Rattle.dp_crews.specs.declared.tasks.Closed.{Closed}
use Rattle.dp_crews.specs.declared.tasks.Port.{Port}
use Rattle.dp_crews.specs.declared.tasks.Port.TheVariants as port
use Rattle.dp_crews.specs.Gates.{gating}
use Rattle.dp_crews.specs.Relays.{EnginesServed, Faults, IdesServed, made_in_all, tally_in_all}
use Rattle.dp_crews.specs.Summaries.{is_accepted, is_given, is_turned, summary}
use Rattle.dp_crews.specs.Tallies.{counted, tally}
use Rattle.dp_crews.specs.Twins.{Each}
use Rattle.dp_crews.specs.inner.Accounts.{Folds, FoldsBoth}
use Rattle.dp_crews.specs.inner.Crewed.{CameBackFrom, CrewDone, Crewed, Ended, HasRisen, OneZip}
use Rattle.dp_crews.specs.inner.Hires.{Hired, IsEngines, roster}
use Rattle.dp_crews.proofs.CrewLaws.{each_why}
use Rattle.dp_crews.proofs.GatherLaws.{Fine, Over, all_over, not_true, same_made, same_tally, total}
use Rattle.dp_crews.proofs.OutcomeLaws.{HiredAll, IsHired, IsOwn, Ran, Took, all_own, engines_in_turn, hired_all, ides_in_turn, pairs}

-- ---- the entries of a journal

small : (b : Bool) → cond b 1 0 ≤ 1
small true = omega arith
small false = omega arith

accepted_one : (e : Entry) → cond (is_accepted e) 1 0 ≤ cond (is_register e) 1 0
accepted_one (Register host port key multiple reply) = small _
accepted_one (Stop host key reply) = small _
accepted_one (Admit key reply) = omega arith
accepted_one (Dismiss session) = omega arith

pub accepted_within : (j : List Entry) → count_by is_accepted j ≤ count_by is_register j
accepted_within [] = omega arith
accepted_within (e ∷ es) = omega (
  arith,
  sum_by-cons (λ x. cond (is_accepted x) 1 0) e es,
  sum_by-cons (λ x. cond (is_register x) 1 0) e es,
  accepted_one e,
  accepted_within es,
)

admit_one : (e : Entry) → cond (is_given e) 1 0 + cond (is_turned e) 1 0 ≡ cond (is_admit e) 1 0
admit_one (Register host port key multiple reply) = refl
admit_one (Stop host key reply) = refl
admit_one (Admit key (Given session host port)) = refl
admit_one (Admit key Unknown) = refl
admit_one (Admit key (Busy session)) = refl
admit_one (Dismiss session) = refl

pub admits_split : (j : List Entry) → count_by is_given j + count_by is_turned j ≡ count_by is_admit j
admits_split [] = refl
admits_split (e ∷ es) = omega (
  arith,
  sum_by-cons (λ x. cond (is_given x) 1 0) e es,
  sum_by-cons (λ x. cond (is_turned x) 1 0) e es,
  sum_by-cons (λ x. cond (is_admit x) 1 0) e es,
  admit_one e,
  admits_split es,
)

-- ---- lists in two parts

pub zip_parts : {A B : Type 0} (R : A → B → Type 0) (xs ys : List A) (zs : List B) → AllZip R (xs ++ ys) zs
    → (lots : List B) × (bs : List B) × (zs ≡ lots ++ bs) × AllZip R xs lots × AllZip R ys bs
zip_parts R [] ys zs all = ([], zs, refl, tt, all)
zip_parts R (x ∷ xs) ys [] all = absurd all
zip_parts R (x ∷ xs) ys (z ∷ zs) all =
    let rest = zip_parts R xs ys zs all.1 in
    (z ∷ rest.0, rest.1, ap (λ l. z ∷ l) rest.2, (all.0, rest.3), rest.4)

both_parts : {A V W : Type 0} (step : A → V → V → W → W → Type 0) (lots bs : List A) (v w : V) (x y : W)
    → FoldsBoth step (lots ++ bs) v w x y → (u : V) × (z : W) × FoldsBoth step lots v u x z × FoldsBoth step bs u w z y
both_parts step [] bs v w x y f = (v, x, (refl, refl), f)
both_parts step (a ∷ lots) bs v w x y f =
    let rest = both_parts step lots bs f.0 w f.1 y f.3 in
    (rest.0, rest.1, (f.0, f.1, f.2, rest.2), rest.3)

each_parts : {A : Type 0} (P : A → Type 0) (xs ys : List A) → Each P (xs ++ ys) → Each P xs × Each P ys
each_parts P [] ys all = (tt, all)
each_parts P (x ∷ xs) ys all = let rest = each_parts P xs ys all.1 in ((all.0, rest.0), rest.1)

pub each_join : {A : Type 0} (P : A → Type 0) (xs ys : List A) → Each P xs → Each P ys → Each P (xs ++ ys)
each_join P [] ys one other = other
each_join P (x ∷ xs) ys one other = (one.0, each_join P xs ys one.1 other)

-- what holds of each second holds of all
seconds : {A B : Type 0} (R : A → B → Type 0) (P : B → Type 0) → ((a : A) (b : B) → R a b → P b) → (xs : List A)
    (ys : List B) → AllZip R xs ys → Each P ys
seconds R P from [] [] all = tt
seconds R P from [] (y ∷ ys) all = absurd all
seconds R P from (x ∷ xs) [] all = absurd all
seconds R P from (x ∷ xs) (y ∷ ys) all = (from x y all.0, seconds R P from xs ys all.1)

module _ {K T : Type 0} (count_of : T → ℕ) (R : K → T → Type 0) where
  firsts : (gates : List K) (tasks : List T) → AllZip R gates tasks
      → map (λ a. a.0) (pairs count_of gates tasks) ≡ gates
  firsts [] tasks all = refl
  firsts (k ∷ gates) [] all = absurd all
  firsts (k ∷ gates) (t ∷ tasks) all = ap (λ ks. k ∷ ks) (firsts gates tasks all.1)

  as_many : (gates : List K) (tasks : List T) → AllZip R gates tasks
      → length (pairs count_of gates tasks) ≡ length gates
  as_many [] tasks all = refl
  as_many (k ∷ gates) [] all = absurd all
  as_many (k ∷ gates) (t ∷ tasks) all = omega (arith, as_many gates tasks all.1)

-- what holds of each pair's gate holds of the gates
gates_zip : {K B : Type 0} (R : K → B → Type 0) (lots : List (K × ℕ)) (bs : List B)
    → AllZip (λ a b. R a.0 b) lots bs → AllZip R (map (λ a. a.0) lots) bs
gates_zip R [] [] all = tt
gates_zip R [] (b ∷ bs) all = absurd all
gates_zip R (a ∷ lots) [] all = absurd all
gates_zip R (a ∷ lots) (b ∷ bs) all = (all.0, gates_zip R lots bs all.1)

gates_one : {K B : Type 0} (R : K → B → Type 0) (lots : List (K × ℕ)) (bs : List B)
    → OneZip (λ a b. R a.0 b) lots bs → OneZip R (map (λ a. a.0) lots) bs
gates_one R [] bs one = one
gates_one R (a ∷ lots) [] one = one
gates_one R (a ∷ lots) (b ∷ bs) one = elim one [
  | inl here ↦ inl here
  | inr later ↦ inr (gates_one R lots bs later)
]

no_total : {K : Type 0} (lots : List (K × ℕ)) → total (λ n. 0) lots ≡ 0
no_total [] = refl
no_total (a ∷ lots) = omega (arith, no_total lots)

-- ---- the crew

module _ {G GIn GOut H HIn HOut D DIn DOut P Rt E T O : Type 0} (g : gate_of.Ghosts G GIn GOut)
    (h : gate_of.Ghosts H HIn HOut) (d : dialer_of.Ghosts D DIn DOut) (p : spawner_of.Ghosts P Rt)
    (clerk_of : T → Known) (port_of : T → Port G H D P) (count_of : T → ℕ) (closed_of : O → Closed G H)
    (clerk_over : O → Known) (over_of : O → Result ⊤ E) (base : Known) (Refused : Type 0)
    (ides : List G) (engines : List H) (registrations sessions : ℕ) where
  -- the tasks that were hired
  pub record Hires (last : Known) (tasks : List T) : Type 0 where
    pub asks : List T
    pub serves : List T
    pub are : tasks ≡ asks ++ serves
    pub for_ides : AllZip (IsHired clerk_of port_of count_of (λ k q. q ≡ port.Ides k) base) ides asks
    pub for_engines : AllZip (IsHired clerk_of port_of count_of IsEngines base) engines serves
    pub ide_links : total (λ n. n) (pairs count_of ides asks) ≡ registrations
    pub engine_links : total (λ n. n) (pairs count_of engines serves) ≡ sessions
    pub share : last.share + length ides + length engines ≡ base.share
    pub made : last.made ≡ base.made

  pub hires : (before middle : List T) (one last : Known) (tasks : List T) → before ≡ []
      → Folds (λ gate. Hired clerk_of port_of count_of (λ q. q ≡ port.Ides gate)) ides
      (roster base before registrations) (roster one middle 0)
      → Folds (λ gate. Hired clerk_of port_of count_of (IsEngines gate)) engines (roster one middle sessions)
      (roster last tasks 0) → Hires last tasks
  hires before middle one last tasks none first second =
      let a : HiredAll clerk_of port_of count_of (λ k q. q ≡ port.Ides k) base ides (roster base before registrations)
      (roster one middle 0) = hired_all clerk_of port_of count_of (λ k q. q ≡ port.Ides k) base ides _ _ refl first in
      let b : HiredAll clerk_of port_of count_of IsEngines base engines (roster one middle sessions)
      (roster last tasks 0) = hired_all clerk_of port_of count_of IsEngines base engines _ _ a.desk second in
      record {
        asks = a.new;
        serves = b.new;
        are = b.tasks ∙ ap (λ l. l ++ b.new) (a.tasks ∙ ap (λ l. l ++ a.new) none);
        for_ides = a.each;
        for_engines = b.each;
        ide_links = omega (arith, a.left);
        engine_links = omega (arith, b.left);
        share = omega (arith, a.share, b.share);
        made = b.made ∙ a.made;
      }

  of_desk : (last : Known) (tasks : List T) → Hires last tasks → Each (λ task. (clerk_of task).desk ≡ base.desk) tasks
  of_desk last tasks f =
      subst (Each (λ task. (clerk_of task).desk ≡ base.desk)) (sym f.are)
      (each_join (λ task. (clerk_of task).desk ≡ base.desk) f.asks f.serves
      (seconds (IsHired clerk_of port_of count_of (λ k q. q ≡ port.Ides k) base)
      (λ task. (clerk_of task).desk ≡ base.desk)
      (λ k t is. is.1.desk) ides f.asks f.for_ides)
      (seconds (IsHired clerk_of port_of count_of IsEngines base) (λ task. (clerk_of task).desk ≡ base.desk)
      (λ k t is. is.1.desk) engines f.serves f.for_engines))

  -- the clerks that come back are of the desk
  pub own_clerks : (last : Known) (tasks : List T) (answers : List (Result O T)) → Hires last tasks
      → AllZip (Ran g h d p clerk_of port_of count_of closed_of clerk_over over_of base Refused) tasks answers
      → Each (IsOwn g h d p clerk_of port_of count_of closed_of clerk_over over_of base Refused) answers
  own_clerks last tasks answers f ran =
      all_own g h d p clerk_of port_of count_of closed_of clerk_over over_of base Refused tasks answers
      (of_desk last tasks f) ran

  abbrev OverIdes : List (G × ℕ) → Known → Known → Account G H → Account G H → Type 0
  OverIdes = Over (gating g) (λ a. a.ides.items) (λ a. a.engines.items) (λ a. a.tally) (λ a. a.gate_fault)
      (λ a. a.no_thread) (IdesServed g) (λ n. n) (λ n. 0) Refused

  abbrev OverEngines : List (H × ℕ) → Known → Known → Account G H → Account G H → Type 0
  OverEngines = Over (gating h) (λ a. a.engines.items) (λ a. a.ides.items) (λ a. a.tally) (λ a. a.gate_fault)
      (λ a. a.no_thread) (EnginesServed h) (λ n. 0) (λ n. n) Refused

  abbrev FineIdes : List Entry → List (G × ℕ) → List G → Known → Known → Account G H → Account G H → Type 0
  FineIdes = Fine (gating g) (λ a. a.ides.items) (λ a. a.engines.items) (λ a. a.tally) (λ a. a.gate_fault)
      (λ a. a.no_thread) (IdesServed g) (λ n. n) (λ n. 0) Refused

  abbrev FineEngines : List Entry → List (H × ℕ) → List H → Known → Known → Account G H → Account G H → Type 0
  FineEngines = Fine (gating h) (λ a. a.engines.items) (λ a. a.ides.items) (λ a. a.tally) (λ a. a.gate_fault)
      (λ a. a.no_thread) (EnginesServed h) (λ n. 0) (λ n. n) Refused

  -- the account before anything came back
  pub record IsBlank (x : Account G H) : Type 0 where
    pub no_ides : x.ides.items ≡ []
    pub no_engines : x.engines.items ≡ []
    pub tally : x.tally ≡ tally 0 0 0 0
    pub whole : x.gate_fault ≡ false
    pub begun : x.no_thread ≡ false

  pub record CrewOver (last w : Known) (x y : Account G H) : Type 0 where
    pub asks : List (G × ℕ)
    pub serves : List (H × ℕ)
    pub between : Known
    pub midway : Account G H
    pub over_ides : OverIdes asks last between x midway
    pub over_engines : OverEngines serves between w midway y
    pub ide_gates : map (λ a. a.0) asks ≡ ides
    pub engine_gates : map (λ a. a.0) serves ≡ engines
    pub ide_links : total (λ n. n) asks ≡ registrations
    pub engine_links : total (λ n. n) serves ≡ sessions
    pub share : last.share + length asks + length serves ≡ base.share
    pub made : last.made ≡ base.made

  pub crew_over : (last w : Known) (tasks : List T) (answers : List (Result O T)) (x y : Account G H) → Hires last tasks
      → AllZip (Ran g h d p clerk_of port_of count_of closed_of clerk_over over_of base Refused) tasks answers
      → (0 < count_by is_err answers → Refused)
      → FoldsBoth (Took g h d p clerk_of port_of count_of closed_of clerk_over over_of base Refused) answers last w x y
      → CrewOver last w x y
  crew_over last w tasks answers x y f ran why took =
      let split = zip_parts (Ran g h d p clerk_of port_of count_of closed_of clerk_over over_of base Refused) f.asks
      f.serves answers
      (subst (λ l. AllZip (Ran g h d p clerk_of port_of count_of closed_of clerk_over over_of base Refused) l answers)
      f.are ran) in
      let steps = both_parts (Took g h d p clerk_of port_of count_of closed_of clerk_over over_of base Refused) split.0
      split.1 last w x y
      (subst (λ l. FoldsBoth (Took g h d p clerk_of port_of count_of closed_of clerk_over over_of base Refused) l last
      w x y) split.2 took) in
      let reasons = each_parts (λ answer. MatchResult answer (λ over. ⊤) (λ task. Refused)) split.0 split.1
      (subst (Each (λ answer. MatchResult answer (λ over. ⊤) (λ task. Refused))) split.2
      (each_why Refused answers why)) in
      record {
        asks = pairs count_of ides f.asks;
        serves = pairs count_of engines f.serves;
        between = steps.0;
        midway = steps.1;
        over_ides = all_over (gating g) (λ a. a.ides.items) (λ a. a.engines.items) (λ a. a.tally) (λ a. a.gate_fault)
            (λ a. a.no_thread) (IdesServed g) (λ n. n) (λ n. 0) Refused (pairs count_of ides f.asks) last steps.0 x
            steps.1
            (ides_in_turn g h d p clerk_of port_of count_of closed_of clerk_over over_of base Refused ides f.asks
            split.0
            last steps.0 x steps.1 f.for_ides split.3 reasons.0 steps.2);
        over_engines = all_over (gating h) (λ a. a.engines.items) (λ a. a.ides.items) (λ a. a.tally)
            (λ a. a.gate_fault) (λ a. a.no_thread) (EnginesServed h) (λ n. 0) (λ n. n) Refused
            (pairs count_of engines f.serves) steps.0 w steps.1 y
            (engines_in_turn g h d p clerk_of port_of count_of closed_of clerk_over over_of base Refused engines
            f.serves
            split.1 steps.0 w steps.1 y f.for_engines split.4 reasons.1 steps.3);
        ide_gates = firsts count_of (IsHired clerk_of port_of count_of (λ k q. q ≡ port.Ides k) base) ides f.asks
            f.for_ides;
        engine_gates = firsts count_of (IsHired clerk_of port_of count_of IsEngines base) engines f.serves
            f.for_engines;
        ide_links = f.ide_links;
        engine_links = f.engine_links;
        share = omega (
          arith,
          f.share,
          as_many count_of (IsHired clerk_of port_of count_of (λ k q. q ≡ port.Ides k) base) ides f.asks f.for_ides,
          as_many count_of (IsHired clerk_of port_of count_of IsEngines base) engines f.serves f.for_engines,
        );
        made = f.made;
      }

  module _ (last w : Known) (x y : Account G H) (o : CrewOver last w x y) (blank : IsBlank x) where
    ides_are : y.ides.items ≡ o.over_ides.back
    ides_are = o.over_engines.others ∙ (o.over_ides.items ∙ ap (λ l. l ++ o.over_ides.back) blank.no_ides)

    engines_are : y.engines.items ≡ o.over_engines.back
    engines_are = o.over_engines.items
        ∙ ap (λ l. l ++ o.over_engines.back) (o.over_ides.others ∙ blank.no_engines)

    pub ides_back : CameBackFrom g ides y.ides.items
    ides_back =
        subst (λ l. CameBackFrom g l y.ides.items) o.ide_gates
        (subst (λ l. CameBackFrom g (map (λ a. a.0) o.asks) l) (sym ides_are)
        (gates_zip _ o.asks o.over_ides.back o.over_ides.came))

    pub engines_back : CameBackFrom h engines y.engines.items
    engines_back =
        subst (λ l. CameBackFrom h l y.engines.items) o.engine_gates
        (subst (λ l. CameBackFrom h (map (λ a. a.0) o.serves) l) (sym engines_are)
        (gates_zip _ o.serves o.over_engines.back o.over_engines.came))

    ide_risen : OneZip (λ a b. Rose (g.faults a.0) (g.faults b)) o.asks o.over_ides.back → HasRisen g ides y.ides.items
    ide_risen one =
        subst (λ l. HasRisen g l y.ides.items) o.ide_gates
        (subst (λ l. HasRisen g (map (λ a. a.0) o.asks) l) (sym ides_are) (gates_one _ o.asks o.over_ides.back one))

    engine_risen : OneZip (λ a b. Rose (h.faults a.0) (h.faults b)) o.serves o.over_engines.back
        → HasRisen h engines y.engines.items
    engine_risen one =
        subst (λ l. HasRisen h l y.engines.items) o.engine_gates
        (subst (λ l. HasRisen h (map (λ a. a.0) o.serves) l) (sym engines_are)
        (gates_one _ o.serves o.over_engines.back one))

    pub why_fault : y.gate_fault ≡ true → HasRisen g ides y.ides.items ⊎ HasRisen h engines y.engines.items
    why_fault e = elim (o.over_engines.why_failed e) [
      | inl before ↦ elim (o.over_ides.why_failed before) [
        | inl first ↦ absurd (true≢false (sym first ∙ blank.whole))
        | inr one ↦ inl (ide_risen one)
      ]
      | inr one ↦ inr (engine_risen one)
    ]

    pub why_thread : y.no_thread ≡ true → Refused
    why_thread e = elim (o.over_engines.why_stopped e) [
      | inl before ↦ elim (o.over_ides.why_stopped before) [
        | inl first ↦ absurd (true≢false (sym first ∙ blank.begun))
        | inr one ↦ one
      ]
      | inr one ↦ one
    ]

    module _ (few : sessions ≤ 65535) (whole : y.gate_fault ≡ false) (begun : y.no_thread ≡ false)
        (journal : List Entry) (front : IsPrefix w.seen journal) where
      whole_midway : o.midway.gate_fault ≡ false
      whole_midway = not_true o.midway.gate_fault
          (λ e. true≢false (sym (o.over_engines.stays_failed e) ∙ whole))

      begun_midway : o.midway.no_thread ≡ false
      begun_midway = not_true o.midway.no_thread
          (λ e. true≢false (sym (o.over_engines.stays_stopped e) ∙ begun))

      none_counted : counted x.tally ≡ 0
      none_counted = ap counted blank.tally

      front_midway : IsPrefix o.between.seen journal
      front_midway = prefix_trans o.between.seen w.seen journal o.over_engines.grows front

      pub fine_ides : FineIdes journal o.asks o.over_ides.back last o.between x o.midway
      fine_ides = o.over_ides.fine whole_midway begun_midway journal front_midway
          (omega (arith, none_counted, no_total o.asks))

      pub uncounted : counted (tally_in_all fine_ides.workers) ≡ 0
      uncounted = omega (arith, fine_ides.all, no_total o.asks)

      pub fine_engines : FineEngines journal o.serves o.over_engines.back o.between w o.midway y
      fine_engines = o.over_engines.fine whole begun journal front
          (omega (arith, ap counted fine_ides.tally, none_counted, uncounted, o.engine_links, few))

      pub all_back : base.share ≡ w.share
      all_back = omega (arith, o.share, fine_ides.share, fine_engines.share)

      made_is : (none : base.made ≡ made 0 0 0)
          → w.made ≡ plus (made_in_all fine_ides.workers) (made_in_all fine_engines.workers)
      made_is none =
          let m = fine_engines.made in
          let n = fine_ides.made in
          let k : last.made ≡ made 0 0 0 = o.made ∙ none in
          same_made w.made (plus (made_in_all fine_ides.workers) (made_in_all fine_engines.workers))
          (omega (
            arith,
            ap (λ (q : Made). q.registers) m,
            ap (λ (q : Made). q.registers) n,
            ap (λ (q : Made). q.registers) k,
          ))
          (omega (arith, ap (λ (q : Made). q.admits) m, ap (λ (q : Made). q.admits) n, ap (λ (q : Made). q.admits) k))
          (omega (
            arith,
            ap (λ (q : Made). q.dismissals) m,
            ap (λ (q : Made). q.dismissals) n,
            ap (λ (q : Made). q.dismissals) k,
          ))

      tally_is : y.tally ≡ tally_in_all fine_engines.workers
      tally_is =
          let t = fine_engines.tally in
          let u = fine_ides.tally in
          let v = blank.tally in
          same_tally y.tally (tally_in_all fine_engines.workers)
          (omega (
            arith,
            ap (λ (q : Tally). q.full) t,
            ap (λ (q : Tally). q.full) u,
            ap (λ (q : Tally). q.full) v,
            uncounted,
          ))
          (omega (
            arith,
            ap (λ (q : Tally). q.unfit) t,
            ap (λ (q : Tally). q.unfit) u,
            ap (λ (q : Tally). q.unfit) v,
            uncounted,
          ))
          (omega (
            arith,
            ap (λ (q : Tally). q.failed) t,
            ap (λ (q : Tally). q.failed) u,
            ap (λ (q : Tally). q.failed) v,
            uncounted,
          ))
          (omega (
            arith,
            ap (λ (q : Tally). q.starved) t,
            ap (λ (q : Tally). q.starved) u,
            ap (λ (q : Tally). q.starved) v,
            uncounted,
          ))

      pub crew_done : (s : Summary) → base.made ≡ made 0 0 0 → s ≡ summary journal y.tally → IsLegal journal
          → Counts journal w.made → CrewDone g h ides engines registrations sessions y.ides.items y.engines.items s
          journal
      crew_done s none is legal counts =
          let numbers : s ≡ summary journal (tally_in_all fine_engines.workers) = is ∙ ap (summary journal) tally_is in
          let all : Counts journal (plus (made_in_all fine_ides.workers) (made_in_all fine_engines.workers)) =
          subst (Counts journal) (made_is none) counts in
          let admits : count_by is_given journal + count_by is_turned journal ≡ count_by is_admit journal =
          admits_split journal in
          record {
            asking = fine_ides.workers;
            serving = fine_engines.workers;
            asked = record {
              begun = fine_ides.begun ∙ o.ide_gates;
              links = fine_ides.links ∙ o.ide_links;
              served = subst (AllZip (IdesServed g journal) fine_ides.workers) (sym ides_are) fine_ides.served;
            };
            served = record {
              begun = fine_engines.begun ∙ o.engine_gates;
              links = fine_engines.links ∙ o.engine_links;
              served = subst (AllZip (EnginesServed h journal) fine_engines.workers) (sym engines_are)
                  fine_engines.served;
            };
            counts = all;
            numbers = numbers;
            summed = record {
              legal = legal;
              accepted = ap (λ (k : Summary). k.accepted) numbers;
              admitted = ap (λ (k : Summary). k.admitted) numbers;
              refused = ap (λ (k : Summary). k.refused) numbers;
              within = omega (
                arith,
                ap (λ (k : Summary). k.accepted) numbers,
                accepted_within journal,
                all.registers,
                fine_ides.registers,
                fine_engines.registers,
                no_total o.serves,
                o.ide_links,
              );
              all = omega (
                arith,
                ap (λ (k : Summary). k.admitted) numbers,
                ap (λ (k : Summary). k.refused) numbers,
                ap (λ (k : Summary). k.full) numbers,
                ap (λ (k : Summary). k.unfit) numbers,
                ap (λ (k : Summary). k.failed) numbers,
                ap (λ (k : Summary). k.starved) numbers,
                admits,
                all.admits,
                fine_ides.all,
                uncounted,
                no_total o.asks,
                fine_engines.all,
                o.engine_links,
              );
            };
          }

    pub shares_back : sessions ≤ 65535 → y.gate_fault ≡ false → y.no_thread ≡ false → base.share ≡ w.share
    shares_back few whole begun = all_back few whole begun w.seen (prefix_self w.seen)

    pub crew_ended : (starts : Faults) (result : Result (Summary × List Entry) AllError) → sessions ≤ 65535
        → base.made ≡ made 0 0 0 → (Refused → Rose starts.before starts.now)
        → Ended w y.gate_fault y.no_thread y.tally result
        → Crewed g h ides engines registrations sessions starts y.ides.items y.engines.items result
    crew_ended starts (Ok done) few none rose e =
        crew_done few e.0 e.1 done.1 e.3 done.0 none e.2 e.4 e.5
    crew_ended starts (Err GateFault) few none rose e = (ides_back, engines_back, why_fault e)
    crew_ended starts (Err NoThread) few none rose e = (ides_back, engines_back, rose (why_thread e))
    crew_ended starts (Err Memory) few none rose e = absurd e

  -- ---- from the tasks to the end

  module _ (before middle : List T) (one last : Known) (tasks : List T) (answers : List (Result O T))
      (none : before ≡ [])
      (first : Folds (λ gate. Hired clerk_of port_of count_of (λ q. q ≡ port.Ides gate)) ides
      (roster base before registrations) (roster one middle 0))
      (second : Folds (λ gate. Hired clerk_of port_of count_of (IsEngines gate)) engines (roster one middle sessions)
      (roster last tasks 0))
      (ran : AllZip (Ran g h d p clerk_of port_of count_of closed_of clerk_over over_of base Refused) tasks answers)
    where
      pub crew_own : Each (IsOwn g h d p clerk_of port_of count_of closed_of clerk_over over_of base Refused) answers
      crew_own = own_clerks last tasks answers (hires before middle one last tasks none first second) ran

      module _ (w : Known) (x y : Account G H) (why : 0 < count_by is_err answers → Refused)
          (took : FoldsBoth (Took g h d p clerk_of port_of count_of closed_of clerk_over over_of base Refused) answers
          last
          w x y) (blank : IsBlank x) (few : sessions ≤ 65535) where
        led : CrewOver last w x y
        led = crew_over last w tasks answers x y (hires before middle one last tasks none first second) ran why took

        pub crew_shares : y.gate_fault ≡ false → y.no_thread ≡ false → base.share ≡ w.share
        crew_shares whole begun = shares_back last w x y led blank few whole begun

        pub crew_answered : (starts : Faults) (result : Result (Summary × List Entry) AllError)
            → base.made ≡ made 0 0 0 → (Refused → Rose starts.before starts.now)
            → Ended w y.gate_fault y.no_thread y.tally result
            → Crewed g h ides engines registrations sessions starts y.ides.items y.engines.items result
        crew_answered starts result fresh rose e = crew_ended last w x y led blank starts result few fresh rose e
