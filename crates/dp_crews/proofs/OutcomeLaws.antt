-- What comes of a worker's task, from how it was hired, run and taken back.
use Rattle.std.proofs.Common.{◌≡◌, ◌≤◌, ℕ, zero, suc, ◌+◌, List, [], ◌∷◌, ◌++◌, length, Result, Ok, Err, refl, sym, ◌∙◌, ap, subst, inl, inr, arith, append_assoc, append-nil, MatchResult, OnOk}
use Rattle.std.specs.Prelude.{⊤}
use Rattle.std.specs.List.{AllZip}
use Rattle.dp_outside.specs.Causes.{Rose}
use Rattle.dp_outside.specs.Jobs.{RanOrBack}
use Rattle.dp_outside.specs.declared.jobs.Spawner as spawner_of
use Rattle.dp_outside.specs.declared.links.Dialer as dialer_of
use Rattle.dp_outside.specs.declared.links.Gate as gate_of
use Rattle.dp_desk.specs.Desks.{Known}
use Rattle.dp_desk.specs.Made.{Made, made}
use Rattle.dp_crews.specs.declared.accounts.Account.{Account}
use Rattle.dp_crews.specs.declared.tasks.Closed.{Closed}
use Rattle.dp_crews.specs.declared.tasks.Closed.TheVariants as closed
use Rattle.dp_crews.specs.declared.tasks.Port.{Port}
use Rattle.dp_crews.specs.declared.tasks.Port.TheVariants as port
use Rattle.dp_crews.specs.Gates.{Gating, Missed, Steps, Works, gating}
use Rattle.dp_crews.specs.Relays.{Asked, EnginesServed, IdesServed, IsBack, plus_tally}
use Rattle.dp_crews.specs.Tallies.{tally}
use Rattle.dp_crews.specs.Tasks.{Did}
use Rattle.dp_crews.specs.Twins.{Each}
use Rattle.dp_crews.specs.Workers.{Booked, EnginePost, NoEngine, NoIde, Post, ServedEngine, ServedIde}
use Rattle.dp_crews.specs.inner.Accounts.{Folds, FoldsBoth, TookOver, TookUndone, added}
use Rattle.dp_crews.specs.inner.Hires.{Hired, IsEngines, Roster}
use Rattle.dp_crews.proofs.GatherLaws.{One, same_tally, total}

-- ---- steps

pub steps_map : {X Y : Type 0} (f : X → Y) (R : X → X → Type 0) (S : Y → Y → Type 0)
    → ((x y : X) → R x y → S (f x) (f y)) → (n : ℕ) (x y : X) → Steps R n x y → Steps S n (f x) (f y)
steps_map f R S each zero x y s = ap f s
steps_map f R S each (suc n) x y s = (f s.0, steps_map f R S each n x s.0 s.1, each s.0 y s.2)

asked_later : (a b : Gating) → Asked a b → a.faults ≤ b.faults
asked_later a b s = elim s [
  | inl v ↦ v.2.later
  | inr m ↦ m.later
]

steps_later : (n : ℕ) (a b : Gating) → Steps Asked n a b → a.faults ≤ b.faults
steps_later zero a b s = omega (arith, ap (λ (k : Gating). k.faults) s)
steps_later (suc n) a b s = omega (arith, steps_later n a s.0 s.1, asked_later s.0 b s.2)

module _ {X E : Type 0} (f : X → Gating) (R M : X → X → Type 0) (each : (x y : X) → R x y → Asked (f x) (f y))
    (last : (x y : X) → M x y → Missed (f x) (f y)) where
  pub works_back : (count : ℕ) (x y : X) (over : Result ⊤ E) → Works R M count x y over → IsBack (f x) (f y)
  works_back count x y (Ok done) w = (count, steps_map f R Asked each count x y w)
  works_back count x y (Err why) w =
      (suc w.0, (f w.1, steps_map f R Asked each w.0 x w.1 w.3, inr (last w.1 y w.4)))

  pub works_rose : (count : ℕ) (x y : X) (why : E) → Works R M count x y (Err why) → Rose (f x).faults (f y).faults
  works_rose count x y why w =
      omega (arith, steps_later w.0 (f x) (f w.1) (steps_map f R Asked each w.0 x w.1 w.3), (last w.1 y w.4).rose)

pub ide_asked : (x y : Post) → ServedIde x y → Asked x.gate y.gate
ide_asked x y s = inl (s.before, s.after, s.visited)

pub engine_asked : (x y : EnginePost) → ServedEngine x y → Asked x.gate y.gate
engine_asked x y s = inl (s.before, s.after, s.visited)

ide_missed : (x y : Post) → NoIde x y → Missed x.gate y.gate
ide_missed x y s = s.missed

engine_missed : (x y : EnginePost) → NoEngine x y → Missed x.gate y.gate
engine_missed x y s = s.missed

-- ---- hired

-- a clerk that was split off
pub record IsSplit (base v : Known) : Type 0 where
  pub desk : v.desk ≡ base.desk
  pub held : v.held ≡ []
  pub made : v.made ≡ made 0 0 0
  pub share : v.share ≡ 1

-- each gate with its number of links
abbrev pub pairs : {K T : Type 0} → (T → ℕ) → List K → List T → List (K × ℕ)
pairs count_of [] tasks = []
pairs count_of (gate ∷ gates) [] = []
pairs count_of (gate ∷ gates) (task ∷ tasks) = (gate, count_of task) ∷ pairs count_of gates tasks

module _ {K T Q : Type 0} (clerk_of : T → Known) (port_of : T → Q) (count_of : T → ℕ) (is_port : K → Q → Type 0)
    (base : Known) where
  abbrev pub IsHired : K → T → Type 0
  IsHired gate task = is_port gate (port_of task) × IsSplit base (clerk_of task)

  pub record HiredAll (gates : List K) (r s : Roster T) : Type 0 where
    pub new : List T
    pub tasks : s.tasks ≡ r.tasks ++ new
    pub each : AllZip IsHired gates new
    pub left : r.left ≡ s.left + total (λ n. n) (pairs count_of gates new)
    pub share : s.clerk.share + length gates ≡ r.clerk.share
    pub desk : s.clerk.desk ≡ r.clerk.desk
    pub made : s.clerk.made ≡ r.clerk.made

  pub hired_all : (gates : List K) (r s : Roster T) → r.clerk.desk ≡ base.desk
      → Folds (λ gate. Hired clerk_of port_of count_of (is_port gate)) gates r s → HiredAll gates r s
  hired_all [] r s same f =
      record {
        new = [];
        tasks = ap (λ (k : Roster T). k.tasks) f ∙ sym (append-nil r.tasks);
        each = tt;
        left = omega (arith, ap (λ (k : Roster T). k.left) f);
        share = omega (arith, ap (λ (k : Roster T). k.clerk.share) f);
        desk = ap (λ (k : Roster T). k.clerk.desk) f;
        made = ap (λ (k : Roster T). k.clerk.made) f;
      }
  hired_all (gate ∷ gates) r s same f =
      let one : Hired clerk_of port_of count_of (is_port gate) r f.0 = f.1 in
      let rest : HiredAll gates f.0 s = hired_all gates f.0 s (one.lost.desk ∙ same) f.2 in
      record {
        new = one.task ∷ rest.new;
        tasks = rest.tasks ∙ (ap (λ l. l ++ rest.new) one.tasks ∙ append_assoc r.tasks (one.task ∷ []) rest.new);
        each = (
          (
            one.port,
            record {
              desk = one.clerk.desk ∙ same;
              held = one.clerk.held;
              made = one.clerk.made;
              share = one.clerk.share;
            },
          ),
          rest.each,
        );
        left = omega (arith, one.left, rest.left);
        share = omega (arith, one.lost.share, rest.share);
        desk = rest.desk ∙ one.lost.desk;
        made = rest.made ∙ one.lost.made;
      }

-- ---- over, and taken back

module _ {G GIn GOut H HIn HOut D DIn DOut P Rt E T O : Type 0} (g : gate_of.Ghosts G GIn GOut)
    (h : gate_of.Ghosts H HIn HOut) (d : dialer_of.Ghosts D DIn DOut) (p : spawner_of.Ghosts P Rt)
    (clerk_of : T → Known) (port_of : T → Port G H D P) (count_of : T → ℕ) (closed_of : O → Closed G H)
    (clerk_over : O → Known) (over_of : O → Result ⊤ E) (base : Known) (Refused : Type 0) where
  abbrev pub Ran : T → Result O T → Type 0
  Ran = RanOrBack (λ task over. Did g h d p (port_of task) (clerk_of task) (count_of task) (closed_of over)
      (clerk_over over) (over_of over))

  abbrev pub Why : Result O T → Type 0
  Why answer = MatchResult answer (λ over. ⊤) (λ task. Refused)

  abbrev pub Took : Result O T → Known → Known → Account G H → Account G H → Type 0
  Took answer v w x y = MatchResult answer
      (λ over. TookOver (closed_of over) (clerk_over over) (over_of over) v w x y)
      (λ task. TookUndone (port_of task) v w x y)

  abbrev pub OneIde : G × ℕ → Known → Known → Account G H → Account G H → Type 0
  OneIde = One (gating g) (λ a. a.ides.items) (λ a. a.engines.items) (λ a. a.tally) (λ a. a.gate_fault)
      (λ a. a.no_thread) (IdesServed g) (λ n. n) (λ n. 0) Refused

  abbrev pub OneEngine : H × ℕ → Known → Known → Account G H → Account G H → Type 0
  OneEngine = One (gating h) (λ a. a.engines.items) (λ a. a.ides.items) (λ a. a.tally) (λ a. a.gate_fault)
      (λ a. a.no_thread) (EnginesServed h) (λ n. 0) (λ n. n) Refused

  ide_over : (gate : G) (own : Known) (count : ℕ) (over : Closed G H) (after : Known) (end : Result ⊤ E)
      → IsSplit base own → Did g h d p (port.Ides gate) own count over after end
      → (v u : Known) (x z : Account G H) → TookOver over after end v u x z → OneIde (gate, count) v u x z
  ide_over gate own count (closed.Engines back t) after end split did v u x z took = absurd did
  ide_over gate own count (closed.Ides back) after (Ok done) split did v u x z took =
      record {
        back = back;
        items = took.gate.0;
        others = ap (λ e. e.items) took.gate.1;
        came = works_back {E = E} (λ k. k.gate) ServedIde NoIde ide_asked ide_missed count _ _ (Ok done) did.0;
        how = inl (record {
          worker = record { begun = gate; count = count; before = own; after = after; tally = tally 0 0 0 0 };
          begun = refl;
          count = refl;
          served = λ journal front. record {
            clerk = record { made = split.made; held = split.held; seen = front };
            tally = refl;
            served = did.0;
          };
          gained = took.clerk.0;
          share = did.1.share ∙ split.share;
          registers = omega (arith, did.1.within, ap (λ (m : Made). m.registers) split.made);
          all = omega (arith, did.1.admits, ap (λ (m : Made). m.admits) split.made);
          tally = λ room. took.gate.2
              ∙ same_tally x.tally (plus_tally x.tally (tally 0 0 0 0)) (omega arith) (omega arith) (omega arith)
              (omega arith);
          failed = took.clerk.1;
          stopped = took.no_thread;
        });
      }
  ide_over gate own count (closed.Ides back) after (Err why) split did v u x z took =
      record {
        back = back;
        items = took.gate.0;
        others = ap (λ e. e.items) took.gate.1;
        came = works_back {E = E} (λ k. k.gate) ServedIde NoIde ide_asked ide_missed count _ _ (Err why) did.0;
        how = inr (inl (record {
          rose = works_rose {E = E} (λ k. k.gate) ServedIde NoIde ide_asked ide_missed count _ _ why did.0;
          clerk = took.clerk.0;
          failed = took.clerk.1;
          stopped = took.no_thread;
        }));
      }

  engine_over : (gate : H) (own : Known) (count : ℕ) (q : Port G H D P) (over : Closed G H) (after : Known)
      (end : Result ⊤ E) → IsEngines gate q → IsSplit base own → Did g h d p q own count over after end
      → (v u : Known) (x z : Account G H) → TookOver over after end v u x z → OneEngine (gate, count) v u x z
  engine_over gate own count (port.Ides other) over after end is split did v u x z took = absurd is
  engine_over gate own count (port.Engines first dialer spawner) (closed.Ides back) after end is split did v
      u x z took =
      absurd did
  engine_over gate own count (port.Engines first dialer spawner) (closed.Engines back t) after (Ok done) is split did v
      u x z took =
      let book : Booked count own after (tally 0 0 0 0) t = did.1 in
      let none : own.made.admits ≡ 0 = ap (λ (m : Made). m.admits) split.made in
      record {
        back = back;
        items = took.gate.1;
        others = ap (λ e. e.items) took.gate.0;
        came = subst (λ k. IsBack (gating h k) (gating h back)) is
            (works_back {E = E} (λ k. k.gate) ServedEngine NoEngine engine_asked engine_missed count _ _ (Ok done)
            did.0.1);
        how = inl (record {
          worker = record { begun = first; count = count; before = own; after = after; tally = t };
          begun = is;
          count = refl;
          served = λ journal front. record {
            clerk = record { made = split.made; held = split.held; seen = front };
            first = _;
            last = did.0.0;
            served = did.0.1;
          };
          gained = took.clerk.0;
          share = book.share ∙ split.share;
          registers = omega (arith, book.registers, ap (λ (m : Made). m.registers) split.made);
          all = omega (arith, book.all, none);
          tally = λ room. took.gate.2
              ∙ same_tally (added x.tally t) (plus_tally x.tally t) (omega (arith, room)) (omega (arith, room))
              (omega (arith, room)) (omega (arith, room));
          failed = took.clerk.1;
          stopped = took.no_thread;
        });
      }
  engine_over gate own count (port.Engines first dialer spawner) (closed.Engines back t) after (Err why) is split did v
      u x z took =
      record {
        back = back;
        items = took.gate.1;
        others = ap (λ e. e.items) took.gate.0;
        came = subst (λ k. IsBack (gating h k) (gating h back)) is
            (works_back {E = E} (λ k. k.gate) ServedEngine NoEngine engine_asked engine_missed count _ _ (Err why)
            did.0.1);
        how = inr (inl (record {
          rose = subst (λ k. Rose (h.faults k) (h.faults back)) is
              (works_rose {E = E} (λ k. k.gate) ServedEngine NoEngine engine_asked engine_missed count _ _ why did.0.1);
          clerk = took.clerk.0;
          failed = took.clerk.1;
          stopped = took.no_thread;
        }));
      }

  ide_undone : (gate : G) (count : ℕ) → Refused → (v u : Known) (x z : Account G H)
      → TookUndone {D = D} {P = P} (port.Ides gate) v u x z → OneIde (gate, count) v u x z
  ide_undone gate count why v u x z took =
      record {
        back = gate;
        items = took.gate.0;
        others = ap (λ e. e.items) took.gate.1;
        came = (0, refl);
        how = inr (inr (record {
          refused = why;
          clerk = took.clerk;
          failed = took.gate_fault;
          stopped = took.no_thread;
        }));
      }

  engine_undone : (gate : H) (count : ℕ) (q : Port G H D P) → IsEngines gate q → Refused → (v u : Known)
      (x z : Account G H) → TookUndone q v u x z → OneEngine (gate, count) v u x z
  engine_undone gate count (port.Ides other) is why v u x z took = absurd is
  engine_undone gate count (port.Engines first dialer spawner) is why v u x z took =
      record {
        back = gate;
        items = took.gate.1 ∙ ap (λ k. x.engines.items ++ k ∷ []) is;
        others = ap (λ e. e.items) took.gate.0;
        came = (0, refl);
        how = inr (inr (record {
          refused = why;
          clerk = took.clerk;
          failed = took.gate_fault;
          stopped = took.no_thread;
        }));
      }

  one_ide : (gate : G) (task : T) (answer : Result O T)
      → IsHired clerk_of port_of count_of (λ k q. q ≡ port.Ides k) base gate task → Ran task answer → Why answer
      → (v u : Known) (x z : Account G H) → Took answer v u x z → OneIde (gate, count_of task) v u x z
  one_ide gate task (Ok over) is ran why v u x z took =
      ide_over gate (clerk_of task) (count_of task) (closed_of over) (clerk_over over) (over_of over) is.1
      (subst (λ q. Did g h d p q (clerk_of task) (count_of task) (closed_of over) (clerk_over over) (over_of over)) is.0
      ran) v u x z took
  one_ide gate task (Err back) is ran why v u x z took =
      ide_undone gate (count_of task) why v u x z
      (subst (λ q. TookUndone q v u x z) is.0 (subst (λ t. TookUndone (port_of t) v u x z) ran took))

  one_engine : (gate : H) (task : T) (answer : Result O T)
      → IsHired clerk_of port_of count_of IsEngines base gate task → Ran task answer → Why answer
      → (v u : Known) (x z : Account G H) → Took answer v u x z → OneEngine (gate, count_of task) v u x z
  one_engine gate task (Ok over) is ran why v u x z took =
      engine_over gate (clerk_of task) (count_of task) (port_of task) (closed_of over) (clerk_over over) (over_of over)
      is.0 is.1 ran v u x z took
  one_engine gate task (Err back) is ran why v u x z took =
      engine_undone gate (count_of task) (port_of task) is.0 why v u x z
      (subst (λ t. TookUndone (port_of t) v u x z) ran took)

  -- the clerk that comes back is of the same desk
  own_desk : (base_desk : Known) (q : Port G H D P) (own : Known) (count : ℕ) (over : Closed G H) (after : Known)
      (end : Result ⊤ E) → own.desk ≡ base_desk.desk → Did g h d p q own count over after end
      → OnOk end (after.desk ≡ base_desk.desk)
  own_desk b q own count over after (Err why) same did = tt
  own_desk b (port.Ides gate) own count (closed.Ides back) after (Ok done) same did = did.1.desk ∙ same
  own_desk b (port.Ides gate) own count (closed.Engines back t) after (Ok done) same did = absurd did
  own_desk b (port.Engines gate dialer spawner) own count (closed.Ides back) after (Ok done) same did = absurd did
  own_desk b (port.Engines gate dialer spawner) own count (closed.Engines back t) after (Ok done) same did =
      did.1.desk ∙ same

  abbrev pub IsOwn : Result O T → Type 0
  IsOwn answer = MatchResult answer (λ over. OnOk (over_of over) ((clerk_over over).desk ≡ base.desk)) (λ task. ⊤)

  pub is_own : (task : T) (answer : Result O T) → (clerk_of task).desk ≡ base.desk → Ran task answer → IsOwn answer
  is_own task (Ok over) same ran =
      own_desk base (port_of task) (clerk_of task) (count_of task) (closed_of over) (clerk_over over) (over_of over)
      same
      ran
  is_own task (Err back) same ran = tt

  pub all_own : (tasks : List T) (answers : List (Result O T)) → Each (λ task. (clerk_of task).desk ≡ base.desk) tasks
      → AllZip Ran tasks answers → Each IsOwn answers
  all_own [] [] same ran = tt
  all_own [] (b ∷ answers) same ran = absurd ran
  all_own (task ∷ tasks) [] same ran = absurd ran
  all_own (task ∷ tasks) (b ∷ answers) same ran = (is_own task b same.0 ran.0, all_own tasks answers same.1 ran.1)

  -- ---- one after another

  module _ {K : Type 0} (is_port : K → Port G H D P → Type 0)
      (Step : K × ℕ → Known → Known → Account G H → Account G H → Type 0)
      (one : (gate : K) (task : T) (answer : Result O T)
      → IsHired clerk_of port_of count_of is_port base gate task → Ran task answer → Why answer
      → (v u : Known) (x z : Account G H) → Took answer v u x z → Step (gate, count_of task) v u x z) where
    each_one : (gates : List K) (tasks : List T) (answers : List (Result O T)) (v w : Known) (x y : Account G H)
        → AllZip (IsHired clerk_of port_of count_of is_port base) gates tasks → AllZip Ran tasks answers
        → Each Why answers → FoldsBoth Took answers v w x y → FoldsBoth Step (pairs count_of gates tasks) v w x y
    each_one [] [] [] v w x y is ran why took = took
    each_one [] [] (b ∷ answers) v w x y is ran why took = absurd ran
    each_one [] (t ∷ tasks) answers v w x y is ran why took = absurd is
    each_one (k ∷ gates) [] answers v w x y is ran why took = absurd is
    each_one (k ∷ gates) (t ∷ tasks) [] v w x y is ran why took = absurd ran
    each_one (k ∷ gates) (t ∷ tasks) (b ∷ answers) v w x y is ran why took = (
      took.0,
      took.1,
      one k t b is.0 ran.0 why.0 v took.0 x took.1 took.2,
      each_one gates tasks answers took.0 w took.1 y is.1 ran.1 why.1 took.3,
    )

  pub ides_in_turn : (gates : List G) (tasks : List T) (answers : List (Result O T)) (v w : Known) (x y : Account G H)
      → AllZip (IsHired clerk_of port_of count_of (λ k q. q ≡ port.Ides k) base) gates tasks → AllZip Ran tasks answers
      → Each Why answers → FoldsBoth Took answers v w x y → FoldsBoth OneIde (pairs count_of gates tasks) v w x y
  ides_in_turn = each_one (λ k q. q ≡ port.Ides k) OneIde one_ide

  pub engines_in_turn : (gates : List H) (tasks : List T) (answers : List (Result O T)) (v w : Known)
      (x y : Account G H) → AllZip (IsHired clerk_of port_of count_of IsEngines base) gates tasks
      → AllZip Ran tasks answers → Each Why answers → FoldsBoth Took answers v w x y
      → FoldsBoth OneEngine (pairs count_of gates tasks) v w x y
  engines_in_turn = each_one IsEngines OneEngine one_engine
