-- What dp_crews says of gates, it says of what they tell.
use Rattle.std.proofs.Common.{◌≡◌, ◌⊎◌, ℕ, ◌+◌, List, [], ◌∷◌, ◌++◌, map, Result, Ok, Err, refl, sym, ap, ◌∙◌, subst, inl, inr}
use Rattle.std.specs.List.{AllZip}
use Rattle.std.proofs.lemmas.List.{length-map}
use Rattle.dp_outside.specs.Causes.{Rose}
use Rattle.dp_outside.specs.declared.links.Gate as gate_of
use Rattle.dp_desk.specs.Made.{Made, Counts, plus}
use Rattle.dp_registry.specs.declared.entry.Entry.{Entry}
use Rattle.dp_crews.specs.Bounds.{CameBack, HasReturned, IsBounded}
use Rattle.dp_crews.specs.Gates.{Gating, gating}
use Rattle.dp_crews.specs.Relays.{AllBack, AllDone, AllServed, AllWorked, Came, EnginesServed, Faults, GateFailed, HasFailed, IdesServed, IsSamePort, IsTwinBack, OneOf, Worker, links_in_all, made_in_all, plus_tally, tally_in_all}
use Rattle.dp_crews.specs.Summaries.{summary}
use Rattle.dp_crews.specs.Twins.{Each, IsTwinGate, Twins}
use Rattle.dp_crews.specs.declared.errors.AllError.{AllError}
use Rattle.dp_crews.specs.declared.errors.AllError.TheVariants.{GateFault, NoThread, Memory}
use Rattle.dp_crews.specs.declared.summaries.Summary.{Summary}
use Rattle.dp_crews.specs.declared.tallies.Tally.{Tally}
use Rattle.dp_top.specs.Proxy.{by_telling}

-- ---- lists

pub map_both : {A B : Type 0} (f : A → B) (xs ys : List A) → map f (xs ++ ys) ≡ map f xs ++ map f ys
map_both f [] ys = refl
map_both f (x ∷ xs) ys = ap (λ (l : List _). f x ∷ l) (map_both f xs ys)

each_told : {A B : Type 0} (P : A → Type 0) (Q : B → Type 0) (f : A → B) → ((a : A) → P a → Q (f a))
    → (xs : List A) → Each P xs → Each Q (map f xs)
each_told P Q f goes [] all = tt
each_told P Q f goes (x ∷ xs) all = (goes x all.0, each_told P Q f goes xs all.1)

one_told : {A B : Type 0} (P : A → Type 0) (Q : B → Type 0) (f : A → B) → ((a : A) → P a → Q (f a))
    → (xs : List A) → OneOf P xs → OneOf Q (map f xs)
one_told P Q f goes [] one = absurd one
one_told P Q f goes (x ∷ xs) (inl one) = inl (goes x one)
one_told P Q f goes (x ∷ xs) (inr one) = inr (one_told P Q f goes xs one)

zip_told : {A B C D : Type 0} (R : A → C → Type 0) (S : B → D → Type 0) (f : A → B) (h : C → D)
    → ((a : A) (c : C) → R a c → S (f a) (h c)) → (xs : List A) (zs : List C) → AllZip R xs zs
    → AllZip S (map f xs) (map h zs)
zip_told R S f h goes [] [] all = tt
zip_told R S f h goes [] (z ∷ zs) all = absurd all
zip_told R S f h goes (x ∷ xs) [] all = absurd all
zip_told R S f h goes (x ∷ xs) (z ∷ zs) all = (goes x z all.0, zip_told R S f h goes xs zs all.1)

zip_front : {A B C : Type 0} (R : A → C → Type 0) (S : B → C → Type 0) (f : A → B)
    → ((a : A) (c : C) → R a c → S (f a) c) → (xs : List A) (zs : List C) → AllZip R xs zs → AllZip S (map f xs) zs
zip_front R S f goes [] [] all = tt
zip_front R S f goes [] (z ∷ zs) all = absurd all
zip_front R S f goes (x ∷ xs) [] all = absurd all
zip_front R S f goes (x ∷ xs) (z ∷ zs) all = (goes x z all.0, zip_front R S f goes xs zs all.1)

module _ {G In Out : Type 0} (g : gate_of.Ghosts G In Out) where
  abbrev told : G → Gating
  told gate = gating g gate

  -- ---- a crew

  abbrev told_worker : Worker G → Worker Gating
  told_worker w =
      record { begun = told w.begun; count = w.count; before = w.before; after = w.after; tally = w.tally }

  begun_told : (crew : List (Worker G)) → map (λ w. w.begun) (map told_worker crew) ≡ map told (map (λ w. w.begun) crew)
  begun_told [] = refl
  begun_told (w ∷ ws) = ap (λ (l : List Gating). told w.begun ∷ l) (begun_told ws)

  links_told : (crew : List (Worker G)) → links_in_all (map told_worker crew) ≡ links_in_all crew
  links_told [] = refl
  links_told (w ∷ ws) = ap (λ (n : ℕ). w.count + n) (links_told ws)

  made_told : (crew : List (Worker G)) → made_in_all (map told_worker crew) ≡ made_in_all crew
  made_told [] = refl
  made_told (w ∷ ws) = ap (λ (m : Made). plus w.after.made m) (made_told ws)

  tally_told : (crew : List (Worker G)) → tally_in_all (map told_worker crew) ≡ tally_in_all crew
  tally_told [] = refl
  tally_told (w ∷ ws) = ap (λ (t : Tally). plus_tally w.tally t) (tally_told ws)

  twins_told : (gate : G) (gates : List G) → Twins g gate gates → Twins by_telling (told gate) (map told gates)
  twins_told gate gates t = record {
    twins = map told t.twins;
    last = told t.last;
    are = ap (λ (l : List G). map told l) t.are ∙ map_both told t.twins (t.last ∷ []);
    each = each_told (λ twin. IsTwinGate (told gate) (told twin))
        (λ twin. IsTwinGate (told gate) (gating by_telling twin)) told (λ a p. p) t.twins t.each;
    same = t.same;
  }

  worked_told : (handed : G) (serves : Worker G → G → Type 0) (does : Worker Gating → Gating → Type 0)
      → ((w : Worker G) (gate : G) → serves w gate → does (told_worker w) (told gate))
      → (number most : ℕ) (crew : List (Worker G)) (gates : List G)
      → AllWorked g handed serves number most crew gates
      → AllWorked by_telling (told handed) does number most (map told_worker crew) (map told gates)
  worked_told handed serves does goes number most crew gates a = record {
    begun = subst (λ (l : List Gating). Twins by_telling (told handed) l) (sym (begun_told crew))
        (twins_told handed (map (λ w. w.begun) crew) a.begun);
    workers = length-map gates told ∙ a.workers;
    links = links_told crew ∙ a.links;
    served = zip_told serves does told_worker told goes crew gates a.served;
  }

  done_told : (ides engines : G) (registrations sessions : ℕ) (gs hs : List G) (s : Summary) (journal : List Entry)
      → AllDone g g ides engines registrations sessions gs hs s journal
      → AllDone by_telling by_telling (told ides) (told engines) registrations sessions (map told gs) (map told hs) s
      journal
  done_told ides engines registrations sessions gs hs s journal d = record {
    asking = map told_worker d.asking;
    serving = map told_worker d.serving;
    asked = worked_told ides (IdesServed g journal) (IdesServed by_telling journal)
        (λ w gate i. record { clerk = i.clerk; tally = i.tally; served = i.served })
        registrations 8 d.asking gs d.asked;
    served = worked_told engines (EnginesServed g journal) (EnginesServed by_telling journal)
        (λ w gate e. record { clerk = e.clerk; first = e.first; last = e.last; served = e.served })
        sessions 64 d.serving hs d.served;
    counts = subst (λ (m : Made). Counts journal (plus m (made_in_all (map told_worker d.serving))))
        (sym (made_told d.asking))
        (subst (λ (m : Made). Counts journal (plus (made_in_all d.asking) m)) (sym (made_told d.serving)) d.counts);
    numbers = d.numbers ∙ ap (λ (t : Tally). summary journal t) (sym (tally_told d.serving));
    summed = d.summed;
  }

  -- ---- gates that came back

  abbrev back_told : (handed : G) (gates : List G) → AllBack g handed gates
      → AllBack by_telling (told handed) (map told gates)
  back_told handed gates b = record {
    twins = map told b.twins;
    last = told b.last;
    are = ap (λ (l : List G). map told l) b.are ∙ map_both told b.twins (b.last ∷ []);
    each = each_told (λ twin. IsTwinBack (told handed) (told twin))
        (λ twin. IsTwinBack (told handed) (gating by_telling twin)) told (λ a p. p) b.twins b.each;
    own = b.own;
  }

  failed_told : (handed : G) (gates : List G) (b : AllBack g handed gates) → HasFailed g handed gates b
      → HasFailed by_telling (told handed) (map told gates) (back_told handed gates b)
  failed_told handed gates b (inl twin) =
      inl (one_told (λ t. Rose 0 (g.faults t)) (λ t. Rose 0 (by_telling.faults t)) told (λ a p. p) b.twins twin)
  failed_told handed gates b (inr rose) = inr rose

  gate_failed_told : (ides engines : G) (dials : Faults) (gs hs : List G)
      → GateFailed g g ides engines dials gs hs
      → GateFailed by_telling by_telling (told ides) (told engines) dials (map told gs) (map told hs)
  gate_failed_told ides engines dials gs hs f =
      (back_told ides gs f.0, back_told engines hs f.1, by f.2) where
        by : HasFailed g ides gs f.0 ⊎ (HasFailed g engines hs f.1 ⊎ Rose dials.before dials.now)
            → HasFailed by_telling (told ides) (map told gs) (back_told ides gs f.0)
            ⊎ (HasFailed by_telling (told engines) (map told hs) (back_told engines hs f.1)
            ⊎ Rose dials.before dials.now)
        by (inl one) = inl (failed_told ides gs f.0 one)
        by (inr (inl one)) = inr (inl (failed_told engines hs f.1 one))
        by (inr (inr dial)) = inr (inr dial)

  -- ---- all

  module _ (ides engines : G) (registrations sessions : ℕ) (gs hs : List G) where
    came_told : (dials starts : Faults) (result : Result (Summary × List Entry) AllError)
        → Came g g ides engines registrations sessions dials starts gs hs result
        → Came by_telling by_telling (told ides) (told engines) registrations sessions dials starts (map told gs)
        (map told hs) result
    came_told dials starts (Ok done) c = done_told ides engines registrations sessions gs hs done.0 done.1 c
    came_told dials starts (Err GateFault) c = gate_failed_told ides engines dials gs hs c
    came_told dials starts (Err NoThread) c = (back_told ides gs c.0, back_told engines hs c.1, c.2)
    came_told dials starts (Err Memory) c = tt

    pub served_told : (dials starts : Faults) (result : Result (Summary × List Entry) AllError)
        → AllServed g g ides engines registrations sessions dials starts gs hs result
        → AllServed by_telling by_telling (told ides) (told engines) registrations sessions dials starts (map told gs)
        (map told hs) result
    served_told dials starts result a = record {
      ports = (
        each_told (IsSamePort g ides) (IsSamePort by_telling (told ides)) told (λ x p. p) gs a.ports.0,
        each_told (IsSamePort g engines) (IsSamePort by_telling (told engines)) told (λ x p. p) hs a.ports.1,
      );
      came = came_told dials starts result a.came;
      starts_later = a.starts_later;
    }

    pub bounds_told : (result : Result (Summary × List Entry) AllError)
        → IsBounded g g ides engines registrations sessions gs hs result
        → IsBounded by_telling by_telling (told ides) (told engines) registrations sessions (map told gs) (map told hs)
        result
    bounds_told (Err why) b = tt
    bounds_told (Ok done) b = record {
      asking = b.asking;
      serving = b.serving;
      asked = zip_front (CameBack g ides) (CameBack by_telling (told ides)) told (λ x links p. p) gs b.asking b.asked;
      served = zip_front (CameBack g engines) (CameBack by_telling (told engines)) told (λ x links p. p) hs b.serving
          b.served;
      registrations = b.registrations;
      sessions = b.sessions;
      accepted = b.accepted;
      unfit = b.unfit;
      keyed = b.keyed;
      failed = λ some. one_told (HasReturned g engines) (HasReturned by_telling (told engines)) told (λ x p. p) hs
          (b.failed some);
      full = b.full;
    }
