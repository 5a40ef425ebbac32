-- From a crew of workers to all that was served: the gates that were handed in, and the bounds.
use Rattle.std.proofs.Common.{◌≡◌, ◌⊎◌, ◌≤◌, ◌-◌, ℕ, zero, suc, Bool, true, false, ◌||◌, true≢false, ◌+◌, min, List, [], ◌∷◌, ◌++◌, length, Result, Ok, Err, refl, sym, ◌∙◌, ap, subst, inl, inr, arith, length-append}
use Rattle.std.specs.Prelude.{⊤, map, flat_map, is_err}
use Rattle.std.specs.List.{AllZip}
use mathlib.Core.List.{IsPrefix}
use Rattle.dp_outside.specs.Causes.{Rose}
use Rattle.dp_outside.specs.Links.{Link}
use Rattle.dp_outside.specs.declared.links.Gate as gate_of
use Rattle.dp_desk.proofs.Keeps.{prefix_trans}
use Rattle.dp_desk.specs.Made.{Made}
use Rattle.dp_registry.specs.Verdicts.{is_crowded}
use Rattle.dp_registry.specs.declared.entry.Entry.{Entry}
use Rattle.dp_crews.specs.declared.errors.AllError.{AllError}
use Rattle.dp_crews.specs.declared.errors.AllError.TheVariants.{GateFault, NoThread, Memory}
use Rattle.dp_crews.specs.declared.summaries.Summary.{Summary}
use Rattle.dp_crews.specs.Bounds.{AtLeast, Begins, Bounds, CameBack, HasReturned, IsBounded, IsKeyed, IsUnfit, NamesCall}
use Rattle.dp_crews.specs.Gates.{Gating, Steps, gating}
use Rattle.dp_crews.specs.Relays.{AllBack, AllServed, AllWorked, Asked, Came, EnginesServed, Faults, HasFailed, IdesServed, IsBack, IsSamePort, OneOf, Worker, links_in_all, made_in_all, tally_in_all}
use Rattle.dp_crews.specs.Twins.{Each, IsAtRest, IsTwinGate, Twinned, Twins}
use Rattle.dp_crews.specs.Workers.{ServedEngine, ServedIde}
use Rattle.dp_crews.specs.inner.Hires.{WhyUntwinned}
use Rattle.dp_crews.specs.inner.Crewed.{CameBackFrom, CrewDone, Gated, HasRisen, KindDone}
use Rattle.dp_crews.proofs.BoundLaws.{asks_all, at_least_both, at_least_fewer, serves_all}
use Rattle.dp_crews.proofs.CrewEndLaws.{accepted_within, admits_split, each_join}
use Rattle.dp_crews.proofs.OutcomeLaws.{engine_asked, ide_asked, steps_map}

-- ---- the gates that came back

asked_port : (a b : Gating) → Asked a b → b.port ≡ a.port
asked_port a b s = elim s [
  | inl v ↦ v.2.port
  | inr m ↦ m.port
]

steps_port : (n : ℕ) (a b : Gating) → Steps Asked n a b → b.port ≡ a.port
steps_port zero a b s = ap (λ (k : Gating). k.port) s
steps_port (suc n) a b s = asked_port s.0 b s.2 ∙ steps_port n a s.0 s.1

rose_after : (a b c : ℕ) → a ≤ b → Rose b c → Rose a c
rose_after a b c more rose = omega (arith, rose, more)

-- a gate that was asked for no link came back
pub untouched : {G In Out : Type 0} (g : gate_of.Ghosts G In Out) (gs : List G) → CameBackFrom g gs gs
untouched g [] = tt
untouched g (k ∷ gs) = ((0, refl), untouched g gs)

module _ {G In Out : Type 0} (g : gate_of.Ghosts G In Out) (handed : G) where
  abbrev back_of : (twins : List G) (last : G) (gs : List G) → CameBackFrom g (twins ++ last ∷ []) gs
      → Each (λ twin. IsTwinGate (gating g handed) (gating g twin)) twins → IsAtRest (gating g handed) (gating g last)
      → AllBack g handed gs
  back_of [] last [] all each same = absurd all
  back_of [] last (b ∷ []) all each same =
      record { twins = []; last = b; are = refl; each = tt; own = (gating g last, same, all.0) }
  back_of [] last (b ∷ c ∷ gs) all each same = absurd all.1
  back_of (t ∷ twins) last [] all each same = absurd all
  back_of (t ∷ twins) last (b ∷ gs) all each same =
      let rest = back_of twins last gs all.1 each.1 same in
      record {
        twins = b ∷ rest.twins;
        last = rest.last;
        are = ap (λ l. b ∷ l) rest.are;
        each = ((gating g t, each.0, all.0), rest.each);
        own = rest.own;
      }

  failed_of : (twins : List G) (last : G) (gs : List G) (all : CameBackFrom g (twins ++ last ∷ []) gs)
      (each : Each (λ twin. IsTwinGate (gating g handed) (gating g twin)) twins)
      (same : IsAtRest (gating g handed) (gating g last)) → HasRisen g (twins ++ last ∷ []) gs
      → HasFailed g handed gs (back_of twins last gs all each same)
  failed_of [] last [] all each same one = absurd all
  failed_of [] last (b ∷ []) all each same one = elim one [
    | inl rose ↦ inr (rose_after (g.faults handed) (g.faults last) (g.faults b) same.later rose)
    | inr never ↦ absurd never
  ]
  failed_of [] last (b ∷ c ∷ gs) all each same one = absurd all.1
  failed_of (t ∷ twins) last [] all each same one = absurd all
  failed_of (t ∷ twins) last (b ∷ gs) all each same one = elim one [
    | inl rose ↦ inl (inl (subst (λ n. Rose n (g.faults b)) each.0.faults rose))
    | inr later ↦ elim (failed_of twins last gs all.1 each.1 same later) [
      | inl twin ↦ inl (inr twin)
      | inr own ↦ inr own
    ]
  ]

  pub all_back : (begun gs : List G) → Twins g handed begun → CameBackFrom g begun gs → AllBack g handed gs
  all_back begun gs t came =
      back_of t.twins t.last gs (subst (λ l. CameBackFrom g l gs) t.are came) t.each t.same

  pub failed_back : (begun gs : List G) → Twins g handed begun → CameBackFrom g begun gs → HasRisen g begun gs
      → (back : AllBack g handed gs) × HasFailed g handed gs back
  failed_back begun gs t came one =
      let all = subst (λ l. CameBackFrom g l gs) t.are came in (
        back_of t.twins t.last gs all t.each t.same,
        failed_of t.twins t.last gs all t.each t.same (subst (λ l. HasRisen g l gs) t.are one),
      )

  twin_backs : (twins : List G) → Each (λ twin. IsTwinGate (gating g handed) (gating g twin)) twins
      → Each (λ twin. (start : Gating) × IsTwinGate (gating g handed) start × IsBack start (gating g twin)) twins
  twin_backs [] each = tt
  twin_backs (t ∷ twins) each = ((gating g t, each.0, (0, refl)), twin_backs twins each.1)

  -- the gates of a kind where a twin was refused
  pub refused_back : (gs : List G) (t : Twins g handed gs) → Rose (g.faults handed) (g.faults t.last)
      → (back : AllBack g handed gs) × HasFailed g handed gs back
  refused_back gs t rose = (
    record {
      twins = t.twins;
      last = t.last;
      are = t.are;
      each = twin_backs t.twins t.each;
      own = (gating g t.last, t.same, (0, refl));
    },
    inr rose,
  )

  -- where no twin was refused
  pub twinned_ok : {E : Type 0} (r : Result ⊤ E) (workers : ℕ) (gs : List G) → is_err r ≡ false
      → Twinned g workers handed gs r → Twins g handed gs × (length gs ≡ workers)
  twinned_ok (Ok done) workers gs fine t = t
  twinned_ok (Err why) workers gs fine t = absurd (true≢false fine)

  -- and where one was
  pub twinned_err : {E : Type 0} (r : Result ⊤ E) (workers : ℕ) (gs : List G) → is_err r ≡ true
      → Twinned g workers handed gs r → (back : AllBack g handed gs) × HasFailed g handed gs back
  twinned_err (Ok done) workers gs failed t = absurd (true≢false (sym failed))
  twinned_err (Err why) workers gs failed t = refused_back gs t.0 t.1

  pub twins_of_any : {E : Type 0} (r : Result ⊤ E) (workers : ℕ) (gs : List G) → Twinned g workers handed gs r
      → Twins g handed gs
  twins_of_any (Ok done) workers gs t = t.0
  twins_of_any (Err why) workers gs t = t.0

  -- ---- the port

  twin_ports : (twins : List G) → Each (λ twin. IsTwinGate (gating g handed) (gating g twin)) twins
      → Each (IsSamePort g handed) twins
  twin_ports [] each = tt
  twin_ports (t ∷ twins) each = (each.0.port, twin_ports twins each.1)

  pub twinned_ports : (gs : List G) → Twins g handed gs → Each (IsSamePort g handed) gs
  twinned_ports gs t =
      subst (Each (IsSamePort g handed)) (sym t.are)
      (each_join (IsSamePort g handed) t.twins (t.last ∷ []) (twin_ports t.twins t.each) (t.same.port, tt))

  pub back_ports : (begun gs : List G) → Each (IsSamePort g handed) begun → CameBackFrom g begun gs
      → Each (IsSamePort g handed) gs
  back_ports [] [] same came = tt
  back_ports [] (b ∷ gs) same came = absurd came
  back_ports (a ∷ begun) [] same came = absurd came
  back_ports (a ∷ begun) (b ∷ gs) same came =
      (steps_port came.0.0 (gating g a) (gating g b) came.0.1 ∙ same.0, back_ports begun gs same.1 came.1)

  -- ---- the gates as they began

  twins_begin : (twins : List G) → Each (λ twin. IsTwinGate (gating g handed) (gating g twin)) twins
      → Each (λ gate. Begins (gating g handed) (gating g gate)) twins
  twins_begin [] each = tt
  twins_begin (t ∷ twins) each = (inr each.0, twins_begin twins each.1)

  pub begin : (begun : List G) → Twins g handed begun → Each (λ gate. Begins (gating g handed) (gating g gate)) begun
  begin begun t =
      subst (Each (λ gate. Begins (gating g handed) (gating g gate))) (sym t.are)
      (each_join (λ gate. Begins (gating g handed) (gating g gate)) t.twins (t.last ∷ []) (twins_begin t.twins t.each)
      (inl t.same, tt))

pub zip_length : {A B : Type 0} (R : A → B → Type 0) (xs : List A) (ys : List B) → AllZip R xs ys
    → length ys ≡ length xs
zip_length R [] [] all = refl
zip_length R [] (y ∷ ys) all = absurd all
zip_length R (x ∷ xs) [] all = absurd all
zip_length R (x ∷ xs) (y ∷ ys) all = ap (λ n. suc n) (zip_length R xs ys all.1)

map_length : {A B : Type 0} (f : A → B) (xs : List A) → length (map f xs) ≡ length xs
map_length f [] = refl
map_length f (x ∷ xs) = ap (λ n. suc n) (map_length f xs)

module _ {G In Out : Type 0} (g : gate_of.Ghosts G In Out) (serves : Worker G → G → Type 0)
    (back : (w : Worker G) (gate : G) → serves w gate → IsBack (gating g w.begun) (gating g gate)) where
  -- the gates of workers that served came back
  worked_back : (crew : List (Worker G)) (gs : List G) → AllZip serves crew gs
      → CameBackFrom g (map (λ w. w.begun) crew) gs
  worked_back [] [] all = tt
  worked_back [] (b ∷ gs) all = absurd all
  worked_back (w ∷ crew) [] all = absurd all
  worked_back (w ∷ crew) (b ∷ gs) all = (back w b all.0, worked_back crew gs all.1)

  pub done_back : (begun : List G) (number : ℕ) (crew : List (Worker G)) (gs : List G)
      → KindDone serves begun number crew gs → CameBackFrom g begun gs
  done_back begun number crew gs k = subst (λ l. CameBackFrom g l gs) k.begun (worked_back crew gs k.served)

pub all_worked : {G In Out : Type 0} (g : gate_of.Ghosts G In Out) (handed : G) (serves : Worker G → G → Type 0)
    (number most : ℕ) (crew : List (Worker G)) (begun gs : List G) → Twins g handed begun
    → length begun ≡ min number most → KindDone serves begun number crew gs
    → AllWorked g handed serves number most crew gs
all_worked g handed serves number most crew begun gs t many k =
    record {
      begun = subst (Twins g handed) (sym k.begun) t;
      workers = zip_length serves crew gs k.served
          ∙ (sym (map_length (λ w. w.begun) crew) ∙ (ap (λ l. length l) k.begun ∙ many));
      links = k.links;
      served = k.served;
    }

-- ---- the links of all gates

pub at_least_le : {X : Type 0} (P : X → Type 0) (n m : ℕ) (xs : List X) → n ≤ m → AtLeast P m xs → AtLeast P n xs
at_least_le P n m xs below some = at_least_fewer P n m (m - n) xs (omega (arith, below)) some

module _ {G In Out : Type 0} (g : gate_of.Ghosts G In Out) (handed : G) (journal : List Entry) where
  pub record AskedLists (crew : List (Worker G)) (gs : List G) : Type 0 where
    pub lists : List (List Link)
    pub back : AllZip (CameBack g handed) gs lists
    pub number : length (flat_map (λ links. links) lists) ≡ links_in_all crew
    pub calls : ℕ
    pub made : (made_in_all crew).registers ≤ calls
    pub admits : (made_in_all crew).admits ≡ 0
    pub named : AtLeast NamesCall calls (flat_map (λ links. links) lists)

  pub asked_lists : (crew : List (Worker G)) (gs : List G) → AllZip (IdesServed g journal) crew gs
      → Each (λ gate. Begins (gating g handed) (gating g gate)) (map (λ w. w.begun) crew) → AskedLists crew gs
  asked_lists [] [] all begun =
      record { lists = []; back = tt; number = refl; calls = 0; made = omega arith; admits = refl; named = tt }
  asked_lists [] (b ∷ gs) all begun = absurd all
  asked_lists (w ∷ crew) [] all begun = absurd all
  asked_lists (w ∷ crew) (b ∷ gs) all begun =
      let a = asks_all w.count _ _ all.0.served in
      let rest = asked_lists crew gs all.1 begun.1 in
      let none = all.0.clerk.made in
      record {
        lists = a.links ∷ rest.lists;
        back = ((gating g w.begun, begun.0, a.retired), rest.back);
        number = omega (
          arith,
          length-append a.links (flat_map (λ links. links) rest.lists),
          a.number,
          rest.number,
        );
        calls = a.calls + rest.calls;
        made = omega (arith, a.made, rest.made, ap (λ (m : Made). m.registers) none);
        admits = omega (arith, a.admits, rest.admits, ap (λ (m : Made). m.admits) none);
        named = at_least_both NamesCall a.calls rest.calls a.links (flat_map (λ links. links) rest.lists) a.named
            rest.named;
      }

  pub record ServedLists (crew : List (Worker G)) (gs : List G) : Type 0 where
    pub lists : List (List Link)
    pub back : AllZip (CameBack g handed) gs lists
    pub number : length (flat_map (λ links. links) lists) ≡ links_in_all crew
    pub keyed : AtLeast IsKeyed ((made_in_all crew).admits + (tally_in_all crew).full)
        (flat_map (λ links. links) lists)
    pub unfit : AtLeast IsUnfit (tally_in_all crew).unfit (flat_map (λ links. links) lists)
    pub registers : (made_in_all crew).registers ≡ 0
    pub failed : ((tally_in_all crew).failed ≡ 0) ⊎ OneOf (HasReturned g handed) gs
    pub full : ((tally_in_all crew).full ≡ 0)
        ⊎ ((at : List Entry) × IsPrefix at journal × (is_crowded at ≡ true))

  pub served_lists : (crew : List (Worker G)) (gs : List G) → AllZip (EnginesServed g journal) crew gs
      → Each (λ gate. Begins (gating g handed) (gating g gate)) (map (λ w. w.begun) crew) → ServedLists crew gs
  served_lists [] [] all begun =
      record {
        lists = [];
        back = tt;
        number = refl;
        keyed = tt;
        unfit = tt;
        registers = refl;
        failed = inl refl;
        full = inl refl;
      }
  served_lists [] (b ∷ gs) all begun = absurd all
  served_lists (w ∷ crew) [] all begun = absurd all
  served_lists (w ∷ crew) (b ∷ gs) all begun =
      let a = serves_all w.count _ _ all.0.served in
      let rest = served_lists crew gs all.1 begun.1 in
      let none = all.0.clerk.made in
      record {
        lists = a.links ∷ rest.lists;
        back = ((gating g w.begun, begun.0, a.retired), rest.back);
        number = omega (
          arith,
          length-append a.links (flat_map (λ links. links) rest.lists),
          a.number,
          rest.number,
        );
        keyed = at_least_le IsKeyed _ _ _ (omega (arith, a.with_key, ap (λ (m : Made). m.admits) none))
            (at_least_both IsKeyed a.keys _ a.links (flat_map (λ links. links) rest.lists) a.keyed rest.keyed);
        unfit = at_least_le IsUnfit _ _ _ (omega (arith, a.without_key))
            (at_least_both IsUnfit a.misfits _ a.links (flat_map (λ links. links) rest.lists) a.unfit rest.unfit);
        registers = omega (arith, a.registers, rest.registers, ap (λ (m : Made). m.registers) none);
        failed = elim a.failed [
          | inl nil ↦ elim rest.failed [
            | inl none_failed ↦ inl (omega (arith, nil, none_failed))
            | inr one ↦ inr (inr one)
          ]
          | inr rose ↦ inr (inl (gating g w.begun, begun.0, rose))
        ];
        full = elim a.full [
          | inl nil ↦ elim rest.full [
            | inl none_full ↦ inl (omega (arith, nil, none_full))
            | inr one ↦ inr one
          ]
          | inr saw ↦ inr (saw.0, prefix_trans saw.0 w.after.seen journal saw.1 all.0.clerk.seen, saw.2)
        ];
      }

-- ---- all

module _ {G GIn GOut H HIn HOut : Type 0} (g : gate_of.Ghosts G GIn GOut) (h : gate_of.Ghosts H HIn HOut)
    (ides : G) (engines : H) (registrations sessions : ℕ) (gates : List G) (doors : List H)
    (tg : Twins g ides gates) (th : Twins h engines doors) where
  ides_done : (s : Summary) (journal : List Entry) (gs : List G) (hs : List H)
      → CrewDone g h gates doors registrations sessions gs hs s journal → CameBackFrom g gates gs
  ides_done s journal gs hs c =
      done_back g (IdesServed g journal)
      (λ w gate one. (w.count, steps_map (λ k. k.gate) ServedIde Asked ide_asked w.count _ _ one.served)) gates
      registrations c.asking gs c.asked

  engines_done : (s : Summary) (journal : List Entry) (gs : List G) (hs : List H)
      → CrewDone g h gates doors registrations sessions gs hs s journal → CameBackFrom h doors hs
  engines_done s journal gs hs c =
      done_back h (EnginesServed h journal)
      (λ w gate one. (w.count, steps_map (λ k. k.gate) ServedEngine Asked engine_asked w.count _ _ one.served)) doors
      sessions c.serving hs c.served

  ports_of : (gs : List G) (hs : List H) → CameBackFrom g gates gs → CameBackFrom h doors hs
      → Each (IsSamePort g ides) gs × Each (IsSamePort h engines) hs
  ports_of gs hs one other = (
    back_ports g ides gates gs (twinned_ports g ides gates tg) one,
    back_ports h engines doors hs (twinned_ports h engines doors th) other,
  )

  all_ports : (dials starts : Faults) (gs : List G) (hs : List H) (result : Result (Summary × List Entry) AllError)
      → Gated g h gates doors registrations sessions dials starts gs hs result
      → Each (IsSamePort g ides) gs × Each (IsSamePort h engines) hs
  all_ports dials starts gs hs (Ok done) c =
      ports_of gs hs (ides_done done.0 done.1 gs hs c) (engines_done done.0 done.1 gs hs c)
  all_ports dials starts gs hs (Err GateFault) c = ports_of gs hs c.0 c.1
  all_ports dials starts gs hs (Err NoThread) c = ports_of gs hs c.0 c.1
  all_ports dials starts gs hs (Err Memory) c = elim c [
    | inl back ↦ ports_of gs hs back.0 back.1
    | inr none ↦ (subst (Each (IsSamePort g ides)) (sym none.0) tt, subst (Each (IsSamePort h engines)) (sym none.1) tt)
  ]

  module _ (many : length gates ≡ min registrations 8) (several : length doors ≡ min sessions 64) where
    all_came : (dials starts : Faults) (gs : List G) (hs : List H) (result : Result (Summary × List Entry) AllError)
        → Gated g h gates doors registrations sessions dials starts gs hs result
        → Came g h ides engines registrations sessions dials starts gs hs result
    all_came dials starts gs hs (Ok done) c =
        record {
          asking = c.asking;
          serving = c.serving;
          asked = all_worked g ides (IdesServed g done.1) registrations 8 c.asking gates gs tg many c.asked;
          served = all_worked h engines (EnginesServed h done.1) sessions 64 c.serving doors hs th several c.served;
          counts = c.counts;
          numbers = c.numbers;
          summed = c.summed;
        }
    all_came dials starts gs hs (Err GateFault) c = elim c.2 [
      | inl ide ↦
          let one = failed_back g ides gates gs tg c.0 ide in (one.0, all_back h engines doors hs th c.1, inl one.1)
      | inr other ↦ elim other [
        | inl engine ↦
            let one = failed_back h engines doors hs th c.1 engine in
            (all_back g ides gates gs tg c.0, one.0, inr (inl one.1))
        | inr dial ↦ (all_back g ides gates gs tg c.0, all_back h engines doors hs th c.1, inr (inr dial))
      ]
    ]
    all_came dials starts gs hs (Err NoThread) c =
        (all_back g ides gates gs tg c.0, all_back h engines doors hs th c.1, c.2)
    all_came dials starts gs hs (Err Memory) c = tt

    pub all_served : (dials starts : Faults) (gs : List G) (hs : List H)
        (result : Result (Summary × List Entry) AllError) → starts.before ≤ starts.now
        → Gated g h gates doors registrations sessions dials starts gs hs result
        → AllServed g h ides engines registrations sessions dials starts gs hs result
    all_served dials starts gs hs result later c =
        record {
          ports = all_ports dials starts gs hs result c;
          came = all_came dials starts gs hs result c;
          starts_later = later;
        }

  done_bounded : (gs : List G) (hs : List H) (s : Summary) (journal : List Entry)
      → CrewDone g h gates doors registrations sessions gs hs s journal
      → Bounds g h ides engines registrations sessions gs hs s journal
  done_bounded gs hs s journal c =
      let a = asked_lists g ides journal c.asking gs c.asked.served
      (subst (Each (λ gate. Begins (gating g ides) (gating g gate))) (sym c.asked.begun) (begin g ides gates tg)) in
      let b = served_lists h engines journal c.serving hs c.served.served
      (subst (Each (λ gate. Begins (gating h engines) (gating h gate))) (sym c.served.begun)
      (begin h engines doors th)) in
      let full_is : s.full ≡ (tally_in_all c.serving).full = ap (λ (k : Summary). k.full) c.numbers in
      let unfit_is : s.unfit ≡ (tally_in_all c.serving).unfit = ap (λ (k : Summary). k.unfit) c.numbers in
      let failed_is : s.failed ≡ (tally_in_all c.serving).failed = ap (λ (k : Summary). k.failed) c.numbers in
      record {
        asking = a.lists;
        serving = b.lists;
        asked = a.back;
        served = b.back;
        registrations = a.number ∙ c.asked.links;
        sessions = b.number ∙ c.served.links;
        accepted = at_least_le NamesCall _ a.calls _ (omega (
          arith,
          c.summed.accepted,
          accepted_within journal,
          c.counts.registers,
          b.registers,
          a.made,
        ))
            a.named;
        unfit = subst (λ n. AtLeast IsUnfit n (flat_map (λ links. links) b.lists)) (sym unfit_is) b.unfit;
        keyed = at_least_le IsKeyed _ _ _ (omega (
          arith,
          c.summed.admitted,
          c.summed.refused,
          admits_split journal,
          c.counts.admits,
          a.admits,
          full_is,
        ))
            b.keyed;
        failed = λ some. elim b.failed [
          | inl none ↦ absurd (omega (arith, some, failed_is, none))
          | inr one ↦ one
        ];
        full = λ some. elim b.full [
          | inl none ↦ absurd (omega (arith, some, full_is, none))
          | inr one ↦ one
        ];
      }

  pub all_bounded : (dials starts : Faults) (gs : List G) (hs : List H)
      (result : Result (Summary × List Entry) AllError)
      → Gated g h gates doors registrations sessions dials starts gs hs result
      → IsBounded g h ides engines registrations sessions gs hs result
  all_bounded dials starts gs hs (Ok done) c = done_bounded gs hs done.0 done.1 c
  all_bounded dials starts gs hs (Err why) c = tt

-- ---- other ends

either : (a b : Bool) → a || b ≡ true → (a ≡ true) ⊎ (b ≡ true)
either true b is = inl refl
either false b is = inr is

pub neither : (a b : Bool) → a || b ≡ false → (a ≡ false) × (b ≡ false)
neither true b is = absurd (true≢false is)
neither false b is = (refl, is)

module _ {G GIn GOut H HIn HOut : Type 0} (g : gate_of.Ghosts G GIn GOut) (h : gate_of.Ghosts H HIn HOut)
    (gates : List G) (doors : List H) (registrations sessions : ℕ) where
  -- the dialer gave no twin: the gates are as they were
  pub dialed_none : (dials starts : Faults) (why : AllError) → WhyUntwinned dials.before dials.now why
      → Gated g h gates doors registrations sessions dials starts gates doors (Err why)
  dialed_none dials starts GateFault d = (untouched g gates, untouched h doors, inr (inr d))
  dialed_none dials starts NoThread d = absurd d
  dialed_none dials starts Memory d = inl (untouched g gates, untouched h doors)

module _ {G GIn GOut H HIn HOut : Type 0} (g : gate_of.Ghosts G GIn GOut) (h : gate_of.Ghosts H HIn HOut) (ides : G)
    (engines : H) (registrations sessions : ℕ) (dials starts : Faults) (later : starts.before ≤ starts.now)
    (gs : List G) (hs : List H) where
  module _ {E F : Type 0} (asked : Result ⊤ E) (served : Result ⊤ F) (many several : ℕ)
      (first : Twinned g many ides gs asked) (second : Twinned h several engines hs served) where
    twin_ports_of : Each (IsSamePort g ides) gs × Each (IsSamePort h engines) hs
    twin_ports_of = (
      twinned_ports g ides gs (twins_of_any g ides asked many gs first),
      twinned_ports h engines hs (twins_of_any h engines served several hs second),
    )

    pub ide_twin_refused : is_err asked ≡ true
        → AllServed g h ides engines registrations sessions dials starts gs hs (Err GateFault)
    ide_twin_refused failed =
        let one = twinned_err g ides asked many gs failed first in
        record {
          ports = twin_ports_of;
          came = (
            one.0,
            all_back h engines hs hs (twins_of_any h engines served several hs second) (untouched h hs),
            inl one.1,
          );
          starts_later = later;
        }

    pub engine_twin_refused : is_err served ≡ true
        → AllServed g h ides engines registrations sessions dials starts gs hs (Err GateFault)
    engine_twin_refused failed =
        let one = twinned_err h engines served several hs failed second in
        record {
          ports = twin_ports_of;
          came = (
            all_back g ides gs gs (twins_of_any g ides asked many gs first) (untouched g gs),
            one.0,
            inr (inl one.1),
          );
          starts_later = later;
        }

    pub twin_refused : is_err asked || is_err served ≡ true
        → AllServed g h ides engines registrations sessions dials starts gs hs (Err GateFault)
    twin_refused failed = elim (either (is_err asked) (is_err served) failed) [
      | inl first_failed ↦ ide_twin_refused first_failed
      | inr second_failed ↦ engine_twin_refused second_failed
    ]
