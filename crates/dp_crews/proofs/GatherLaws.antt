-- What comes back of the workers of a kind, one after another: each of them had a gate and some links.
use Rattle.std.proofs.Common.{◌≡◌, ◌≢◌, ◌⊎◌, ◌≤◌, ℕ, ◌+◌, Bool, true, false, true≢false, List, [], ◌∷◌, ◌++◌, length, refl, sym, ◌∙◌, ap, subst, inl, inr, arith, append_assoc, append-nil}
use Rattle.std.specs.Prelude.{map}
use Rattle.std.specs.List.{AllZip}
use mathlib.Core.List.{IsPrefix}
use Rattle.dp_outside.specs.Causes.{Rose}
use Rattle.dp_wire.specs.Received.{last_place}
use Rattle.dp_desk.proofs.Keeps.{prefix_self, prefix_trans}
use Rattle.dp_desk.specs.Desks.{Known, Gained}
use Rattle.dp_desk.specs.Made.{Made, made, plus}
use Rattle.dp_registry.specs.declared.entry.Entry.{Entry}
use Rattle.dp_crews.specs.declared.tallies.Tally.{Tally}
use Rattle.dp_crews.specs.Gates.{Gating}
use Rattle.dp_crews.specs.Relays.{IsBack, Worker, links_in_all, made_in_all, plus_tally, tally_in_all}
use Rattle.dp_crews.specs.Tallies.{counted, tally}
use Rattle.dp_crews.specs.inner.Accounts.{FoldsBoth}
use Rattle.dp_crews.specs.inner.Crewed.{OneZip}

pub same_made : (m n : Made) → m.registers ≡ n.registers → m.admits ≡ n.admits → m.dismissals ≡ n.dismissals → m ≡ n
same_made m n p q r =
    subst (λ k. m ≡ made k n.admits n.dismissals) p
    (subst (λ k. m ≡ made m.registers k n.dismissals) q
    (subst (λ k. m ≡ made m.registers m.admits k) r refl))

pub same_tally : (t u : Tally) → t.full ≡ u.full → t.unfit ≡ u.unfit → t.failed ≡ u.failed → t.starved ≡ u.starved
    → t ≡ u
same_tally t u p q r s =
    subst (λ k. t ≡ tally k u.unfit u.failed u.starved) p
    (subst (λ k. t ≡ tally t.full k u.failed u.starved) q
    (subst (λ k. t ≡ tally t.full t.unfit k u.starved) r
    (subst (λ k. t ≡ tally t.full t.unfit t.failed k) s refl)))

pub not_true : (b : Bool) → (b ≡ true → ⊥) → b ≡ false
not_true false is_not = refl
not_true true is_not = absurd (is_not refl)

-- a number of each, in all
abbrev pub total : {K : Type 0} → (ℕ → ℕ) → List (K × ℕ) → ℕ
total f [] = 0
total f (a ∷ lots) = f a.1 + total f lots

module _ {K L A : Type 0} (see : K → Gating) (listed : A → List K) (beside : A → L) (tally_of : A → Tally)
    (broken halted : A → Bool) (Served : List Entry → Worker K → K → Type 0) (asks sessions : ℕ → ℕ)
    (Refused : Type 0) where
  -- a worker served its part
  pub record Done (a : K × ℕ) (back : K) (v u : Known) (x z : A) : Type 0 where
    pub worker : Worker K
    pub begun : worker.begun ≡ a.0
    pub count : worker.count ≡ a.1
    pub served : (journal : List Entry) → IsPrefix worker.after.seen journal → Served journal worker back
    pub gained : Gained v worker.after u
    pub share : worker.after.share ≡ 1
    pub registers : worker.after.made.registers ≤ asks a.1
    pub all : worker.after.made.admits + counted worker.tally ≡ sessions a.1
    pub tally : counted (tally_of x) + counted worker.tally ≤ last_place
        → tally_of z ≡ plus_tally (tally_of x) worker.tally
    pub failed : broken z ≡ broken x
    pub stopped : halted z ≡ halted x

  -- its gate failed
  pub record Broke (a : K × ℕ) (back : K) (v u : Known) (x z : A) : Type 0 where
    pub rose : Rose (see a.0).faults (see back).faults
    pub clerk : u ≡ v
    pub failed : broken z ≡ true
    pub stopped : halted z ≡ halted x

  -- no thread began it
  pub record Unbegun (a : K × ℕ) (back : K) (v u : Known) (x z : A) : Type 0 where
    pub refused : Refused
    pub clerk : u ≡ v
    pub failed : broken z ≡ broken x
    pub stopped : halted z ≡ true

  pub record One (a : K × ℕ) (v u : Known) (x z : A) : Type 0 where
    pub back : K
    pub items : listed z ≡ listed x ++ back ∷ []
    pub others : beside z ≡ beside x
    pub came : IsBack (see a.0) (see back)
    pub how : Done a back v u x z ⊎ (Broke a back v u x z ⊎ Unbegun a back v u x z)

  -- ---- one after another

  pub record Fine (journal : List Entry) (lots : List (K × ℕ)) (back : List K) (v w : Known) (x y : A) : Type 0 where
    pub workers : List (Worker K)
    pub begun : map (λ worker. worker.begun) workers ≡ map (λ a. a.0) lots
    pub links : links_in_all workers ≡ total (λ n. n) lots
    pub served : AllZip (Served journal) workers back
    pub share : w.share ≡ v.share + length lots
    pub made : w.made ≡ plus v.made (made_in_all workers)
    pub registers : (made_in_all workers).registers ≤ total asks lots
    pub all : (made_in_all workers).admits + counted (tally_in_all workers) ≡ total sessions lots
    pub tally : tally_of y ≡ plus_tally (tally_of x) (tally_in_all workers)

  pub record Over (lots : List (K × ℕ)) (v w : Known) (x y : A) : Type 0 where
    pub back : List K
    pub items : listed y ≡ listed x ++ back
    pub others : beside y ≡ beside x
    pub came : AllZip (λ a b. IsBack (see a.0) (see b)) lots back
    pub grows : IsPrefix v.seen w.seen
    pub stays_failed : broken x ≡ true → broken y ≡ true
    pub stays_stopped : halted x ≡ true → halted y ≡ true
    pub why_failed : broken y ≡ true
        → (broken x ≡ true) ⊎ OneZip (λ a b. Rose (see a.0).faults (see b).faults) lots back
    pub why_stopped : halted y ≡ true → (halted x ≡ true) ⊎ Refused
    pub fine : broken y ≡ false → halted y ≡ false → (journal : List Entry) → IsPrefix w.seen journal
        → counted (tally_of x) + total sessions lots ≤ last_place → Fine journal lots back v w x y

  none_over : (v : Known) (x : A) → Over [] v v x x
  none_over v x =
      record {
        back = [];
        items = sym (append-nil (listed x));
        others = refl;
        came = tt;
        grows = prefix_self v.seen;
        stays_failed = λ e. e;
        stays_stopped = λ e. e;
        why_failed = λ e. inl e;
        why_stopped = λ e. inl e;
        fine = λ f s journal front room. record {
          workers = [];
          begun = refl;
          links = refl;
          served = tt;
          share = omega arith;
          made = same_made v.made (plus v.made (made 0 0 0)) (omega arith) (omega arith) (omega arith);
          registers = omega arith;
          all = refl;
          tally = same_tally (tally_of x) (plus_tally (tally_of x) (tally 0 0 0 0)) (omega arith) (omega arith)
              (omega arith) (omega arith);
        };
      }

  -- the first one was served, and so were the others
  one_fine : (journal : List Entry) (a : K × ℕ) (lots : List (K × ℕ)) (b : K) (back : List K) (v u w : Known)
      (x z y : A)
      → Done a b v u x z → IsPrefix u.seen journal → counted (tally_of x) + total sessions (a ∷ lots) ≤ last_place
      → (counted (tally_of z) + total sessions lots ≤ last_place → Fine journal lots back u w z y)
      → Fine journal (a ∷ lots) (b ∷ back) v w x y
  one_fine journal a lots b back v u w x z y d front room rest =
      let few : counted d.worker.tally ≤ sessions a.1 = omega (arith, d.all) in
      let sum : tally_of z ≡ plus_tally (tally_of x) d.worker.tally = d.tally (omega (arith, few, room)) in
      let same : counted (tally_of z) ≡ counted (tally_of x) + counted d.worker.tally =
      ap counted sum ∙ omega arith in
      let r : Fine journal lots back u w z y = rest (omega (arith, same, few, room)) in
      record {
        workers = d.worker ∷ r.workers;
        begun = ap {B = List K} (λ k. k ∷ map (λ worker. worker.begun) r.workers) d.begun
            ∙ ap (λ ks. a.0 ∷ ks) r.begun;
        links = omega (arith, d.count, r.links);
        served = (d.served journal (prefix_trans d.worker.after.seen u.seen journal d.gained.others front), r.served);
        share = omega (arith, r.share, d.gained.share, d.share);
        made = same_made w.made (plus v.made (plus d.worker.after.made (made_in_all r.workers)))
            (omega (arith, ap (λ (m : Made). m.registers) r.made, ap (λ (m : Made). m.registers) d.gained.made))
            (omega (arith, ap (λ (m : Made). m.admits) r.made, ap (λ (m : Made). m.admits) d.gained.made))
            (omega (arith, ap (λ (m : Made). m.dismissals) r.made, ap (λ (m : Made). m.dismissals) d.gained.made));
        registers = omega (arith, d.registers, r.registers);
        all = omega (arith, d.all, r.all);
        tally = same_tally (tally_of y) (plus_tally (tally_of x) (plus_tally d.worker.tally (tally_in_all r.workers)))
            (omega (arith, ap (λ (t : Tally). t.full) r.tally, ap (λ (t : Tally). t.full) sum))
            (omega (arith, ap (λ (t : Tally). t.unfit) r.tally, ap (λ (t : Tally). t.unfit) sum))
            (omega (arith, ap (λ (t : Tally). t.failed) r.tally, ap (λ (t : Tally). t.failed) sum))
            (omega (arith, ap (λ (t : Tally). t.starved) r.tally, ap (λ (t : Tally). t.starved) sum));
      }

  module _ (a : K × ℕ) (lots : List (K × ℕ)) (v u w : Known) (x z y : A) (o : One a v u x z) (r : Over lots u w z y)
    where
      items_led : listed y ≡ listed x ++ o.back ∷ r.back
      items_led = r.items ∙ (ap (λ l. l ++ r.back) o.items ∙ append_assoc (listed x) (o.back ∷ []) r.back)

      over_done : Done a o.back v u x z → Over (a ∷ lots) v w x y
      over_done d =
          record {
            back = o.back ∷ r.back;
            items = items_led;
            others = r.others ∙ o.others;
            came = (o.came, r.came);
            grows = prefix_trans v.seen u.seen w.seen d.gained.seen r.grows;
            stays_failed = λ e. r.stays_failed (d.failed ∙ e);
            stays_stopped = λ e. r.stays_stopped (d.stopped ∙ e);
            why_failed = λ e. elim (r.why_failed e) [
              | inl before ↦ inl (sym d.failed ∙ before)
              | inr one ↦ inr (inr one)
            ];
            why_stopped = λ e. elim (r.why_stopped e) [
              | inl before ↦ inl (sym d.stopped ∙ before)
              | inr one ↦ inr one
            ];
            fine = λ f s journal front room.
                one_fine journal a lots o.back r.back v u w x z y d (prefix_trans u.seen w.seen journal r.grows front)
                room
                (r.fine f s journal front);
          }

      over_broke : Broke a o.back v u x z → Over (a ∷ lots) v w x y
      over_broke d =
          record {
            back = o.back ∷ r.back;
            items = items_led;
            others = r.others ∙ o.others;
            came = (o.came, r.came);
            grows = subst (λ (k : Known). IsPrefix k.seen w.seen) d.clerk r.grows;
            stays_failed = λ e. r.stays_failed d.failed;
            stays_stopped = λ e. r.stays_stopped (d.stopped ∙ e);
            why_failed = λ e. inr (inl d.rose);
            why_stopped = λ e. elim (r.why_stopped e) [
              | inl before ↦ inl (sym d.stopped ∙ before)
              | inr one ↦ inr one
            ];
            fine = λ f s journal front room. absurd (true≢false (sym (r.stays_failed d.failed) ∙ f));
          }

      over_unbegun : Unbegun a o.back v u x z → Over (a ∷ lots) v w x y
      over_unbegun d =
          record {
            back = o.back ∷ r.back;
            items = items_led;
            others = r.others ∙ o.others;
            came = (o.came, r.came);
            grows = subst (λ (k : Known). IsPrefix k.seen w.seen) d.clerk r.grows;
            stays_failed = λ e. r.stays_failed (d.failed ∙ e);
            stays_stopped = λ e. r.stays_stopped d.stopped;
            why_failed = λ e. elim (r.why_failed e) [
              | inl before ↦ inl (sym d.failed ∙ before)
              | inr one ↦ inr (inr one)
            ];
            why_stopped = λ e. inr d.refused;
            fine = λ f s journal front room. absurd (true≢false (sym (r.stays_stopped d.stopped) ∙ s));
          }

      one_over : Over (a ∷ lots) v w x y
      one_over = elim o.how [
        | inl d ↦ over_done d
        | inr other ↦ elim other [
          | inl d ↦ over_broke d
          | inr d ↦ over_unbegun d
        ]
      ]

  pub all_over : (lots : List (K × ℕ)) (v w : Known) (x y : A) → FoldsBoth One lots v w x y → Over lots v w x y
  all_over [] v w x y f =
      subst (λ k. Over [] v k x y) (sym f.0) (subst (λ k. Over [] v v x k) (sym f.1) (none_over v x))
  all_over (a ∷ lots) v w x y f =
      one_over a lots v f.0 w x f.1 y f.2 (all_over lots f.0 w f.1 y f.3)
