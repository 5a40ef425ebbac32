-- Each step keeps the rule.
use Rattle.std.proofs.Common.{◌≡◌, ◌≢◌, ◌⊎◌, ℕ, zero, suc, ◌+◌, ◌≤◌, ◌%◌, ◌^◌, Bool, true, false, true≢false}
use Rattle.std.proofs.Common.{List, [], ◌∷◌, ◌++◌, length, set, Option, Some, refl, sym, ap, ◌∙◌, subst, inl, inr}
use Rattle.std.proofs.Common.{⊎_elim, arith, append_assoc, append-nil, length-append}
use Rattle.std.specs.Prelude.{slice_index, slice_set}
use mathlib.Core.Option.{none, some, some-ne-none, some-injective}
use mathlib.Core.List.{IsPrefix}
use lib.ListN.{get_elem?}
use Rattle.atomic_table.specs.Table.{State, Me, step, takes, keeps, gives, Act, stepped, put_back, rest, carried_after}
use Rattle.atomic_table.specs.Table.{Valid, Allows, Splits, Joins, opening}
use Rattle.atomic_table.proofs.Lists.{at_set, at_snoc, set_again, set_else}
use Rattle.dp_registry.specs.declared.entry.Entry.{Entry}
use Rattle.dp_registry.specs.declared.entry.Entry.TheVariants.{Register, Stop, Admit, Dismiss}
use Rattle.dp_registry.specs.declared.entry.AdmitReply.TheVariants.{Given, Unknown, Busy}
use Rattle.dp_registry.specs.Journal.{live}
use Rattle.dp_registry.specs.Legal.{IsFit, IsLegal}
use Rattle.dp_registry.proofs.LiveSessions.{fits_last, live_given, live_left, live_same, live_rises}
use Rattle.dp_desk.specs.declared.turns.View.{View}
use Rattle.dp_desk.specs.Desks.{held_after}
use Rattle.dp_desk.specs.Turns.{view, nobody, times, total, CanHold, last_of, AllViews, joined, IsFree, IsTaken, KeptAt}
use Rattle.dp_desk.specs.Turns.{Kept, carried, took, counted, returned, looked}
use Rattle.dp_desk.proofs.Times.{times-append, times_without, times_left, once, is_counted}

-- ---- beginnings of a list
pub prefix_self : {A : Type 0} (xs : List A) → IsPrefix xs xs
prefix_self xs = ([], append-nil xs)

pub prefix_trans : {A : Type 0} (xs ys zs : List A) → IsPrefix xs ys → IsPrefix ys zs → IsPrefix xs zs
prefix_trans xs ys zs p q = (p.0 ++ q.0, sym (append_assoc xs p.0 q.0) ∙ (ap (λ w. w ++ q.0) p.1 ∙ q.1))

-- ---- the total over all views
total_set : (f : View → ℕ) (views : List View) (i : ℕ) (v w : View) → get_elem? views i ≡ some v →
    total f (set views i w) + f v ≡ total f views + f w
total_set f [] i v w e = absurd (some-ne-none v (sym e))
total_set f (x ∷ xs) zero v w e = let is : f x ≡ f v = ap f (some-injective x v e) in omega arith
total_set f (x ∷ xs) (suc i) v w e = let r = total_set f xs i v w e in omega arith

total_snoc : (f : View → ℕ) (views : List View) (w : View) → total f (views ++ w ∷ []) ≡ total f views + f w
total_snoc f [] w = omega arith
total_snoc f (x ∷ xs) w = let r = total_snoc f xs w in omega arith

-- one view is a part of the total
total_at : (f : View → ℕ) (views : List View) (i : ℕ) (v : View) → get_elem? views i ≡ some v → f v ≤ total f views
total_at f [] i v e = absurd (some-ne-none v (sym e))
total_at f (x ∷ xs) zero v e = let is : f x ≡ f v = ap f (some-injective x v e) in omega arith
total_at f (x ∷ xs) (suc i) v e = let r = total_at f xs i v e in omega arith

-- ---- all views
-- what holds of the other views and of the new one holds of all
all_set : (P : ℕ → View → Type 0) (views : List View) (i : ℕ) (w : View) →
    ((j : ℕ) (u : View) → j ≢ i → get_elem? views j ≡ some u → P j u) → P i w → AllViews (set views i w) P
all_set P views i w others mine j u e =
    ⊎_elim
    (λ (x : (j ≡ i) × (w ≡ u)). subst (λ (y : ℕ × View). P y.0 y.1) (λ k. (sym x.0 k, x.1 k)) mine)
    (λ (x : (j ≢ i) × (get_elem? views j ≡ some u)). others j u x.0 x.1)
    (at_set views i j w u e)

all_snoc : (P : ℕ → View → Type 0) (views : List View) (w : View) → AllViews views P → ((j : ℕ) → P j w) →
    AllViews (views ++ w ∷ []) P
all_snoc P views w old new j u e =
    ⊎_elim (λ (x : get_elem? views j ≡ some u). old j u x) (λ (x : w ≡ u). subst (P j) x (new j))
    (at_snoc views w u j e)

off : (b : Bool) → (b ≡ true → ⊥) → b ≡ false
off true h = absurd (h refl)
off false h = refl

-- ---- entries
pub last_of-push : (log : List Entry) (e : Entry) → last_of (log ++ e ∷ []) ≡ e
last_of-push [] e = refl
last_of-push (x ∷ []) e = refl
last_of-push (x ∷ y ∷ xs) e = last_of-push (y ∷ xs) e

set_one : {A : Type 0} (l : List A) (a : A) → length l ≡ 1 → slice_set l 0 a ≡ a ∷ []
set_one [] a e = absurd (omega arith)
set_one (x ∷ []) a e = refl
set_one (x ∷ y ∷ l) a e = absurd (omega arith)

-- what the caller holds follows what is live
module _ (log : List Entry) (held : List ℕ) (legal : IsLegal log) (mine : (k : ℕ) → times k held ≤ times k (live log))
    (k : ℕ) where
  held_same : (e : Entry) → live (log ++ e ∷ []) ≡ live log →
      times k held + times k (live log) ≡ times k held + times k (live (log ++ e ∷ []))
  held_same e same = ap (λ (ns : List ℕ). times k held + times k ns) (sym same)

  held_step : (e : Entry) → IsFit log e → CanHold e held →
      times k (held_after e held) + times k (live log) ≡ times k held + times k (live (log ++ e ∷ []))
  held_step (Register host port key multiple reply) fit can =
      held_same (Register host port key multiple reply)
      (live_same log (Register host port key multiple reply) refl (λ s. refl))
  held_step (Stop host key reply) fit can =
      held_same (Stop host key reply) (live_same log (Stop host key reply) refl (λ s. refl))
  held_step (Admit key (Given s host port)) fit can =
      let now = ap (times k) (live_given log key s host port legal fit) in
      omega (arith, now, times-append k (live log) (s ∷ []))
  held_step (Admit key Unknown) fit can =
      held_same (Admit key Unknown) (live_same log (Admit key Unknown) refl (λ s. refl))
  held_step (Admit key (Busy s)) fit can =
      held_same (Admit key (Busy s)) (live_same log (Admit key (Busy s)) refl (λ t. refl))
  held_step (Dismiss s) fit can =
      let some = is_counted s held can in
      let most = once s (live log) (live_rises log legal) in
      let part = mine s in
      let one : times s (live log) ≡ 1 = omega arith in
      let now = ap (times k) (live_left log s) in
      omega (arith, now, times_without k s held some, times_left k s (live log) one)

module _ {H : Type 0} (journal : H → List Entry) where
  abbrev St : Type 0
  St = State (Option H) View

  abbrev M : Type 0
  M = Me (Option H) View

  abbrev K : St → Type 0
  K = Kept journal

  -- a view changes, and the journal does not
  moved : (log : List Entry) (s : St) → KeptAt journal log s → (id : ℕ) (v w : View) → get_elem? s.views id ≡ some v →
      IsPrefix w.seen log → IsPrefix w.met log → w.held ≡ v.held → (t : St) → t.views ≡ set s.views id w →
      IsFree journal log t ⊎ IsTaken journal log t → KeptAt journal log t
  moved log s r id v w at seen met held t views turn = record {
    legal = r.legal;
    seen = subst (λ (l : List View). AllViews l (λ _ u. IsPrefix u.seen log × IsPrefix u.met log)) (sym views)
        (all_set (λ _ u. IsPrefix u.seen log × IsPrefix u.met log) s.views id w (λ j u _ e. r.seen j u e) (seen, met));
    held = λ k.
        let f : View → ℕ = λ u. times k u.held in
        let sums = total_set f s.views id v w at in
        let old = r.held k in
        let same : f w ≡ f v = ap (times k) held in
        let now : total f t.views ≡ total f (set s.views id w) = ap (total f) views in
        omega arith;
    turn = turn;
  }

  part_of : (log : List Entry) (s : St) → KeptAt journal log s → (id : ℕ) (v : View) → get_elem? s.views id ≡ some v →
      (k : ℕ) → times k v.held ≤ times k (live log)
  part_of log s r id v at k =
      let part = total_at (λ u. times k u.held) s.views id v at in let all = r.held k in omega arith

  -- ---- take
  took_free : (log : List Entry) (s : St) → KeptAt journal log s → (slots id : ℕ) (me : M) → me.1 ≡ [] →
      get_elem? s.views id ≡ some me.0 → IsFree journal log s →
      (w : View) × (a : Act (Option H)) × Valid s.homes me.1 a × K (stepped s 1 1 id me.1 w a)
      × took journal (step slots 1 1 0 none) me (slice_index s.words 1) (w, carried_after me.1 a)
  took_free log s r slots id me nothing at free =
      let h : H = free.1.0 in
      let is : journal h ≡ log = free.1.2 in
      let w : View = view (journal h) me.0.met me.0.held true in
      let a : Act (Option H) = takes 0 (Some h) in
      let t : St = stepped s 1 1 id me.1 w a in
      let taken : IsTaken journal log t = (
        ap (λ ws. slice_set ws 1 1) free.0,
        (
          id,
          all_set (λ j u. u.turn ≡ true → (j ≡ id) × (u.seen ≡ log)) s.views id w
              (λ j u _ e yes. absurd (true≢false (sym yes ∙ free.2 j u e))) (λ _. (refl, is)),
        ),
      ) in
      let P : List Entry → Type 0 = λ l. IsPrefix me.0.seen l in
      let Q : ℕ → List Entry → Type 0 = λ k l. times k me.0.held ≤ times k (live l) in
      let seen = (r.seen id me.0 at).0 in (
        w,
        a,
        ap (λ hs. get_elem? hs 0) free.1.1,
        (
          log,
          moved log s r id me.0 w at (subst (λ l. IsPrefix (journal h) l) is (prefix_self (journal h)))
              (r.seen id me.0 at).1 refl t refl (inr taken),
        ),
        (
          (λ _. (
            h,
            ap (λ c. (w, (0, Some h) ∷ c)) nothing,
            subst P (sym is) seen,
            subst (λ (l : List Entry). IsLegal l) (sym is) r.legal,
            (λ k. subst (Q k) (sym is) (part_of log s r id me.0 at k)),
          )),
          (λ not. absurd (not (ap (λ ws. slice_index ws 1) free.0))),
        ),
      )

  took_taken : (log : List Entry) (s : St) → KeptAt journal log s → (slots id : ℕ) (me : M) →
      get_elem? s.views id ≡ some me.0 → IsTaken journal log s →
      (w : View) × (a : Act (Option H)) × Valid s.homes me.1 a × K (stepped s 1 1 id me.1 w a)
      × took journal (step slots 1 1 0 none) me (slice_index s.words 1) (w, carried_after me.1 a)
  took_taken log s r slots id me at taken =
      let found : slice_index s.words 1 ≡ 1 = ap (λ ws. slice_index ws 1) taken.0 in
      let t : St = stepped s 1 1 id me.1 me.0 keeps in
      let still : IsTaken journal log t = (
        ap (λ ws. slice_set ws 1 1) taken.0,
        (
          taken.1.0,
          all_set (λ j u. u.turn ≡ true → (j ≡ taken.1.0) × (u.seen ≡ log)) s.views id me.0
              (λ j u _ e. taken.1.1 j u e) (taken.1.1 id me.0 at),
        ),
      ) in (
        me.0,
        keeps,
        tt,
        (
          log,
          moved log s r id me.0 me.0 at (r.seen id me.0 at).0 (r.seen id me.0 at).1 refl t refl (inr still),
        ),
        ((λ zero_found. absurd (let e : 1 ≡ 0 = sym found ∙ zero_found in omega arith)), (λ _. refl)),
      )

  pub takes_turn : (slots id : ℕ) (me : M) → me.1 ≡ [] →
      Allows K slots id me 1 (λ _. 1) (took journal (step slots 1 1 0 none) me)
  takes_turn slots id me nothing s kept _ at _ =
      ⊎_elim (took_free kept.0 s kept.1 slots id me nothing at) (took_taken kept.0 s kept.1 slots id me at) kept.1.turn

  -- ---- look
  looks_at : (log : List Entry) (s : St) → KeptAt journal log s → (slots id : ℕ) (me : M) →
      get_elem? s.views id ≡ some me.0 →
      (t : St) → t ≡ stepped s 0 (slice_index s.words 0) id me.1 (view log [] me.0.held me.0.turn) keeps →
      IsFree journal log s ⊎ IsTaken journal log s → KeptAt journal log t
  looks_at log s r slots id me at t is turn =
      let w : View = view log [] me.0.held me.0.turn in
      let T : St = stepped s 0 (slice_index s.words 0) id me.1 w keeps in
      subst (KeptAt journal log) (sym is)
      (moved log s r id me.0 w at (prefix_self log) (log, refl) refl T refl
      (⊎_elim
      (λ (free : IsFree journal log s). inl (
        ap (λ ws. slice_set ws 0 (slice_index ws 0)) free.0,
        free.1,
        all_set (λ j u. u.turn ≡ false) s.views id w (λ j u _ e. free.2 j u e) (free.2 id me.0 at),
      ))
      (λ (taken : IsTaken journal log s). inr (
        ap (λ ws. slice_set ws 0 (slice_index ws 0)) taken.0,
        (
          taken.1.0,
          all_set (λ j u. u.turn ≡ true → (j ≡ taken.1.0) × (u.seen ≡ log)) s.views id w
              (λ j u _ e. taken.1.1 j u e) (λ yes. ((taken.1.1 id me.0 at yes).0, refl)),
        ),
      ))
      turn))

  pub looks : (slots id : ℕ) (me : M) → Allows K slots id me 0 (λ n. n) (looked (step slots 0 0 0 none) me)
  looks slots id me s kept _ at _ = (
    view kept.0 [] me.0.held me.0.turn,
    keeps,
    tt,
    (
      kept.0,
      looks_at kept.0 s kept.1 slots id me at
          (stepped s 0 (slice_index s.words 0) id me.1 (view kept.0 [] me.0.held me.0.turn) keeps) refl kept.1.turn,
    ),
    (refl, (kept.1.seen id me.0 at).0, (kept.1.seen id me.0 at).1, kept.1.legal),
  )

  -- ---- count
  counts_at : (log : List Entry) (s : St) → KeptAt journal log s → (id : ℕ) (me : M) (h : H) (e : Entry) →
      me.1 ≡ (0, Some h) ∷ [] → journal h ≡ log ++ e ∷ [] → IsLegal (journal h) → CanHold e me.0.held →
      get_elem? s.views id ≡ some me.0 → (taken : IsTaken journal log s) → id ≡ taken.1.0 →
      KeptAt journal (log ++ e ∷ []) (stepped s 0 ((slice_index s.words 0 + 1) % 2 ^ 64) id me.1
      (view (carried journal me.1) me.0.met (held_after (last_of (carried journal me.1)) me.0.held) true) keeps)
  counts_at log s r id me h e carries longer is_legal can at taken mine =
      let log' : List Entry = log ++ e ∷ [] in
      let is : carried journal me.1 ≡ log' = ap (carried journal) carries ∙ longer in
      let last : last_of (carried journal me.1) ≡ e = ap last_of is ∙ last_of-push log e in
      let w : View = view (carried journal me.1) me.0.met
      (held_after (last_of (carried journal me.1)) me.0.held) true in
      let more : IsPrefix log log' = (e ∷ [], refl) in
      let size : length log' ≡ length log + 1 = length-append log (e ∷ []) in
      let legal : IsLegal log' = subst (λ (l : List Entry). IsLegal l) longer is_legal in
      let within = legal.within in
      record {
        legal = legal;
        seen = all_set (λ _ u. IsPrefix u.seen log' × IsPrefix u.met log') s.views id w
            (λ j u _ x. (
              prefix_trans u.seen log log' (r.seen j u x).0 more,
              prefix_trans u.met log log' (r.seen j u x).1 more,
            )) (
              subst (λ (l : List Entry). IsPrefix l log') (sym is) (prefix_self log'),
              prefix_trans me.0.met log log' (r.seen id me.0 at).1 more,
            );
        held = λ k.
            let f : View → ℕ = λ u. times k u.held in
            let sums = total_set f s.views id me.0 w at in
            let old = r.held k in
            let now : f w ≡ times k (held_after e me.0.held) =
            ap (λ (x : Entry). times k (held_after x me.0.held)) last in
            let own = held_step log me.0.held r.legal (part_of log s r id me.0 at) k e (fits_last log e legal) can in
            omega arith;
        turn = inr (
          ap (λ ws. slice_set ws 0 ((slice_index ws 0 + 1) % 2 ^ 64)) taken.0
              ∙ ap (λ (n : ℕ). n ∷ 1 ∷ []) (let n : (length log + 1) % 2 ^ 64 ≡ length log' = omega arith in n),
          (
            taken.1.0,
            all_set (λ j u. u.turn ≡ true → (j ≡ taken.1.0) × (u.seen ≡ log')) s.views id w
                (λ j u apart x yes. absurd (apart ((taken.1.1 j u x yes).0 ∙ sym mine)))
                (λ _. (mine, is)),
          ),
        );
      }

  pub counts : (slots id : ℕ) (me : M) (h : H) (e : Entry) → me.1 ≡ (0, Some h) ∷ [] → me.0.turn ≡ true →
      journal h ≡ me.0.seen ++ e ∷ [] → IsLegal (journal h) → CanHold e me.0.held →
      Allows K slots id me 0 (λ n. (n + 1) % 2 ^ 64) (counted journal (step slots 0 1 0 none) me)
  counts slots id me h e carries turn longer is_legal can s kept _ at _ =
      let log = kept.0 in
      let w : View = view (carried journal me.1) me.0.met (held_after (last_of (carried journal me.1)) me.0.held)
      true in (
        w,
        keeps,
        tt,
        (
          log ++ e ∷ [],
          ⊎_elim
              (λ (free : IsFree journal log s). absurd (true≢false (sym turn ∙ free.2 id me.0 at)))
              (λ (taken : IsTaken journal log s).
              let mine = taken.1.1 id me.0 at turn in
              counts_at log s kept.1 id me h e carries (longer ∙ ap (λ l. l ++ e ∷ []) mine.1) is_legal can at taken
              mine.0)
              kept.1.turn,
        ),
        refl,
      )

  -- ---- put back
  pub puts_back : (slots id : ℕ) (me : M) (h : H) → slots ≡ 1 → me.1 ≡ (0, Some h) ∷ [] → me.0.turn ≡ true →
      journal h ≡ me.0.seen → Allows K slots id me 1 (λ _. 0) (λ _. returned (step slots 1 0 0 none) me 0)
  puts_back slots id me h one carries turn same s kept len at _ =
      let log = kept.0 in
      let w : View = view me.0.seen me.0.met me.0.held false in
      let t : St = stepped s 1 0 id me.1 w gives in (
        w,
        gives,
        tt,
        (
          log,
          moved log s kept.1 id me.0 w at (kept.1.seen id me.0 at).0 (kept.1.seen id me.0 at).1 refl t refl
              (⊎_elim
              (λ (free : IsFree journal log s). absurd (true≢false (sym turn ∙ free.2 id me.0 at)))
              (λ (taken : IsTaken journal log s).
              let mine = taken.1.1 id me.0 at turn in inl (
                ap (λ ws. slice_set ws 1 0) taken.0,
                (h, ap (put_back s.homes) carries ∙ set_one s.homes (some (Some h)) (len ∙ one), same ∙ mine.1),
                all_set (λ j u. u.turn ≡ false) s.views id w
                    (λ j u apart x. off u.turn (λ yes. apart ((taken.1.1 j u x yes).0 ∙ sym mine.0))) refl,
              ))
              kept.1.turn),
        ),
        ap (λ c. (w, rest c)) carries,
      )

  -- ---- split
  pub splits : (id : ℕ) (v : View) → Splits K id v v (view v.seen [] [] false)
  splits id v s kept at =
      let log = kept.0 in
      let r = kept.1 in
      let w : View = view v.seen [] [] false in
      let Q : List View → Type 0 = λ l. K record { words = s.words; homes = s.homes; views = l ++ w ∷ [] } in
      subst Q (sym (set_again s.views id v at)) (
        log,
        record {
          legal = r.legal;
          seen = all_snoc (λ _ u. IsPrefix u.seen log × IsPrefix u.met log) s.views w r.seen
              (λ _. ((r.seen id v at).0, (log, refl)));
          held = λ k. let sums = total_snoc (λ u. times k u.held) s.views w in let old = r.held k in omega arith;
          turn = ⊎_elim
              (λ (free : IsFree journal log s). inl (
                free.0,
                free.1,
                all_snoc (λ _ u. u.turn ≡ false) s.views w free.2 (λ _. refl),
              ))
              (λ (taken : IsTaken journal log s). inr (
                taken.0,
                (
                  taken.1.0,
                  all_snoc (λ j u. u.turn ≡ true → (j ≡ taken.1.0) × (u.seen ≡ log)) s.views w taken.1.1
                      (λ _ yes. absurd (true≢false (sym yes))),
                ),
              ))
              r.turn;
        },
      )

  -- ---- join
  pub joins : (id : ℕ) (v : View) (other : ℕ) (w : View) → Joins K id v other w (joined v w) nobody
  joins id v other w s kept at apart there =
      let log = kept.0 in
      let r = kept.1 in
      let both : View = joined v w in
      let middle : List View = set s.views id both in
      let was : get_elem? s.views other ≡ some w = sym (set_else s.views id other both apart) ∙ there in (
        log,
        record {
          legal = r.legal;
          seen = let P : ℕ → View → Type 0 = λ _ u. IsPrefix u.seen log × IsPrefix u.met log in
              all_set P middle other nobody (λ j u _ e. all_set P s.views id both (λ i x _ d. r.seen i x d)
              ((r.seen id v at).0, (r.seen other w was).0) j u e) ((log, refl), (log, refl));
          held = λ k.
              let f : View → ℕ = λ u. times k u.held in
              let first = total_set f s.views id v both at in
              let second = total_set f middle other w nobody there in
              let old = r.held k in
              omega (arith, times-append k v.held w.held);
          turn = ⊎_elim
              (λ (free : IsFree journal log s). let P : ℕ → View → Type 0 = λ _ u. u.turn ≡ false in inl (
                free.0,
                free.1,
                all_set P middle other nobody
                    (λ j u _ e. all_set P s.views id both (λ i x _ d. free.2 i x d) refl j u e) refl,
              ))
              (λ (taken : IsTaken journal log s). let P : ℕ → View → Type 0 =
              λ j u. u.turn ≡ true → (j ≡ taken.1.0) × (u.seen ≡ log) in inr (
                taken.0,
                (
                  taken.1.0,
                  all_set P middle other nobody
                      (λ j u _ e. all_set P s.views id both (λ i x _ d. taken.1.1 i x d)
                      (λ yes. absurd (true≢false (sym yes))) j u e) (λ yes. absurd (true≢false (sym yes))),
                ),
              ))
              r.turn;
        },
      )

  -- ---- the table at the start
  pub begins : (h : H) → journal h ≡ [] → K (opening (0 ∷ 0 ∷ []) (Some h ∷ []) nobody)
  begins h empty = (
    [],
    record {
      legal = record { fit = tt; within = omega arith; few = omega arith };
      seen = one (λ _ u. IsPrefix u.seen [] × IsPrefix u.met []) (([], refl), ([], refl));
      held = λ k. refl;
      turn = inl (refl, (h, refl, empty), one (λ _ u. u.turn ≡ false) refl);
    },
  )
    where
      one : (P : ℕ → View → Type 0) → P 0 nobody → AllViews (nobody ∷ []) P
      one P p zero v e = subst (P 0) (some-injective _ _ e) p
      one P p (suc j) v e = absurd (some-ne-none v (sym e))
