-- Each step keeps the rule.
use Rattle.std.proofs.Common.{◌≡◌, ◌≢◌, ◌⊎◌, ℕ, zero, suc, Bool, true, false, true≢false}
use Rattle.std.proofs.Common.{List, [], ◌∷◌, ◌++◌, length, set, Option, None, Some, refl, sym, ap, ◌∙◌, subst, inl, inr}
use Rattle.std.proofs.Common.{⊎_elim, arith, append-nil}
use Rattle.std.specs.Prelude.{slice_index, slice_set}
use mathlib.Core.Option.{none, some, some-ne-none, some-injective}
use mathlib.Core.List.{IsPrefix}
use lib.ListN.{get_elem?}
use Rattle.atomic_table.specs.Table.{step, takes, keeps, gives, Act, stepped, put_back, rest, carried_after}
use Rattle.atomic_table.specs.Table.{Valid, Allows, Splits, Joins, opening}
use Rattle.atomic_table.proofs.Lists.{at_set, set_else}
use Rattle.dp_polled.specs.declared.piece.Piece.{Piece}
use Rattle.dp_polled.specs.declared.turns.View.{View}
use Rattle.dp_polled.specs.Turns.{St, M, AllViews, IsIdle, IsPutting, IsTaking, IsEmpty, IsFilling, IsFull, IsEmptying}
use Rattle.dp_polled.specs.Turns.{KeptAt, Kept, first, taker_of, putter_of, joined, spent, carried}
use Rattle.dp_polled.specs.Turns.{asked_to_put, counted_put, asked_to_take, counted_taken, compared}

-- ---- all views
-- what holds of the other views and of the new one holds of all
all_set : (P : ℕ → View → Type 0) (views : List View) (i : ℕ) (w : View) →
    ((j : ℕ) (u : View) → j ≢ i → get_elem? views j ≡ some u → P j u) → P i w → AllViews (set views i w) P
all_set P views i w others mine j u e =
    ⊎_elim
    (λ (x : (j ≡ i) × (w ≡ u)). subst (λ (y : ℕ × View). P y.0 y.1) (λ k. (sym x.0 k, x.1 k)) mine)
    (λ (x : (j ≢ i) × (get_elem? views j ≡ some u)). others j u x.0 x.1)
    (at_set views i j w u e)

at_last_or : (l : List View) (a b : View) (j : ℕ) → get_elem? (l ++ a ∷ []) j ≡ some b →
    (get_elem? l j ≡ some b) ⊎ ((j ≡ length l) × (a ≡ b))
at_last_or [] a b zero e = inr (refl, some-injective a b e)
at_last_or [] a b (suc j) e = absurd (some-ne-none b (sym e))
at_last_or (x ∷ xs) a b zero e = inl e
at_last_or (x ∷ xs) a b (suc j) e =
    ⊎_elim (λ (h : get_elem? xs j ≡ some b). inl h)
    (λ (h : (j ≡ length xs) × (a ≡ b)). inr (ap suc h.0, h.1)) (at_last_or xs a b j e)

all_snoc : (P : ℕ → View → Type 0) (views : List View) (w : View) → AllViews views P → P (length views) w →
    AllViews (views ++ w ∷ []) P
all_snoc P views w old new j u e =
    ⊎_elim (λ (x : get_elem? views j ≡ some u). old j u x)
    (λ (x : (j ≡ length views) × (w ≡ u)). subst (λ (y : ℕ × View). P y.0 y.1) (λ k. (sym x.0 k, x.1 k)) new)
    (at_last_or views w u j e)

off : (b : Bool) → (b ≡ true → ⊥) → b ≡ false
off true h = absurd (h refl)
off false h = refl

not_both : {A : Type 0} (b : Bool) → b ≡ true → b ≡ false → A
not_both b on not_on = absurd (true≢false (sym on ∙ not_on))

set_one : {A : Type 0} (l : List A) (a : A) → length l ≡ 1 → slice_set l 0 a ≡ a ∷ []
set_one [] a e = absurd (omega arith)
set_one (x ∷ []) a e = refl
set_one (x ∷ y ∷ l) a e = absurd (omega arith)

one_not_zero : {A : Type 0} (n : ℕ) → n ≡ 1 → n ≡ 0 → A
one_not_zero n is_one is_none = absurd (omega arith)

-- ---- who may put and who may take
abbrev Puts : ℕ → List Piece → ℕ → View → Type 0
Puts putter put id v = v.may_put ≡ true → (id ≡ putter) × (v.put ≡ put)

abbrev Takes : ℕ → List Piece → ℕ → View → Type 0
Takes taker taken id v = v.may_take ≡ true → (id ≡ taker) × (v.taken ≡ taken)

abbrev Slot : List Piece → List Piece → St → Type 0
Slot put taken s = (IsEmpty put taken s ⊎ IsFilling put taken s)
    ⊎ (IsFull put taken s ⊎ IsEmptying put taken s)

slot_elim : {A : Type 0} (put taken : List Piece) (s : St) → (IsEmpty put taken s → A) → (IsFilling put taken s → A) →
    (IsFull put taken s → A) → (IsEmptying put taken s → A) → Slot put taken s → A
slot_elim put taken s empty filling full emptying x =
    ⊎_elim (λ (y : IsEmpty put taken s ⊎ IsFilling put taken s). ⊎_elim empty filling y)
    (λ (y : IsFull put taken s ⊎ IsEmptying put taken s). ⊎_elim full emptying y) x

abbrev is_empty : (put taken : List Piece) (s : St) → IsEmpty put taken s → Slot put taken s
is_empty put taken s x = inl (inl x)

abbrev is_filling : (put taken : List Piece) (s : St) → IsFilling put taken s → Slot put taken s
is_filling put taken s x = inl (inr x)

abbrev is_full : (put taken : List Piece) (s : St) → IsFull put taken s → Slot put taken s
is_full put taken s x = inr (inl x)

abbrev is_emptying : (put taken : List Piece) (s : St) → IsEmptying put taken s → Slot put taken s
is_emptying put taken s x = inr (inr x)

-- what was taken begins what was put
begins_put : (put taken : List Piece) (s : St) → Slot put taken s → IsPrefix taken put
begins_put put taken s x =
    slot_elim put taken s (λ e. ([], append-nil taken ∙ sym e.2)) (λ e. ([], append-nil taken ∙ sym e.1))
    (λ e. (e.0 ∷ [], sym e.3)) (λ e. ([], append-nil taken ∙ sym e.1)) x

module _ (put taken : List Piece) (s : St) (r : KeptAt put taken s) (id : ℕ) (v : View)
    (at : get_elem? s.views id ≡ some v) where
  -- a view with the same rights and pieces
  puts_kept : (w : View) → w.may_put ≡ v.may_put → w.put ≡ v.put →
      AllViews (set s.views id w) (Puts r.putter put)
  puts_kept w may same =
      all_set (Puts r.putter put) s.views id w (λ j u _ e. r.puts j u e)
      (λ yes. let x = r.puts id v at (sym may ∙ yes) in (x.0, same ∙ x.1))

  takes_kept : (w : View) → w.may_take ≡ v.may_take → w.taken ≡ v.taken →
      AllViews (set s.views id w) (Takes r.taker taken)
  takes_kept w may same =
      all_set (Takes r.taker taken) s.views id w (λ j u _ e. r.takes j u e)
      (λ yes. let x = r.takes id v at (sym may ∙ yes) in (x.0, same ∙ x.1))

  -- where this seat may put, no other may
  others_put_not : v.may_put ≡ true → (j : ℕ) (u : View) → j ≢ id → get_elem? s.views j ≡ some u → u.may_put ≡ false
  others_put_not may j u apart e = off u.may_put (λ yes. apart ((r.puts j u e yes).0 ∙ sym (r.puts id v at may).0))

  others_take_not : v.may_take ≡ true → (j : ℕ) (u : View) → j ≢ id → get_elem? s.views j ≡ some u →
      u.may_take ≡ false
  others_take_not may j u apart e =
      off u.may_take (λ yes. apart ((r.takes j u e yes).0 ∙ sym (r.takes id v at may).0))

  -- a load that notes what it found, and nothing else
  noted : (f : List Bool) (c : List (ℕ × Option Piece)) →
      KeptAt put taken (stepped s 0 (slice_index s.words 0) id c (record v { found = f }) keeps)
  noted f c =
      let w : View = record v { found = f } in
      let t : St = stepped s 0 (slice_index s.words 0) id c w keeps in
      let word : (n : ℕ) → s.words ≡ n ∷ [] → t.words ≡ n ∷ [] =
      λ n e. ap (λ ws. slice_set ws 0 (slice_index ws 0)) e in
      record {
        putter = r.putter;
        taker = r.taker;
        puts = puts_kept w refl refl;
        takes = takes_kept w refl refl;
        slot = slot_elim put taken s
            (λ e. is_empty put taken t
            (word 0 e.0, e.1, e.2, all_set IsIdle s.views id w (λ j u _ x. e.3 j u x) (e.3 id v at)))
            (λ e. is_filling put taken t
            (word 0 e.0, e.1, all_set IsPutting s.views id w (λ j u _ x. e.2 j u x) (e.2 id v at)))
            (λ e. is_full put taken t (
              e.0,
              word 1 e.1,
              e.2,
              e.3,
              all_set IsIdle s.views id w (λ j u _ x. e.4 j u x) (e.4 id v at),
            ))
            (λ e. is_emptying put taken t
            (word 1 e.0, e.1, all_set IsTaking s.views id w (λ j u _ x. e.2 j u x) (e.2 id v at)))
            r.slot;
      }

-- ---- a put asks
module _ (put taken : List Piece) (s : St) (r : KeptAt put taken s) (slots id : ℕ) (me : M)
    (at : get_elem? s.views id ≡ some me.0) (nothing : me.1 ≡ []) (may : me.0.may_put ≡ true) where
  abbrev PutAllows : Type 0
  PutAllows = (w : View) × (a : Act (Option Piece)) × Valid s.homes me.1 a
      × Kept (stepped s 0 (slice_index s.words 0) id me.1 w a)
      × asked_to_put (step slots 0 0 0 none) me (slice_index s.words 0) (w, carried_after me.1 a)

  put_empty : IsEmpty put taken s → PutAllows
  put_empty e =
      let w : View = record me.0 { putting = true; found = me.0.found ++ false ∷ [] } in
      let a : Act (Option Piece) = takes 0 None in
      let t : St = stepped s 0 (slice_index s.words 0) id me.1 w a in (
        w,
        a,
        ap (λ hs. get_elem? hs 0) e.1,
        (
          put,
          taken,
          record {
            putter = r.putter;
            taker = r.taker;
            puts = puts_kept put taken s r id me.0 at w refl refl;
            takes = takes_kept put taken s r id me.0 at w refl refl;
            slot = is_filling put taken t (
              ap (λ ws. slice_set ws 0 (slice_index ws 0)) e.0,
              e.2,
              all_set IsPutting s.views id w
                  (λ j u apart x. (
                    (e.3 j u x).0 ∙ sym (others_put_not put taken s r id me.0 at may j u apart x),
                    (e.3 j u x).1,
                  )) (sym may, (e.3 id me.0 at).1),
            );
          },
        ),
        (
          (λ _. ap (λ c. (w, (0, None) ∷ c)) nothing),
          (λ not. absurd (not (ap (λ ws. slice_index ws 0) e.0))),
        ),
      )

  put_full : slice_index s.words 0 ≡ 1 → PutAllows
  put_full one = (
    record me.0 { found = me.0.found ++ true ∷ [] },
    keeps,
    tt,
    (put, taken, noted put taken s r id me.0 at (me.0.found ++ true ∷ []) me.1),
    ((λ none. one_not_zero (slice_index s.words 0) one none), (λ _. refl)),
  )

pub asks_to_put : (slots id : ℕ) (me : M) → me.1 ≡ [] → me.0.may_put ≡ true → me.0.putting ≡ false →
    Allows Kept slots id me 0 (λ n. n) (asked_to_put (step slots 0 0 0 none) me)
asks_to_put slots id me nothing may free s kept _ at _ =
    let put = kept.0 in
    let taken = kept.1 in
    let r = kept.2 in
    slot_elim put taken s (λ e. put_empty put taken s r slots id me at nothing may e)
    (λ e. not_both me.0.putting ((e.2 id me.0 at).0 ∙ may) free)
    (λ e. put_full put taken s r slots id me at nothing may (ap (λ ws. slice_index ws 0) e.1))
    (λ e. put_full put taken s r slots id me at nothing may (ap (λ ws. slice_index ws 0) e.0)) r.slot

-- ---- a put is counted
put_counted : (put taken : List Piece) (s : St) → KeptAt put taken s → (slots id : ℕ) (me : M) (piece : Piece) →
    length s.homes ≡ 1 → get_elem? s.views id ≡ some me.0 → me.1 ≡ (0, Some piece) ∷ [] → me.0.may_put ≡ true →
    IsFilling put taken s →
    KeptAt (put ++ piece ∷ []) taken
    (stepped s 0 1 id me.1 (record me.0 { put = me.0.put ++ carried me.1; putting = false }) gives)
put_counted put taken s r slots id me piece one at carries may e =
    let put' : List Piece = put ++ piece ∷ [] in
    let w : View = record me.0 { put = me.0.put ++ carried me.1; putting = false } in
    let t : St = stepped s 0 1 id me.1 w gives in
    let mine = r.puts id me.0 at may in
    record {
      putter = r.putter;
      taker = r.taker;
      puts = all_set (Puts r.putter put') s.views id w
          (λ j u apart x yes. not_both u.may_put yes (others_put_not put taken s r id me.0 at may j u apart x))
          (λ _. (mine.0, ap (λ c. me.0.put ++ carried c) carries ∙ ap (λ l. l ++ piece ∷ []) mine.1));
      takes = takes_kept put taken s r id me.0 at w refl refl;
      slot = is_full put' taken t (
        piece,
        ap (λ ws. slice_set ws 0 1) e.0,
        ap (put_back s.homes) carries ∙ set_one s.homes (some (Some piece)) one,
        ap (λ l. l ++ piece ∷ []) e.1,
        all_set IsIdle s.views id w
            (λ j u apart x. (
              (e.2 j u x).0 ∙ others_put_not put taken s r id me.0 at may j u apart x,
              (e.2 j u x).1,
            )) (refl, (e.2 id me.0 at).1),
      );
    }

pub counts_put : (slots id : ℕ) (me : M) (piece : Piece) → slots ≡ 1 → me.1 ≡ (0, Some piece) ∷ [] →
    me.0.may_put ≡ true → me.0.putting ≡ true →
    Allows Kept slots id me 0 (λ _. 1) (λ _. counted_put (step slots 0 1 0 none) me 1)
counts_put slots id me piece one carries may has s kept len at _ =
    let put = kept.0 in
    let taken = kept.1 in
    let r = kept.2 in
    let w : View = record me.0 { put = me.0.put ++ carried me.1; putting = false } in
    let A : Type 0 = KeptAt (put ++ piece ∷ []) taken (stepped s 0 1 id me.1 w gives) in (
      w,
      gives,
      tt,
      (
        put ++ piece ∷ [],
        taken,
        slot_elim {A = A} put taken s (λ e. not_both me.0.putting has (e.3 id me.0 at).0)
            (λ e. put_counted put taken s r slots id me piece (len ∙ one) at carries may e)
            (λ e. not_both me.0.putting has (e.4 id me.0 at).0)
            (λ e. not_both me.0.putting has (e.2 id me.0 at).0) r.slot,
      ),
      ap (λ c. (w, rest c)) carries,
    )

-- ---- a take asks
module _ (put taken : List Piece) (s : St) (r : KeptAt put taken s) (slots id : ℕ) (me : M)
    (at : get_elem? s.views id ≡ some me.0) (nothing : me.1 ≡ []) (may : me.0.may_take ≡ true) where
  abbrev TakeAllows : Type 0
  TakeAllows = (w : View) × (a : Act (Option Piece)) × Valid s.homes me.1 a
      × Kept (stepped s 0 (slice_index s.words 0) id me.1 w a)
      × asked_to_take (step slots 0 0 0 none) me (slice_index s.words 0) (w, carried_after me.1 a)

  take_full : IsFull put taken s → TakeAllows
  take_full e =
      let piece : Piece = e.0 in
      let taken' : List Piece = taken ++ piece ∷ [] in
      let w : View = record me.0 {
        taken = me.0.taken ++ piece ∷ [];
        taking = true;
        found = me.0.found ++ true ∷ [];
      } in
      let a : Act (Option Piece) = takes 0 (Some piece) in
      let t : St = stepped s 0 (slice_index s.words 0) id me.1 w a in
      let mine = r.takes id me.0 at may in (
        w,
        a,
        ap (λ hs. get_elem? hs 0) e.2,
        (
          put,
          taken',
          record {
            putter = r.putter;
            taker = r.taker;
            puts = puts_kept put taken s r id me.0 at w refl refl;
            takes = all_set (Takes r.taker taken') s.views id w
                (λ j u apart x yes. not_both u.may_take yes
                (others_take_not put taken s r id me.0 at may j u apart x))
                (λ _. (mine.0, ap (λ l. l ++ piece ∷ []) mine.1));
            slot = is_emptying put taken' t (
              ap (λ ws. slice_set ws 0 (slice_index ws 0)) e.1,
              e.3,
              all_set IsTaking s.views id w
                  (λ j u apart x. (
                    (e.4 j u x).0,
                    (e.4 j u x).1 ∙ sym (others_take_not put taken s r id me.0 at may j u apart x),
                  )) ((e.4 id me.0 at).0, sym may),
            );
          },
        ),
        (
          (λ _. (piece, ap (λ c. (w, (0, Some piece) ∷ c)) nothing)),
          (λ none. one_not_zero (slice_index s.words 0) (ap (λ ws. slice_index ws 0) e.1) none),
        ),
      )

  take_empty : slice_index s.words 0 ≡ 0 → TakeAllows
  take_empty zero_there = (
    record me.0 { found = me.0.found ++ false ∷ [] },
    keeps,
    tt,
    (put, taken, noted put taken s r id me.0 at (me.0.found ++ false ∷ []) me.1),
    ((λ not. absurd (not zero_there)), (λ _. refl)),
  )

pub asks_to_take : (slots id : ℕ) (me : M) → me.1 ≡ [] → me.0.may_take ≡ true → me.0.taking ≡ false →
    Allows Kept slots id me 0 (λ n. n) (asked_to_take (step slots 0 0 0 none) me)
asks_to_take slots id me nothing may free s kept _ at _ =
    let put = kept.0 in
    let taken = kept.1 in
    let r = kept.2 in
    slot_elim put taken s
    (λ e. take_empty put taken s r slots id me at nothing may (ap (λ ws. slice_index ws 0) e.0))
    (λ e. take_empty put taken s r slots id me at nothing may (ap (λ ws. slice_index ws 0) e.0))
    (λ e. take_full put taken s r slots id me at nothing may e)
    (λ e. not_both me.0.taking ((e.2 id me.0 at).1 ∙ may) free) r.slot

-- ---- a take is counted
take_counted : (put taken : List Piece) (s : St) → KeptAt put taken s → (slots id : ℕ) (me : M) →
    length s.homes ≡ 1 → get_elem? s.views id ≡ some me.0 → me.1 ≡ (0, None) ∷ [] → me.0.may_take ≡ true →
    IsEmptying put taken s → KeptAt put taken (stepped s 0 0 id me.1 (record me.0 { taking = false }) gives)
take_counted put taken s r slots id me one at carries may e =
    let w : View = record me.0 { taking = false } in
    let t : St = stepped s 0 0 id me.1 w gives in
    record {
      putter = r.putter;
      taker = r.taker;
      puts = puts_kept put taken s r id me.0 at w refl refl;
      takes = takes_kept put taken s r id me.0 at w refl refl;
      slot = is_empty put taken t (
        ap (λ ws. slice_set ws 0 0) e.0,
        ap (put_back s.homes) carries ∙ set_one s.homes (some None) one,
        e.1,
        all_set IsIdle s.views id w
            (λ j u apart x. (
              (e.2 j u x).0,
              (e.2 j u x).1 ∙ others_take_not put taken s r id me.0 at may j u apart x,
            )) ((e.2 id me.0 at).0, refl),
      );
    }

pub counts_taken : (slots id : ℕ) (me : M) → slots ≡ 1 → me.1 ≡ (0, None) ∷ [] → me.0.may_take ≡ true →
    me.0.taking ≡ true → Allows Kept slots id me 0 (λ _. 0) (λ _. counted_taken (step slots 0 0 0 none) me 0)
counts_taken slots id me one carries may has s kept len at _ =
    let put = kept.0 in
    let taken = kept.1 in
    let r = kept.2 in
    let w : View = record me.0 { taking = false } in
    let A : Type 0 = KeptAt put taken (stepped s 0 0 id me.1 w gives) in (
      w,
      gives,
      tt,
      (
        put,
        taken,
        slot_elim {A = A} put taken s (λ e. not_both me.0.taking has (e.3 id me.0 at).1)
            (λ e. not_both me.0.taking has (e.2 id me.0 at).1)
            (λ e. not_both me.0.taking has (e.4 id me.0 at).1)
            (λ e. take_counted put taken s r slots id me (len ∙ one) at carries may e) r.slot,
      ),
      ap (λ c. (w, rest c)) carries,
    )

-- ---- a look
pub compares : (slots id : ℕ) (me : M) → Allows Kept slots id me 0 (λ n. n) (compared (step slots 0 0 0 none) me)
compares slots id me s kept _ at _ =
    let put = kept.0 in
    let taken = kept.1 in
    let r = kept.2 in (
      me.0,
      keeps,
      tt,
      (put, taken, noted put taken s r id me.0 at me.0.found me.1),
      (
        refl,
        (λ may_put may_take. subst (λ (l : List Piece). IsPrefix l me.0.put) (sym (r.takes id me.0 at may_take).1)
            (subst (λ (l : List Piece). IsPrefix taken l) (sym (r.puts id me.0 at may_put).1)
            (begins_put put taken s r.slot))),
      ),
    )

-- ---- split
pub parts : (id : ℕ) (v : View) → v.may_put ≡ true → Splits Kept id v (taker_of v) (putter_of v)
parts id v may s kept at =
    let put = kept.0 in
    let taken = kept.1 in
    let r = kept.2 in
    let left : View = taker_of v in
    let right : View = putter_of v in
    let views : List View = set s.views id left in
    let t : St = record { words = s.words; homes = s.homes; views = views ++ right ∷ [] } in
    let all : (P : ℕ → View → Type 0) → ((j : ℕ) (u : View) → j ≢ id → get_elem? s.views j ≡ some u → P j u) →
    P id left → P (length views) right → AllViews t.views P =
    λ P others mine new. all_snoc P views right (all_set P s.views id left others mine) new in (
      put,
      taken,
      record {
        putter = length views;
        taker = r.taker;
        puts = all (Puts (length views) put)
            (λ j u apart x yes. not_both u.may_put yes (others_put_not put taken s r id v at may j u apart x))
            (λ yes. absurd (true≢false (sym yes))) (λ _. (refl, (r.puts id v at may).1));
        takes = all (Takes r.taker taken) (λ j u _ x. r.takes j u x) (r.takes id v at)
            (λ yes. absurd (true≢false (sym yes)));
        slot = slot_elim put taken s
            (λ e. is_empty put taken t (
              e.0,
              e.1,
              e.2,
              all IsIdle (λ j u _ x. e.3 j u x) (refl, (e.3 id v at).1) ((e.3 id v at).0, refl),
            ))
            (λ e. is_filling put taken t (
              e.0,
              e.1,
              all IsPutting (λ j u _ x. e.2 j u x) (refl, (e.2 id v at).1) ((e.2 id v at).0, refl),
            ))
            (λ e. is_full put taken t (
              e.0,
              e.1,
              e.2,
              e.3,
              all IsIdle (λ j u _ x. e.4 j u x) (refl, (e.4 id v at).1) ((e.4 id v at).0, refl),
            ))
            (λ e. is_emptying put taken t (
              e.0,
              e.1,
              all IsTaking (λ j u _ x. e.2 j u x) (refl, (e.2 id v at).1) ((e.2 id v at).0, refl),
            ))
            r.slot;
      },
    )

-- ---- join
pub joins : (id : ℕ) (v : View) (other : ℕ) (w : View) → w.may_put ≡ true →
    Joins Kept id v other w (joined v w) spent
joins id v other w may s kept at apart there =
    let put = kept.0 in
    let taken = kept.1 in
    let r = kept.2 in
    let both : View = joined v w in
    let middle : List View = set s.views id both in
    let was : get_elem? s.views other ≡ some w = sym (set_else s.views id other both apart) ∙ there in
    let t : St = record { words = s.words; homes = s.homes; views = set middle other spent } in
    let all : (P : ℕ → View → Type 0) → ((j : ℕ) (u : View) → j ≢ other → get_elem? s.views j ≡ some u → P j u) →
    P id both → P other spent → AllViews t.views P =
    λ P others mine gone. all_set P middle other spent
    (λ j u away e. all_set (λ i x. i ≢ other → P i x) s.views id both (λ i x _ d off_other. others i x off_other d)
    (λ _. mine) j u e away) gone in (
      put,
      taken,
      record {
        putter = id;
        taker = r.taker;
        puts = all (Puts id put)
            (λ j u away x yes. not_both u.may_put yes (others_put_not put taken s r other w was may j u away x))
            (λ _. (refl, (r.puts other w was may).1)) (λ yes. absurd (true≢false (sym yes)));
        takes = all (Takes r.taker taken) (λ j u _ x. r.takes j u x) (r.takes id v at)
            (λ yes. absurd (true≢false (sym yes)));
        slot = slot_elim put taken s
            (λ e. is_empty put taken t (
              e.0,
              e.1,
              e.2,
              all IsIdle (λ j u _ x. e.3 j u x) ((e.3 other w was).0, (e.3 id v at).1) (refl, refl),
            ))
            (λ e. is_filling put taken t (
              e.0,
              e.1,
              all IsPutting (λ j u _ x. e.2 j u x) ((e.2 other w was).0, (e.2 id v at).1) (refl, refl),
            ))
            (λ e. is_full put taken t (
              e.0,
              e.1,
              e.2,
              e.3,
              all IsIdle (λ j u _ x. e.4 j u x) ((e.4 other w was).0, (e.4 id v at).1) (refl, refl),
            ))
            (λ e. is_emptying put taken t (
              e.0,
              e.1,
              all IsTaking (λ j u _ x. e.2 j u x) ((e.2 other w was).0, (e.2 id v at).1) (refl, refl),
            ))
            r.slot;
      },
    )

-- ---- the table at the start
pub begins : Kept (opening (0 ∷ []) (None ∷ []) first)
begins = (
  [],
  [],
  record {
    putter = 0;
    taker = 0;
    puts = one (Puts 0 []) (λ _. (refl, refl));
    takes = one (Takes 0 []) (λ _. (refl, refl));
    slot = inl (inl (refl, refl, refl, one IsIdle (refl, refl)));
  },
)
  where
    one : (P : ℕ → View → Type 0) → P 0 first → AllViews (first ∷ []) P
    one P p zero v e = subst (P 0) (some-injective _ _ e) p
    one P p (suc j) v e = absurd (some-ne-none v (sym e))
