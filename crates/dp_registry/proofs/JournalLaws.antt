-- What is kept stays what the journal says.
use Rattle.std.proofs.Common.{◌≡◌, ◌==◌, ℕ, zero, suc, ◌+◌, ◌-◌, ◌<◌, ◌≤◌, nat_lt, Bool, true, false, not, ◌&&◌, ◌||◌}
use Rattle.std.proofs.Common.{if◌then◌else◌, List, [], ◌∷◌, ◌++◌, length, filter, Option, Some, None, slice_get}
use Rattle.std.proofs.Common.{Contains, refl, sym, ap, subst, ◌∙◌, inl, inr, arith}
use Rattle.std.proofs.lemmas.Option.{same_Some}
use Rattle.std.proofs.lemmas.List.{append-nil, append_assoc, length_push}
use Rattle.std.proofs.lemmas.List.Elements.{Contains-push, Contains-push_cases}
use Rattle.std.proofs.lemmas.Bool.Decides.{nat_tests}
use Rattle.std.specs.Str.{bytes_eq}
use Rattle.dp_registry.specs.declared.entry.Entry.{Entry}
use Rattle.dp_registry.specs.declared.entry.Entry.TheVariants.{Register, Stop, Admit, Dismiss}
use Rattle.dp_registry.specs.declared.entry.AdmitReply.TheVariants.{Given}
use Rattle.dp_registry.specs.Journal.{IsNew}
use Rattle.dp_registry.specs.Journal.{decides, registrant, holder, given, given_under, is_live}
use Rattle.dp_registry.specs.Journal.{live, live_under, next_session, least}
use Rattle.dp_registry.specs.Legal.{IsFit, AreFit, IsLegal}
use Rattle.dp_registry.specs.Verdicts.{is_full, is_crowded, load, most_entries, most_live}
use Rattle.dp_registry.specs.inner.Kept.{IsKept, IsIdle, IsWithin, entry_at, admitted_key}
use Rattle.dp_registry.specs.inner.Tables.{place_of, sessions_of}
use Rattle.dp_registry.proofs.Keys.{itself, same_key}
use Rattle.dp_registry.proofs.Lists.{get_push, get_end, get_before, into_filter, from_filter, nowhere}
use Rattle.dp_registry.proofs.Lists.{rising_filter, first_is_least, without, one_less}
use Rattle.dp_registry.proofs.Appends.{IsQuiet, idle_quiet, idle_decides, holder_stays, holder_decided}
use Rattle.dp_registry.proofs.Appends.{quiet_given, quiet_live}
use Rattle.dp_registry.proofs.Appends.{quiet_live_under, dismissed_given, dismissed_live, dismissed_live_under}
use Rattle.dp_registry.proofs.Appends.{given_somewhere}
use Rattle.dp_registry.proofs.Numbers.{quiet_numbered, below_next, live_more, given_more, under_more, under_same}
use Rattle.dp_registry.proofs.Numbers.{numbered_more, numbered_less, numbered_none}

and_true : (b : Bool) → (b && true) ≡ b
and_true true = refl
and_true false = refl

or_left : (a b : Bool) → (a || b) ≡ false → a ≡ false
or_left true b h = h
or_left false b h = refl

or_right : (a b : Bool) → (a || b) ≡ false → b ≡ false
or_right true b h = cc
or_right false b h = h

-- ---- legal
are_fit_push : (before rest : List Entry) (e : Entry) → AreFit before rest → IsFit (before ++ rest) e →
    AreFit before (rest ++ e ∷ [])
are_fit_push before [] e h f = (subst (λ l. IsFit l e) (append-nil before) f, tt)
are_fit_push before (x ∷ xs) e h f =
    (h.0, are_fit_push (before ++ x ∷ []) xs e h.1 (subst (λ l. IsFit l e) (sym (append_assoc before (x ∷ []) xs)) f))

pub legal_push : (j : List Entry) (e : Entry) → IsLegal j → IsFit j e → load (j ++ e ∷ []) ≤ most_entries →
    length (live (j ++ e ∷ [])) ≤ most_live → IsLegal (j ++ e ∷ [])
legal_push j e h f within few = record { fit = are_fit_push [] j e h.fit f; within = within; few = few }

-- ---- places
place_stays : (j : List Entry) (e : Entry) (p : Option ℕ) → IsWithin (length j) p →
    entry_at (j ++ e ∷ []) p ≡ entry_at j p
place_stays j e None h = refl
place_stays j e (Some at) h = get_before j e at h

within_more : (n m : ℕ) (p : Option ℕ) → n ≤ m → IsWithin n p → IsWithin m p
within_more n m None le h = tt
within_more n m (Some at) le h = omega arith

owner_stays : (j : List Entry) (e : Entry) (p : Option ℕ) (key : List ℕ) → admitted_key (entry_at j p) ≡ Some key →
    admitted_key (entry_at (j ++ e ∷ []) p) ≡ Some key
owner_stays j e None key h = h
owner_stays j e (Some at) key h = by (slice_get j at) refl
  where
    by : (o : Option Entry) → slice_get j at ≡ o → admitted_key (slice_get (j ++ e ∷ []) at) ≡ Some key
    by None is = let no : admitted_key None ≡ Some key = rw is at h in cc
    by (Some x) is = let was : admitted_key (Some x) ≡ Some key = rw is at h in
        ap admitted_key (get_push j e x at is) ∙ was

admitted_within : (j : List Entry) (at : ℕ) (key : List ℕ) → admitted_key (slice_get j at) ≡ Some key → at < length j
admitted_within [] at key h = cc
admitted_within (e ∷ j) zero key h = omega arith
admitted_within (e ∷ j) (suc at) key h = let lt = admitted_within j at key h in omega arith

-- ---- entries that leave the sessions
module _ (j : List Entry) (held : List (List ℕ × ℕ)) (under : List (List ℕ × List ℕ)) (admissions : List ℕ) (living : ℕ)
    (kept : IsKept j held under admissions living) where
  room : is_full j ≡ false → load j + 1 ≤ most_entries
  room h = grind (arith, nat_tests)

  kept_quiet : (e : Entry) (now : List (List ℕ × ℕ)) → IsFit j e → is_full j ≡ false → IsQuiet e →
      ((key : List ℕ) → holder (j ++ e ∷ []) key ≡ registrant (entry_at (j ++ e ∷ []) (place_of now key))) →
      ((key : List ℕ) → IsWithin (length (j ++ e ∷ [])) (place_of now key)) →
      IsKept (j ++ e ∷ []) now under admissions living
  kept_quiet e now fit free quiet holders places =
      let longer = length_push j e in
      let same : length (live (j ++ e ∷ [])) ≡ length (live j) = ap length (quiet_live j e quiet) in
      let space = room free in
      let few = kept.legal.few in
      record {
        legal = legal_push j e kept.legal fit (omega arith) (omega arith);
        numbered = quiet_numbered j e quiet kept.numbered;
        holders = holders;
        places = places;
        sessions = λ key. kept.sessions key ∙ sym (quiet_live_under j e quiet key);
        as_many = kept.as_many ∙ ap length (sym (quiet_given j e quiet));
        owners = λ key s is. owner_stays j e (slice_get admissions (s - 1)) key (kept.owners key s (subst
            (λ ns. Contains ns s) (quiet_live_under j e quiet key) is));
        count = kept.count ∙ sym same;
      }

  holder_kept : (e : Entry) (key : List ℕ) → decides key e ≡ false →
      holder (j ++ e ∷ []) key ≡ registrant (entry_at (j ++ e ∷ []) (place_of held key))
  holder_kept e key h = holder_stays j e key h ∙ kept.holders key
      ∙ ap registrant (sym (place_stays j e (place_of held key) (kept.places key)))

  place_kept : (e : Entry) (key : List ℕ) → IsWithin (length (j ++ e ∷ [])) (place_of held key)
  place_kept e key = let longer = length_push j e in
      within_more (length j) (length (j ++ e ∷ [])) (place_of held key) (omega arith) (kept.places key)

  pub kept_idle : (e : Entry) → IsFit j e → IsIdle e → is_full j ≡ false →
      IsKept (j ++ e ∷ []) held under admissions living
  kept_idle e fit idle free = kept_quiet e held fit free (idle_quiet e idle) (λ key. holder_kept e key
      (idle_decides e key idle)) (place_kept e)

  -- an entry decides who holds one key, and the place for it is another
  module _ (e : Entry) (k : List ℕ) (place : Option ℕ) (now : List (List ℕ × ℕ)) (decided : (key : List ℕ) →
      decides key e ≡ bytes_eq k key)
      (said : registrant (entry_at (j ++ e ∷ []) place) ≡ registrant (Some e)) (inside : IsWithin (length
      (j ++ e ∷ [])) place)
      (moved : (key : List ℕ) → place_of now key ≡ (if bytes_eq k key then place else place_of held key)) where
    holder_moved : (key : List ℕ) (b : Bool) → bytes_eq k key ≡ b →
        holder (j ++ e ∷ []) key ≡ registrant (entry_at (j ++ e ∷ []) (place_of now key))
    holder_moved key true h =
        let at : place_of now key ≡ place = moved key ∙ ap (λ b. if b then place else place_of held key) h in
        holder_decided j e key (decided key ∙ h) ∙ sym (ap (λ p. registrant (entry_at (j ++ e ∷ []) p)) at ∙ said)
    holder_moved key false h =
        let at : place_of now key ≡ place_of held key = moved key
        ∙ ap (λ b. if b then place else place_of held key) h in
        holder_kept e key (decided key ∙ h) ∙ sym (ap (λ p. registrant (entry_at (j ++ e ∷ []) p)) at)

    place_moved : (key : List ℕ) (b : Bool) → bytes_eq k key ≡ b → IsWithin (length (j ++ e ∷ [])) (place_of now key)
    place_moved key true h =
        let at : place_of now key ≡ place = moved key ∙ ap (λ b. if b then place else place_of held key) h in
        subst (IsWithin (length (j ++ e ∷ []))) (sym at) inside
    place_moved key false h =
        let at : place_of now key ≡ place_of held key = moved key
        ∙ ap (λ b. if b then place else place_of held key) h in
        subst (IsWithin (length (j ++ e ∷ []))) (sym at) (place_kept e key)

    kept_moved : IsFit j e → is_full j ≡ false → IsQuiet e → IsKept (j ++ e ∷ []) now under admissions living
    kept_moved fit free quiet =
        kept_quiet e now fit free quiet (λ key. holder_moved key (bytes_eq k key) refl) (λ key. place_moved key
        (bytes_eq k key) refl)

  pub kept_held : (host : List ℕ) (port : ℕ) (k : List ℕ) (multiple : Bool) (now : List (List ℕ × ℕ)) →
      IsFit j (Register host port k multiple 0) → is_full j ≡ false →
      ((key : List ℕ) → place_of now key ≡ (if bytes_eq k key then Some (length j) else place_of held key)) →
      IsKept (j ++ Register host port k multiple 0 ∷ []) now under admissions living
  kept_held host port k multiple now fit free moved =
      let e : Entry = Register host port k multiple 0 in
      let longer = length_push j e in
      kept_moved e k (Some (length j)) now (λ key. and_true (bytes_eq k key)) (ap registrant (get_end j e))
      (omega arith) moved fit free
      (record { gift = refl; under = λ key. refl; dismisses = λ s. refl })

  pub kept_released : (host k : List ℕ) (now : List (List ℕ × ℕ)) → IsFit j (Stop host k 0) → is_full j ≡ false →
      ((key : List ℕ) → place_of now key ≡ (if bytes_eq k key then None else place_of held key)) →
      IsKept (j ++ Stop host k 0 ∷ []) now under admissions living
  kept_released host k now fit free moved =
      kept_moved (Stop host k 0) k None now (λ key. and_true (bytes_eq k key)) refl tt moved fit free
      (record { gift = refl; under = λ key. refl; dismisses = λ s. refl })

  pub first_least : (key : List ℕ) → slice_get (sessions_of under key) 0 ≡ least (live_under key j)
  first_least key = ap (λ ns. slice_get ns 0) (kept.sessions key)
      ∙ first_is_least (live_under key j) (kept.numbered.rising_under key)

  -- the next number is above all that were given
  pub next_is_new : IsNew j (next_session j)
  next_is_new = record { above = λ s is. let low = (kept.numbered.below s is).1 in omega arith }

  -- ---- a session more
  module _ (k : List ℕ) (s : ℕ) (host : List ℕ) (port : ℕ) (next : s ≡ next_session j)
      (free : is_crowded j ≡ false) where
    abbrev e : Entry
    e = Admit k (Given s host port)

    module _ (key : List ℕ) (t : ℕ) where
      abbrev Owned : Type 0
      Owned = admitted_key (entry_at (j ++ e ∷ []) (slice_get (admissions ++ length j ∷ []) (t - 1))) ≡ Some key

      owned_old : Contains (live_under key j) t → Owned
      owned_old is =
          let b = below_next j kept.numbered key t is in
          let low = b.0 in
          let high = b.1 in
          let many = kept.as_many in
          let at : slice_get (admissions ++ length j ∷ []) (t - 1) ≡ slice_get admissions (t - 1) =
          get_before admissions (length j) (t - 1) (omega arith) in
          ap (λ p. admitted_key (entry_at (j ++ e ∷ []) p)) at
          ∙ owner_stays j e (slice_get admissions (t - 1)) key (kept.owners key t is)

      owned_new : bytes_eq k key ≡ true → s ≡ t → Owned
      owned_new h same =
          let many = kept.as_many in
          let last : t - 1 ≡ length admissions = omega arith in
          let at : slice_get (admissions ++ length j ∷ []) (t - 1) ≡ Some (length j) =
          ap (slice_get (admissions ++ length j ∷ [])) last ∙ get_end admissions (length j) in
          ap (λ p. admitted_key (entry_at (j ++ e ∷ []) p)) at ∙ ap admitted_key (get_end j e)
          ∙ ap (λ (x : List ℕ). let o : Option (List ℕ) = Some x in o) (same_key k key h)

      owned : (b : Bool) → bytes_eq k key ≡ b → Contains (live_under key (j ++ e ∷ [])) t → Owned
      owned true h is = elim (Contains-push_cases (live_under key j) s t (subst (λ ns. Contains ns t)
          (under_more j kept.numbered k s host port next key h) is)) [
            | inl old ↦ owned_old old
            | inr new ↦ owned_new h new
          ]
      owned false h is =
          owned_old (subst (λ ns. Contains ns t) (under_same j kept.numbered k s host port next key h) is)

    -- it is live then
    pub given_lives : Contains (live (j ++ Admit k (Given s host port) ∷ [])) s
    given_lives =
        subst (λ ns. Contains ns s) (sym (live_more j kept.numbered k s host port next)) (Contains-push (live j) s)

    pub kept_given : (now : List (List ℕ × List ℕ)) → IsFit j (Admit k (Given s host port)) →
        ((key : List ℕ) → sessions_of now key ≡ (if bytes_eq k key then sessions_of under key ++ s ∷ [] else
        sessions_of under key)) →
        IsKept (j ++ Admit k (Given s host port) ∷ []) held now (admissions ++ length j ∷ []) (living + 1)
    kept_given now fit more =
        let longer = length_push j e in
        let larger : length (live (j ++ e ∷ [])) ≡ length (live j) + 1 =
        ap length (live_more j kept.numbered k s host port next) ∙ length_push (live j) s in
        let space : load j + 2 ≤ most_entries = let h : nat_lt most_entries (load j + 2) ≡ false =
        or_left (nat_lt most_entries (load j + 2)) (length (live j) == most_live) free in
        grind (arith, nat_tests) in
        let few : length (live j) + 1 ≤ most_live = let h : (length (live j) == most_live) ≡ false =
        or_right (nat_lt most_entries (load j + 2)) (length (live j) == most_live) free in let most =
        kept.legal.few in grind (arith, nat_tests) in
        record {
          legal = legal_push j e kept.legal fit (omega arith) (omega arith);
          numbered = (numbered_more j kept.numbered k s host port next);
          holders = λ key. holder_kept e key refl;
          places = place_kept e;
          sessions = λ key. more key ∙ by key now (bytes_eq k key) refl;
          as_many = length_push admissions (length j) ∙ ap (λ n. n + 1) kept.as_many
              ∙ sym (ap length (given_more j kept.numbered k s host port next) ∙ length_push (given j) s);
          owners = λ key t is. owned key t (bytes_eq k key) refl is;
          count = ap (λ n. n + 1) kept.count ∙ sym larger;
        }
      where
        by : (key : List ℕ) (now : List (List ℕ × List ℕ)) (b : Bool) → bytes_eq k key ≡ b →
            (if bytes_eq k key then sessions_of under key ++ s ∷ [] else sessions_of under key) ≡ live_under key
            (j ++ e ∷ [])
        by key now true h = rw h (ap (λ ns. ns ++ s ∷ []) (kept.sessions key)
            ∙ sym (under_more j kept.numbered k s host port next key h))
        by key now false h = rw h (kept.sessions key ∙ sym (under_same j kept.numbered k s host port next key h))

  -- ---- a session less
  module _ (t : ℕ) (is : Contains (live j) t) where
    pub dismissed_number : (1 ≤ t) × (t - 1 < length admissions)
    dismissed_number =
        let b = kept.numbered.below t (from_filter (is_live j) (given j) t is).0 in
        let low = b.0 in
        let high = b.1 in
        let many = kept.as_many in
        (low, omega arith)

    dismissed_key : (key : List ℕ) × (admitted_key (entry_at j (slice_get admissions (t - 1))) ≡ Some key)
    dismissed_key =
        let f = from_filter (is_live j) (given j) t is in
        let u = given_somewhere j t f.0 in
        (u.0, kept.owners u.0 t (into_filter (is_live j) (given_under u.0 j) t u.1 f.1))

    -- the place of the session's admission, which names its key
    pub dismissed_at : (at : ℕ) → slice_get admissions (t - 1) ≡ Some at →
        (key : List ℕ) × (admitted_key (entry_at j (slice_get admissions (t - 1))) ≡ Some key) × (admitted_key
        (slice_get j at) ≡ Some key) × (at < length j)
    dismissed_at at there =
        let owner = dismissed_key in
        let own : admitted_key (slice_get j at) ≡ Some owner.0 = ap (λ p. admitted_key (entry_at j p)) (sym there)
        ∙ owner.1 in
        (owner.0, owner.1, own, admitted_within j at owner.0 own)

    fewer : length (live (j ++ Dismiss t ∷ [])) + 1 ≡ length (live j)
    fewer =
        ap (λ ns. length ns + 1) (dismissed_live j t)
        ∙ one_less t (live j) (rising_filter (is_live j) (given j) kept.numbered.rising) is

    pub one_live : 1 ≤ living
    one_live = let less = fewer in let count = kept.count in omega arith

    module _ (k : List ℕ) (owner : admitted_key (entry_at j (slice_get admissions (t - 1))) ≡ Some k) where
      apart : (key : List ℕ) → bytes_eq k key ≡ false → Contains (live_under key j) t → ⊥
      apart key h has =
          let other = kept.owners key t has in
          let same : k ≡ key = same_Some k key (sym owner ∙ other) in
          let yes : bytes_eq k key ≡ true = subst (λ (x : List ℕ). bytes_eq k x ≡ true) same (itself k) in
          cc

      pub kept_dismissed : (now : List (List ℕ × List ℕ)) (left : ℕ) → left + 1 ≡ living →
          ((key : List ℕ) → sessions_of now key ≡ (if bytes_eq k key then filter (λ s. not (t == s))
          (sessions_of under key) else sessions_of under key)) →
          IsKept (j ++ Dismiss t ∷ []) held now admissions left
      kept_dismissed now left one gone =
          let longer = length_push j (Dismiss t) in
          let less = fewer in
          let within = kept.legal.within in
          let few = kept.legal.few in
          let count = kept.count in
          record {
            legal = legal_push j (Dismiss t) kept.legal is (omega arith) (omega arith);
            numbered = numbered_less j kept.numbered t is;
            holders = λ key. holder_kept (Dismiss t) key refl;
            places = place_kept (Dismiss t);
            sessions = λ key. gone key ∙ by key (bytes_eq k key) refl ∙ sym (dismissed_live_under j t key);
            as_many = kept.as_many ∙ ap length (sym (dismissed_given j t));
            owners = λ key s has. owner_stays j (Dismiss t) (slice_get admissions (s - 1)) key
                (kept.owners key s (from_filter (λ n. not (t == n)) (live_under key j) s (subst
                (λ ns. Contains ns s) (dismissed_live_under j t key) has)).0);
            count = omega arith;
          }
        where
          by : (key : List ℕ) (b : Bool) → bytes_eq k key ≡ b →
              (if bytes_eq k key then filter (λ s. not (t == s))
              (sessions_of under key) else sessions_of under key) ≡ filter (λ s. not (t == s)) (live_under key j)
          by key true h = rw h (ap (filter (λ s. not (t == s))) (kept.sessions key))
          by key false h = rw h (kept.sessions key ∙ sym (without t (live_under key j) (apart key h)))

-- ---- no call yet
kept_none : IsKept [] [] [] [] 0
kept_none = record {
  legal = record { fit = tt; within = omega arith; few = omega arith };
  numbered = numbered_none;
  holders = λ key. refl;
  places = λ key. tt;
  sessions = λ key. refl;
  as_many = refl;
  owners = λ key s is. absurd (nowhere s is);
  count = refl;
}

pub kept_new : (j : List Entry) (held : List (List ℕ × ℕ)) (under : List (List ℕ × List ℕ)) (admissions : List ℕ) →
    j ≡ [] → held ≡ [] → under ≡ [] → admissions ≡ [] →
    IsKept j held under admissions 0
kept_new j held under admissions h g f e = rw (h, g, f, e) kept_none
