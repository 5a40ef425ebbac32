-- What a journal says with one entry more.
use Rattle.std.proofs.Common.{◌≡◌, ◌==◌, ℕ, zero, suc, ◌≤◌, Bool, true, false, not, ◌&&◌, ◌||◌, List, [], ◌∷◌, ◌++◌}
use Rattle.std.proofs.Common.{filter, Some, None, Contains, refl, ap, ◌∙◌, inl, inr, arith}
use Rattle.std.proofs.lemmas.Bool.Decides.{nat_tests}
use Rattle.std.proofs.lemmas.List.{append-nil}
use Rattle.std.proofs.lemmas.List.Concat.{flat_map-append}
use Rattle.std.proofs.lemmas.List.Elements.{Contains-append_left, Contains-append_right, Contains-append_cases}
use Rattle.std.proofs.lemmas.List.Elements.{filter-append, filter_agree}
use Rattle.std.proofs.lemmas.List.Folds.{list_any-append}
use Rattle.std.specs.List.{last_or, list_any}
use Rattle.std.specs.Str.{bytes_eq}
use Rattle.dp_registry.specs.declared.entry.Entry.{Entry}
use Rattle.dp_registry.specs.declared.entry.Entry.TheVariants.{Register, Stop, Admit, Dismiss}
use Rattle.dp_registry.specs.declared.entry.AdmitReply.TheVariants.{Given, Unknown, Busy}
use Rattle.dp_registry.specs.Journal.{decides, registrant, holder, gift, gift_under, dismisses, given, given_under}
use Rattle.dp_registry.specs.Journal.{is_live, live, live_under}
use Rattle.dp_registry.specs.inner.Kept.{IsIdle}
use Rattle.dp_registry.proofs.Keys.{itself}
use Rattle.dp_registry.proofs.Lists.{last_push, nowhere, filter_twice}

and_false : (b : Bool) → b && false ≡ false
and_false true = refl
and_false false = refl

or_false : (b : Bool) → b || false ≡ b
or_false true = refl
or_false false = refl

-- the entry gives and dismisses nothing
pub record IsQuiet (e : Entry) : Type 0 where
  pub gift : gift e ≡ []
  pub under : (key : List ℕ) → gift_under key e ≡ []
  pub dismisses : (s : ℕ) → dismisses s e ≡ false

pub idle_quiet : (e : Entry) → IsIdle e → IsQuiet e
idle_quiet (Register host port key multiple reply) h = record { gift = refl; under = λ k. refl; dismisses = λ s. refl }
idle_quiet (Stop host key reply) h = record { gift = refl; under = λ k. refl; dismisses = λ s. refl }
idle_quiet (Admit key (Given session host port)) h = absurd h
idle_quiet (Admit key Unknown) h = record { gift = refl; under = λ k. refl; dismisses = λ s. refl }
idle_quiet (Admit key (Busy session)) h = record { gift = refl; under = λ k. refl; dismisses = λ s. refl }
idle_quiet (Dismiss session) h = absurd h

refused : (b : Bool) (reply : ℕ) → 1 ≤ reply → (b && (reply == 0)) ≡ false
refused b zero h = absurd (omega arith)
refused b (suc n) h = let e : (suc n == 0) ≡ false = grind (arith, nat_tests) in ap (λ c. b && c) e ∙ and_false b

pub idle_decides : (e : Entry) (key : List ℕ) → IsIdle e → decides key e ≡ false
idle_decides (Register host port k multiple reply) key h = refused (bytes_eq k key) reply h
idle_decides (Stop host k reply) key h = refused (bytes_eq k key) reply h
idle_decides (Admit k reply) key h = refl
idle_decides (Dismiss session) key h = refl

module _ (j : List Entry) (e : Entry) where
  -- ---- who holds a key
  pub holder_stays : (key : List ℕ) → decides key e ≡ false → holder (j ++ e ∷ []) key ≡ holder j key
  holder_stays key h =
      let one : filter (decides key) (e ∷ []) ≡ [] = rw h refl in
      ap (λ es. registrant (last_or None es)) (filter-append (decides key) j (e ∷ [])
      ∙ ap (λ es. filter (decides key) j ++ es) one ∙ append-nil (filter (decides key) j))

  pub holder_decided : (key : List ℕ) → decides key e ≡ true → holder (j ++ e ∷ []) key ≡ registrant (Some e)
  holder_decided key h =
      let one : filter (decides key) (e ∷ []) ≡ e ∷ [] = rw h refl in
      ap (λ es. registrant (last_or None es)) (filter-append (decides key) j (e ∷ [])
      ∙ ap (λ es. filter (decides key) j ++ es) one)
      ∙ ap registrant (last_push None (filter (decides key) j) e)

  -- ---- sessions
  pub given_push : given (j ++ e ∷ []) ≡ given j ++ gift e
  given_push = flat_map-append gift j (e ∷ []) ∙ ap (λ ns. given j ++ ns) (append-nil (gift e))

  pub given_under_push : (key : List ℕ) → given_under key (j ++ e ∷ []) ≡ given_under key j ++ gift_under key e
  given_under_push key = flat_map-append (gift_under key) j (e ∷ [])
      ∙ ap (λ ns. given_under key j ++ ns) (append-nil (gift_under key e))

  any_push : (s : ℕ) → list_any (dismisses s) (j ++ e ∷ []) ≡ (list_any (dismisses s) j || dismisses s e)
  any_push s = list_any-append (dismisses s) j (e ∷ [])
      ∙ ap (λ b. list_any (dismisses s) j || b) (or_false (dismisses s e))

  pub dismissed_before : (s : ℕ) → dismisses s e ≡ false →
      list_any (dismisses s) (j ++ e ∷ []) ≡ list_any (dismisses s) j
  dismissed_before s h = any_push s ∙ ap (λ b. list_any (dismisses s) j || b) h ∙ or_false (list_any (dismisses s) j)

  module _ (none : (s : ℕ) → dismisses s e ≡ false) where
    lives_on : (s : ℕ) → is_live (j ++ e ∷ []) s ≡ is_live j s
    lives_on s = ap not (dismissed_before s (none s))

    pub live_push : live (j ++ e ∷ []) ≡ live j ++ filter (is_live j) (gift e)
    live_push =
        filter_agree (is_live (j ++ e ∷ [])) (is_live j) lives_on (given (j ++ e ∷ []))
        ∙ ap (filter (is_live j)) given_push ∙ filter-append (is_live j) (given j) (gift e)

    pub live_under_push : (key : List ℕ) → live_under key (j ++ e ∷ []) ≡ live_under key j ++ filter (is_live j)
        (gift_under key e)
    live_under_push key =
        filter_agree (is_live (j ++ e ∷ [])) (is_live j) lives_on (given_under key (j ++ e ∷ []))
        ∙ ap (filter (is_live j)) (given_under_push key)
        ∙ filter-append (is_live j) (given_under key j) (gift_under key e)

  module _ (quiet : IsQuiet e) where
    pub quiet_given : given (j ++ e ∷ []) ≡ given j
    quiet_given = given_push ∙ ap (λ ns. given j ++ ns) quiet.gift ∙ append-nil (given j)

    pub quiet_live : live (j ++ e ∷ []) ≡ live j
    quiet_live = live_push quiet.dismisses ∙ ap (λ ns. live j ++ filter (is_live j) ns) quiet.gift ∙ append-nil (live j)

    pub quiet_live_under : (key : List ℕ) → live_under key (j ++ e ∷ []) ≡ live_under key j
    quiet_live_under key = live_under_push quiet.dismisses key
        ∙ ap (λ ns. live_under key j ++ filter (is_live j) ns) (quiet.under key) ∙ append-nil (live_under key j)

-- ---- a dismissal
module _ (j : List Entry) (t : ℕ) where
  not_or : (a b : Bool) → not (a || b) ≡ (not a && not b)
  not_or true b = refl
  not_or false b = refl

  ends : (s : ℕ) → is_live (j ++ Dismiss t ∷ []) s ≡ (is_live j s && not (t == s))
  ends s = ap not (any_push j (Dismiss t) s) ∙ not_or (list_any (dismisses s) j) (t == s)

  pub dismissed_given : given (j ++ Dismiss t ∷ []) ≡ given j
  dismissed_given = given_push j (Dismiss t) ∙ append-nil (given j)

  without_one : (ns : List ℕ) → filter (is_live (j ++ Dismiss t ∷ [])) ns ≡ filter (λ s. not (t == s)) (filter
      (is_live j) ns)
  without_one ns = filter_agree (is_live (j ++ Dismiss t ∷ [])) (λ s. is_live j s && not (t == s)) ends ns
      ∙ filter_twice (is_live j) (λ s. not (t == s)) ns

  pub dismissed_live : live (j ++ Dismiss t ∷ []) ≡ filter (λ s. not (t == s)) (live j)
  dismissed_live = ap (filter (is_live (j ++ Dismiss t ∷ []))) dismissed_given ∙ without_one (given j)

  pub dismissed_live_under : (key : List ℕ) →
      live_under key (j ++ Dismiss t ∷ []) ≡ filter (λ s. not (t == s)) (live_under key j)
  dismissed_live_under key =
      ap (filter (is_live (j ++ Dismiss t ∷ []))) (given_under_push j (Dismiss t) key
      ∙ append-nil (given_under key j)) ∙ without_one (given_under key j)

-- ---- which session was given under which key
under_one : (e : Entry) (s : ℕ) (key : List ℕ) → Contains (gift_under key e) s → Contains (gift e) s
under_one (Register host port k multiple reply) s key is = absurd (nowhere s is)
under_one (Stop host k reply) s key is = absurd (nowhere s is)
under_one (Admit k (Given session host port)) s key is = by (bytes_eq k key) refl
  where
    by : (b : Bool) → bytes_eq k key ≡ b → Contains (session ∷ []) s
    by true e = rw e at is
    by false e = absurd (nowhere s (rw e at is))
under_one (Admit k Unknown) s key is = absurd (nowhere s is)
under_one (Admit k (Busy session)) s key is = absurd (nowhere s is)
under_one (Dismiss session) s key is = absurd (nowhere s is)

pub under_given : (j : List Entry) (s : ℕ) (key : List ℕ) → Contains (given_under key j) s → Contains (given j) s
under_given [] s key is = absurd (nowhere s is)
under_given (e ∷ j) s key is = elim (Contains-append_cases (gift_under key e) (given_under key j) s is) [
  | inl one ↦ Contains-append_left (gift e) (given j) s (under_one e s key one)
  | inr more ↦ Contains-append_right (gift e) (given j) s (under_given j s key more)
]

one_under : (e : Entry) (s : ℕ) → Contains (gift e) s → (key : List ℕ) × Contains (gift_under key e) s
one_under (Register host port k multiple reply) s is = absurd (nowhere s is)
one_under (Stop host k reply) s is = absurd (nowhere s is)
one_under (Admit k (Given session host port)) s is = (k, rw (itself k) is)
one_under (Admit k Unknown) s is = absurd (nowhere s is)
one_under (Admit k (Busy session)) s is = absurd (nowhere s is)
one_under (Dismiss session) s is = absurd (nowhere s is)

pub given_somewhere : (j : List Entry) (s : ℕ) → Contains (given j) s → (key : List ℕ) × Contains (given_under key j) s
given_somewhere [] s is = absurd (nowhere s is)
given_somewhere (e ∷ j) s is = elim (Contains-append_cases (gift e) (given j) s is) [
  | inl one ↦ let u = one_under e s one in (u.0, Contains-append_left (gift_under u.0 e) (given_under u.0 j) s u.1)
  | inr more ↦ let u = given_somewhere j s more in
      (u.0, Contains-append_right (gift_under u.0 e) (given_under u.0 j) s u.1)
]
