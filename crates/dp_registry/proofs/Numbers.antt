-- Sessions of a legal journal are numbered in the order in which they are given.
use Rattle.std.proofs.Common.{◌≡◌, ◌==◌, ℕ, ◌+◌, ◌≤◌, Bool, true, false, not, if◌then◌else◌, List, [], ◌∷◌, ◌++◌}
use Rattle.std.proofs.Common.{length, filter, Option, Some, None, Err, Contains, refl, sym, ap, subst, ◌∙◌}
use Rattle.std.proofs.Common.{inl, inr, arith}
use Rattle.std.proofs.lemmas.Option.{same_Some}
use Rattle.std.proofs.lemmas.List.{append-nil, append_assoc, length_push}
use Rattle.std.proofs.lemmas.List.Elements.{Contains-push_cases}
use Rattle.std.proofs.lemmas.Bool.{false≢true}
use Rattle.std.proofs.lemmas.Bool.Decides.{nat_tests}
use Rattle.std.specs.List.{list_any}
use Rattle.std.specs.Str.{bytes_eq}
use Rattle.dp_registry.specs.declared.entry.Entry.{Entry}
use Rattle.dp_registry.specs.declared.entry.Entry.TheVariants.{Register, Stop, Admit, Dismiss}
use Rattle.dp_registry.specs.declared.entry.AdmitReply.TheVariants.{Given, Unknown, Busy}
use Rattle.dp_registry.specs.Journal.{Holder, holder, gift_under, dismisses, given, given_under, is_live, live}
use Rattle.dp_registry.specs.Journal.{live_under, next_session, least}
use Rattle.dp_registry.specs.Legal.{IsFit, AreFit, IsLegal}
use Rattle.dp_registry.specs.Verdicts.{is_crowded, admitting, admit_verdict, admit_reply_of, unless_busy, full}
use Rattle.dp_registry.specs.inner.Kept.{IsNumbered, IsRising}
use Rattle.dp_registry.proofs.Lists.{from_filter, nowhere, rising_push, rising_filter}
use Rattle.dp_registry.proofs.Appends.{IsQuiet, given_push, dismissed_before, live_push, live_under_push, quiet_given}
use Rattle.dp_registry.proofs.Appends.{quiet_live_under, dismissed_given, dismissed_live_under, under_given}

pub quiet_numbered : (j : List Entry) (e : Entry) → IsQuiet e → IsNumbered j → IsNumbered (j ++ e ∷ [])
quiet_numbered j e quiet n = record {
  below = λ s is. let b = n.below s (subst (λ ns. Contains ns s) (quiet_given j e quiet) is) in
      (b.0, rw (quiet_given j e quiet) b.1);
  rising = subst IsRising (sym (quiet_given j e quiet)) n.rising;
  known = λ s is. rw (quiet_given j e quiet) (n.known s (sym (dismissed_before j e s (quiet.dismisses s)) ∙ is));
  rising_under = λ key. subst IsRising (sym (quiet_live_under j e quiet key)) (n.rising_under key);
}

module _ (j : List Entry) (numbered : IsNumbered j) where
  pub below_next : (key : List ℕ) (s : ℕ) → Contains (live_under key j) s → (1 ≤ s) × (s ≤ length (given j))
  below_next key s is = numbered.below s (under_given j s key (from_filter (is_live j) (given_under key j) s is).0)

  -- ---- a session more
  module _ (k : List ℕ) (s : ℕ) (host : List ℕ) (port : ℕ) (next : s ≡ next_session j) where
    abbrev e : Entry
    e = Admit k (Given s host port)

    fresh-by : (b : Bool) → list_any (dismisses s) j ≡ b → is_live j s ≡ true
    fresh-by true h = let low = numbered.known s h in absurd (omega arith)
    fresh-by false h = ap not h

    fresh : is_live j s ≡ true
    fresh = fresh-by (list_any (dismisses s) j) refl

    pub live_more : live (j ++ e ∷ []) ≡ live j ++ s ∷ []
    live_more = let one : filter (is_live j) (s ∷ []) ≡ s ∷ [] = rw fresh refl in live_push j e (λ t. refl)
        ∙ ap (λ ns. live j ++ ns) one

    pub given_more : given (j ++ e ∷ []) ≡ given j ++ s ∷ []
    given_more = given_push j e

    module _ (key : List ℕ) where
      pub under_more : bytes_eq k key ≡ true → live_under key (j ++ e ∷ []) ≡ live_under key j ++ s ∷ []
      under_more h =
          let one : filter (is_live j) (gift_under key e) ≡ s ∷ [] = rw (h, fresh) refl in
          live_under_push j e (λ t. refl) key ∙ ap (λ ns. live_under key j ++ ns) one

      pub under_same : bytes_eq k key ≡ false → live_under key (j ++ e ∷ []) ≡ live_under key j
      under_same h =
          let one : filter (is_live j) (gift_under key e) ≡ [] = rw h refl in
          live_under_push j e (λ t. refl) key ∙ ap (λ ns. live_under key j ++ ns) one ∙ append-nil (live_under key j)

      rising_more : (b : Bool) → bytes_eq k key ≡ b → IsRising (live_under key (j ++ e ∷ []))
      rising_more true h =
          subst IsRising (sym (under_more h)) (rising_push (live_under key j) s (numbered.rising_under key)
          (λ m is. let low = (below_next key m is).1 in omega arith))
      rising_more false h = subst IsRising (sym (under_same h)) (numbered.rising_under key)

    pub numbered_more : IsNumbered (j ++ e ∷ [])
    numbered_more =
        let longer : length (given (j ++ e ∷ [])) ≡ length (given j) + 1 = ap length given_more
        ∙ length_push (given j) s in
        record {
          below = λ t is. elim (Contains-push_cases (given j) s t (subst (λ ns. Contains ns t) given_more is)) [
            | inl old ↦ let b = numbered.below t old in let low = b.0 in let high = b.1 in (omega arith, omega arith)
            | inr new ↦ (omega arith, omega arith)
          ];
          rising = subst IsRising (sym given_more) (rising_push (given j) s numbered.rising (λ m is. let low =
              (numbered.below m is).1 in omega arith));
          known = λ t is. let low = numbered.known t (sym (dismissed_before j e t refl) ∙ is) in omega arith;
          rising_under = λ key. rising_more key (bytes_eq k key) refl;
        }

  -- ---- a session less
  pub numbered_less : (t : ℕ) → Contains (live j) t → IsNumbered (j ++ Dismiss t ∷ [])
  numbered_less t is = record {
    below = λ s has. let b = numbered.below s (subst (λ ns. Contains ns s) (dismissed_given j t) has) in
        (b.0, rw (dismissed_given j t) b.1);
    rising = subst IsRising (sym (dismissed_given j t)) numbered.rising;
    known = λ s has. rw (dismissed_given j t) (known s has (t == s) refl);
    rising_under = λ key. subst IsRising (sym (dismissed_live_under j t key)) (rising_filter (λ s. not (t == s))
        (live_under key j) (numbered.rising_under key));
  }
    where
      known : (s : ℕ) → list_any (dismisses s) (j ++ Dismiss t ∷ []) ≡ true → (b : Bool) → (t == s) ≡ b →
          s ≤ length (given j)
      known s has true h =
          let same : t ≡ s = grind (arith, nat_tests) in
          let high = (numbered.below t (from_filter (is_live j) (given j) t is).0).1 in
          omega arith
      known s has false h = numbered.known s (sym (dismissed_before j (Dismiss t) s h) ∙ has)

-- ---- the number that is given is the next one
unless-given : (b : Option ℕ) (host : List ℕ) (port n : ℕ) (s : ℕ) (h : List ℕ) (p : ℕ) →
    admit_reply_of (unless_busy b record { session = n; host = host; port = port }) ≡ Some (Given s h p) → s ≡ n
unless-given None host port n s h p e = let same : Given n host port ≡ Given s h p = same_Some _ _ e in cc
unless-given (Some busy) host port n s h p e = let same : Busy busy ≡ Given s h p = same_Some _ _ e in absurd cc

admitting-given : (o : Option Holder) (sessions : List ℕ) (n s : ℕ) (h : List ℕ) (p : ℕ) →
    admit_reply_of (admitting o sessions n) ≡ Some (Given s h p) → s ≡ n
admitting-given None sessions n s h p e = let same : Unknown ≡ Given s h p = same_Some _ _ e in absurd cc
admitting-given (Some holder) sessions n s h p e =
    unless-given (if holder.multiple then None else least sessions) holder.host holder.port n s h p e

verdict-given : (j : List Entry) (key : List ℕ) (s : ℕ) (h : List ℕ) (p : ℕ) (b : Bool) → is_crowded j ≡ b →
    admit_reply_of (admit_verdict j key) ≡ Some (Given s h p) → s ≡ next_session j
verdict-given j key s h p true crowded e =
    let no : admit_reply_of (Err (full j)) ≡ Some (Given s h p) = rw crowded at e in absurd cc
verdict-given j key s h p false crowded e =
    admitting-given (holder j key) (live_under key j) (next_session j) s h p (rw crowded at e)

pub given_is_next : (j : List Entry) (key : List ℕ) (s : ℕ) (h : List ℕ) (p : ℕ) →
    IsFit j (Admit key (Given s h p)) → s ≡ next_session j
given_is_next j key s h p fit = verdict-given j key s h p (is_crowded j) refl fit.1

-- ---- legal journals
numbered_push : (j : List Entry) (e : Entry) → IsNumbered j → IsFit j e → IsNumbered (j ++ e ∷ [])
numbered_push j (Register host port key multiple reply) n fit =
    quiet_numbered j (Register host port key multiple reply)
    (record { gift = refl; under = λ k. refl; dismisses = λ s. refl }) n
numbered_push j (Stop host key reply) n fit =
    quiet_numbered j (Stop host key reply) (record { gift = refl; under = λ k. refl; dismisses = λ s. refl }) n
numbered_push j (Admit key (Given s host port)) n fit =
    numbered_more j n key s host port (given_is_next j key s host port fit)
numbered_push j (Admit key Unknown) n fit =
    quiet_numbered j (Admit key Unknown) (record { gift = refl; under = λ k. refl; dismisses = λ s. refl }) n
numbered_push j (Admit key (Busy session)) n fit =
    quiet_numbered j (Admit key (Busy session)) (record { gift = refl; under = λ k. refl; dismisses = λ s. refl }) n
numbered_push j (Dismiss s) n fit = numbered_less j n s fit

numbered_all : (before rest : List Entry) → IsNumbered before → AreFit before rest → IsNumbered (before ++ rest)
numbered_all before [] n fit = subst IsNumbered (sym (append-nil before)) n
numbered_all before (e ∷ es) n fit =
    subst IsNumbered (append_assoc before (e ∷ []) es)
    (numbered_all (before ++ e ∷ []) es (numbered_push before e n fit.0) fit.1)

pub numbered_none : IsNumbered []
numbered_none = record {
  below = λ s is. absurd (nowhere s is);
  rising = tt;
  known = λ s is. absurd (false≢true is);
  rising_under = λ key. tt;
}

pub legal_numbered : (j : List Entry) → IsLegal j → IsNumbered j
legal_numbered j legal = numbered_all [] j numbered_none legal.fit
