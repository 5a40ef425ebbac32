-- For callers: which sessions are live with one entry more, and that none stands twice among them.
use Rattle.std.proofs.Common.{◌≡◌, ◌==◌, ℕ, false, not, List, [], ◌∷◌, ◌++◌, filter, Option, Some, None, Contains, sym}
use Rattle.std.proofs.Common.{ap, subst, ◌∙◌}
use Rattle.std.proofs.lemmas.List.{append-nil, append_assoc}
use Rattle.std.proofs.lemmas.List.Elements.{Contains-append_left}
use Rattle.dp_registry.specs.declared.entry.Entry.{Entry}
use Rattle.dp_registry.specs.declared.entry.Entry.TheVariants.{Admit, Dismiss}
use Rattle.dp_registry.specs.declared.entry.AdmitReply.TheVariants.{Given}
use Rattle.dp_registry.specs.Journal.{dismisses, gift, given, is_live, live}
use Rattle.dp_registry.specs.Legal.{IsFit, AreFit, IsLegal}
use Rattle.dp_registry.specs.Verdicts.{noted}
use Rattle.dp_registry.specs.inner.Kept.{IsRising}
use Rattle.dp_registry.proofs.Lists.{from_filter, into_filter, rising_filter}
use Rattle.dp_registry.proofs.Appends.{given_push, dismissed_before, live_push, dismissed_live}
use Rattle.dp_registry.proofs.Numbers.{legal_numbered, live_more, given_is_next}

module _ (j : List Entry) (s : ℕ) (lives : Contains (live j) s) where
  pub still_lives : (e : Entry) → dismisses s e ≡ false → Contains (live (j ++ e ∷ [])) s
  still_lives e other =
      let f = from_filter (is_live j) (given j) s lives in
      let there = subst (λ ns. Contains ns s) (sym (given_push j e)) (Contains-append_left (given j) (gift e) s f.0) in
      into_filter (is_live (j ++ e ∷ [])) (given (j ++ e ∷ [])) s there (ap not (dismissed_before j e s other) ∙ f.1)

  -- whatever a call is answered
  pub noted_lives : {R : Type 0} (entry : R → Entry) (reply : Option R) → ((r : R) → dismisses s (entry r) ≡ false) →
      Contains (live (noted j entry reply)) s
  noted_lives entry None other = lives
  noted_lives entry (Some r) other = still_lives (entry r) (other r)

-- ---- the last entry of a legal journal
last_fit : (before rest : List Entry) (e : Entry) → AreFit before (rest ++ e ∷ []) → IsFit (before ++ rest) e
last_fit before [] e fit = subst (λ (js : List Entry). IsFit js e) (sym (append-nil before)) fit.0
last_fit before (x ∷ xs) e fit =
    subst (λ (js : List Entry). IsFit js e) (append_assoc before (x ∷ []) xs) (last_fit (before ++ x ∷ []) xs e fit.1)

pub fits_last : (j : List Entry) (e : Entry) → IsLegal (j ++ e ∷ []) → IsFit j e
fits_last j e legal = last_fit [] j e legal.fit

-- a session is given
pub live_given : (j : List Entry) (key : List ℕ) (s : ℕ) (host : List ℕ) (port : ℕ) → IsLegal j →
    IsFit j (Admit key (Given s host port)) → live (j ++ Admit key (Given s host port) ∷ []) ≡ live j ++ s ∷ []
live_given j key s host port legal fit =
    live_more j (legal_numbered j legal) key s host port (given_is_next j key s host port fit)

-- a session is dismissed
pub live_left : (j : List Entry) (t : ℕ) → live (j ++ Dismiss t ∷ []) ≡ filter (λ s. not (t == s)) (live j)
live_left j t = dismissed_live j t

-- neither is
pub live_same : (j : List Entry) (e : Entry) → gift e ≡ [] → ((s : ℕ) → dismisses s e ≡ false) →
    live (j ++ e ∷ []) ≡ live j
live_same j e none other = live_push j e other ∙ ap (λ ns. live j ++ filter (is_live j) ns) none ∙ append-nil (live j)

-- no number stands twice, since each is above those before it
pub live_rises : (j : List Entry) → IsLegal j → IsRising (live j)
live_rises j legal = rising_filter (is_live j) (given j) (legal_numbered j legal).rising
