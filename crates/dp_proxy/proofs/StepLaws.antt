-- One step of a proxy, from what its parts ensure.
use Rattle.std.proofs.Common.{◌≡◌, ℕ, ◌==◌, ◌&&◌, Bool, false, if◌then◌else◌, List, Option, Some, None, is_some, sym, ap, subst, ◌∙◌}
use Rattle.dp_registry.specs.declared.entry.Entry.{Entry}
use Rattle.dp_proxy.specs.declared.events.Event.{Event}
use Rattle.dp_proxy.specs.declared.kept.Kept.{Kept}
use Rattle.dp_proxy.specs.declared.kept.Kept.TheVariants as keep
use Rattle.dp_proxy.specs.declared.kept.Step.{Step}
use Rattle.dp_proxy.specs.Pasts.{Link, past_of}
use Rattle.dp_proxy.specs.Invariant.{Keeps, kept_at, IsKept, Represents, RepresentsAfter, IsSound, AreSound}
use Rattle.dp_proxy.specs.inner.Acts.{Leads, LeavesOthers, IsOwn}
use Rattle.dp_proxy.proofs.ProxyLaws.{represents_after, sound_after, mid_others, mid_here, put_others, put_here, over_if, over_sound, over_own}

module _ (registry next : List Entry) (links mid : List (ℕ × Kept)) (failed : Bool) (number : ℕ)
    (taken : Option Kept)
    (was : taken ≡ kept_at links number)
    (left : (o : ℕ) → kept_at mid o ≡ (if number == o then (if is_some taken then Some keep.Over else None)
    else kept_at links o))
    (sound : AreSound (record { journal = registry; links = links; failed = failed }))
    (leaves : LeavesOthers registry next taken) where
  abbrev old : Keeps
  old = record { journal = registry; links = links; failed = failed }

  left_of_it : (o : ℕ)
      → kept_at mid o ≡ (if number == o then (if is_some (kept_at links number) then Some keep.Over else None)
      else kept_at links o)
  left_of_it o =
      left o ∙ ap (λ (t : Option Kept). if number == o then (if is_some t then Some keep.Over else None)
      else kept_at links o) was

  leaves_it : LeavesOthers registry next (kept_at links number)
  leaves_it = subst (LeavesOthers registry next) was leaves

  pub sound_taken : AreSound (record { journal = next; links = mid; failed = failed })
  sound_taken =
      sound_after old (record { journal = next; links = mid; failed = failed }) number (over_if (kept_at links number))
      (mid_others links mid mid number None left_of_it)
      (mid_here links mid mid number None left_of_it) sound (over_sound next (kept_at links number))
      (over_own registry (kept_at links number) (kept_at links number))
      leaves_it

  module _ (after : List (ℕ × Kept)) (kept : Option Kept)
      (put : (o : ℕ) → kept_at after o ≡ (if (number == o) && is_some kept then kept else kept_at mid o))
      (made : kept ≡ None → taken ≡ None) where
    others_now : (o : ℕ) → (number == o) ≡ false → kept_at after o ≡ kept_at links o
    others_now = put_others links mid after number kept left_of_it put

    made_it : kept ≡ None → kept_at links number ≡ None
    made_it e = sym was ∙ made e

    here_now : kept_at after number ≡ kept
    here_now = put_here links mid after number kept left_of_it put made_it

    pub sound_put : IsSound next kept → IsOwn registry taken kept
        → AreSound (record { journal = next; links = after; failed = failed })
    sound_put is own =
        sound_after old (record { journal = next; links = after; failed = failed }) number kept others_now here_now
        sound is
        (subst (λ (t : Option Kept). IsOwn registry t kept) was own) leaves_it

-- what a step leaves stands for the events with it
pub represents_put : (registry next : List Entry) (links mid after : List (ℕ × Kept)) (failed : Bool) (e : Event)
    (taken : Option Kept) (step : Step) → taken ≡ kept_at links e.link
    → ((o : ℕ) → kept_at mid o ≡ (if e.link == o then (if is_some taken then Some keep.Over else None)
    else kept_at links o))
    → ((o : ℕ) → kept_at after o ≡ (if (e.link == o) && is_some step.kept then step.kept else kept_at mid o))
    → (step.kept ≡ None → taken ≡ None)
    → ((link : Link) → IsKept taken link → Leads registry link e.act next step) → (events : List Event)
    → Represents (record { journal = registry; links = links; failed = failed }) events
    → RepresentsAfter (record { journal = next; links = after; failed = failed }) events e step.answer
represents_put registry next links mid after failed e taken step was left put made leads events stands =
    let left_it : (o : ℕ)
    → kept_at mid o ≡ (if e.link == o then (if is_some (kept_at links e.link) then Some keep.Over else None)
    else kept_at links o) =
    λ o. left o ∙ ap (λ (t : Option Kept). if e.link == o then (if is_some t then Some keep.Over else None)
    else kept_at links o) was in
    let made_it : step.kept ≡ None → kept_at links e.link ≡ None = λ n. sym was ∙ made n in
    let link = (past_of events).link e.link in
    represents_after (record { journal = registry; links = links; failed = failed })
    (record { journal = next; links = after; failed = failed }) e step
    (put_others links mid after e.link step.kept left_it put)
    (put_here links mid after e.link step.kept left_it put made_it) events stands
    (leads link (subst (λ (t : Option Kept). IsKept t link) (sym was) (stands.links e.link))) made_it
