-- What registrations come to in the books.
use Rattle.std.proofs.Common.{◌≡◌, ◌<◌, ◌≤◌, ℕ, ◌+◌, refl, sym, ap, subst, ◌∙◌, arith, inl, inr}
use Rattle.dp_desk.specs.Desks.{Known}
use Rattle.dp_desk.specs.Made.{Made, made}
use Rattle.dp_relay.specs.Registrations.{MadeOne}
use Rattle.dp_crews.specs.Workers.{AskedFor}

pub asked_none : (v : Known) → AskedFor 0 v v
asked_none v =
    record {
      desk = refl;
      held = refl;
      share = refl;
      admits = refl;
      dismissals = refl;
      kept = omega arith;
      within = omega arith;
    }

-- fewer were served
pub asked_fewer : (count most : ℕ) (v w : Known) → count ≤ most → AskedFor count v w → AskedFor most v w
asked_fewer count most v w below a =
    record {
      desk = a.desk;
      held = a.held;
      share = a.share;
      admits = a.admits;
      dismissals = a.dismissals;
      kept = a.kept;
      within = omega (arith, below, a.within);
    }

pub asked_more : (count : ℕ) (v m w : Known) → AskedFor count v m → AskedFor 1 m w → AskedFor (count + 1) v w
asked_more count v m w before one =
    record {
      desk = one.desk ∙ before.desk;
      held = one.held ∙ before.held;
      share = one.share ∙ before.share;
      admits = one.admits ∙ before.admits;
      dismissals = one.dismissals ∙ before.dismissals;
      kept = omega (arith, one.kept, before.kept);
      within = omega (arith, one.within, before.within);
    }

pub asked_one : (v w : Known) → MadeOne v w → AskedFor 1 v w
asked_one v w one = elim one.made [
  | inl same ↦ record {
    desk = one.desk;
    held = one.held;
    share = one.share;
    admits = ap (λ (m : Made). m.admits) same;
    dismissals = ap (λ (m : Made). m.dismissals) same;
    kept = omega (arith, ap (λ (m : Made). m.registers) same);
    within = omega (arith, ap (λ (m : Made). m.registers) same);
  }
  | inr more ↦ record {
    desk = one.desk;
    held = one.held;
    share = one.share;
    admits = omega (arith, ap (λ (m : Made). m.admits) more);
    dismissals = omega (arith, ap (λ (m : Made). m.dismissals) more);
    kept = omega (arith, ap (λ (m : Made). m.registers) more);
    within = omega (arith, ap (λ (m : Made). m.registers) more);
  }
]

-- none was served
pub asked_idle : (count : ℕ) (v w : Known) → w ≡ v → AskedFor count v w
asked_idle count v w same =
    subst (AskedFor count v) (sym same) (asked_fewer 0 count v v (omega arith) (asked_none v))

-- the last one was not
pub asked_stopped : (made count : ℕ) (v m w : Known) → made < count → AskedFor made v m
    → AskedFor 1 m w → AskedFor count v w
asked_stopped made count v m w below before one =
    asked_fewer (made + 1) count v w (omega (arith, below)) (asked_more made v m w before one)
