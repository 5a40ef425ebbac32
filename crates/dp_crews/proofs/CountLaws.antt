-- One session is one admission, or one in the tally.
use Rattle.std.proofs.Common.{◌≡◌, ◌≢◌, ℕ, ◌+◌, List, Option, Some, None, Result, Ok, Err, refl, sym, ap, subst, ◌∙◌, inl, inr, arith, if◌then◌else◌}
use Rattle.std.proofs.lemmas.Bool.{cond_both}
use Rattle.dp_registry.specs.declared.entry.Entry.{Entry}
use Rattle.dp_registry.specs.declared.entry.Entry.TheVariants.{Admit}
use Rattle.dp_registry.specs.declared.pass.Pass.{Pass}
use Rattle.dp_registry.specs.declared.refusal.Refusal.{Refusal}
use Rattle.dp_registry.specs.declared.refusal.Refusal.TheVariants as refusal
use Rattle.dp_registry.specs.Journal.{Holder, holder, live_under, next_session, least}
use Rattle.dp_registry.specs.Verdicts.{is_crowded, full, unless_busy, admitting, admit_verdict, admit_reply_of}
use Rattle.dp_desk.specs.Desks.{Known, Called, Entered}
use Rattle.dp_desk.specs.Made.{Made, made}
use Rattle.dp_relay.specs.declared.ends.RelayEnd.{RelayEnd}
use Rattle.dp_relay.specs.declared.ends.RelayEnd.TheVariants.{Joined, BadInit, NoSession, DialFault}
use Rattle.dp_relay.specs.declared.ends.RelayEnd.TheVariants.{NoThread, ReadFault, BadFrame, Memory}
use Rattle.dp_crews.specs.declared.tallies.Tally.{Tally}
use Rattle.dp_relay.specs.Ends.{Ends}
use Rattle.dp_relay.specs.Engines.{EngineServed, HadSession, Standing}
use Rattle.dp_crews.specs.Tallies.{counted, tallied}
use Rattle.dp_crews.specs.Workers.{Booked}

-- ---- an engine is refused for want of a holder, by a busy one, or for want of room

abbrev IsRight : Result Pass Refusal → Type 0
IsRight (Err (refusal.Taken host port)) = ⊥
IsRight (Err refusal.NotYours) = ⊥
IsRight (Err refusal.Memory) = ⊥
IsRight verdict = Unit {0}

unless_right : (busy : Option ℕ) (pass : Pass) → IsRight (unless_busy busy pass)
unless_right None pass = tt
unless_right (Some session) pass = tt

admitting_right : (h : Option Holder) (sessions : List ℕ) (session : ℕ) → IsRight (admitting h sessions session)
admitting_right None sessions session = tt
admitting_right (Some h) sessions session =
    unless_right (if h.multiple then None else least sessions)
    (record { session = session; host = h.host; port = h.port })

admit_right : (at : List Entry) (key : List ℕ) → IsRight (admit_verdict at key)
admit_right at key =
    cond_both (is_crowded at) (Err (full at)) (admitting (holder at key) (live_under key at) (next_session at)) IsRight
    (λ e. tt) (λ e. admitting_right (holder at key) (live_under key at) (next_session at))

abbrev why_of : Result Pass Refusal → Refusal
why_of (Ok pass) = refusal.Memory
why_of (Err why) = why

-- ---- the books

module _ (v w : Known) (t : Tally) where
  unasked : (u : Tally) → w ≡ v → counted u ≡ counted t + 1 → Booked 1 v w t u
  unasked u same one =
      record {
        desk = ap (λ (k : Known). k.desk) same;
        held = ap (λ (k : Known). k.held) same;
        share = ap (λ (k : Known). k.share) same;
        registers = ap (λ (k : Known). k.made.registers) same;
        kept = omega (arith, ap (λ (k : Known). k.made.admits) same);
        all = omega (arith, one, ap (λ (k : Known). k.made.admits) same);
      }

  -- an admission without an entry
  unnoted : (u : Tally) (at : List Entry) (key : List ℕ) → Entered v at (λ reply. Admit key reply) None w
      → counted u ≡ counted t + 1 → Booked 1 v w t u
  unnoted u at key e one =
      record {
        desk = e.desk;
        held = e.held;
        share = e.share;
        registers = omega (arith, ap (λ (m : Made). m.registers) e.made);
        kept = omega (arith, ap (λ (m : Made). m.admits) e.made);
        all = omega (arith, one, ap (λ (m : Made). m.admits) e.made);
      }

  -- an admission that was noted and gave no session
  turned : (r : Result Pass Refusal) (why : Refusal) → r ≡ Err why → IsRight r → (at : List Entry) (key : List ℕ)
      → Entered v at (λ reply. Admit key reply) (admit_reply_of (Err why)) w
      → Booked 1 v w t (tallied t (NoSession why))
  turned r (refusal.Full events sessions) is right at key e =
      unnoted (tallied t (NoSession (refusal.Full events sessions))) at key e (omega arith)
  turned r refusal.Unknown is right at key e =
      record {
        desk = e.desk;
        held = e.held;
        share = e.share;
        registers = omega (arith, ap (λ (m : Made). m.registers) e.made);
        kept = omega (arith, ap (λ (m : Made). m.admits) e.made);
        all = omega (arith, ap (λ (m : Made). m.admits) e.made);
      }
  turned r (refusal.Busy session) is right at key e =
      record {
        desk = e.desk;
        held = e.held;
        share = e.share;
        registers = omega (arith, ap (λ (m : Made). m.registers) e.made);
        kept = omega (arith, ap (λ (m : Made). m.admits) e.made);
        all = omega (arith, ap (λ (m : Made). m.admits) e.made);
      }
  turned r (refusal.Taken host port) is right at key e = absurd (subst IsRight is right)
  turned r refusal.NotYours is right at key e = absurd (subst IsRight is right)
  turned r refusal.Memory is right at key e = absurd (subst IsRight is right)

  refused : (key : List ℕ) (why : Refusal) → why ≢ refusal.Memory
      → Called v w (λ journal. admit_verdict journal key) (λ reply. Admit key reply) admit_reply_of (Err why)
      → Booked 1 v w t (tallied t (NoSession why))
  refused key why kept c = elim c.answer [
    | inl out ↦ absurd (kept (ap why_of out))
    | inr same ↦ turned (admit_verdict c.at key) why (sym same) (admit_right c.at key) c.at key c.entered
  ]

  -- a session that was given and dismissed
  had : (key : List ℕ) (pass : Pass) → HadSession v w key pass → Booked 1 v w t t
  had key pass h =
      let a = h.admitted.entered in
      let d = h.dismissed.entered in
      record {
        desk = d.desk ∙ a.desk;
        held = h.held;
        share = d.share ∙ a.share;
        registers = omega (arith, ap (λ (m : Made). m.registers) a.made, ap (λ (m : Made). m.registers) d.made);
        kept = omega (arith, ap (λ (m : Made). m.admits) a.made, ap (λ (m : Made). m.admits) d.made);
        all = omega (arith, ap (λ (m : Made). m.admits) a.made, ap (λ (m : Made). m.admits) d.made);
      }

  counts_one : (x y : Standing) (ide : Option Ends) (end : RelayEnd) → EngineServed v w x y ide end
      → Booked 1 v w t (tallied t end)
  counts_one x y ide BadInit s = unasked (tallied t BadInit) s.0.clerk (omega arith)
  counts_one x y ide ReadFault s = unasked (tallied t ReadFault) s.0.clerk (omega arith)
  counts_one x y ide (BadFrame offset) s = unasked (tallied t (BadFrame offset)) s.0.clerk (omega arith)
  counts_one x y ide Memory s = elim s [
    | inl before ↦ unasked (tallied t Memory) before.0.clerk (omega arith)
    | inr asked ↦ unnoted (tallied t Memory) asked.called.at asked.key asked.called.entered (omega arith)
  ]
  counts_one x y ide (NoSession why) s = refused s.0.key why s.1 s.0.called
  counts_one x y ide DialFault s = had s.key s.pass s.session
  counts_one x y ide NoThread s = had s.key s.pass s.session
  counts_one x y ide (Joined number up down) s = had s.key s.pass s.session

-- the same of what was counted
pub counts_noted : (v w : Known) (t u : Tally) (x y : Standing) (ide : Option Ends) (end : RelayEnd)
    → EngineServed v w x y ide end → u ≡ tallied t end → Booked 1 v w t u
counts_noted v w t u x y ide end served noted =
    subst (Booked 1 v w t) (sym noted) (counts_one v w t x y ide end served)

-- ---- several

pub booked_none : (v : Known) (t : Tally) → Booked 0 v v t t
booked_none v t =
    record { desk = refl; held = refl; share = refl; registers = refl; kept = omega arith; all = omega arith }

pub booked_more : (count : ℕ) (v m w : Known) (t s u : Tally) → Booked count v m t s → Booked 1 m w s u
    → Booked (count + 1) v w t u
booked_more count v m w t s u before one =
    record {
      desk = one.desk ∙ before.desk;
      held = one.held ∙ before.held;
      share = one.share ∙ before.share;
      registers = one.registers ∙ before.registers;
      kept = omega (arith, one.kept, before.kept);
      all = omega (arith, one.all, before.all);
    }
