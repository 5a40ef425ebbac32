-- Breakpoints that are removed and set one by one.
use Rattle.std.proofs.Common.{◌≡◌, ℕ, Bool, true, false, cond, List, Result, Ok, Err, sym, subst, ap, ◌∙◌}
use Rattle.std.specs.Prelude.{IfOk, OnOk}
use Rattle.serde_json.specs.View.{view}
use Rattle.serde_json.specs.declared.value.Value.{Value}
use Rattle.dp_command.specs.Canonical.{canonical}
use Rattle.dp_command.specs.declared.line.Line.{Line}
use Rattle.dp_engine.specs.Answers.{turn_with}
use Rattle.dp_engine.specs.declared.session.Report.{Report}
use Rattle.dp_engine.specs.Session.{State}
use Rattle.dp_dap_messages.specs.declared.effects.Refusal.{Refusal}
use Rattle.dp_dap.specs.declared.effects.Unanswered.{Unanswered}
use Rattle.dp_dap.specs.declared.effects.Unanswered.TheVariants.{Refused}
use Rattle.dp_dap.specs.Answers as spec
use Rattle.dp_dap.specs.Known.{Known}
use Rattle.dp_dap_messages.specs.Messages.{unverified, verified}
use Rattle.dp_dap.specs.inner.Effects.{IsNotReplied, IsReplied}
use Rattle.dp_dap.proofs.AskLaws.{not_replied, replied_is}

-- a state that is the one where this holds, and it holds
pub where_so : (holds : Bool) (state there other : State) → holds ≡ true → state ≡ there
    → state ≡ cond holds there other
where_so true state there other so is = is
where_so false state there other so is = absurd cc

-- a breakpoint was set, and is kept
pub set_done : (path : List ℕ) (number : ℕ) (line : Line) (report : Report) (old mid new : Known) (value : Value)
    → IsReplied (canonical line) report old mid
    → view value ≡ verified (spec.id_in (turn_with report mid.session)) number
    → new ≡ spec.with_kept path (turn_with report mid.session) mid
    → (view value, new) ≡ spec.set_by path number old (spec.replied old line)
set_done path number line report old mid new value is seen kept =
    let taken = turn_with report mid.session in
    (λ i. (seen i, (kept ∙ ap (spec.with_kept path taken) is.reports.kept) i))
    ∙ ap (spec.set_by path number old) (sym (replied_is line report old mid is ∙ ap Ok (sym is.reports.turned)))

-- one was not set
pub set_refused : (path : List ℕ) (number : ℕ) (line : Line) (sent : List ℕ) (answer : Unanswered) (why : Refusal)
    (old mid : Known) (value : Value) → sent ≡ canonical line → answer ≡ Refused why
    → IsNotReplied sent answer old mid → view value ≡ unverified why
    → (view value, mid) ≡ spec.set_by path number old (spec.replied old line)
set_refused path number line sent answer why old mid value is_line is_why is seen =
    let refused =
    not_replied line (Refused why) old mid
    (subst (λ (a : Unanswered). IsNotReplied (canonical line) a old mid) is_why
    (subst (λ (l : List ℕ). IsNotReplied l answer old mid) is_line is)) in
    (λ i. (seen i, refused.1 i)) ∙ ap (spec.set_by path number old) (sym refused.0)

-- what holds of a value, and what holds where there is one
pub both_ok : {A E : Type 0} (r : Result A E) (P G : A → Type 0) (Q : Type 0) → ((a : A) → P a → Q → G a)
    → IfOk r P → OnOk r Q → IfOk r G
both_ok (Ok a) P G Q so p q = so a p q
both_ok (Err e) P G Q so p q = tt
