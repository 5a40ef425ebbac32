use Rattle.std.proofs.Common.{◌≡◌, ◌+◌, drop, length, false, true, refl, sym, ap, ◌∙◌}
use Rattle.std.specs.Prelude.{slice_get}
use Rattle.dp_actions.specs.Loops.{entries}
use Rattle.dp_actions.specs.Run.{and_then}
use Rattle.dp_small_steps.specs.Parts.{to_signal}
use Rattle.dp_small_steps.specs.Rest.{each_turn, next_rest}
use Rattle.dp_small_steps.specs.declared.work.ForSignal.TheVariants as signal_work
use Rattle.dp_small_steps.specs.declared.work.Hand.TheVariants as hand
use Rattle.dp_small_steps.proofs.TurnLaws.{bind-err, bind-ok}
use Rattle.dp_step.specs.inner.Moves.{setting_at}
use Rattle.dp_step.specs.inner.Innermost.{over}
use Rattle.dp_step.proofs.Smalls.{leads-off, moves_as}
use Rattle.dp_step.proofs.TurnSteps.{last-found, on-is, with-is}
use Rattle.dp_step.proofs.machine.Machine.entry.Goals.{in_default-via-in-Some+in-Part+in-ForSignal+in_default}
use Rattle.dp_step.proofs.machine.Machine.entry.Goals.{in_default-via-in-Some+in-Part+in_default}
use Rattle.dp_step.proofs.machine.Machine.entry.Goals.{in_default-via-in-Some+in_default, in_default-via-in_default}
use Rattle.dp_step.proofs.machine.Machine.entry.Goals as goal

pub returns-in-Ok : goal.returns-in-Ok
returns-in-Ok c = λ below subject h e.
    let m = c.args.self.now in
    let arm = c.in-Some-Part-ForSignal-EachBody in
    let same : arm.subject ≡ subject =
    let found = last-found m.pending.items below _ (length m.pending.items) e refl in
    let value = arm.ensures.value in
    let look = c.deref.ensures.value in
    let at0 = arm.field-0-is in
    let at1 = arm.field-0-0-is in
    let at2 = arm.field-0-0-0-is in
    let at3 = arm.subject-is in
    cc in
    moves_as m _ _ _ _ _ (bind-ok (setting_at m) (over m below) m.state c.args.turns subject c.args.at h
    c.bind_at.new.state (λ entry r. (rw c.in-Ok.is at c.bind_at.ensures.entry) entry
    (ap (λ v. slice_get (entries v) c.args.at) same ∙ r))
    ∙ rw c.as_ref.ensures refl
    ∙ sym (with-is m below c.bind_at.new.state _ (signal_work.EachBody c.args.turns subject (c.args.at + 1) false)
    (c.put_entry.ensures below c.args.turns subject c.args.at true e)
    (hand.Run c.as_ref.result))) refl refl c.put.ensures

pub returns-in-Err : goal.returns-in-Err
returns-in-Err c = λ below subject h e.
    let m = c.args.self.now in
    let arm = c.in-Some-Part-ForSignal-EachBody in
    let same : arm.subject ≡ subject =
    let found = last-found m.pending.items below _ (length m.pending.items) e refl in
    let value = arm.ensures.value in
    let look = c.deref.ensures.value in
    let at0 = arm.field-0-is in
    let at1 = arm.field-0-0-is in
    let at2 = arm.field-0-0-0-is in
    let at3 = arm.subject-is in
    cc in
    let leads = bind-err (setting_at m) (over m below) m.state c.args.turns subject c.args.at h c.bind_at.new.state
    c.in-Err.why (λ entry r. (rw c.in-Err.is at c.bind_at.ensures.entry) entry
    (ap (λ v. slice_get (entries v) c.args.at) same ∙ r)) in record {
      by = leads-off (next_rest (setting_at m)) (λ k. and_then (each_turn (setting_at m) c.args.turns (drop c.args.at
          (entries subject)) m.state) (to_signal k)) c.in-Err.why c.bind_at.new.state (over m below) _ _
          c.halted.ensures refl leads;
      same_bundle = refl;
      same_bound = refl;
    }

pub returns-in_default : goal.returns-in_default
returns-in_default c = λ below subject h e.
    let m = c.args.self.now in
    let same : c.in_default.self ≡ m = elim c.in_default.branch [
      | in_default-via-in-Some+in-Part+in-ForSignal+in_default w ↦ w.self-is
      | in_default-via-in-Some+in-Part+in_default w ↦ w.self-is
      | in_default-via-in-Some+in_default w ↦ w.self-is
      | in_default-via-in_default w ↦ w.self-is
    ] in
    moves_as m m _ _ _ _ (sym (on-is m below m.state m.pending.items _ e)) refl refl (rw same at c.take.ensures)
