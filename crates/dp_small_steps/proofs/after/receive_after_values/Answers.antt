use Rattle.std.proofs.Common.{refl, sym}
use Rattle.dp_small_steps.proofs.after.receive_after_values.Goals as goal

pub returns-in-Call : goal.returns-in-Call
returns-in-Call c = λ setting. record { by = λ k. rw (c.in-Call.is, c.alone.ensures) refl }

pub returns-in-Unset : goal.returns-in-Unset
returns-in-Unset c = λ setting. rw c.in-Unset.is (c.unset_next.ensures setting)

pub returns-in-Turns : goal.returns-in-Turns
returns-in-Turns c = λ setting. record { by = λ k. rw (c.in-Turns.is, c.alone-in-Turns.ensures) refl }

pub returns-in-Tests : goal.returns-in-Tests
returns-in-Tests c =
    λ setting. record {
      by = λ k. rw c.in-Tests.is (sym (rw c.test_holds.ensures at
          (c.tested.ensures setting k c.args.state.now)));
    }
