use Rattle.std.proofs.Common.{refl, sym}
use Rattle.dp_small_steps.proofs.after.receive_after.Goals as goal

pub returns-in-Discard : goal.returns-in-Discard
returns-in-Discard c = λ setting. record { by = λ k. rw (c.in-Discard.is, c.signal.ensures) refl }

pub returns-in-Echoed : goal.returns-in-Echoed
returns-in-Echoed c = λ setting. rw c.in-Echoed.is (c.echoed.ensures setting)

pub returns-in-Defined : goal.returns-in-Defined
returns-in-Defined c = λ setting. rw c.in-Defined.is (c.defined.ensures setting)

pub returns-in-Branch : goal.returns-in-Branch
returns-in-Branch c =
    λ setting. record {
      by = λ k. rw c.in-Branch.is (sym (rw c.holds.ensures at
          (c.branch-arms.ensures setting k c.args.state.now)));
    }

pub returns-in-ReturnIt : goal.returns-in-ReturnIt
returns-in-ReturnIt c = λ setting. record { by = λ k. rw (c.in-ReturnIt.is, c.signal-in-ReturnIt.ensures) refl }

pub returns-in-ExitWith : goal.returns-in-ExitWith
returns-in-ExitWith c = λ setting. rw c.in-ExitWith.is (c.exit_with.ensures setting)

pub returns-in-Test : goal.returns-in-Test
returns-in-Test c =
    λ setting. record {
      by = λ k. rw c.in-Test.is (sym (rw c.holds-in-Test.ensures at
          (c.tested.ensures setting k c.args.state.now)));
    }

pub returns-in-DoTest : goal.returns-in-DoTest
returns-in-DoTest c =
    λ setting. record {
      by = λ k. rw c.in-DoTest.is (sym (rw c.holds-in-DoTest.ensures at
          (c.do_tested.ensures setting k c.args.state.now)));
    }

pub returns-in-Subject : goal.returns-in-Subject
returns-in-Subject c = λ setting. record { by = λ k. rw (c.in-Subject.is, c.alone.ensures) refl }
