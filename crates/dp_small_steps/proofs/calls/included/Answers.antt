use Rattle.dp_small_steps.proofs.CallLaws.{included-file}
use Rattle.dp_small_steps.proofs.calls.included.Goals as goal

pub returns-in-None : goal.returns-in-None
returns-in-None c =
    λ setting. rw c.in-None.is (c.given.ensures setting _ c.args.state.now (c.not_included.ensures setting))

pub returns-in-Some : goal.returns-in-Some
returns-in-Some c =
    λ setting. record {
      by = λ k. rw (c.in-Some.is, c.alone.ensures) (included-file setting c.args.how _ c.args.state.now k);
    }
