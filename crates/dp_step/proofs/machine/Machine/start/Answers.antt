use Rattle.std.proofs.Common.{refl, sym, ◌∙◌}
use Rattle.dp_state.specs.States.{frame_limit}
use Rattle.dp_step.specs.Stands.{rest_of}
use Rattle.dp_step.proofs.MachineSteps.{all-done, starts}
use Rattle.dp_step.proofs.machine.Machine.start.Goals as goal

pub returns-clause-starts : goal.returns-clause-starts
unfolding rest_of
returns-clause-starts c = starts c.args.bundle.now c.args.bound _ refl refl c.in_ok-state.ensures
    (λ s. rw c.new.ensures.items (sym (c.file_hand.ensures.rest _ _ s
    ∙ all-done c.args.bundle.now c.args.bound frame_limit _)))

pub returns-clause-whole : goal.returns-clause-whole
returns-clause-whole c = c.file_hand.ensures.whole
