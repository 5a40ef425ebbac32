use Rattle.std.proofs.Common.{refl, ◌∙◌, arith}
use Rattle.dp_actions.specs.Run.{and_then}
use Rattle.dp_small_steps.proofs.TurnLaws.{at-same, turn-first}
use Rattle.dp_small_steps.proofs.loops.turn.Goals as goal

pub returns-then-left-eq0 : goal.returns-then-left-eq0
unfolding and_then
returns-then-left-eq0 c = λ setting k s. rw (c.if-left-eq0.true, c.unplaced.ensures, c.alone.ensures) refl

pub returns-else-left-eq0 : goal.returns-else-left-eq0
returns-else-left-eq0 c = λ setting k s.
    rw c.placed.ensures (at-same _ s _ _ (λ t. c.tests_first.ensures setting k t)
    ∙ turn-first setting k s c.args.turns c.args.left (omega (arith, c.if-left-eq0.false)))
