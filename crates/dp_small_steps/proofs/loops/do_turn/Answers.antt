use Rattle.std.proofs.Common.{refl, arith}
use Rattle.dp_actions.specs.Run.{and_then}
use Rattle.dp_small_steps.proofs.TurnLaws.{do-first}
use Rattle.dp_small_steps.proofs.loops.do_turn.Goals as goal

pub returns-then-left-eq0 : goal.returns-then-left-eq0
unfolding and_then
returns-then-left-eq0 c = λ setting k s. rw (c.if-left-eq0.true, c.alone.ensures) refl

pub returns-else-left-eq0 : goal.returns-else-left-eq0
returns-else-left-eq0 c = λ setting k s.
    rw c.as_ref.ensures (do-first setting k s c.args.turns c.args.left (omega (arith, c.if-left-eq0.false)))
