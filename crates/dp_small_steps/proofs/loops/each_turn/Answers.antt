use Rattle.std.proofs.Common.{refl, arith, ◌∙◌}
use Rattle.std.proofs.Math.ListN.{drop_of_length-le}
use Rattle.dp_actions.specs.Loops.{entries}
use Rattle.dp_actions.specs.Run.{and_then}
use Rattle.dp_small_steps.proofs.TurnLaws.{at-same, each-first}
use Rattle.dp_small_steps.proofs.loops.each_turn.Goals as goal

pub returns-then-at-entry_count : goal.returns-then-at-entry_count
unfolding and_then
returns-then-at-entry_count c = λ setting k s.
    rw (
      c.unplaced.ensures,
      c.signal.ensures,
      drop_of_length-le (entries c.args.subject) {i = c.args.at}
          (omega (arith, c.if-at-entry_count.true, c.entry_count.ensures)),
    ) refl

pub returns-else-at-entry_count : goal.returns-else-at-entry_count
returns-else-at-entry_count c = λ setting k s.
    rw c.placed.ensures (at-same c.args.turns.line s _ _ (λ t. c.due_entry.ensures setting k t)
    ∙ each-first setting k s c.args.turns c.args.subject c.args.at
    (omega (arith, c.if-at-entry_count.false, c.entry_count.ensures)))
