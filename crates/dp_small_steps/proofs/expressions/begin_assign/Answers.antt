use Rattle.std.proofs.Common.{◌≡◌, [], length, sym, ap, ◌∙◌, arith, eqb-true}
use Rattle.std.proofs.Math.ListN.{drop_of_length-le}
use Rattle.dp_actions.specs.Expressions.{evaluation}
use Rattle.dp_actions.specs.Places.{assign_run}
use Rattle.dp_actions.specs.Run.{and_then}
use Rattle.dp_actions.proofs.Runs.{and_then-assoc}
use Rattle.dp_small_steps.specs.Parts.{to_value}
use Rattle.dp_small_steps.proofs.expressions.begin_assign.Goals as goal

pub returns-then-is_empty : goal.returns-then-is_empty
unfolding and_then
returns-then-is_empty c = λ setting k s.
    let none : length c.args.place.now.indices ≡ 0 = sym (ap length c.as_slice.ensures)
    ∙ eqb-true (length c.as_slice.result.now) 0 (sym c.is_empty.ensures ∙ c.if-is_empty.true) in
    rw (
      drop_of_length-le c.args.place.now.indices {i = 0} (omega (arith, none)),
      c.as_ref.ensures,
      c.of-none.ensures,
      c.new.ensures.items,
    ) (sym (and_then-assoc (evaluation c.args.right.now setting s)
    (assign_run c.args.place.now.name [] c.args.push) (to_value k)))

pub returns-else-is_empty : goal.returns-else-is_empty
returns-else-is_empty c = λ setting k s. c.values_first.ensures setting k s
