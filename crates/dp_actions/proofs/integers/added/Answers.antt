use Rattle.std.proofs.Common.{refl, pos, negsuc}
use Rattle.dp_tree.specs.declared.operators.UnaryOp.TheVariants.{Increment, Decrement}
use Rattle.dp_actions.proofs.HeldIntegers.{added_held}
use Rattle.dp_actions.proofs.integers.added.Goals as goal

pub returns-in-Increment-clause-some : goal.returns-in-Increment-clause-some
returns-in-Increment-clause-some c =
    rw c.in-Increment.is (added_held c.args.name.now c.args.state.now Increment (pos 1) _ _ (λ m. refl)
    c.add.ensures.sum c.add.ensures.added)

pub returns-in-Decrement-clause-some : goal.returns-in-Decrement-clause-some
returns-in-Decrement-clause-some c =
    rw c.in-Decrement.is (added_held c.args.name.now c.args.state.now Decrement (negsuc 0) _ _ (λ m. refl)
    c.add-in-Decrement.ensures.sum c.add-in-Decrement.ensures.added)
