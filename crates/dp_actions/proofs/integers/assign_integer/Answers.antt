use Rattle.std.proofs.Common.{sym, ◌∙◌}
use Rattle.std.proofs.lemmas.Int.{to_z-of_z}
use mir.Syntax.{w64}
use Rattle.dp_actions.proofs.HeldIntegers.{assigned_held}
use Rattle.dp_actions.proofs.Tails.{step-ok}
use Rattle.dp_actions.proofs.integers.assign_integer.Goals as goal

pub returns-then-put_integer : goal.returns-then-put_integer
returns-then-put_integer c =
    let n = c.args.n in
    let held = sym c.put_integer.ensures.held ∙ c.if-put_integer.true in
    rw (c.put_integer.ensures.put, held, to_z-of_z w64 n c.ranges.n)
    (step-ok c.args.state.now _ _ (assigned_held c.args.name.now c.args.state.now n held))

pub returns : goal.returns
returns c =
    let held = sym c.put_integer.ensures.held ∙ c.if-put_integer.false in
    rw (c.put_integer.ensures.put, held, to_z-of_z w64 c.args.n c.ranges.n) at c.assign_variable.ensures
