use Rattle.std.proofs.Common.{◌+◌, drop, refl, ◌∙◌}
use Rattle.std.proofs.Math.ListN.{drop_of_length-le}
use Rattle.dp_actions.specs.Effects.{print_run}
use Rattle.dp_actions.specs.Expressions.{evaluation}
use Rattle.dp_actions.specs.Run.{and_then}
use Rattle.dp_actions.proofs.AtOnceLaws.{first_done}
use Rattle.dp_actions.proofs.ObservedValues.{then_on}
use Rattle.dp_small_steps.proofs.FirstParts.{from-member}
use Rattle.dp_small_steps.proofs.FirstStatements.{echo-first}
use Rattle.dp_step.specs.inner.Moves.{follows_of, setting_at}
use Rattle.dp_step.proofs.FoundTests.{echo-printed}
use Rattle.dp_step.proofs.Smalls.{moves_as, taken-moves}
use Rattle.dp_step.proofs.machine.Machine.echo.Goals as goal

pub returns-in-None : goal.returns-in-None
unfolding and_then
returns-in-None c =
    let m = c.args.self.now in
    let read = rw c.as_slice.ensures at c.in-None.ensures.lookup in
    moves_as m m _ _ _ _ (rw (drop_of_length-le _ read.3) refl) refl refl c.on.ensures

pub returns-then-not-is_momentless : goal.returns-then-not-is_momentless
returns-then-not-is_momentless c =
    let m = c.args.self.now in
    let read = rw c.as_slice.ensures at c.in-Some.ensures.lookup in
    moves_as m m _ _ _ _ (rw (from-member _ _ _ read.3.0 read.1)
    (echo-first (setting_at m) (follows_of m) m.state _ _)) refl refl c.wait.ensures

pub returns-in-Ok : goal.returns-in-Ok
returns-in-Ok c =
    let m = c.args.self.now in
    let read = rw c.as_slice.ensures at c.in-Some.ensures.lookup in
    moves_as m _ _ _ _ _ (echo-printed (setting_at m) m.state (follows_of m) c.in-Some.first.now
    (drop c.args.at c.args.all.now) (drop (c.args.at + 1) c.args.all.now) (from-member _ _ _ read.3.0 read.1)
    ∙ first_done _ (rw c.in-Ok.is at (then_on (rw c.whole.ensures at c.value-value.ensures)
    c.then_print.ensures))) refl refl c.put.ensures

pub returns-in-Err : goal.returns-in-Err
returns-in-Err c =
    let m = c.args.self.now in
    let read = rw c.as_slice.ensures at c.in-Some.ensures.lookup in
    taken-moves m _ _ (and_then (evaluation c.in-Some.first.now (setting_at m) m.state) print_run) _ c.in-Err.why _ _
    c.halted.ensures (echo-printed (setting_at m) m.state (follows_of m) c.in-Some.first.now
    (drop c.args.at c.args.all.now) (drop (c.args.at + 1) c.args.all.now) (from-member _ _ _ read.3.0 read.1))
    refl refl refl (rw c.in-Err.is at (then_on (rw c.whole.ensures at c.value-value.ensures)
    c.then_print.ensures))
