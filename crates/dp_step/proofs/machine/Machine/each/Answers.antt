use Rattle.std.proofs.Common.{length, ◌≤◌, ◌+◌, refl, ap, arith}
use Rattle.std.proofs.Math.ListN.{drop_of_length-le}
use Rattle.dp_actions.specs.Run.{Run, and_then}
use Rattle.dp_actions.specs.declared.signal.Signal.{Signal}
use Rattle.dp_small_steps.specs.Parts.{to_signal}
use Rattle.dp_small_steps.proofs.FirstParts.{from-member}
use Rattle.dp_small_steps.proofs.FirstStatements.{body-first}
use Rattle.dp_step.specs.inner.Moves.{follows_of, setting_at}
use Rattle.dp_step.proofs.Smalls.{moves_as}
use Rattle.dp_step.proofs.LastStatements.{last-run}
use Rattle.dp_step.proofs.machine.Machine.each.Goals as goal

pub returns-in-None : goal.returns-in-None
unfolding and_then
returns-in-None c =
    let m = c.args.self.now in
    let read = rw c.as_slice.ensures at c.in-None.ensures.lookup in
    moves_as m m _ _ _ _ (rw (drop_of_length-le _ read.3) refl) refl refl c.on.ensures

pub returns-then-at-as_slice : goal.returns-then-at-as_slice
returns-then-at-as_slice c =
    let m = c.args.self.now in
    let read = rw c.as_slice.ensures at c.in-Some.ensures.lookup in
    moves_as m m _ _ _ _ (rw (from-member _ _ _ read.3.0 read.1)
    (body-first (setting_at m) (follows_of m) m.state _ _)) refl refl c.wait.ensures

pub returns-else-at-as_slice : goal.returns-else-at-as_slice
returns-else-at-as_slice c =
    let m = c.args.self.now in
    let read = rw c.as_slice.ensures at c.in-Some.ensures.lookup in
    let last = rw c.as_slice-in-Some.ensures at c.if-at-as_slice.false in
    let short : length c.args.all.now ≤ c.args.at + 1 = omega (arith, last) in
    moves_as m m _ _ _ _ (rw (from-member _ _ _ read.3.0 read.1, drop_of_length-le _ short)
    (ap (λ (r : Run Signal). and_then r (to_signal (follows_of m))) (last-run (setting_at m) _ m.state)))
    refl refl c.put.ensures
