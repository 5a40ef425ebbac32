use Rattle.std.proofs.Common.{refl, sym}
use Rattle.std.proofs.Math.ListN.{drop_of_length-le}
use Rattle.dp_small_steps.proofs.FirstStatements.{arms-first}
use Rattle.dp_step.specs.inner.Moves.{follows_of, setting_at}
use Rattle.dp_step.proofs.Smalls.{moves_as}
use Rattle.dp_step.proofs.machine.Machine.arms.Goals as goal

pub returns-in-None : goal.returns-in-None
returns-in-None c =
    let m = c.args.self.now in
    let read = rw c.as_slice.ensures at c.in-None.ensures.lookup in
    moves_as m m _ _ _ _ (rw (drop_of_length-le _ read.3) refl) refl refl c.without_arm.ensures

pub returns-in-Some : goal.returns-in-Some
returns-in-Some c =
    let m = c.args.self.now in
    let read = rw c.as_slice.ensures at c.in-Some.ensures.lookup in
    moves_as m m _ _ _ _ (sym (arms-first (setting_at m) (follows_of m) m.state c.args.all.now c.args.at
    c.in-Some.first.now _ read.3.0 read.1)) refl refl c.placed.ensures
