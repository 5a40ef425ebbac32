use Rattle.std.proofs.Common.{refl}
use Rattle.dp_meaning.proofs.CallLaws.{setting-bundle}
use Rattle.dp_small_steps.specs.Rest.{small_rest}
use Rattle.dp_step.specs.inner.Moves.{follows_of, setting_at}
use Rattle.dp_step.proofs.Smalls.{leads-off, moves_on}
use Rattle.dp_step.proofs.machine.Machine.first.Goals as goal

pub returns-in-Ok : goal.returns-in-Ok
returns-in-Ok c =
    let m = c.args.self.now in
    moves_on (setting_at m) _ c.in-Ok.small c.first_of.new.state (follows_of m) m _ _ _ _ refl refl refl
    (rw c.in-Ok.is at (c.first_of.ensures (setting_at m) (setting-bundle m.bundle.now m.bound m.depth))) c.keep.ensures

pub returns-in-Err : goal.returns-in-Err
returns-in-Err c =
    let m = c.args.self.now in record {
      by = leads-off (small_rest (setting_at m)) _ c.in-Err.why c.first_of.new.state (follows_of m) _ _ c.halted.ensures
          refl (rw c.in-Err.is at (c.first_of.ensures (setting_at m) (setting-bundle m.bundle.now m.bound m.depth)));
      same_bundle = refl;
      same_bound = refl;
    }
