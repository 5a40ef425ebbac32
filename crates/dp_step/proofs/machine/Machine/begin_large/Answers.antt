use Rattle.std.proofs.Common.{refl, sym}
use Rattle.dp_meaning.proofs.CallLaws.{setting-bound}
use Rattle.dp_step.specs.inner.Moves.{follows_of, setting_at}
use Rattle.dp_step.proofs.Smalls.{moves_as}
use Rattle.dp_step.proofs.machine.Machine.begin_large.Goals as goal

pub returns : goal.returns
returns c =
    let m = c.args.self.now in
    moves_as m m _ _ _ _ (sym (c.begin.ensures (setting_at m) (setting-bound m.bundle.now m.bound m.depth)
    (follows_of m) m.state)) refl refl c.keep.ensures
