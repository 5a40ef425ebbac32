use Rattle.std.proofs.Common.{reverse}
use Rattle.dp_view.proofs.Steps.{level_step}
use Rattle.dp_view.proofs.stacks.all_lines.Goals as goal

pub loop-level-preserved : goal.loop-level-preserved
loop-level-preserved c =
    level_step c.args.bundle.now (reverse c.args.frames.now) c.loop-level.lines.items c.put_line.new.lines.items _
    c.loop-level.level c.loop-level.invariant c.in_ok-put_line.ensures
