use Rattle.std.proofs.Common.{◌≡◌, drop}
use Rattle.dp_meaning.specs.Writes.{evaluation_setting, written_by}
use Rattle.dp_meaning.proofs.moment_writes.write_all.Given as goal

abbrev pub invariant-loop-w : goal.invariant-loop-w
invariant-loop-w l = written_by (evaluation_setting l.bundle) l.writes l.number l.fn.state
    ≡ written_by (evaluation_setting l.bundle) (drop l.w-index l.writes) l.number l.state
