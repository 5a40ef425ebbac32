use Rattle.std.proofs.Common.{◌-◌}
use Rattle.dp_relay.specs.Asked.{read_limit}
use Rattle.dp_relay.specs.inner.Reading.{HasRead, source_end}
use Rattle.dp_relay.proofs.commands.read_command.Given as goal

abbrev pub invariant-pieces : goal.invariant-pieces
invariant-pieces g l =
    HasRead (source_end g.S.Source l.fn.source) (source_end g.S.Source l.source) l.buffer l.count

abbrev pub decreases-pieces : goal.decreases-pieces
decreases-pieces g l = read_limit - l.count
