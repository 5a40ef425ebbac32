use Rattle.std.proofs.Common.{◌≡◌, ◌++◌, length}
use Rattle.dp_engine.specs.Responses.{streams}
use Rattle.dp_engine.proofs.streams.put_streams.Given as goal

abbrev pub invariant-loop-rest : goal.invariant-loop-rest
invariant-loop-rest l = l.fn.texts.items ++ streams l.output ≡ l.texts.items ++ streams l.rest

abbrev pub decreases-loop-rest : goal.decreases-loop-rest
decreases-loop-rest l = length l.rest
