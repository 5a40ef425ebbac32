use Rattle.dp_async.specs.Beside.{flow_of}
use Rattle.dp_async.specs.inner.Reading.{ReadsSoFar}
use Rattle.dp_async.proofs.reader.read_out.Given as goal

abbrev pub invariant-pieces : goal.invariant-pieces
invariant-pieces g l =
    ReadsSoFar (flow_of g.S.Source l.fn.source) (flow_of g.S.Source l.source) l.fn.post l.seat
