use Rattle.dp_bodies.proofs.HeadLaws.{agreed_front}
use Rattle.dp_bodies.proofs.heads.compared.Goals as goal

pub returns-then-bytes-index : goal.returns-then-bytes-index
returns-then-bytes-index c =
    agreed_front c.args.bytes.now c.args.wanted.now c.loop-index.index c.loop-index.invariant.0
    c.loop-index.invariant.1 c.if-bytes-index.true c.loop-index-test.true
