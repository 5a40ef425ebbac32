use Rattle.std.proofs.Common.{◌<◌, length, ap, ◌∙◌, arith}
use Rattle.dp_state.specs.inner.Parts.{with_pair}
use Rattle.dp_state.proofs.Pairs.{take_next}
use Rattle.dp_state.proofs.vars.Vars.try_clone.Goals as goal

pub loop-at-preserved : goal.loop-at-preserved
loop-at-preserved c =
    let within : c.loop-at.at < length c.args.self.now = omega (arith, c.len-at-end.ensures.len, c.loop-at-test.true) in
    c.in_ok-copy_pair.ensures
    ∙ ap (with_pair c.args.self.now c.loop-at.at) c.loop-at.invariant
    ∙ take_next c.args.self.now c.loop-at.at c.len-at-end.ensures.distinct within
