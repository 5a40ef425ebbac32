use Rattle.std.proofs.Common.{arith}
use Rattle.dp_state.proofs.vars.Vars.len.Goals as goal

pub overflow_add-result : goal.overflow_add-result
overflow_add-result c =
    omega (
      arith,
      c.self.invariant.0,
      c.self.inside.near.ok.0,
      c.self.inside.near.small,
      c.len.ensures.small,
    )
