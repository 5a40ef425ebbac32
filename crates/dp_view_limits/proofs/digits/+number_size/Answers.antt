use Rattle.std.proofs.Common.{◌^◌, ◌<◌, ◌≤◌, arith}
use Rattle.dp_view_limits.proofs.Decimals.{one_more, short}
use Rattle.dp_view_limits.proofs.digits.+number_size.Goals as goal

pub returns-else-n-lt10-clause-small : goal.returns-else-n-lt10-clause-small
returns-else-n-lt10-clause-small t c =
    let n = c.args.n in
    let small : n < 2 ^ 64 = omega (arith, c.ranges.n) in
    let more : 10 ≤ n = omega (arith, c.if-n-lt10.false) in
    omega (arith, c.number_size.ensures.size, one_more n more small, short n small)
