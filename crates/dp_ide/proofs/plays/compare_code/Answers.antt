use Rattle.std.proofs.Common.{rules, ◌≡◌, decimal, arith}
use Rattle.dp_ide.proofs.ActsPlayed.{same_numbers}
use Rattle.dp_ide.proofs.plays.compare_code.Goals as goal

pub returns-clause-ok : goal.returns-clause-ok
returns-clause-ok c =
    let wanted : c.as_bytes.result.now ≡ decimal c.args.wanted = search rules in
    let found : c.as_bytes-2.result.now ≡ decimal c.args.found = search rules in
    same_numbers c.compare.result c.args.found c.args.wanted c.as_bytes-2.result.now c.as_bytes.result.now
    (omega (arith, c.ranges.found.fits)) (omega (arith, c.ranges.wanted.fits)) found wanted
    c.compare.ensures.ok
