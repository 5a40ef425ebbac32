use Rattle.std.proofs.Common.{rules}
use Rattle.dp_outside.proofs.Places.{used_one, used_none}
use Rattle.dp_outside.proofs.tapes.Pieces.give.Goals as goal

pub returns-then-self-len-clause-after : goal.returns-then-self-len-clause-after
returns-then-self-len-clause-after c =
    let p = c.self.inside in
    rw (← c.self.view_is) (used_one p.bytes.items p.cuts.items p.at p.used c.min-count.result)

pub returns-else-self-len-clause-after : goal.returns-else-self-len-clause-after
returns-else-self-len-clause-after c =
    let p = c.self.inside in
    rw (← c.self.view_is) (used_none p.bytes.items p.cuts.items p.at p.used c.min-count.result
    (search (rules, c.if-self-len.false)))
