use Rattle.std.proofs.Common.{◌≡◌, ◌≤◌, ◌-◌, ◌++◌, drop, take}
use Rattle.dp_markup.specs.Escapes.{escaped_all}
use Rattle.dp_markup.specs.Outputs.{behind}
use Rattle.dp_markup.proofs.outputs.put_escaped.Given as goal

abbrev pub invariant-loop-at : goal.invariant-loop-at
invariant-loop-at g l =
    (l.from ≤ l.at)
    × (behind (g.O.Output.seen l.fn.out) (escaped_all l.bytes)
    ≡ behind (g.O.Output.seen l.out) (take (l.at - l.from) (drop l.from l.bytes) ++ escaped_all (drop l.at l.bytes)))
