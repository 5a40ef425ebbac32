use Rattle.std.proofs.Common.{◌≡◌, ◌++◌, ◌==◌, drop, if◌then◌else◌, map, take}
use Rattle.dp_break.specs.Changes.{changed_to}
use Rattle.dp_break.proofs.breaks.change_held.Given as goal

abbrev pub invariant-loop-breakpoint : goal.invariant-loop-breakpoint
invariant-loop-breakpoint l =
    let old = l.initial.breakpoint-items in
    l.breakpoint-items
    ≡ map (λ b. if b.id == l.id then changed_to l.change l.line l.resolve b else b) (take l.breakpoint-index old)
    ++ drop l.breakpoint-index old
