use Rattle.std.proofs.Common.{◌≡◌, ◌-◌}
use Rattle.dp_markup.specs.inner.Input.{closed, until}
use Rattle.dp_markup.specs.inner.Search.{sought_step}
use Rattle.dp_markup.proofs.sought.sought_from.Given as goal

abbrev pub invariant-loop-turn : goal.invariant-loop-turn
invariant-loop-turn l =
    closed (sought_step l.fn.is_root l.fn.wanted) l.fn.first l.fn.input
    ≡ until (sought_step l.is_root l.wanted) (l._turn-end - l._turn) l.state l.input
