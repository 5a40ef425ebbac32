use Rattle.std.proofs.Common.{◌≡◌, ◌-◌}
use Rattle.dp_markup.specs.inner.Input.{closed, until}
use Rattle.dp_markup.specs.inner.Readers.{trail_step}
use Rattle.dp_markup.proofs.documents.trail.Given as goal

abbrev pub invariant-loop-turn : goal.invariant-loop-turn
invariant-loop-turn l =
    closed trail_step l.fn.root l.fn.input ≡ until trail_step (l._turn-end - l._turn) l.state l.input
