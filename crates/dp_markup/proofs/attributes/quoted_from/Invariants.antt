use Rattle.std.proofs.Common.{◌≡◌, ◌-◌}
use Rattle.dp_markup.specs.inner.Input.{closed, until}
use Rattle.dp_markup.specs.inner.Readers.{value_step}
use Rattle.dp_markup.proofs.attributes.quoted_from.Given as goal

abbrev pub invariant-loop-turn : goal.invariant-loop-turn
invariant-loop-turn l =
    closed (value_step l.quote) l.fn.first l.fn.input ≡ until (value_step l.quote)
    (l._turn-end - l._turn) l.state l.input
