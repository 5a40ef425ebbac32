use Rattle.std.proofs.Common.{◌≡◌, ◌-◌}
use Rattle.dp_markup.specs.inner.Input.{closed, until}
use Rattle.dp_markup.specs.inner.Readers.{tag_step}
use Rattle.dp_markup.proofs.attributes.tag_from.Given as goal

abbrev pub invariant-loop-turn : goal.invariant-loop-turn
invariant-loop-turn l =
    closed (tag_step l.fn.name) l.fn.first l.fn.input ≡ until (tag_step l.name) (l._turn-end - l._turn) l.state l.input
