use Rattle.std.proofs.Common.{◌≡◌, ◌-◌}
use Rattle.dp_markup.specs.inner.Input.{closed, until}
use Rattle.dp_markup.specs.inner.Readers.{spaced_mark_step}
use Rattle.dp_markup.proofs.attributes.spaced_mark.Given as goal

abbrev pub invariant-loop-turn : goal.invariant-loop-turn
invariant-loop-turn l =
    closed (spaced_mark_step l.byte) tt l.fn.input ≡ until (spaced_mark_step l.byte) (l._turn-end - l._turn) tt l.input
