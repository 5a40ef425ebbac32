use Rattle.std.proofs.Common.{◌≡◌, ◌-◌}
use Rattle.dp_markup.specs.inner.Input.{closed, until}
use Rattle.dp_markup.specs.inner.Readers.{spaced_value_step}
use Rattle.dp_markup.proofs.attributes.spaced_value.Given as goal

abbrev pub invariant-loop-turn : goal.invariant-loop-turn
invariant-loop-turn l =
    closed spaced_value_step tt l.fn.input ≡ until spaced_value_step (l._turn-end - l._turn) tt l.input
