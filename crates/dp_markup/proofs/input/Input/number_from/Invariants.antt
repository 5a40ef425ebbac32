use Rattle.std.proofs.Common.{◌≡◌, ◌-◌}
use Rattle.dp_markup.specs.inner.Input.{closed, until}
use Rattle.dp_markup.specs.inner.Readers.{number_step, behind_of}
use Rattle.dp_markup.proofs.input.Input.number_from.Given as goal

abbrev pub invariant-loop-turn : goal.invariant-loop-turn
invariant-loop-turn l =
    closed (number_step (behind_of l.radix)) l.fn.first l.fn.self ≡ until (number_step (behind_of l.radix))
    (l._turn-end - l._turn) l.state l.self
