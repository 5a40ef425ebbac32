use Rattle.std.proofs.Common.{◌≡◌, ◌-◌}
use Rattle.dp_markup.specs.inner.Input.{closed, until}
use Rattle.dp_markup.specs.inner.Search.{spaced_pass_step}
use Rattle.dp_markup.proofs.sought.spaced_pass.Given as goal

abbrev pub invariant-loop-turn : goal.invariant-loop-turn
invariant-loop-turn l =
    closed spaced_pass_step tt l.fn.input ≡ until spaced_pass_step (l._turn-end - l._turn) tt l.input
