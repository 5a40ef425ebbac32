use Rattle.std.proofs.Common.{◌≡◌, ◌-◌}
use Rattle.dp_markup.specs.inner.Input.{closed, until}
use Rattle.dp_markup.specs.inner.Search.{pass_step}
use Rattle.dp_markup.proofs.sought.pass_quoted.Given as goal

abbrev pub invariant-loop-turn : goal.invariant-loop-turn
invariant-loop-turn l =
    closed (pass_step l.quote) tt l.fn.input ≡ until (pass_step l.quote) (l._turn-end - l._turn) tt l.input
