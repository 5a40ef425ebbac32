use Rattle.std.proofs.Common.{◌≡◌, ◌+◌, ◌*◌, ◌-◌}
use Rattle.dp_markup.specs.inner.Input.{closed, until}
use Rattle.dp_markup.specs.inner.Readers.{content_step, opened}
use Rattle.dp_markup.proofs.elements.+elements.Given as goal

abbrev pub invariant-inside_from-loop-turn : goal.invariant-inside_from-loop-turn
invariant-inside_from-loop-turn l =
    closed (content_step (opened l.level) l.name) l.fn.first l.fn.input ≡ until (content_step (opened l.level) l.name)
    (l._turn-end - l._turn) l.state l.input

abbrev pub decreases-opened : goal.decreases-opened
decreases-opened l = 7 * l.level + 0

abbrev pub decreases-bracket : goal.decreases-bracket
decreases-bracket l = 7 * l.level + 1

abbrev pub decreases-content_step : goal.decreases-content_step
decreases-content_step l = 7 * l.level + 2

abbrev pub decreases-inside_from : goal.decreases-inside_from
decreases-inside_from l = 7 * l.level + 3

abbrev pub decreases-inside : goal.decreases-inside
decreases-inside l = 7 * l.level + 4

abbrev pub decreases-behind_start : goal.decreases-behind_start
decreases-behind_start l = 7 * l.level + 5

abbrev pub decreases-element_in : goal.decreases-element_in
decreases-element_in l = 7 * l.level + 6
