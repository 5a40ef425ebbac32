use Rattle.std.proofs.Common.{◌≡◌, ◌-◌, true}
use Rattle.dp_markup.specs.inner.Input.{closed, until}
use Rattle.dp_markup.specs.inner.Readers.{prolog_step}
use Rattle.dp_markup.proofs.documents.prolog.Given as goal

abbrev pub invariant-loop-turn : goal.invariant-loop-turn
invariant-loop-turn l = closed prolog_step true l.fn.input ≡ until prolog_step (l._turn-end - l._turn) l.state l.input
