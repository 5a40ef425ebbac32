use Rattle.dp_polled.proofs.Waiting.{IsQuiet}
use Rattle.dp_polled.proofs.posted.PostedPolled.wait.Given as goal

abbrev pub invariant-tries : goal.invariant-tries
invariant-tries g l = IsQuiet l.initial.self l.self
