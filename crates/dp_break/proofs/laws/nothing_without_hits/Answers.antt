use Rattle.dp_break.proofs.Settled.{no_hit-held, no_hit-stops}
use Rattle.dp_break.proofs.laws.nothing_without_hits.Goals as goal

pub returns-clause-held : goal.returns-clause-held
returns-clause-held c = λ bundle held at e. no_hit-held bundle at held e

pub returns-clause-stop : goal.returns-clause-stop
returns-clause-stop c = λ bundle held at e. no_hit-stops bundle at held e
