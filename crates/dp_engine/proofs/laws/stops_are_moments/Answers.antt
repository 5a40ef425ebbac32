use Rattle.dp_engine.proofs.StopMoments.{stop_is_there}
use Rattle.dp_engine.proofs.laws.stops_are_moments.Goals as goal

pub returns : goal.returns
returns c = λ mode bundle held n moments stop e. stop_is_there mode bundle held n moments stop e
