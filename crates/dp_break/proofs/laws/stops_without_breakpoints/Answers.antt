use Rattle.dp_break.proofs.CountLaws.{stop-none}
use Rattle.dp_break.proofs.laws.stops_without_breakpoints.Goals as goal

pub returns : goal.returns
returns c = λ mode bundle n moments. stop-none bundle mode n moments
