use Rattle.std.proofs.Common.{drop}
use Rattle.dp_break.proofs.CountLaws.{found-held, found-stop}
use Rattle.dp_break.proofs.laws.counting_by_moments.Goals as goal

pub returns-clause-stop : goal.returns-clause-stop
returns-clause-stop c = λ mode bundle held n moments. found-stop bundle mode held n (drop n moments)

pub returns-clause-held : goal.returns-clause-held
returns-clause-held c = λ mode bundle held n moments. found-held bundle mode held n (drop n moments)
