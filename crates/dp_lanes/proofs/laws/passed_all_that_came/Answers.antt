use Rattle.std.proofs.Common.{inl}
use Rattle.dp_lanes.proofs.PassedLaws.{passes_all, passes_good}
use Rattle.dp_lanes.proofs.laws.passed_all_that_came.Goals as goal

pub returns-clause-all : goal.returns-clause-all
returns-clause-all c = λ kind lane read written h part. passes_all kind lane read written h (inl part)

pub returns-clause-good : goal.returns-clause-good
returns-clause-good c = passes_good
