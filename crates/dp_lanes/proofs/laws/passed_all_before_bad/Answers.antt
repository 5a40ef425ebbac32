use Rattle.std.proofs.Common.{inr}
use Rattle.dp_lanes.proofs.PassedLaws.{passes_all, passes_bad}
use Rattle.dp_lanes.proofs.laws.passed_all_before_bad.Goals as goal

pub returns-clause-all : goal.returns-clause-all
returns-clause-all c = λ kind lane read written h none. passes_all kind lane read written h (inr none)

pub returns-clause-bad : goal.returns-clause-bad
returns-clause-bad c = λ kind lane read written why h none cause. passes_bad kind lane read written h why none cause
