use Rattle.dp_meaning.proofs.Drives.{gives, passes, stops_at}
use Rattle.dp_meaning.proofs.evaluator.Evaluator.leave.Goals as goal

pub returns-in-Ok : goal.returns-in-Ok
returns-in-Ok g c =
    passes (rw (c.line-line.ensures, c.in-Ok.is) at c.at_moment.ensures)
    (rw (c.leave.ensures, c.returned.ensures) gives)

pub returns-in-Err : goal.returns-in-Err
returns-in-Err g c = stops_at (rw (c.line-line.ensures, c.in-Err.is) at c.at_moment.ensures)
