use Rattle.std.proofs.Common.{Err, arith, subst, sym}
use Rattle.dp_write_commands.specs.inner.Writes.{IsTree}
use Rattle.dp_write_commands.proofs.RequestedWrites.{too_long, tree_found, why_none}
use Rattle.dp_write_commands.proofs.requests.tree_of.Goals as goal

pub returns-in-Ok : goal.returns-in-Ok
returns-in-Ok c = tree_found c.args.text.now (omega arith) c.in-Ok.e c.in-Ok.ensures.read

pub returns-in-Err : goal.returns-in-Err
returns-in-Err c =
    subst (λ e. IsTree c.args.text.now (Err e)) (sym c.no_expression.ensures)
    (why_none c.args.text.now (omega arith) c.in-Err.why c.in-Err.ensures.read)

pub returns-then-text-gt-COMMAND_LIMIT : goal.returns-then-text-gt-COMMAND_LIMIT
returns-then-text-gt-COMMAND_LIMIT c = too_long c.args.text.now (omega arith)
