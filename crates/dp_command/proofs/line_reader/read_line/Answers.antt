use Rattle.std.proofs.Common.{arith}
use Rattle.dp_command.proofs.Formed as well
use Rattle.dp_command.proofs.LineLaws.{read_found, read_only, never_parse}
use Rattle.dp_command.proofs.Short.{read_short}
use Rattle.dp_command.proofs.line_reader.read_line.Goals as goal

pub returns-clause-found : goal.returns-clause-found
returns-clause-found c =
    read_found c.args.bytes.now c.line.result (λ i. omega (arith, c.type_inv.bytes i)) c.line.ensures

pub returns-clause-only : goal.returns-clause-only
returns-clause-only c = λ line s. read_only c.args.bytes.now c.line.result line c.line.ensures s

pub returns-clause-formed : goal.returns-clause-formed
returns-clause-formed c = well.formed c.args.bytes.now c.line.result (returns-clause-found c)

pub returns-clause-parse : goal.returns-clause-parse
returns-clause-parse c = λ e line s. never_parse c.line.result line e (returns-clause-only c line s)

pub returns-clause-short : goal.returns-clause-short
returns-clause-short c = read_short c.args.bytes.now c.line.result (returns-clause-found c)
