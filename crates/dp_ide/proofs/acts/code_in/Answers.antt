use Rattle.std.proofs.Common.{Some, None}
use Rattle.dp_ide.proofs.ActLaws.{reads_number}
use Rattle.dp_ide.proofs.acts.code_in.Goals as goal

pub returns-in-None : goal.returns-in-None
returns-in-None c =
    let read = rw c.in-None.is at c.number_in.ensures in
    reads_number c.args.bytes.now None read

pub returns-in-Some : goal.returns-in-Some
returns-in-Some c =
    let read = rw c.in-Some.is at c.number_in.ensures in
    reads_number c.args.bytes.now (Some c.in-Some.code) read
