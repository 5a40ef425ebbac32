use Rattle.std.proofs.Common.{Some, None}
use Rattle.dp_ide.proofs.ActLaws.{reads_out}
use Rattle.dp_ide.proofs.acts.out_in.Goals as goal

pub returns-in-None : goal.returns-in-None
returns-in-None c =
    let read = rw c.in-None.is at c.in_ok-text_behind.ensures in
    reads_out c.args.bytes.now None read

pub returns-in-Some : goal.returns-in-Some
returns-in-Some c =
    let read = rw c.in-Some.is at c.in_ok-text_behind.ensures in
    reads_out c.args.bytes.now (Some c.in-Some.text) read
