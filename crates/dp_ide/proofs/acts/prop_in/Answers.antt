use Rattle.std.proofs.Common.{Some, None}
use Rattle.dp_ide.proofs.ActLaws.{reads_prop}
use Rattle.dp_ide.proofs.acts.prop_in.Goals as goal

pub returns-in-None : goal.returns-in-None
returns-in-None c =
    let read = rw c.in-None.is at c.in_ok-named_in.ensures in
    reads_prop c.args.bytes.now None read

pub returns-in-Some : goal.returns-in-Some
returns-in-Some c =
    let read = rw c.in-Some.is at c.in_ok-named_in.ensures in
    reads_prop c.args.bytes.now (Some (c.in-Some.field-0.name, c.in-Some.field-0.text)) read
