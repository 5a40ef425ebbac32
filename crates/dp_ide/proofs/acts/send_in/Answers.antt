use Rattle.std.proofs.Common.{rules, ◌≡◌, List, ℕ, ◌++◌, codes, Some, None, sym, subst}
use Rattle.dp_command.specs.Letters as letter
use Rattle.dp_command.specs.Options.{given}
use Rattle.dp_wire.specs.Frames.{IsCommand}
use Rattle.dp_ide.specs.declared.instruction.Act.TheVariants.{Send}
use Rattle.dp_ide.specs.Scripts.{ActLine}
use Rattle.dp_ide.specs.inner.Readers.{Reads}
use Rattle.dp_ide.proofs.ActLaws.{no_command, no_id, no_line, reads_command, reads_send}
use Rattle.dp_ide.proofs.acts.send_in.Goals as goal

pub returns-then-not-is_command : goal.returns-then-not-is_command
returns-then-not-is_command c = reads_send c.args.line.now None (no_command c.args.line.now (search rules))

pub returns-in-Err-Parse : goal.returns-in-Err-Parse
returns-in-Err-Parse c = reads_send c.args.line.now None (no_line c.args.line.now (search rules))

pub returns-in-None : goal.returns-in-None
returns-in-None c =
    let none : given letter.i c.in-Ok.parts.options ≡ None = search rules in
    reads_send c.args.line.now None
    (no_id c.args.line.now c.in-Ok.parts (λ other is. sym (c.in-Ok.ensures.only other is)) none)

pub returns : goal.returns
returns c =
    let line = c.args.line.now in
    let id : given letter.i c.in-Ok.parts.options ≡ Some c.in-Some.id.now = search rules in
    let is : IsCommand line = search rules in
    let read = reads_send line (Some c.in-Some.id.now) (reads_command line c.in-Ok.parts
    (λ other is. sym (c.in-Ok.ensures.only other is)) c.in-Some.id.now is c.in-Ok.ensures.found id) in
    subst (λ (l : List ℕ). Reads ActLine (codes "send " ++ line) (Some (Send l c.in_ok-from_slice-in-Some-2.field-0)))
    (sym c.in_ok-from_slice-in-Some.ensures)
    (subst (λ (i : List ℕ). Reads ActLine (codes "send " ++ line) (Some (Send line i)))
    (sym c.in_ok-from_slice-in-Some-2.ensures) read)
