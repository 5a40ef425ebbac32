use Rattle.std.proofs.Common.{inl, ap}
use Rattle.dp_ide.specs.declared.errors.IdeError.TheVariants.{BadScript}
use Rattle.dp_ide.specs.Scripts.{SaysAt}
use Rattle.dp_ide.proofs.LineLaws.{no_bad}
use Rattle.dp_grammar.proofs.Lines.{one_bad}
use Rattle.dp_ide.proofs.script.Script.read.Goals as goal

pub returns-in-Ok-clause-bad_only : goal.returns-in-Ok-clause-bad_only
returns-in-Ok-clause-bad_only c =
    let read = rw c.in-Ok.is at c.in_ok-said.ensures in
    λ bad first. no_bad c.args.bytes.now bad c.in-Ok.said.items first read.0

pub returns-in-Err-clause-only : goal.returns-in-Err-clause-only
returns-in-Err-clause-only c =
    let bad = rw c.in-Err.is at c.in_ok-said.ensures in
    λ instructions is. absurd (no_bad c.args.bytes.now c.in-Err.line instructions bad is)

pub returns-in-Err-clause-bad_only : goal.returns-in-Err-clause-bad_only
returns-in-Err-clause-bad_only c =
    let bad = rw c.in-Err.is at c.in_ok-said.ensures in
    λ line first. inl (ap BadScript (one_bad SaysAt c.args.bytes.now c.in-Err.line line bad first))
