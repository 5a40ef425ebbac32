use Rattle.std.proofs.Common.{inl, ap, ◌∙◌}
use Rattle.dp_events.specs.declared.errors.ListError.TheVariants.{BadLine}
use Rattle.dp_events.specs.Lists.{AddsAt}
use Rattle.dp_events.proofs.ListLaws.{one_list, bad_excludes}
use Rattle.dp_grammar.proofs.Lines.{one_bad}
use Rattle.dp_events.proofs.events.Events.read.Goals as goal

pub returns-in-Ok-clause-only : goal.returns-in-Ok-clause-only
returns-in-Ok-clause-only c =
    let read = rw c.in-Ok.is at c.in_ok-reading.ensures in
    λ events list. c.done.ensures ∙ one_list c.args.bytes.now c.in-Ok.reading.events.items events read.1 list

pub returns-in-Ok-clause-bad_only : goal.returns-in-Ok-clause-bad_only
returns-in-Ok-clause-bad_only c =
    let read = rw c.in-Ok.is at c.in_ok-reading.ensures in
    λ line bad. bad_excludes c.args.bytes.now line c.in-Ok.reading.events.items bad read.1

pub returns-in-Err-clause-only : goal.returns-in-Err-clause-only
returns-in-Err-clause-only c =
    let bad = rw c.in-Err.is at c.in_ok-reading.ensures in
    λ events list. absurd (bad_excludes c.args.bytes.now c.in-Err.line events bad list)

pub returns-in-Err-clause-bad_only : goal.returns-in-Err-clause-bad_only
returns-in-Err-clause-bad_only c =
    let bad = rw c.in-Err.is at c.in_ok-reading.ensures in
    λ line other. inl (ap BadLine (one_bad AddsAt c.args.bytes.now c.in-Err.line line bad other))
