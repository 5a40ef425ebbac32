use Rattle.std.proofs.Common.{◌+◌, Bool, true, false, subst, rules, tests, arith}
use Rattle.std.proofs.lemmas.List.{length_push}
use Rattle.dp_grammar.proofs.Lines.{line_of_turn, lines_end, lines_yielded, read_all, read_bad}
use Rattle.dp_ide.specs.Scripts.{SaysAt}
use Rattle.dp_ide.specs.inner.Readers.{Takes}
use Rattle.dp_ide.proofs.LineLaws.{read_line}
use Rattle.dp_ide.proofs.readers.read_lines.Goals as goal

pub returns-then-not-branch : goal.returns-then-not-branch
returns-then-not-branch c =
    let bytes = c.args.bytes.now in
    let line = c.in-Some.line.now in
    let number = c.loop-line.number in
    let here = line_of_turn bytes c.loop-line.yielded _ _ number c.loop-line.invariant.0 c.loop-line.yielded_by _
    c.in-Some.line c.in-Some.is c.next.ensures.steps
    (lines_yielded _ bytes c.into_iter-line-iterator.ensures.into_iter_gives c.split-line-items.ensures.rest
    c.split-line-items.ensures.done c.split-line-items.ensures.closure (λ x b q k. search (rules, tests))) in
    let said = c.loop-line.said.items in
    let new = c.put_line.new.said.items in
    let takes : Takes (number + 1) line false said new = subst (λ (b : Bool). Takes (number + 1) line b said new)
    c.if-not-branch.true c.in_ok-put_line.ensures in
    read_bad SaysAt bytes number said line c.loop-line.invariant.1 here takes

pub loop-line-preserved : goal.loop-line-preserved
loop-line-preserved c =
    let bytes = c.args.bytes.now in
    let line = c.in-Some.line.now in
    let number = c.loop-line.number in
    let here = line_of_turn bytes c.loop-line.yielded _ _ number c.loop-line.invariant.0 c.loop-line.yielded_by _
    c.in-Some.line c.in-Some.is c.next.ensures.steps
    (lines_yielded _ bytes c.into_iter-line-iterator.ensures.into_iter_gives c.split-line-items.ensures.rest
    c.split-line-items.ensures.done c.split-line-items.ensures.closure (λ x b q k. search (rules, tests))) in
    let said = c.loop-line.said.items in
    let new = c.put_line.new.said.items in (
      omega (arith, c.loop-line.invariant.0, length_push c.loop-line.yielded c.in-Some.line),
      read_line bytes number said line new c.loop-line.invariant.1 here
          (subst (λ (b : Bool). Takes (number + 1) line b said new) c.if-not-branch.false c.in_ok-put_line.ensures),
    )

pub returns : goal.returns
returns c =
    let bytes = c.args.bytes.now in
    let number = c.loop-line.number in
    let end = lines_end bytes c.loop-line.yielded _ _ number c.loop-line.invariant.0 c.loop-line.yielded_by _
    c.in-None.is c.next.ensures.steps
    (lines_yielded _ bytes c.into_iter-line-iterator.ensures.into_iter_gives c.split-line-items.ensures.rest
    c.split-line-items.ensures.done c.split-line-items.ensures.closure (λ x b q k. search (rules, tests))) in
    read_all SaysAt bytes number c.loop-line.said.items c.loop-line.invariant.1 end
