use Rattle.std.proofs.Common.{◌≡◌, Bool, true, false, Ok, ap, subst, rules, tests, arith}
use Rattle.std.proofs.lemmas.List.{length_push}
use Rattle.dp_grammar.proofs.Lines.{line_of_turn, lines_end, lines_yielded, read_all, read_bad}
use Rattle.dp_events.specs.Lists.{AddsAt}
use Rattle.dp_events.specs.inner.Progress.{Takes}
use Rattle.dp_events.proofs.ListLaws.{read_line}
use Rattle.dp_events.proofs.events.read_lines.Goals as goal

pub returns-then-not-branch : goal.returns-then-not-branch
returns-then-not-branch c =
    let bytes = c.args.bytes.now in
    let line = c.in-Some.line.now in
    let number = c.loop-line.number in
    let here = line_of_turn bytes c.loop-line.yielded _ _ number c.loop-line.invariant.1 c.loop-line.yielded_by _
    c.in-Some.line c.in-Some.is c.next.ensures.steps
    (lines_yielded _ bytes c.into_iter-line-iterator.ensures.into_iter_gives c.split-line-items.ensures.rest
    c.split-line-items.ensures.done c.split-line-items.ensures.closure (λ x b q k. search (rules, tests))) in
    let before = c.loop-line.reading.events.items in
    let after = c.take.new.self.events.items in
    let takes : Takes before line false after = subst (λ (b : Bool). Takes before line b after) c.if-not-branch.true
    c.in_ok-take.ensures.takes in
    read_bad AddsAt bytes number before line c.loop-line.invariant.2 here takes

pub loop-line-preserved : goal.loop-line-preserved
loop-line-preserved c =
    let bytes = c.args.bytes.now in
    let line = c.in-Some.line.now in
    let number = c.loop-line.number in
    let here = line_of_turn bytes c.loop-line.yielded _ _ number c.loop-line.invariant.1 c.loop-line.yielded_by _
    c.in-Some.line c.in-Some.is c.next.ensures.steps
    (lines_yielded _ bytes c.into_iter-line-iterator.ensures.into_iter_gives c.split-line-items.ensures.rest
    c.split-line-items.ensures.done c.split-line-items.ensures.closure (λ x b q k. search (rules, tests))) in
    let before = c.loop-line.reading.events.items in
    let after = c.take.new.self.events.items in
    let taken : c.in_ok-take.field-0 ≡ true = c.if-not-branch.false in (
      c.in_ok-take.ensures.reads (ap Ok taken),
      omega (arith, c.loop-line.invariant.1, length_push c.loop-line.yielded c.in-Some.line),
      read_line bytes number before line c.loop-line.invariant.2 here after
          (subst (λ (b : Bool). Takes before line b after) taken c.in_ok-take.ensures.takes),
    )

pub returns : goal.returns
returns c =
    let bytes = c.args.bytes.now in
    let number = c.loop-line.number in
    let end = lines_end bytes c.loop-line.yielded _ _ number c.loop-line.invariant.1 c.loop-line.yielded_by _
    c.in-None.is c.next.ensures.steps
    (lines_yielded _ bytes c.into_iter-line-iterator.ensures.into_iter_gives c.split-line-items.ensures.rest
    c.split-line-items.ensures.done c.split-line-items.ensures.closure (λ x b q k. search (rules, tests))) in (
      c.loop-line.invariant.0,
      (read_all AddsAt bytes number c.loop-line.reading.events.items c.loop-line.invariant.2 end).0,
    )
