use Rattle.std.proofs.Common.{List, [], refl, sym, subst}
use Rattle.std.specs.List.{All}
use Rattle.std.proofs.lemmas.List.Elements.{All-nil}
use Rattle.dp_outside.specs.Changes.{change}
use Rattle.dp_ide.specs.declared.instruction.Instruction.{Instruction}
use Rattle.dp_ide.specs.Plays.{Ends}
use Rattle.dp_grammar.specs.Lines.{lines_of}
use Rattle.dp_ide.specs.inner.Progress.{IsPlayable}
use Rattle.dp_ide.proofs.OpenLaws.{playable}
use Rattle.dp_ide.proofs.PlayLaws.{ends_unopened}
use Rattle.dp_ide.proofs.plays.play.Goals as goal

pub perform_each-end-requires : goal.perform_each-end-requires
perform_each-end-requires g c =
    let some = c.instructions.ensures.spelt in
    subst (All IsPlayable) (sym c.instructions.ensures.same) (playable [] 1 (lines_of some.0) c.args.script.now
    (All-nil IsPlayable) some.1)

pub returns-in-Ok-clause-ends : goal.returns-in-Ok-clause-ends
returns-in-Ok-clause-ends g c =
    let source = change g.S.Source.left g.S.Source.faults c.args.source.now c.perform_each-end.new.source in
    let sink = change g.K.Sink.taken g.K.Sink.faults c.args.sink.now c.perform_each-end.new.sink in
    let out = change g.O.Sink.taken g.O.Sink.faults c.args.out.now c.perform_each-end.new.out in
    let opened = c.in-Ok.ensures.ok in
    subst (λ (l : List Instruction). Ends l c.perform_each-end.result source sink out) c.instructions.ensures.same
    (c.perform_each-end.ensures.ends opened.0 (g.S.Source.left c.args.source.now)
    (g.S.Source.faults c.args.source.now) opened.2 opened.1 c.open.ensures.later)

pub returns-clause-ends : goal.returns-clause-ends
returns-clause-ends g c =
    ends_unopened c.args.script.now c.in-Err.why (change g.S.Source.left g.S.Source.faults c.args.source.now
    c.open.new.source)
    (change g.K.Sink.taken g.K.Sink.faults c.args.sink.now c.args.sink.now)
    (change g.O.Sink.taken g.O.Sink.faults c.args.out.now c.args.out.now) c.in-Err.ensures.err refl refl
