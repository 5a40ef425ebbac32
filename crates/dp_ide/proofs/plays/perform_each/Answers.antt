use Rattle.std.proofs.Common.{◌≡◌, ◌+◌, ◌++◌, ◌∷◌, List, [], take, drop, refl, sym, ap, ◌∙◌, subst, arith, take_all}
use Rattle.std.proofs.lemmas.List.{take_more}
use Rattle.dp_outside.specs.Changes.{change}
use Rattle.dp_ide.specs.declared.instruction.Instruction.{Instruction}
use Rattle.dp_ide.specs.inner.Progress.{IsPlayable, Performs}
use Rattle.dp_ide.proofs.PlayLaws.{ends_done, ends_failing, performs_none, performs_then, split_at}
use Rattle.dp_ide.proofs.plays.perform_each.Goals as goal

pub loop-one-init : goal.loop-one-init
loop-one-init g c = (
  omega arith,
  omega arith,
  omega arith,
  performs_none c.args.packets.now c.args.heard.now (change g.S.Source.left g.S.Source.faults c.args.source.now
      c.args.source.now)
      (change g.K.Sink.taken g.K.Sink.faults c.args.sink.now c.args.sink.now)
      (change g.O.Sink.taken g.O.Sink.faults c.args.out.now c.args.out.now) refl refl refl,
)

pub perform-requires : goal.perform-requires
perform-requires g c =
    subst IsPlayable (sym c.one-item.is) (c.requires c.loop-one.one-index c.one-item.result (omega arith))

pub returns-in-Err-clause-ends : goal.returns-in-Err-clause-ends
returns-in-Err-clause-ends g c = λ read told faults stood consumed later.
    let script = c.args.script.now in
    let i = c.loop-one.one-index in
    let inv = c.loop-one.invariant in
    ends_failing script (take i script) (drop (i + 1) script) c.one-item.result
    (split_at script i c.one-item.result (omega arith) c.one-item.is)
    c.args.packets.now c.loop-one.packets c.args.heard.now c.loop-one.heard
    (change g.S.Source.left g.S.Source.faults c.args.source.now c.loop-one.source)
    (change g.K.Sink.taken g.K.Sink.faults c.args.sink.now c.loop-one.sink)
    (change g.O.Sink.taken g.O.Sink.faults c.args.out.now c.loop-one.out)
    (change g.S.Source.left g.S.Source.faults c.loop-one.source c.perform.new.source)
    (change g.K.Sink.taken g.K.Sink.faults c.loop-one.sink c.perform.new.sink)
    (change g.O.Sink.taken g.O.Sink.faults c.loop-one.out c.perform.new.out)
    inv.3 refl refl refl inv.0 inv.1 inv.2 read told faults stood consumed later c.in-Err.why c.in-Err.ensures.err

pub loop-one-preserved : goal.loop-one-preserved
loop-one-preserved g c =
    let script = c.args.script.now in
    let i = c.loop-one.one-index in
    let one = c.one-item.result in
    let inv = c.loop-one.invariant in
    let source = change g.S.Source.left g.S.Source.faults c.args.source.now c.perform.new.source in
    let sink = change g.K.Sink.taken g.K.Sink.faults c.args.sink.now c.perform.new.sink in
    let out = change g.O.Sink.taken g.O.Sink.faults c.args.out.now c.perform.new.out in
    let front : take i script ++ one
    ∷ [] ≡ take (i + 1) script = ap (λ (x : Instruction). take i script ++ x ∷ []) c.one-item.is ∙ sym
    (take_more script i one (omega arith)) in (
      omega (arith, inv.0, c.perform.ensures.source_later),
      omega (arith, inv.1, c.perform.ensures.sink_later),
      omega (arith, inv.2, c.perform.ensures.out_later),
      subst (λ (l : List Instruction). Performs l c.args.packets.now c.perform.new.packets c.args.heard.now
          c.perform.new.heard source sink out) front
          (performs_then (take i script) (one ∷ []) c.args.packets.now c.loop-one.packets c.perform.new.packets
          c.args.heard.now c.loop-one.heard c.perform.new.heard
          (change g.S.Source.left g.S.Source.faults c.args.source.now c.loop-one.source)
          (change g.K.Sink.taken g.K.Sink.faults c.args.sink.now c.loop-one.sink)
          (change g.O.Sink.taken g.O.Sink.faults c.args.out.now c.loop-one.out)
          (change g.S.Source.left g.S.Source.faults c.loop-one.source c.perform.new.source)
          (change g.K.Sink.taken g.K.Sink.faults c.loop-one.sink c.perform.new.sink)
          (change g.O.Sink.taken g.O.Sink.faults c.loop-one.out c.perform.new.out)
          source sink out inv.3 c.in-Ok.ensures.ok refl refl refl refl refl refl refl refl refl),
    )

pub returns-clause-ends : goal.returns-clause-ends
returns-clause-ends g c =
    let script = c.args.script.now in
    let inv = c.loop-one.invariant in
    let source = change g.S.Source.left g.S.Source.faults c.args.source.now c.loop-one.source in
    let sink = change g.K.Sink.taken g.K.Sink.faults c.args.sink.now c.loop-one.sink in
    let out = change g.O.Sink.taken g.O.Sink.faults c.args.out.now c.loop-one.out in
    let all : take c.loop-one.one-index script ≡ script = take_all c.loop-one.one-index script (omega arith) in
    ends_done script c.args.packets.now c.loop-one.packets c.args.heard.now c.loop-one.heard source sink out
    (subst (λ (l : List Instruction). Performs l c.args.packets.now c.loop-one.packets c.args.heard.now c.loop-one.heard
    source sink out) all inv.3)
