use Rattle.std.proofs.Common.{◌++◌, Bool, [], refl, subst, arith}
use Rattle.std.proofs.KnownBytes.{Consumes-nil, Consumes-trans}
use Rattle.dp_outside.specs.Changes.{change}
use Rattle.dp_ide.specs.declared.errors.IdeError.TheVariants.{Memory}
use Rattle.dp_ide.specs.inner.Progress.{Hears}
use Rattle.dp_ide.proofs.AwaitLaws.{answer_failed, answer_taken, passes_more, passes_none}
use Rattle.dp_ide.proofs.waits.await_answer.Goals as goal

pub packets-init : goal.packets-init
packets-init g c = (
  omega arith,
  (
    [],
    Consumes-nil (g.S.Source.left c.args.source.now),
    passes_none c.args.id.now c.args.packets.now
        c.args.heard.now,
  ),
)

pub returns-in-Ok-true-clause-ok : goal.returns-in-Ok-true-clause-ok
returns-in-Ok-true-clause-ok g c =
    let here = c.packets.invariant.1 in
    let hears = subst (λ (b : Bool). Hears c.args.id.now c.in-Ok.message c.packets.heard c.hear.new.heard b)
    c.in-Ok-true.field-0-test c.in-Ok-true.ensures in
    answer_taken c.args.id.now c.args.packets.now c.packets.packets c.next_message.new.packets c.args.heard.now
    c.packets.heard c.hear.new.heard here.0 here.2
    (change g.S.Source.left g.S.Source.faults c.packets.source c.next_message.new.source)
    (change g.S.Source.left g.S.Source.faults c.args.source.now c.next_message.new.source)
    here.1 refl c.in-Ok.message c.in-Ok.ensures.ok hears

pub returns-in-Err-hear-clause-err : goal.returns-in-Err-hear-clause-err
returns-in-Err-hear-clause-err g c =
    let here = c.packets.invariant.1 in
    let next = c.in-Ok.ensures.ok in
    answer_failed Memory c.args.id.now c.args.packets.now c.packets.packets c.args.heard.now c.packets.heard here.0
    (change g.S.Source.left g.S.Source.faults c.packets.source c.next_message.new.source)
    (change g.S.Source.left g.S.Source.faults c.args.source.now c.next_message.new.source)
    here.2 here.1 c.packets.invariant.0 refl refl (record { piece = next.piece; consumed = next.consumed; lacks = tt })

pub returns-in-Err-clause-err : goal.returns-in-Err-clause-err
returns-in-Err-clause-err g c =
    let here = c.packets.invariant.1 in
    answer_failed c.in-Err.why c.args.id.now c.args.packets.now c.packets.packets c.args.heard.now c.packets.heard
    here.0
    (change g.S.Source.left g.S.Source.faults c.packets.source c.next_message.new.source)
    (change g.S.Source.left g.S.Source.faults c.args.source.now c.next_message.new.source)
    here.2 here.1 c.packets.invariant.0 refl refl c.in-Err.ensures.err

pub packets-preserved : goal.packets-preserved
packets-preserved g c =
    let here = c.packets.invariant.1 in
    let next = c.in-Ok.ensures.ok in
    let hears = subst (λ (b : Bool). Hears c.args.id.now c.in-Ok.message c.packets.heard c.hear.new.heard b)
    c.in-Ok-false.field-0-test c.in-Ok-false.ensures in (
      omega (arith, c.packets.invariant.0, c.next_message.ensures.later),
      (
        here.0 ++ next.piece,
        Consumes-trans _ _ _ here.0 next.piece here.1 next.consumed,
        passes_more c.args.id.now c.args.packets.now c.packets.packets c.next_message.new.packets c.args.heard.now
            c.packets.heard c.hear.new.heard here.0 here.2
            (change g.S.Source.left g.S.Source.faults c.packets.source c.next_message.new.source) c.in-Ok.message next
            hears,
      ),
    )
