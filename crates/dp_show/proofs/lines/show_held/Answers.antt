use Rattle.std.proofs.Common.{ℕ, ◌-◌, List, take, drop, subst, arith}
use Rattle.dp_outside.specs.Changes.{change}
use Rattle.dp_show.specs.inner.Progress.{IsLine, TextFails}
use Rattle.dp_show.proofs.ShowLaws.{packet_shown, text_failed, then_shows}
use Rattle.dp_show.proofs.lines.show_held.Goals as goal

pub packets-preserved : goal.packets-preserved
packets-preserved g c =
    let begins = rw c.in-Ok-Some.field-0-is at c.in-Ok-Some.ensures.whole in
    let line = c.in-Ok.ensures.ok in
    let range = c.in-Ok-Some.range in
    let is = subst (λ (l : List ℕ). IsLine (take (range.end - range.start) (drop range.start l)) line.0) c.bytes.ensures
    line.1 in (
      omega (arith, c.packets.invariant.0, c.show_text.ensures.later),
      then_shows c.args.packets.now c.packets.packets c.drop_front.new.self (g.K.Sink.taken c.args.out.now)
          (g.K.Sink.taken c.packets.out) (g.K.Sink.taken c.show_text.new.out)
          c.packets.invariant.1
          (packet_shown c.packets.packets c.drop_front.new.self _ _ line.0 (g.K.Sink.taken c.packets.out)
          (g.K.Sink.taken c.show_text.new.out) begins is line.2
          (c.drop_front.ensures.held _ _ begins) (c.drop_front.ensures.dropped _ _ begins)),
    )

pub returns-in-Err-show_text-clause-err : goal.returns-in-Err-show_text-clause-err
returns-in-Err-show_text-clause-err g c =
    let begins = rw c.in-Ok-Some.field-0-is at c.in-Ok-Some.ensures.whole in
    let range = c.in-Ok-Some.range in
    let failed =
    subst (λ (l : List ℕ). TextFails c.in-Err-show_text.why (take (range.end - range.start) (drop range.start l))
    c.dropped-start.result (change g.K.Sink.taken g.K.Sink.faults c.packets.out c.show_text.new.out))
    c.bytes.ensures c.in-Err-show_text.ensures.err in
    text_failed (g.K.Sink.taken c.args.out.now) (g.K.Sink.taken c.packets.out) (g.K.Sink.taken c.show_text.new.out)
    (g.K.Sink.faults c.args.out.now) (g.K.Sink.faults c.packets.out)
    (g.K.Sink.faults c.show_text.new.out) c.packets.invariant.0
    c.in-Err-show_text.why c.args.packets.now c.packets.packets _ _ c.dropped-start.result c.packets.invariant.1 begins
    c.dropped-start.ensures failed
