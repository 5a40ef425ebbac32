use Rattle.std.proofs.Common.{◌≡◌, None, Ok, List, ℕ, slice_range, drop, refl, ap, sym, ◌∙◌, subst, arith, inl, inr}
use Rattle.std.proofs.lemmas.Result.{err_from_is_err_and}
use Rattle.dp_bodies.specs.Frames.{BeginsBody}
use Rattle.dp_conversation.specs.declared.link.Fault.TheVariants.{Memory}
use Rattle.dp_outside.specs.Changes.{change}
use Rattle.dp_dap.specs.Known.{Known}
use Rattle.dp_dap.specs.inner.Exchanges.{Answered}
use Rattle.dp_dap.proofs.CutLaws.{cut_after, cut_before, cut_within}
use Rattle.dp_dap.proofs.ServiceLaws.{answered_first, answered_next, drops, ended_with}
use Rattle.dp_dap.proofs.service.answer_held.Goals as goal

-- the body that was found stands at the front
at_front : (held bytes : List ℕ) (start end : ℕ) → bytes ≡ held
    → BeginsBody held (slice_range held start end) (drop end held)
    → BeginsBody held (slice_range bytes start end) (drop end held)
at_front held bytes start end same begins =
    subst (λ (l : List ℕ). BeginsBody held (slice_range l start end) (drop end held)) (sym same) begins

pub bodies-init : goal.bodies-init
bodies-init g c = (
  omega arith,
  refl,
  c.requires.fits,
  answered_first g.K.Sink.taken g.K.Sink.faults c.args.gateway.now c.args.bodies.now.held c.args.sink.now,
)

pub returns-in-Ok-None-clause-ok : goal.returns-in-Ok-None-clause-ok
returns-in-Ok-None-clause-ok g c =
    let so_far = c.bodies.invariant.3 in
    (so_far.0, (so_far.1, c.in-Ok-None.ensures.partial.0 (ap Ok c.in-Ok-None.field-0-is)))

pub returns-in-Err-clause-ok : goal.returns-in-Err-clause-ok
returns-in-Err-clause-ok g c =
    let so_far = c.bodies.invariant.3 in (so_far.0, (so_far.1, inr (c.in-Err.ensures.refused.0 refl)))

pub returns-in-Err-NotRequest-clause-ok : goal.returns-in-Err-NotRequest-clause-ok
returns-in-Err-NotRequest-clause-ok g c =
    let range = c.in-Ok-Some.range in
    let text = slice_range c.bytes.result.now range.start range.end in
    let begins = at_front c.bodies.bodies.held c.bytes.result.now range.start range.end c.bytes.ensures
    (rw c.in-Ok-Some.field-0-is at c.in-Ok-Some.ensures.whole) in
    let held = c.bodies.bodies.held in
    let refused = (rw c.in-Err-NotRequest.field-0-is at c.in-Err-NotRequest.ensures.refused) refl in
    let so_far : (a : Answered c.args.gateway.now c.answer.new.self c.args.bodies.now.held held
    (change g.K.Sink.taken g.K.Sink.faults c.args.sink.now c.bodies.sink))
    × (ended_with c.args.gateway.now a.texts ≡ None) =
    subst (λ (k : Known). (a : Answered c.args.gateway.now k c.args.bodies.now.held held
    (change g.K.Sink.taken g.K.Sink.faults c.args.sink.now c.bodies.sink))
    × (ended_with c.args.gateway.now a.texts ≡ None)) (sym refused.1) c.bodies.invariant.3 in (
      so_far.0,
      (so_far.1, inl (record { text = text; more = drop range.end held; begins = begins; none = refused.0 })),
    )

pub returns-in-Err-Memory-clause-cut : goal.returns-in-Err-Memory-clause-cut
returns-in-Err-Memory-clause-cut g c =
    (cut_after g.K.Sink.taken g.K.Sink.faults c.args.gateway.now c.bodies.gateway c.answer.new.self
    c.args.bodies.now.held c.bodies.bodies.held Memory c.args.sink.now c.bodies.sink c.bodies.sink
    c.bodies.invariant.3.0 c.bodies.invariant.3.1 c.bodies.invariant.0
    (cut_before g.K.Sink.taken g.K.Sink.faults c.bodies.gateway c.answer.new.self c.bodies.bodies.held
    c.bodies.sink)).0

pub returns-in_err-end-clause-cut : goal.returns-in_err-end-clause-cut
returns-in_err-end-clause-cut g c =
    let p = err_from_is_err_and c.from_residual.result c.from_residual.ensures.1 in
    let range = c.in-Ok-Some.range in
    let text = slice_range c.bytes.result.now range.start range.end in
    let begins = at_front c.bodies.bodies.held c.bytes.result.now range.start range.end c.bytes.ensures
    (rw c.in-Ok-Some.field-0-is at c.in-Ok-Some.ensures.whole) in
    rw (p.1, p.2)
    (cut_after g.K.Sink.taken g.K.Sink.faults c.args.gateway.now c.bodies.gateway c.answer.new.self
    c.args.bodies.now.held c.bodies.bodies.held _ c.args.sink.now c.bodies.sink c.deliver.new.sink
    c.bodies.invariant.3.0 c.bodies.invariant.3.1 c.bodies.invariant.0
    (cut_within g.K.Sink.taken g.K.Sink.faults c.bodies.gateway c.answer.new.self c.bodies.bodies.held text
    (drop range.end c.bodies.bodies.held) _ c.in-Ok.answer c.bodies.sink c.deliver.new.sink begins
    c.in-Ok.ensures.request c.in-Ok.ensures.ok c.in_err-end.ensures.taken c.in_err-end.ensures.cause)).0

pub returns-in_err-end-clause-place : goal.returns-in_err-end-clause-place
returns-in_err-end-clause-place g c =
    let range = c.in-Ok-Some.range in
    let text = slice_range c.bytes.result.now range.start range.end in
    let begins = at_front c.bodies.bodies.held c.bytes.result.now range.start range.end c.bytes.ensures
    (rw c.in-Ok-Some.field-0-is at c.in-Ok-Some.ensures.whole) in
    let taken = drops c.bodies.bodies c.drop_front.new.self text (drop range.end c.bodies.bodies.held) begins
    (c.drop_front.ensures.held text _ begins) (c.drop_front.ensures.dropped text _ begins) c.bodies.invariant.2 in
    omega (arith, taken.place, c.bodies.invariant.1)

pub returns-in-Some-clause-place : goal.returns-in-Some-clause-place
returns-in-Some-clause-place g c =
    let range = c.in-Ok-Some.range in
    let text = slice_range c.bytes.result.now range.start range.end in
    let begins = at_front c.bodies.bodies.held c.bytes.result.now range.start range.end c.bytes.ensures
    (rw c.in-Ok-Some.field-0-is at c.in-Ok-Some.ensures.whole) in
    let taken = drops c.bodies.bodies c.drop_front.new.self text (drop range.end c.bodies.bodies.held) begins
    (c.drop_front.ensures.held text _ begins) (c.drop_front.ensures.dropped text _ begins) c.bodies.invariant.2 in
    omega (arith, taken.place, c.bodies.invariant.1)

pub returns-in-Some-clause-ok : goal.returns-in-Some-clause-ok
returns-in-Some-clause-ok g c =
    let range = c.in-Ok-Some.range in
    let text = slice_range c.bytes.result.now range.start range.end in
    let begins = at_front c.bodies.bodies.held c.bytes.result.now range.start range.end c.bytes.ensures
    (rw c.in-Ok-Some.field-0-is at c.in-Ok-Some.ensures.whole) in
    let taken = drops c.bodies.bodies c.drop_front.new.self text (drop range.end c.bodies.bodies.held) begins
    (c.drop_front.ensures.held text _ begins) (c.drop_front.ensures.dropped text _ begins) c.bodies.invariant.2 in
    let next = answered_next g.K.Sink.taken g.K.Sink.faults c.args.gateway.now c.bodies.gateway c.answer.new.self
    c.args.bodies.now.held c.bodies.bodies.held text c.drop_front.new.self.held c.in-Ok.answer c.args.sink.now
    c.bodies.sink c.deliver.new.sink c.bodies.invariant.3.0 c.bodies.invariant.3.1 taken.begins c.in-Ok.ensures.request
    c.in-Ok.ensures.ok c.in_ok-end.ensures.taken in
    (next.0, next.1 ∙ sym c.in_ok-end.ensures.ended ∙ c.in-Some.is)

pub bodies-preserved : goal.bodies-preserved
bodies-preserved g c =
    let range = c.in-Ok-Some.range in
    let text = slice_range c.bytes.result.now range.start range.end in
    let begins = at_front c.bodies.bodies.held c.bytes.result.now range.start range.end c.bytes.ensures
    (rw c.in-Ok-Some.field-0-is at c.in-Ok-Some.ensures.whole) in
    let taken = drops c.bodies.bodies c.drop_front.new.self text (drop range.end c.bodies.bodies.held) begins
    (c.drop_front.ensures.held text _ begins) (c.drop_front.ensures.dropped text _ begins) c.bodies.invariant.2 in
    let next = answered_next g.K.Sink.taken g.K.Sink.faults c.args.gateway.now c.bodies.gateway c.answer.new.self
    c.args.bodies.now.held c.bodies.bodies.held text c.drop_front.new.self.held c.in-Ok.answer c.args.sink.now
    c.bodies.sink c.deliver.new.sink c.bodies.invariant.3.0 c.bodies.invariant.3.1 taken.begins c.in-Ok.ensures.request
    c.in-Ok.ensures.ok c.in_ok-end.ensures.taken in (
      omega (arith, c.bodies.invariant.0, c.in_ok-end.ensures.sink_later),
      omega (arith, taken.place, c.bodies.invariant.1),
      omega (arith, taken.place, c.bodies.invariant.2),
      (next.0, next.1 ∙ sym c.in_ok-end.ensures.ended ∙ c.in_default.is),
    )

pub bodies-smaller : goal.bodies-smaller
bodies-smaller g c =
    let range = c.in-Ok-Some.range in
    let text = slice_range c.bytes.result.now range.start range.end in
    let begins = at_front c.bodies.bodies.held c.bytes.result.now range.start range.end c.bytes.ensures
    (rw c.in-Ok-Some.field-0-is at c.in-Ok-Some.ensures.whole) in
    let taken = drops c.bodies.bodies c.drop_front.new.self text (drop range.end c.bodies.bodies.held) begins
    (c.drop_front.ensures.held text _ begins) (c.drop_front.ensures.dropped text _ begins) c.bodies.invariant.2 in
    taken.shorter
