use Rattle.std.proofs.Common.{ap, sym, ◌∙◌}
use Rattle.dp_state.specs.Functions.{declared_function}
use Rattle.dp_state.specs.inner.Declarations.{functions_in}
use Rattle.dp_state.proofs.FoundFunctions.{declared_here, declared_later}
use Rattle.dp_state.proofs.declarations.Declared.named.Goals as goal

pub loop-part-init : goal.loop-part-init
loop-part-init c =
    ap (declared_function c.args.bundle.now c.args.name.now)
    (sym (ap functions_in c.as_slice-part-items.ensures.value ∙ c.self.view_is))

pub returns-then-is_some : goal.returns-then-is_some
returns-then-is_some c =
    sym (c.loop-part.invariant
    ∙ declared_here c.args.bundle.now c.args.name.now c.as_slice-part-items.result.now c.loop-part.part-index
    (record { file = 0; count = 0 }) c.loop-part-test.true c.part_named-found.result c.part_named-found.ensures
    (sym c.is_some.ensures ∙ c.if-is_some.true))

pub loop-part-preserved : goal.loop-part-preserved
loop-part-preserved c =
    c.loop-part.invariant
    ∙ declared_later c.args.bundle.now c.args.name.now c.as_slice-part-items.result.now c.loop-part.part-index
    (record { file = 0; count = 0 }) c.loop-part-test.true c.part_named-found.result c.part_named-found.ensures
    (sym c.is_some.ensures ∙ c.if-is_some.false)
