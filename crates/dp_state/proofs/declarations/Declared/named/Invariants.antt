use Rattle.std.proofs.Common.{◌≡◌, drop}
use Rattle.dp_state.specs.Functions.{declared_function}
use Rattle.dp_state.specs.inner.Declarations.{functions_in}
use Rattle.dp_state.proofs.declarations.Declared.named.Given as goal

abbrev pub invariant-loop-part : goal.invariant-loop-part
invariant-loop-part l =
    declared_function l.bundle l.name l.self ≡ declared_function l.bundle l.name
    (functions_in (drop l.part-index l.part-items))
