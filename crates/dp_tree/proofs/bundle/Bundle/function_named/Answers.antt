use Rattle.std.proofs.Common.{List, ℕ, ap, slice_get, ◌∙◌}
use Rattle.dp_tree.proofs.FunctionIndex.{asked_first, low_name}
use Rattle.dp_tree.proofs.bundle.Bundle.function_named.Goals as goal

pub returns-in-Some : goal.returns-in-Some
returns-in-Some c =
    c.first.ensures
    ∙ ap (λ (low : List ℕ). asked_first low (slice_get c.args.self.now.files c.args.file))
    (low_name c.name.inside.lower c.in-Some.lower c.name.inside.written.now c.args.name.now c.name.invariant
    c.in-Some.is c.name.view_is)
