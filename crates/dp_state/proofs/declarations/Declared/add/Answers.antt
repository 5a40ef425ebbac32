use Rattle.std.proofs.Common.{List, ◌++◌, ap, ◌∙◌}
use Rattle.dp_tree.specs.declared.bundle.FunctionRef.{FunctionRef}
use Rattle.dp_tree.specs.Files.{first_functions}
use Rattle.dp_state.specs.inner.Declarations.{functions_in}
use Rattle.dp_state.proofs.FoundFunctions.{part_added}
use Rattle.dp_state.proofs.declarations.Declared.add.Goals as goal

pub returns-clause-ok : goal.returns-clause-ok
returns-clause-ok c =
    ap functions_in c.in_ok-push.ensures.items
    ∙ part_added c.self.inside.parts.items (record { file = c.args.file; count = c.args.count })
    ∙ ap (λ (l : List FunctionRef). l ++ first_functions c.args.file c.args.count) c.self.view_is
