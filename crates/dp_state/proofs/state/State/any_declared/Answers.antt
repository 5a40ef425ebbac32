use Rattle.std.proofs.Common.{◌∙◌}
use Rattle.dp_state.proofs.FoundFunctions.{names_declared}
use Rattle.dp_state.proofs.state.State.any_declared.Goals as goal

pub returns : goal.returns
returns c =
    (rw c.functions.ensures at c.any_named.ensures)
    ∙ names_declared c.args.bundle.now c.args.self.now.declared c.args.file
