use Rattle.std.proofs.Common.{List, slice_get, ap, ◌∙◌}
use Rattle.std.specs.Prelude.{position}
use Rattle.std.specs.Str.{str_eq_ignore_ascii_case}
use Rattle.dp_tree.specs.declared.tree.Function.{Function}
use Rattle.dp_tree.proofs.FunctionIndex.{first_in}
use Rattle.dp_tree.proofs.bundle.Bundle.walk.Goals as goal

pub returns : goal.returns
returns c =
    c.position_of.ensures
    ∙ ap (λ (gs : List Function). position (λ g. str_eq_ignore_ascii_case c.args.name.now g.name) gs)
    c.functions.ensures
    ∙ first_in (slice_get c.args.self.now.files c.args.file) (λ g. str_eq_ignore_ascii_case c.args.name.now g.name)
