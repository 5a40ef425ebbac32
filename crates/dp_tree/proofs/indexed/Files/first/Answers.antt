use Rattle.std.proofs.Common.{List, slice_get, ap, ◌∙◌}
use Rattle.dp_tree.proofs.FunctionIndex.{asked_first, first_there, first_missing}
use Rattle.dp_tree.specs.declared.bundle.BundleFile.{BundleFile}
use Rattle.dp_tree.proofs.indexed.Files.first.Goals as goal

pub returns-in-Some : goal.returns-in-Some
returns-in-Some c =
    c.first.ensures
    ∙ first_there c.self.inside.files c.self.inside.indexes.items c.as_slice.result.now c.self.invariant
    c.as_slice.ensures.value c.args.file c.args.lower.now c.in-Some.index.now c.in-Some.ensures
    ∙ ap (λ (fs : List BundleFile). asked_first c.args.lower.now (slice_get fs c.args.file)) c.self.view_is

pub returns-in-None : goal.returns-in-None
returns-in-None c =
    first_missing c.self.inside.files c.self.inside.indexes.items c.as_slice.result.now c.self.invariant
    c.as_slice.ensures.value c.args.file c.args.lower.now c.in-None.ensures
    ∙ ap (λ (fs : List BundleFile). asked_first c.args.lower.now (slice_get fs c.args.file)) c.self.view_is
