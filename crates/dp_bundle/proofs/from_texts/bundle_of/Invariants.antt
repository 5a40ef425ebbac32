use Rattle.dp_bundle.proofs.MadeFiles.{IsReadSoFar}
use Rattle.dp_bundle.proofs.from_texts.bundle_of.Given as goal

abbrev pub invariant-loop-name : goal.invariant-loop-name
invariant-loop-name l =
    (goal.iterator-loop-name).can_next l.name-iterator ×
    (goal.iterator-loop-name).is_finite l.name-iterator ×
    IsReadSoFar l.fn.files l.made.items l.name-iterator.rest.items
