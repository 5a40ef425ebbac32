use Rattle.std.proofs.Common.{refl, sym, ap, Some, ◌∙◌}
use Rattle.std.proofs.lemmas.Option.{slice_get-get_or, slice_get_past}
use Rattle.dp_actions.specs.Run.{and_then}
use Rattle.dp_step.proofs.small.file_hand.Goals as goal

pub returns-in-Some-clause-rest : goal.returns-in-Some-clause-rest
returns-in-Some-clause-rest c = λ setting k s.
    let read = rw c.as_slice.ensures at c.in-Some.ensures.lookup in
    rw (slice_get-get_or _ c.args.file c.in-Some.file.now read.3.0 ∙ ap Some (sym read.1)) refl

pub returns-in-None-clause-rest : goal.returns-in-None-clause-rest
unfolding and_then
returns-in-None-clause-rest c = λ setting k s.
    let read = rw c.as_slice.ensures at c.in-None.ensures.lookup in
    rw (slice_get_past _ c.args.file read.3) refl
