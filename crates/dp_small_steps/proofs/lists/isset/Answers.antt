use Rattle.std.proofs.Common.{refl, sym, ◌∙◌}
use Rattle.std.proofs.lemmas.List.{nil_from_length}
use Rattle.dp_actions.specs.Run.{and_then}
use Rattle.dp_small_steps.proofs.FirstParts.{isset-first}
use Rattle.dp_small_steps.proofs.lists.isset.Goals as goal

pub returns-in-None : goal.returns-in-None
unfolding and_then
returns-in-None c = λ setting k s. rw (nil_from_length _ c.in-None.ensures.cases, c.give.ensures) refl

pub returns-in-Some : goal.returns-in-Some
returns-in-Some c = λ setting k s.
    rw c.in-Some.ensures.cases.0 (c.values_first.ensures setting k s ∙ sym (isset-first setting k s _ _))
