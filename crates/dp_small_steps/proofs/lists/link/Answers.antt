use Rattle.std.proofs.Common.{refl, sym, ◌∙◌}
use Rattle.dp_actions.specs.Values.{holds}
use Rattle.dp_small_steps.proofs.FirstParts.{and-either, operated-by, or-either}
use Rattle.dp_small_steps.proofs.lists.link.Goals as goal

pub returns-in-Or : goal.returns-in-Or
returns-in-Or c = λ setting k s.
    (rw c.holds.ensures at (c.or.ensures setting k s))
    ∙ or-either setting k s _ c.args.first.now c.args.left c.in-Or.is (holds c.args.left) refl

pub returns-in-And : goal.returns-in-And
returns-in-And c = λ setting k s.
    (rw c.holds-in-And.ensures at (c.and.ensures setting k s))
    ∙ and-either setting k s _ c.args.first.now c.args.left c.in-And.is (holds c.args.left) refl

pub returns-in-Of : goal.returns-in-Of
returns-in-Of c = λ setting k s.
    (sym (operated-by setting k s _ c.args.first.now c.args.left _ c.in-Of.is))
