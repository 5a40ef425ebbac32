use Rattle.std.proofs.Common.{[], refl, append-nil, ◌∙◌}
use Rattle.dp_dap.proofs.service.bad_place.Goals as goal

pub returns-in-Err-clause-body : goal.returns-in-Err-clause-body
returns-in-Err-clause-body c = λ text rest begins.
    absurd (c.in-Err.ensures.refused.0 refl text rest [] begins.is_text (append-nil _ ∙ begins.whole))
