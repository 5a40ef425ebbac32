use Rattle.std.proofs.Common.{subst}
use Rattle.std.specs.List.{IsDistinct}
use Rattle.std.specs.Map.{keys_of}
use Rattle.std.specs.Str.{bytes_eq}
use Rattle.dp_state.specs.Variables.{Variables}
use Rattle.dp_state.proofs.Fronts.{distinct-drop}
use Rattle.dp_state.proofs.hashed.Hashed.len.Goals as goal

pub returns-clause-distinct : goal.returns-clause-distinct
returns-clause-distinct c =
    subst (λ (es : Variables). IsDistinct bytes_eq (keys_of es)) c.self.view_is
    (distinct-drop c.self.inside.gone c.self.inside.slots.entries c.len.ensures.unique)
