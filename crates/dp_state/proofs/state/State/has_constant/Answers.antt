use Rattle.std.proofs.Common.{List, ℕ, is_some, ap, ◌∙◌}
use Rattle.std.specs.Map.{lookup}
use Rattle.std.specs.Str.{bytes_eq}
use Rattle.dp_state.specs.Constants.{standing}
use Rattle.dp_state.proofs.ConstantSteps.{defined_there, named_there, standing_there}
use Rattle.dp_state.proofs.state.State.has_constant.Goals as goal

pub returns-in-Some : goal.returns-in-Some
returns-in-Some c = defined_there c.args.name.now c.args.self.now _ c.in-Some.ensures

pub returns-in-None : goal.returns-in-None
returns-in-None c =
    standing_there c.args.name.now c.args.self.now c.is_some.result c.in-None.ensures
    (c.is_some.ensures ∙ named_there c.standing_named.result _ c.standing_named.ensures
    ∙ ap (λ (n : List ℕ). is_some (lookup (bytes_eq n) standing)) c.as_slice.ensures)
