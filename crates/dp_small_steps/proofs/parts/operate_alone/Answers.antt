use Rattle.dp_actions.proofs.Tails.{gives-answers}
use Rattle.dp_small_steps.proofs.parts.operate_alone.Goals as goal

pub returns : goal.returns
returns c =
    λ setting. c.given.ensures setting _ _ (c.value_of-made.ensures _
    (gives-answers _ _ c.unary.ensures))
