use Rattle.dp_actions.proofs.AtOnceLaws.{gives}
use Rattle.dp_actions.proofs.constants.define_constant.Goals as goal

pub returns : goal.returns
returns c = rw c.in_ok-_is_new.ensures.ok gives
