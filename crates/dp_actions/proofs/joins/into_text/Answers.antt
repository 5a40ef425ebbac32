use Rattle.std.proofs.Common.{refl}
use Rattle.dp_actions.proofs.joins.into_text.Goals as goal

pub returns-in-Text : goal.returns-in-Text
returns-in-Text c = rw c.in-Text.is refl
