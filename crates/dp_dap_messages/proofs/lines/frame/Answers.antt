use Rattle.std.proofs.Common.{refl, sym, subst}
use Rattle.dp_dap_messages.specs.inner.Lettered.{AreLettered}
use Rattle.dp_dap_messages.proofs.lines.frame.Goals as goal

pub spell-requires : goal.spell-requires
spell-requires c = subst AreLettered (sym c.in_ok-options.ensures) (refl, (refl, tt))
