use Rattle.std.proofs.Common.{refl, sym, subst}
use Rattle.dp_dap_messages.specs.inner.Lettered.{AreLettered}
use Rattle.dp_dap_messages.proofs.lines.eval.Goals as goal

pub spell_with-requires : goal.spell_with-requires
spell_with-requires c = subst AreLettered (sym c.in_ok-options.ensures) (refl, tt)
