use Rattle.std.proofs.Common.{sym, subst}
use Rattle.dp_dap_messages.specs.inner.Lettered.{AreLettered}
use Rattle.dp_dap_messages.proofs.NulLaws.{lettered_set}
use Rattle.dp_dap_messages.proofs.lines.set.Goals as goal

pub spell-requires : goal.spell-requires
spell-requires c =
    subst AreLettered (sym c.in_ok-options.ensures) (lettered_set c.args.path.now c.args.line c.args.hits)

pub spell_with-requires : goal.spell_with-requires
spell_with-requires c =
    subst AreLettered (sym c.in_ok-options.ensures) (lettered_set c.args.path.now c.args.line c.args.hits)
