use Rattle.std.proofs.Common.{None, arith, refl, sym, ap, subst, ◌∙◌}
use Rattle.std.proofs.lemmas.Result.{IfOk-weaker}
use Rattle.dp_command.specs.Canonical.{canonical}
use Rattle.dp_command.specs.Names.{text_of}
use Rattle.dp_command.specs.declared.names.CommandName.TheVariants.{BreakpointRemove}
use Rattle.dp_command.specs.Options.{Options}
use Rattle.dp_wire.specs.Frames.{IsCommand}
use Rattle.dp_dap_messages.specs.inner.Lettered.{AreLettered}
use Rattle.dp_dap_messages.proofs.NulLaws.{remove_sent}
use Rattle.dp_dap_messages.proofs.lines.remove.Goals as goal

pub spell-requires : goal.spell-requires
spell-requires c = subst AreLettered (sym c.in_ok-options.ensures) (refl, (refl, tt))

pub returns-clause-sent : goal.returns-clause-sent
returns-clause-sent c =
    IfOk-weaker c.spell.result _ _
    (λ text is.
    let line = is ∙ ap
    (λ (o : Options). canonical (record { name = text_of BreakpointRemove; options = o; payload = None }))
    c.in_ok-options.ensures in
    subst IsCommand (sym line) (remove_sent c.args.id (omega arith)))
    c.spell.ensures.text
