use Rattle.std.proofs.Common.{None, refl, sym, ap, subst, ◌∙◌}
use Rattle.std.proofs.lemmas.Result.{IfOk-weaker}
use Rattle.dp_command.specs.Canonical.{canonical}
use Rattle.dp_command.specs.Names.{text_of}
use Rattle.dp_command.specs.Options.{Options}
use Rattle.dp_wire.specs.Frames.{IsCommand}
use Rattle.dp_dap_messages.specs.inner.Lettered.{AreLettered}
use Rattle.dp_dap_messages.proofs.NulLaws.{plain_sent}
use Rattle.dp_dap_messages.proofs.lines.plain.Goals as goal

pub spell-requires : goal.spell-requires
spell-requires c = subst AreLettered (sym c.in_ok-options.ensures) (refl, tt)

pub returns-clause-sent : goal.returns-clause-sent
returns-clause-sent c =
    IfOk-weaker c.spell.result _ _
    (λ text is.
    let line = is ∙ ap
    (λ (o : Options). canonical (record { name = text_of c.args.name; options = o; payload = None }))
    c.in_ok-options.ensures in
    subst IsCommand (sym line) (plain_sent c.args.name))
    c.spell.ensures.text
