use Rattle.std.proofs.Common.{ℕ, List, None, ap, ◌∙◌}
use Rattle.std.proofs.lemmas.Result.{IfOk-weaker}
use Rattle.dp_command.specs.Canonical.{canonical}
use Rattle.dp_command.specs.Names.{text_of}
use Rattle.dp_command.specs.Options.{Options}
use Rattle.dp_wire.specs.Frames.{has_no_nul}
use Rattle.dp_dap_messages.proofs.NulLaws.{named_clean, no_nul_line}
use Rattle.dp_dap_messages.proofs.lines.spell.Goals as goal

pub returns-clause-no_nul : goal.returns-clause-no_nul
returns-clause-no_nul c =
    let name = text_of c.args.name in
    let options = c.args.options.items in
    IfOk-weaker c.write_line.result _ _
    (λ text is.
    let line =
    is ∙ (ap (λ (n : List ℕ). canonical (record { name = n; options = c.of.result; payload = None }))
    (c.in_ok-name.ensures ∙ c.text.ensures.text)
    ∙ ap (λ (o : Options). canonical (record { name = name; options = o; payload = None })) c.of.ensures) in
    ap has_no_nul line ∙ no_nul_line name options None (named_clean c.args.name) c.requires tt)
    c.write_line.ensures
