use Rattle.std.proofs.Common.{ℕ, List, Some, arith, ap, ◌∙◌}
use Rattle.std.proofs.lemmas.Result.{IfOk-weaker}
use Rattle.dp_command.specs.Canonical.{canonical}
use Rattle.dp_command.specs.Names.{text_of}
use Rattle.dp_command.specs.Options.{Options}
use Rattle.dp_wire.specs.Frames.{has_no_nul}
use Rattle.dp_dap_messages.proofs.NulLaws.{named_clean, no_nul_line}
use Rattle.dp_dap_messages.proofs.lines.spell_with.Goals as goal

pub returns-clause-no_nul : goal.returns-clause-no_nul
returns-clause-no_nul c =
    let name = text_of c.args.name in
    let options = c.args.options.items in
    IfOk-weaker c.write_line.result _ _
    (λ text is.
    let line =
    is ∙ (ap (λ (n : List ℕ).
    canonical (record { name = n; options = c.of.result; payload = Some c.in_ok-copied.copied }))
    (c.in_ok-name.ensures ∙ c.text.ensures.text)
    ∙ (ap (λ (o : Options). canonical (record { name = name; options = o; payload = Some c.in_ok-copied.copied }))
    c.of.ensures
    ∙ ap (λ (p : List ℕ). canonical (record { name = name; options = options; payload = Some p }))
    c.in_ok-copied.ensures)) in
    ap has_no_nul line
    ∙ no_nul_line name options (Some c.args.payload.now) (named_clean c.args.name) c.requires
    (λ i. omega (arith, c.type_inv.payload i)))
    c.write_line.ensures
