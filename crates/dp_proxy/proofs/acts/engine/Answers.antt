use Rattle.std.proofs.Common.{refl, sym, ◌∙◌}
use Rattle.std.proofs.lemmas.Bool.{false≢true}
use Rattle.dp_proxy.proofs.KeyLaws.{key_is, key_again}
use Rattle.dp_proxy.proofs.ActLaws.{keyless_leads}
use Rattle.dp_proxy.proofs.acts.engine.Goals as goal

pub admit-requires : goal.admit-requires
admit-requires c = key_is c.args.key.now (sym c.is_key.ensures ∙ c.if-is_key.true)

pub returns-else-is_key-clause-leads : goal.returns-else-is_key-clause-leads
returns-else-is_key-clause-leads c =
    keyless_leads c.args.registry.now c.args.registry.now c.args.key.now
    (λ k. false≢true (sym c.if-is_key.false ∙ c.is_key.ensures ∙ key_again c.args.key.now k)) refl
