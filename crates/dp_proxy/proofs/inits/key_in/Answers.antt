use Rattle.std.proofs.Common.{◌≡◌, sym, ap, ◌∙◌}
use Rattle.std.proofs.lemmas.Bool.{false≢true}
use Rattle.std.proofs.lemmas.Option.{same_Some}
use Rattle.dp_proxy.specs.Calls.{is_key}
use Rattle.dp_proxy.proofs.KeyLaws.{key_again}
use Rattle.dp_proxy.proofs.inits.key_in.Goals as goal

pub returns-else-is_key-clause-bad : goal.returns-else-is_key-clause-bad
returns-else-is_key-clause-bad c = λ key e k.
    let same : c.in-Some.key ≡ key = same_Some c.in-Some.key key (sym c.in-Some.is ∙ e) in
    false≢true (sym c.if-is_key.false ∙ c.is_key.ensures ∙ ap is_key (c.as_slice.ensures ∙ same) ∙ key_again key k)
