use Rattle.std.proofs.Common.{◌≡◌, [], ◌∷◌, arith, rules}
use Rattle.std.proofs.lemmas.Int.{to_z-of_z}
use Rattle.std.proofs.lemmas.Option.{IfSome_then}
use mir.Syntax.{w64}
use mir.Val.{SFits}
use Rattle.dp_value.specs.declared.value.Value.TheVariants as variant
use Rattle.dp_actions.proofs.AtOnceLaws.{gives, goes_on}
use Rattle.dp_actions.proofs.LinkedValues.{linked, only}
use Rattle.dp_actions.proofs.integers.compared.Goals as goal

pub returns : goal.returns
returns c =
    let links = c.args.links.now in
    let one : links ≡ c.link-item.result ∷ [] = only links _ (omega arith) (omega arith) c.link-item.is in
    let pair = c.in-Some-Some in
    let fits : SFits w64 pair.a = search rules in
    let second_fits : SFits w64 pair.b = search rules in
    IfSome_then c.comparison.result c.comparison.ensures (λ holds e. λ setting.
    goes_on {a = variant.Bool holds} _ (goes_on _ (pair.ensures setting) (rw one (goes_on _ (linked c.link-item.result
    c.in-Of.op pair.a pair.b _ _ (variant.Bool holds) setting c.args.state.now c.in-Of.is (pair.ensures' setting)
    (to_z-of_z w64 pair.a fits) (to_z-of_z w64 pair.b second_fits) e) gives))) gives)
