use Rattle.std.proofs.Common.{Ok, Result, false, not, nat_le, ap, sym, ◌≡◌, ◌≤◌, ◌∙◌, arith}
use Rattle.std.proofs.lemmas.Bool.Decides.{nat_tests}
use Rattle.dp_value.specs.declared.value.Value.{Value}
use Rattle.dp_value.specs.Data.{weight_of}
use Rattle.dp_value.specs.Table.{weight_limit}
use Rattle.dp_value.specs.Value.{data_of}
use Rattle.dp_state.specs.declared.moments.FatalKind.{FatalKind}
use Rattle.dp_state.specs.declared.vars.Slot.TheVariants.{Held}
use Rattle.dp_state.specs.inner.Parts.{data_in, then_variables}
use Rattle.dp_state.specs.Variables.{Variables, with_slot}
use Rattle.dp_state.proofs.LightTexts.{light}
use Rattle.dp_state.proofs.ValueLemmas.{value_of-data_of}
use Rattle.dp_state.proofs.entries.assign_whole.Goals as goal

pub returns-clause-ok : goal.returns-clause-ok
returns-clause-ok c =
    let weighs : c.weight.result ≡ weight_of (data_of c.args.value) = c.weight.ensures in
    let within : weight_of (data_of c.args.value) ≤ weight_limit =
    omega (arith, weighs, c.if-weight-gt-WEIGHT_LIMIT.false) in
    let fits : not (nat_le (weight_of (data_of c.args.value)) weight_limit) ≡ false = grind (arith, nat_tests) in
    ap (then_variables c.args.name.now c.args.vars.now)
    (light (data_of c.args.value) (data_in c.args.vars.now c.args.name.now) fits)
    ∙ ap (λ (x : Value). let vs : Variables = with_slot c.args.vars.now c.args.name.now (Held x) in
    let r : Result Variables FatalKind = Ok vs in r)
    (value_of-data_of c.args.value)
    ∙ ap (λ (x : Variables). let r : Result Variables FatalKind = Ok x in r) (sym c.in_ok-put.ensures.ok)
