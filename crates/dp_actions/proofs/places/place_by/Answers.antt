use Rattle.std.proofs.Common.{◌≡◌, [], Option, unwrap_or, arith, sym, ap}
use Rattle.std.proofs.lemmas.Bool.Decides.{nat_tests}
use Rattle.std.proofs.lemmas.List.{nil_from_length}
use Rattle.dp_value.specs.declared.value.Value.{Value}
use Rattle.dp_value.specs.declared.value.Value.TheVariants.{Null}
use Rattle.dp_state.proofs.ValueLemmas.{value_of-data_of}
use Rattle.dp_actions.proofs.places.place_by.Goals as goal

pub returns-then-is_empty : goal.returns-then-is_empty
returns-then-is_empty c =
    let none : c.args.indices.now ≡ [] = nil_from_length c.args.indices.now
    (grind (arith, nat_tests, c.is_empty.ensures, c.if-is_empty.true)) in
    rw (none, value_of-data_of) c.variable_value.ensures

pub returns-in-Some : goal.returns-in-Some
returns-in-Some c =
    let same = ap (λ (o : Option Value). unwrap_or o Null) c.in-Some.ensures in
    rw (sym same) (c.value_of.ensures _ c.entry_by.ensures)
