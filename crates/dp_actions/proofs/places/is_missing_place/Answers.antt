use Rattle.std.proofs.Common.{Option, unwrap_or, sym, ap}
use Rattle.dp_value.specs.declared.value.Value.{Value}
use Rattle.dp_value.specs.declared.value.Value.TheVariants.{Null}
use Rattle.dp_actions.proofs.places.is_missing_place.Goals as goal

pub returns-in-Some : goal.returns-in-Some
returns-in-Some c =
    let same = ap (λ (o : Option Value). unwrap_or o Null) c.in-Some.ensures in
    rw (sym same) (c.missing_of.ensures _ c.is_missing_by.ensures)
