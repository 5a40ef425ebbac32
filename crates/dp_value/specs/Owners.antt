-- An array that is lent as its owner's own.
use Rattle.std.specs.Prelude.{Result}
use Rattle.std.specs.Borrow.{LendsIfOk, MutBor, Fml}
use Rattle.dp_value.specs.contracts.value.PhpArray as shared
use Rattle.dp_value.specs.contracts.value.Columns as own
use Rattle.dp_value.specs.Data.{Table}

-- the array ends as what is left where it was lent, and without a loan it stays
abbrev pub LendsOwn : MutBor Table → {E : Type 0} → Result (MutBor Table) E → Fml
LendsOwn a r = LendsIfOk shared.the_row own.the_row a r (λ t. t) a.now
