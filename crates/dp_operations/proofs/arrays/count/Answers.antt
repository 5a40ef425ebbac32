use Rattle.std.proofs.Common.{ℤ, Ok, w64, sym, ap, rules, ◌∙◌}
use Rattle.std.proofs.lemmas.Int.{to_z-of_z}
use Rattle.std.specs.Int.RustNames.{FitsSigned}
use Rattle.dp_value.specs.inner.Codes.{pairs_of-entries_of}
use Rattle.dp_value.specs.Data.{integer}
use Rattle.dp_operations.proofs.arrays.count.Goals as goal

pub returns-in-Array : goal.returns-in-Array
returns-in-Array c =
    let fits : FitsSigned w64 c.entries.result = search rules in
    rw (← c.in-Some.ensures, c.in-Array.is, pairs_of-entries_of c.in-Array.array.pairs)
    (ap (λ (z : ℤ). Ok (integer z)) (sym c.entries.ensures ∙ sym (to_z-of_z w64 c.entries.result fits)))
