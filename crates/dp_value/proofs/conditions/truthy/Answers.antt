use Rattle.std.proofs.Common.{◌≡◌, ℤ, ◌==◌, not, Option, List, [], ◌∷◌, length, refl, ap, sym, ◌∙◌, arith}
use Rattle.dp_value.specs.declared.value.Value.{Value}
use Rattle.dp_value.specs.Value.{data_of}
use Rattle.dp_value.specs.declared.key.Key.{Key}
use Rattle.dp_value.specs.Data.{Data, array, entries_of}
use Rattle.dp_value.specs.Truth.{is_true}
use Rattle.dp_value.proofs.conditions.truthy.Goals as goal

-- an array is true where it has an entry
truth_of_array : (ps : List (Key × Data)) (largest : Option ℤ)
    → not (length ps == 0) ≡ is_true (array (entries_of ps) largest)
truth_of_array [] largest = refl
truth_of_array (p ∷ ps) largest = grind arith

pub returns-in-Array : goal.returns-in-Array
returns-in-Array c =
    ap not c.is_empty-in-Array.ensures ∙ truth_of_array c.in-Array.array.pairs c.in-Array.array.largest
    ∙ sym (ap (λ (v : Value). is_true (data_of v)) c.in-Array.is)
