-- Lists: arrays with the keys 0, 1, 2 and so on. Source: the PHP manual, "Array Functions".
use Rattle.std.specs.Prelude.{ℕ, ℤ, pos, zero, suc, cond, nat_le, List, [], ◌∷◌, length, Option, Some, None, Result, Ok, Err}
use Rattle.dp_value.specs.declared.errors.CallError.{CallError}
use Rattle.dp_value.specs.declared.errors.CallError.TheVariants.{TooHeavy}
use Rattle.dp_value.specs.declared.key.Key.{Key}
use Rattle.dp_value.specs.declared.key.Key.TheVariants.{Int}
use Rattle.dp_value.specs.Data.{Data, Table, pairs_weight, data_of_table}
use Rattle.dp_value.specs.Table.{weight_limit}

-- the values under the integer keys from n on
abbrev pub numbered : ℕ → List Data → List (Key × Data)
numbered n [] = []
numbered n (d ∷ ds) = (Int (pos n), d) ∷ numbered (suc n) ds

-- the largest key of a list of n values
abbrev pub last_of : ℕ → Option ℤ
last_of zero = None
last_of (suc n) = Some (pos n)

abbrev pub list_of : List Data → Table
list_of ds = record { pairs = numbered 0 ds; largest = last_of (length ds) }

-- an array, where it is not too heavy
abbrev pub light_array : Table → Result Data CallError
light_array t =
    cond (nat_le (pairs_weight t.pairs) weight_limit) (Ok (data_of_table t)) (Err TooHeavy)
