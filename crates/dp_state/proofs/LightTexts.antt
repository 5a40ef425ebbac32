-- A text that a variable gets, where it is light enough.
use Rattle.std.proofs.Common.{◌≡◌, Bool, true, false, not, cond, nat_le, Ok, Err, [], refl}
use Rattle.dp_value.specs.declared.errors.WriteError.TheVariants.{TooHeavy}
use Rattle.dp_value.specs.Data.{Data, weight_of}
use Rattle.dp_value.specs.Entry.{write_result}
use Rattle.dp_value.specs.Table.{weight_limit}

light-by : (b : Bool) (d : Data) → not b ≡ false → cond b (Ok d) (Err TooHeavy) ≡ Ok d
light-by true d h = refl
light-by false d h = absurd (cc)

-- the whole variable is written
pub light : (d old : Data) → not (nat_le (weight_of d) weight_limit) ≡ false → write_result [] false d old ≡ Ok d
light d old h = light-by (nat_le (weight_of d) weight_limit) d h
