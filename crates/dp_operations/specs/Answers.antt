-- What a call on values answers: what its table says, or out of memory.
use Rattle.std.specs.Prelude.{◌≡◌, ◌⊎◌, Result, Ok, Err, MatchResult}
use Rattle.dp_value.specs.declared.errors.ValueError.{ValueError}
use Rattle.dp_value.specs.declared.errors.ValueError.TheVariants.{Memory}
use Rattle.dp_value.specs.declared.value.Value.{Value}
use Rattle.dp_value.specs.Data.{Data}
use Rattle.dp_value.specs.Value.{data_of}

-- r is the value or the refusal that the table has, or out of memory
abbrev pub Answers : Result Value ValueError → Result Data ValueError → Type 0
Answers r table = MatchResult r (λ v. table ≡ Ok (data_of v)) (λ e. (e ≡ Memory) ⊎ (table ≡ Err e))

-- r is the value or the refusal that the table has
abbrev pub Gives : Result Value ValueError → Result Data ValueError → Type 0
Gives r table = MatchResult r (λ v. table ≡ Ok (data_of v)) (λ e. table ≡ Err e)
