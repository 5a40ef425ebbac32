-- Whether what a table has is missing.
use Rattle.std.specs.Prelude.{◌≡◌, ◌⊎◌, Bool, Result, Ok, Err, MatchResult}
use Rattle.dp_value.specs.declared.errors.ValueError.{ValueError}
use Rattle.dp_value.specs.declared.errors.ValueError.TheVariants.{Memory}
use Rattle.dp_value.specs.Data.{Data}
use Rattle.dp_operations.specs.Builtins.{is_null}

abbrev pub missing_in : Result Data ValueError → Result Bool ValueError
missing_in (Ok d) = Ok (is_null d)
missing_in (Err e) = Err e

-- r says whether the value that the table has is missing, or is its refusal, or out of memory
abbrev pub AnswersMissing : Result Bool ValueError → Result Data ValueError → Type 0
AnswersMissing r table =
    MatchResult r (λ b. missing_in table ≡ Ok b) (λ e. (e ≡ Memory) ⊎ (missing_in table ≡ Err e))
