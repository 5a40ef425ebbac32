-- What is spelt is well formed.
use Rattle.std.proofs.Common.{◌≡◌, ℕ, true, List, [], ◌∷◌, Option, Some, None, Result, Ok, Err}
use Rattle.std.specs.Prelude.{IfSome, IfOk}
use Rattle.std.specs.List.{AllByRecursion}
use Rattle.base64.specs.GeneralPurpose.{IsBytes}
use Rattle.dp_command.specs.declared.errors.LineError.{LineError}
use Rattle.dp_command.specs.declared.line.Line.{Line}
use Rattle.dp_command.specs.Sorts.{is_letter}
use Rattle.dp_command.specs.Grammar.{Repeated, Given, Ending, spelt}
use Rattle.dp_command.specs.Canonical.{IsWellFormed}

letters_of : (options : List (ℕ × List ℕ)) (bytes : List ℕ) → Repeated Given options bytes
    → AllByRecursion (λ o. is_letter o.0 ≡ true) options
letters_of [] bytes j = tt
letters_of (o ∷ more) bytes j = (j.first.second.0, letters_of more j.back j.second)

payload_of : (payload : Option (List ℕ)) (bytes : List ℕ) → Ending payload bytes → IfSome payload IsBytes
payload_of None bytes j = tt
payload_of (Some p) bytes j = j.second.second.second.first.0

spelt_is : (bytes : List ℕ) (line : Line) → spelt bytes line → IsWellFormed line
spelt_is bytes line j = record {
  name = j.first.0;
  letters = letters_of line.options j.second.front j.second.first;
  payload = payload_of line.payload j.second.back j.second.second;
}

-- each line that was found is well formed
pub formed : (bytes : List ℕ) (result : Result Line LineError) → IfOk result (λ line. spelt bytes line)
    → IfOk result IsWellFormed
formed bytes (Ok line) found = spelt_is bytes line found
formed bytes (Err e) found = tt
