-- The options that were given.
use Rattle.std.specs.Prelude.{ℕ, Bool, false, ◌||◌, ◌==◌, List, [], ◌∷◌, Option, Some, None, if◌then◌else◌, is_some, option_and_then, unwrap_or, codes}
use Rattle.std.specs.Str.{bytes_eq}
use Rattle.dp_command.specs.declared.command.StreamMode.{StreamMode}
use Rattle.dp_command.specs.declared.command.StreamMode.TheVariants.{Disable, Copy, Redirect}
use Rattle.dp_bytes.specs.Decimals.{decimal_in}
use Rattle.dp_command.specs.Numbers.{greatest}

-- letters and their values, in the order given
abbrev pub Options : Type 0
Options = List (ℕ × List ℕ)

-- the value of the first option of this letter
abbrev pub given : ℕ → Options → Option (List ℕ)
given letter [] = None
given letter (o ∷ more) = if o.0 == letter then Some o.1 else given letter more

-- an option of this letter is given
abbrev pub is_given : ℕ → Options → Bool
is_given letter options = is_some (given letter options)

-- some letter stands twice
abbrev pub has_duplicate : Options → Bool
has_duplicate [] = false
has_duplicate (o ∷ more) = is_given o.0 more || has_duplicate more

-- the value, where one is required
abbrev pub text_given : ℕ → Options → List ℕ
text_given letter options = unwrap_or (given letter options) []

abbrev pub number_given : ℕ → Options → Option ℕ
number_given letter options = option_and_then (decimal_in greatest) (given letter options)

-- the number, or 0 where none is given
abbrev pub number_or_zero : ℕ → Options → ℕ
number_or_zero letter options = unwrap_or (number_given letter options) 0

-- `0`, `1` and `2`
abbrev pub mode_of : List ℕ → Option StreamMode
mode_of value =
    if bytes_eq value (codes "0") then Some Disable
    else (if bytes_eq value (codes "1") then Some Copy
    else (if bytes_eq value (codes "2") then Some Redirect else None))

abbrev pub mode_given : ℕ → Options → StreamMode
mode_given letter options = unwrap_or (option_and_then mode_of (given letter options)) Disable
