-- How bytes stand between double quotes, in a command line and in the name of a property.
use Rattle.std.specs.Prelude.{ℕ, if◌then◌else◌, ◌==◌, List, [], ◌∷◌, codes}

-- how a byte stands between quotes: a quote, a backslash and NUL as a pair, each other as itself
abbrev pub in_quotes : ℕ → List ℕ
in_quotes b =
    if b == 34 then codes
    "\\\"" else if b == 92 then codes "\\\\" else if b == 0 then codes "\\0" else b ∷ []
