-- Sizes that are counted.
use Rattle.std.specs.Prelude.{ℕ, ◌-◌, ◌^◌, min}

-- a count, where a number of 64 bits holds it; else the greatest number that it holds
abbrev pub counted : ℕ → ℕ
counted n = min n (2 ^ 64 - 1)

-- the most bytes of a short value
abbrev pub short_value_limit : ℕ
short_value_limit = 64

-- the most bytes of an attribute of a short name and a short value
abbrev pub short_size_limit : ℕ
short_size_limit = 500
