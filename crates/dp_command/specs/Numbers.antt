-- Numbers in options.
use Rattle.std.specs.Prelude.{ℕ}

-- the greatest number that an option may have
abbrev pub greatest : ℕ
greatest = 2147483647
