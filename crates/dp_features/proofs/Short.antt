-- Decimals of numbers of 32 bits.
use Rattle.std.proofs.Common.{ℕ, ◌<◌, ◌≤◌, ◌^◌, length, decimal, arith}
use Rattle.std.proofs.lemmas.Fmt.{length-decimal-le}

pub decimal_short : (n : ℕ) → n < 2 ^ 32 → length (decimal n) ≤ 64
decimal_short n small = let few = length-decimal-le 10 n (omega arith) (omega arith) (omega arith) in omega (arith, few)
