-- Texts repeated and joined.
use Rattle.std.proofs.Common.{◌≡◌, ℕ, zero, suc, [], refl}
use Rattle.dp_operations.specs.Parts.{repeated}

pub repeated-nothing : (n : ℕ) → repeated n [] ≡ []
repeated-nothing zero = refl
repeated-nothing (suc n) = rw (repeated-nothing n)
