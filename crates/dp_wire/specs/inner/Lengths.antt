-- What held bytes say of the first length.
use Rattle.std.specs.Prelude.{◌≤◌, ◌∷◌, ◌++◌, ◌+◌, drop, ℕ, ◌≡◌, length, List}
use Rattle.dp_wire.specs.declared.length.Length.TheVariants.{Known, Passed, Unfinished, Bad}
use Rattle.dp_wire.specs.declared.length.Length.{Length}
use Rattle.dp_wire.specs.Frames.{packet_limit}
use Rattle.std.specs.Fmt.{decimal}
use Rattle.dp_wire.specs.Received.{HasBadLength, PassesLimit, length_digits}

-- what the bytes say of the first length
abbrev pub IsLength : List ℕ → Length → Type 0
IsLength bytes Unfinished =
    (number : ℕ) × ((number ≤ packet_limit) × (bytes ≡ length_digits number))
IsLength bytes (Known nul number) =
    (1 ≤ number) × (number ≤ packet_limit) × (nul ≡ length (decimal number))
    × (bytes ≡ decimal number ++ 0 ∷ drop (nul + 1) bytes)
IsLength bytes (Bad index) = HasBadLength bytes index
IsLength bytes (Passed number) = PassesLimit bytes number
