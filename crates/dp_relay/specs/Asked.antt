-- What is read of an IDE that asks.
use Rattle.std.specs.Prelude.{◌≡◌, ◌⊎◌, ℕ, ◌<◌, ◌≤◌, true, false, List, length, Option}
use Rattle.std.specs.Io.KnownBytes.{IsAtEnd}
use Rattle.dp_wire.specs.Frames.{has_no_nul}

-- the most bytes that are read of a command and the NUL behind it
abbrev pub read_limit : ℕ
read_limit = 4097

-- a command: with the NUL behind it, or up to the end of the input
pub record IsAsked (read : List ℕ) (left : Option (List ℕ)) : Type 0 where
  pub within : length read ≤ read_limit
  pub ended : (has_no_nul read ≡ false) ⊎ ((length read < read_limit) × IsAtEnd left)

-- as many bytes as are read, and no NUL among them
pub record IsTooLong (read : List ℕ) : Type 0 where
  pub all : length read ≡ read_limit
  pub no_nul : has_no_nul read ≡ true

-- the command goes on
pub record IsUnfinished (read : List ℕ) : Type 0 where
  pub within : length read < read_limit
  pub no_nul : has_no_nul read ≡ true
