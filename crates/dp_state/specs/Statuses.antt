-- The statuses of programs, by how they ended.
use Rattle.std.specs.Prelude.{ℕ, Option, Some, None}
use Rattle.dp_state.specs.declared.moments.Outcome.{Outcome}
use Rattle.dp_state.specs.declared.moments.Outcome.TheVariants.{Done, Exit, Fatal, Bound}

-- a command killed the program before its end
abbrev pub killed_status : ℕ
killed_status = 210

-- it could not go on, or reached its bound
abbrev pub unfinished_status : ℕ
unfinished_status = 255

-- how a program ended; one that was killed did not
abbrev pub status : Option Outcome → ℕ
status None = killed_status
status (Some Done) = 0
status (Some (Exit number)) = number
status (Some (Fatal kind file number)) = unfinished_status
status (Some Bound) = unfinished_status
