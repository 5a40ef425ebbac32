-- The names of files as commands and programs give them.
use Rattle.std.specs.Prelude.{ℕ, if◌then◌else◌, ◌==◌, List, [], ◌∷◌}

-- a name without one leading `/`
abbrev pub without_slash : List ℕ → List ℕ
without_slash [] = []
without_slash (byte ∷ bytes) = if byte == 47 then bytes else byte ∷ bytes
