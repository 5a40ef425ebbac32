-- The next line of a file on which a breakpoint may stand.
use Rattle.std.specs.Prelude.{ℕ, min, nat_le, ◌&&◌, List, [], ◌∷◌, filter, Option, Some, None}
use Rattle.dp_tree.specs.CodeLines.{Lines, file_lines}
use Rattle.dp_tree.specs.declared.tree.File.{File}

-- the lesser of two numbers, each of which may be missing
abbrev pub lesser : Option ℕ → Option ℕ → Option ℕ
lesser None other = other
lesser (Some n) None = Some n
lesser (Some n) (Some m) = Some (min n m)

-- the least of some numbers, if there are any
abbrev pub least : List ℕ → Option ℕ
least [] = None
least (n ∷ more) = lesser (Some n) (least more)

-- the least of these lines that is neither before the one nor behind the other
unfoldable pub least_between : ℕ → ℕ → Lines → Option ℕ
least_between from to lines = least (filter (λ n. nat_le from n && nat_le n to) lines)

-- the least line of a file that has code and is not before this one
abbrev pub next_code : File → ℕ → Option ℕ
next_code file line = least_between line file.lines (file_lines file)
