-- The lines of a file's text: DBGp 1.0, "source". What a line is, is this engine's own.
use Rattle.std.specs.Prelude.{ℕ, ◌-◌, ◌==◌, if◌then◌else◌, List, [], ◌∷◌, drop, take, Option, Some, None, unwrap_or}
use Rattle.std.specs.List.{flat_map}
use Rattle.dp_grammar.specs.Lines.{begun}

-- Each line goes up to its line feed, which is a part of it; what follows the last line feed is a
-- line too.
abbrev pub lines_of : List ℕ → List (List ℕ)
lines_of [] = [] ∷ []
lines_of (b ∷ bytes) = if b == 10 then (b ∷ []) ∷ lines_of bytes else begun b (lines_of bytes)

-- of lines behind so many others, those up to the one of this number, if one is given
abbrev pub lines_up_to : Option ℕ → ℕ → List (List ℕ) → List (List ℕ)
lines_up_to None before lines = lines
lines_up_to (Some last) before lines = take (last - before) lines

abbrev pub lines_between : ℕ → Option ℕ → List ℕ → List (List ℕ)
lines_between before last text = lines_up_to last before (drop before (lines_of text))

-- the lines from one up to another, counted from 1: from the first and up to the last, where
-- nothing else is given
abbrev pub source_lines : Option ℕ → Option ℕ → List ℕ → List ℕ
source_lines first last text =
    flat_map (λ line. line) (lines_between (unwrap_or first 1 - 1) last text)
