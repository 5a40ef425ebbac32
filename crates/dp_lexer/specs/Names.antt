-- Which bytes a name is made of, as a test, and which names a function or a constant may have.
use Rattle.std.specs.Prelude.{ℕ, Bool, false, not, ◌&&◌, nat_le, List, [], ◌∷◌, length}
use Rattle.std.specs.List.{list_all}
use Rattle.dp_lexer.specs.Bytes.{is_start, is_part}
use Rattle.dp_lexer.specs.Keywords.{is_reserved}
use Rattle.dp_lexer.specs.Pieces.{longest_name}

-- a name of at most 255 bytes
abbrev pub is_name : List ℕ → Bool
is_name [] = false
is_name (b ∷ bs) =
    (is_start b && list_all is_part bs) && nat_le (length (b ∷ bs)) longest_name

-- a name that a program may give: no reserved word, and none of `true`, `false` and `null`
abbrev pub is_given : List ℕ → Bool
is_given bytes = is_name bytes && not (is_reserved bytes)
