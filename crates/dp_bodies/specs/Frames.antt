-- How messages are framed on a link: Debug Adapter Protocol, "Base protocol". A head gives the
-- length of the body in bytes, in decimal; an empty line ends it, and the body follows. A head has
-- no other field.
use Rattle.std.specs.Prelude.{ℕ, ◌≤◌, List, [], ◌∷◌, ◌++◌, length, codes}
use Rattle.std.specs.Fmt.{decimal}
use Rattle.dp_wire.specs.Frames.{Begins, IsPartial, BeginsNoFrame}

-- the most bytes of a body that is read
abbrev pub body_limit : ℕ
body_limit = 16777216

abbrev pub length_name : List ℕ
length_name = codes "Content-Length: "

-- the end of the line, and an empty line
abbrev pub head_end : List ℕ
head_end = 13 ∷ 10 ∷ 13 ∷ 10 ∷ []

-- the head before a body of so many bytes
abbrev pub head : ℕ → List ℕ
head number = length_name ++ (decimal number ++ head_end)

pub record IsBody (text : List ℕ) : Type 0 where
  pub some_byte : 1 ≤ length text
  pub fits : length text ≤ body_limit

abbrev pub body_frame : List ℕ → List ℕ
body_frame text = head (length text) ++ text

abbrev pub BeginsBody : List ℕ → List ℕ → List ℕ → Type 0
BeginsBody = Begins IsBody body_frame

abbrev pub IsPartialBody : List ℕ → Type 0
IsPartialBody = IsPartial IsBody body_frame

abbrev pub BeginsNoBody : List ℕ → Type 0
BeginsNoBody = BeginsNoFrame IsBody body_frame
