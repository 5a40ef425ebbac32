-- Parts of texts, and texts repeated and joined. Source: the PHP manual, "String Functions".
use Rattle.std.specs.Prelude.{ℕ, ℤ, pos, negsuc, zero, suc, ◌+◌, ◌-◌, min, max, List, [], ◌∷◌, ◌++◌, take, drop, length, Option, Some, None}

-- where a part begins: at an offset from the front, or from the end where it is negative, within
-- the text
abbrev pub start_of : ℕ → ℤ → ℕ
start_of len (pos offset) = min offset len
start_of len (negsuc back) = len - suc back

-- where a part that begins at a place ends: at the text's end, behind a count of bytes, or before
-- the last bytes
abbrev pub end_of : ℕ → ℕ → Option ℤ → ℕ
end_of len start None = len
end_of len start (Some (pos count)) = min len (start + count)
end_of len start (Some (negsuc back)) = max start (len - suc back)

abbrev pub part_between : List ℕ → ℕ → ℕ → List ℕ
part_between bytes start end = take (end - start) (drop start bytes)

abbrev pub part_of : List ℕ → ℤ → Option ℤ → List ℕ
part_of bytes offset count =
    part_between bytes (start_of (length bytes) offset)
    (end_of (length bytes) (start_of (length bytes) offset) count)

-- a text n times
abbrev pub repeated : ℕ → List ℕ → List ℕ
repeated zero bytes = []
repeated (suc n) bytes = repeated n bytes ++ bytes

-- each text behind the glue
abbrev pub glued : List ℕ → List (List ℕ) → List ℕ
glued glue [] = []
glued glue (t ∷ ts) = glue ++ (t ++ glued glue ts)

-- texts with the glue between them
abbrev pub join_by : List ℕ → List (List ℕ) → List ℕ
join_by glue [] = []
join_by glue (t ∷ ts) = t ++ glued glue ts
