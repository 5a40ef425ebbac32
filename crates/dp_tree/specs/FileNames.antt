-- The files of a program by their names: what a name is, and how large a file may be.
use Rattle.std.specs.Prelude.{◌≢◌, ◌<◌, ◌≤◌, ℕ, List, length, map, All, IsUtf8}
use Rattle.std.specs.List.{IsDistinct}
use Rattle.std.specs.Str.{bytes_eq}
use Rattle.dp_bytes.specs.Names.{without_slash}

-- the most bytes that a file may have
abbrev pub file_limit : ℕ
file_limit = 1048576

-- the most files that a program may have
abbrev pub file_count_limit : ℕ
file_count_limit = 64

-- the most bytes that the name of a file may have
abbrev pub file_name_limit : ℕ
file_name_limit = 255

-- 1 to 255 bytes of text without a NUL
pub record IsFileName (name : List ℕ) : Type 0 where
  pub some : 0 < length name
  pub short : length name ≤ file_name_limit
  pub text : IsUtf8 name
  pub bare : All (λ byte. byte ≢ 0) name

-- the names of a program's files: 1 to 64, of which no two are the same, also without one leading
-- `/`
pub record AreFileNames (names : List (List ℕ)) : Type 0 where
  pub some : 0 < length names
  pub few : length names ≤ file_count_limit
  pub named : All IsFileName names
  pub apart : IsDistinct bytes_eq (map without_slash names)
