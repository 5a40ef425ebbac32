-- The file of a program that a value of `-f` names. DBGp 1.0, "File paths", names files by URIs.
-- That a bare name does too, and that one leading `/` does not count, is this engine's own.
use Rattle.std.specs.Prelude.{ℕ, nat_eq, Bool, if◌then◌else◌, List, length, drop, codes, Option, position}
use Rattle.std.specs.List.{starts_with}
use Rattle.std.specs.Str.{bytes_eq}
use Rattle.percent_encoding.specs.Percent.{percent_decode}
use Rattle.dp_bytes.specs.Names.{without_slash}
use Rattle.dp_tree.specs.declared.bundle.Bundle.{Bundle}

-- what each file's URI begins with
abbrev pub uri_front : List ℕ
uri_front = codes "file:///"

-- a value is the URI of a file
abbrev pub is_uri : List ℕ → Bool
is_uri value = starts_with nat_eq value uri_front

-- the name in a value: behind `file:///` with its percent escapes decoded, and else the value as it
-- is
unfoldable pub name_in : List ℕ → List ℕ
name_in value =
    if is_uri value then percent_decode (drop (length uri_front) value) else value

-- the number of the file whose name is this one without one leading `/` of each
unfoldable pub file_like : Bundle → List ℕ → Option ℕ
file_like bundle name =
    position (λ file. bytes_eq (without_slash file.name) (without_slash name)) bundle.files

-- the number of the file that a value names
abbrev pub requested_file : Bundle → List ℕ → Option ℕ
requested_file bundle value = file_like bundle (name_in value)
