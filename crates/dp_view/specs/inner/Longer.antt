-- A path that is longer by a key.
use Rattle.std.specs.Prelude.{[], ◌∷◌, ◌++◌}
use Rattle.dp_value.specs.declared.key.Key.{Key}
use Rattle.dp_state.specs.declared.moments.Path.{Path}

-- a path that goes on by a key
abbrev pub with_key : Path → Key → Path
with_key path key = record path { keys = path.keys ++ key ∷ [] }
