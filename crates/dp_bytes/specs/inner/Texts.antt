-- What stands behind a text's pointer: its bytes, or nothing for the empty text.
use Rattle.std.specs.Prelude.{List, ℕ, []}
use Rattle.std.specs.Option.{option_map_or}
use Rattle.dp_bytes.specs.declared.text.Text.TheInside.{Inside}

abbrev pub bytes_behind : Inside → List ℕ
bytes_behind a = option_map_or (λ b. b.value) a.kept []
