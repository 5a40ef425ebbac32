-- Output in the pieces that go to the IDE.
use Rattle.std.specs.Prelude.{◌≡◌, ◌≤◌, ◌<◌, List, [], ◌∷◌, length}
use Rattle.dp_packet.specs.Parts.{Text}
use Rattle.dp_engine.specs.Responses.{stream_size}

-- each piece but the last has as many bytes as one may have, and the last has some
abbrev pub AreFull : List Text → Type 0
AreFull [] = Unit {0}
AreFull (piece ∷ []) = (0 < length piece) × (length piece ≤ stream_size)
AreFull (piece ∷ next ∷ rest) = (length piece ≡ stream_size) × AreFull (next ∷ rest)
