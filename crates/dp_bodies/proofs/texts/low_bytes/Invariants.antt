use Rattle.std.proofs.Common.{◌≡◌, ◌++◌, drop}
use Rattle.std.specs.Prelude.{nat_le}
use Rattle.std.specs.List.{list_all}
use Rattle.dp_bodies.proofs.texts.low_bytes.Given as goal

abbrev pub invariant-loop-character : goal.invariant-loop-character
invariant-loop-character l =
    (l.bytes.items ++ drop l.character-index l.characters ≡ l.characters)
    × (list_all (λ c. nat_le c 255) l.characters
    ≡ list_all (λ c. nat_le c 255) (drop l.character-index l.characters))
