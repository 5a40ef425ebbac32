-- The numbers of what is kept of the links, one after another.
use Rattle.std.specs.Prelude.{ℕ, List, [], ◌∷◌}
use Rattle.dp_proxy.specs.Pasts.{Past}
use Rattle.dp_world.specs.Alone.{Engines}
use Rattle.dp_world.specs.declared.shown.Shown.{Shown}
use Rattle.dp_world.specs.declared.numbers.Tally.{Tally}
use Rattle.dp_world.specs.Tallies.{nothing, plus, tally_on}

abbrev pub tallies_of : {S E : Type 0} → Engines S E → Past → List (ℕ × Shown S E) → Tally
tallies_of engines past [] = nothing
tallies_of engines past (entry ∷ links) =
    plus (tally_on engines (past.link entry.0)) (tallies_of engines past links)
