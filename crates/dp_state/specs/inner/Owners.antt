-- Whose variables each of some frames uses.
use Rattle.std.specs.Prelude.{ℕ, zero, suc, List, [], ◌∷◌, ◌++◌, length}
use Rattle.dp_state.specs.declared.state.Frame.{Frame}
use Rattle.dp_state.specs.Sharing.{owner}

-- for each frame of so many the position of the one whose variables it uses
abbrev pub owners_below : List Frame → ℕ → List ℕ
owners_below frames zero = []
owners_below frames (suc n) = owners_below frames n ++ owner frames n ∷ []

abbrev pub owners_of : List Frame → List ℕ
owners_of frames = owners_below frames (length frames)
