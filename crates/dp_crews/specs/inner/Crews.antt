-- How items become jobs, and jobs items again.
use Rattle.std.specs.Prelude.{◌≡◌, Result, Ok, Err}

-- what the job gave, or the item of the job
abbrev pub CameBack : {J D T : Type 0} → (J → T) → Result D J → Result D T → Type 0
CameBack item (Ok done) (Ok same) = same ≡ done
CameBack item (Ok done) (Err back) = ⊥
CameBack item (Err job) (Ok done) = ⊥
CameBack item (Err job) (Err back) = back ≡ item job
