-- What becomes of jobs: each is run and gives what it may give, or comes back as it was.
use Rattle.std.specs.Prelude.{◌≡◌, Bool, true, false, Result, Ok, Err, IsErr, ⊤}

-- a result that the job may give, or the very job
abbrev pub RanOrBack : {J D : Type 0} → (J → D → Type 0) → J → Result D J → Type 0
RanOrBack may_give job (Ok done) = may_give job done
RanOrBack may_give job (Err back) = back ≡ job

-- a job whose start was not granted comes back
abbrev pub BackUnlessGranted : {J D : Type 0} → Bool → Result D J → Type 0
BackUnlessGranted true answer = ⊤
BackUnlessGranted false answer = IsErr answer
