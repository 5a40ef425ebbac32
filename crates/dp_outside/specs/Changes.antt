-- What a call does to an object of the outside that it is lent.
use Rattle.std.specs.Prelude.{◌≡◌, ℕ, List}
use Rattle.std.specs.declared.option.Option.{Option}

-- what an object reported and how often it had failed, before a call and after it
pub record Change : Type 0 where
  pub told_before : Option (List ℕ)
  pub told : Option (List ℕ)
  pub faults_before : ℕ
  pub faults : ℕ

abbrev pub change : {X : Type 0} → (X → Option (List ℕ)) → (X → ℕ) → X → X → Change
change told faults before after =
    record {
      told_before = told before;
      told = told after;
      faults_before = faults before;
      faults = faults after;
    }

-- nothing was read or written, and nothing failed
abbrev pub IsUntouched : Change → Type 0
IsUntouched object = (object.told ≡ object.told_before) × (object.faults ≡ object.faults_before)
