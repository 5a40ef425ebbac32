-- What objects of the outside tell of themselves. An object may tell nothing.
use Rattle.std.specs.Prelude.{◌≡◌, List, [], ◌++◌, ⊤, None, Some}
use Rattle.std.specs.declared.option.Option.{Option}

-- an object that tells nothing never begins to tell
abbrev pub StaysSilent : {A : Type 0} → Option A → Option A → Type 0
StaysSilent None new = new ≡ None
StaysSilent (Some told) new = ⊤

-- the list that is reported, if one is reported, is empty
abbrev pub BeginsEmpty : {A : Type 0} → Option (List A) → Type 0
BeginsEmpty None = ⊤
BeginsEmpty (Some told) = told ≡ []

-- what is reported once these have come behind the list; an object that tells nothing goes on so
abbrev pub grown : {A : Type 0} → Option (List A) → List A → Option (List A)
grown None more = None
grown (Some told) more = Some (told ++ more)
