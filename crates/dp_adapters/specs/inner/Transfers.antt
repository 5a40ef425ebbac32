-- What the adapters ask of std's readers and writers, where these say which bytes they hold.
use Rattle.std.specs.Prelude.{◌≡◌, ◌+◌, ℕ, List, take, ⊤, None, Some}
use Rattle.std.specs.declared.option.Option.{Option}

-- the first limit + 1 bytes of those that the reader had, or all of them where there are fewer
abbrev pub Fronts : Option (List ℕ) → ℕ → List ℕ → Type 0
Fronts None limit bytes = ⊤
Fronts (Some had) limit bytes = bytes ≡ take (limit + 1) had
