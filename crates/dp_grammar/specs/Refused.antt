-- With which symbol symbols stop being the beginning of what a rule spells.
use Rattle.std.specs.Prelude.{◌≡◌, ℕ, ◌+◌, ◌<◌, ◌≤◌, List, ◌++◌, length, take}
use Rattle.dp_grammar.specs.Rules.{Rule}

-- `rule depth` is what is spelled with at most so many levels of nesting
module _ {T L A : Type 0} (rule : L → Rule T A) where
  -- the symbols begin what is spelled
  abbrev pub IsViable : L → List T → Type 0
  IsViable depth ts = (more : List T) × (a : A) × rule depth (ts ++ more) a

  abbrev pub IsSpelled : L → List T → Type 0
  IsSpelled depth ts = (a : A) × rule depth ts a

  -- The symbols up to and with the one at this place begin nothing that is spelled; at their
  -- number, they are not spelled themselves.
  pub record IsDeadAt (depth : L) (ts : List T) (place : ℕ) : Type 0 where
    pub here : place < length ts → IsViable depth (take (place + 1) ts) → ⊥
    pub end : place ≡ length ts → IsSpelled depth ts → ⊥

  -- the first symbol with which nothing is spelled, however deep it nests
  pub record IsUnexpected (limits : L) (ts : List T) (place : ℕ) : Type 0 where
    pub within : place ≤ length ts
    pub before : IsViable limits (take place ts)
    pub dead : (depth : L) → IsDeadAt depth ts place

  -- the first symbol with which nothing is spelled within the limits of nesting, but something is
  -- beyond them
  pub record IsTooDeep (limits : L) (ts : List T) (place : ℕ) : Type 0 where
    pub within : place < length ts
    pub before : IsViable limits (take place ts)
    pub here : IsViable limits (take (place + 1) ts) → ⊥
    pub beyond : (depth : L) × IsViable depth (take (place + 1) ts)
