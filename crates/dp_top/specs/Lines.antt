-- What scripts and lists of events have alike: their limit, and why a file is none.
use Rattle.std.specs.Prelude.{◌≡◌, ◌⊎◌, ℕ, ◌<◌, ◌≤◌, List, [], length}
use Rattle.dp_outside.specs.Causes.{Rose}
use Rattle.dp_outside.specs.Files.{Fetches, Lacks}
use Rattle.dp_program.specs.Programs.{Files}
use Rattle.dp_top.specs.declared.failures.Failure.{Failure}
use Rattle.dp_top.specs.declared.failures.Failure.TheVariants as failure

-- the most bytes of a script, and of a list of events
abbrev pub lines_limit : ℕ
lines_limit = 1048576

-- Where bytes are none, by what their first bad line is: that line, or 0 if they are too long.
abbrev pub IsBadAt : (List ℕ → ℕ → Type 0) → List ℕ → ℕ → Type 0
IsBadAt first content line =
    ((line ≡ 0) × (lines_limit < length content))
    ⊎ ((length content ≤ lines_limit) × first content line)

-- what the file has is none
pub record IsBadFile
    (first : List ℕ → ℕ → Type 0) (files : Files) (name : List ℕ) (line : ℕ)
    : Type 0 where
  pub content : List ℕ
  pub fetched : Fetches files name lines_limit content
  pub bad : IsBadAt first content line

-- there is none: the shelf failed, lacks it, or what it has is none
abbrev pub Unread : (List ℕ → ℕ → Type 0)
    → Failure → List ℕ → List ℕ → Files → ℕ → ℕ → Type 0
Unread first failure.ShelfFailed name file files before after = (name ≡ file) × Rose before after
Unread first failure.NoFile name file files before after = (name ≡ file) × Lacks files file
Unread first (failure.Script line) name file files before after =
    (name ≡ []) × IsBadFile first files file line
Unread first other name file files before after = ⊥
