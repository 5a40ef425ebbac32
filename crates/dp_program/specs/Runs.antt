-- The run of a program whose files lie on a shelf: what it does, and why it fails.
use Rattle.std.specs.Prelude.{◌≡◌, ℕ, List, Result, Ok, Err, ⊤}
use Rattle.std.specs.Io.KnownBytes.{Appends}
use Rattle.dp_outside.specs.Causes.{Rose}
use Rattle.dp_outside.specs.Changes.{Change, IsUntouched}
use Rattle.dp_outside.specs.Streams.{AppendsFront}
use Rattle.dp_tree.specs.declared.bundle.Bundle.{Bundle}
use Rattle.dp_state.specs.declared.moments.Outcome.{Outcome}
use Rattle.dp_state.specs.declared.moments.Outcome.TheVariants as way
use Rattle.dp_meaning.specs.Trace.{outcome_of, plain}
use Rattle.dp_program.specs.declared.errors.ProgramError.{ProgramError}
use Rattle.dp_program.specs.declared.errors.RunError.{RunError}
use Rattle.dp_program.specs.declared.errors.RunError.TheVariants.{Program, Fatal, Bound, OutFault}
use Rattle.dp_program.specs.declared.errors.RunError.TheVariants.{Memory}
use Rattle.dp_program.specs.Programs.{Files, NamesMake, ProgramCaused}

-- the program of these files ended so, and all that it wrote was put
pub record Ends (outcome : Outcome) (files : Files) (names : List (List ℕ)) (bound : ℕ)
    (out : Change) : Type 0 where
  pub program : Bundle
  pub made : NamesMake files names (Ok program)
  pub is_end : outcome ≡ outcome_of (plain program bound).end
  pub wrote : Appends out.told_before out.told (plain program bound).state.output

-- the program of these files was run, and a front of what it wrote was put
pub record IsCut (files : Files) (names : List (List ℕ)) (bound : ℕ) (out : Change) : Type 0 where
  pub program : Bundle
  pub made : NamesMake files names (Ok program)
  pub wrote : AppendsFront out.told_before out.told (plain program bound).state.output

-- what an end comes to: a status, or why there is none
abbrev pub judged : Outcome → Result ℕ RunError
judged way.Done = Ok 0
judged (way.Exit status) = Ok status
judged (way.Fatal kind file line) = Err (Fatal kind file line)
judged way.Bound = Err Bound

-- it went well: the program ended with this status
pub record Runs (status : ℕ) (files : Files) (names : List (List ℕ)) (bound : ℕ)
    (out : Change) : Type 0 where
  pub outcome : Outcome
  pub ends : Ends outcome files names bound out
  pub is_status : judged outcome ≡ Ok status

-- why the run failed
abbrev pub RunCaused : RunError → Files → ℕ → ℕ → List (List ℕ) → ℕ → Change → Type 0
RunCaused (Program why) files before after names bound out =
    ProgramCaused why files before after names × IsUntouched out
RunCaused (Fatal kind file line) files before after names bound out =
    Ends (way.Fatal kind file line) files names bound out
RunCaused Bound files before after names bound out = Ends way.Bound files names bound out
RunCaused OutFault files before after names bound out =
    IsCut files names bound out × Rose out.faults_before out.faults
RunCaused Memory files before after names bound out = IsUntouched out

-- what a run says of its program: that there was one, or why there was none
abbrev pub of_program : {A : Type 0} → Result A RunError → Result ⊤ ProgramError
of_program (Ok a) = Ok tt
of_program (Err (Program why)) = Err why
of_program (Err (Fatal kind file line)) = Ok tt
of_program (Err Bound) = Ok tt
of_program (Err OutFault) = Ok tt
of_program (Err Memory) = Ok tt
