-- What the code tells of a list of events that is replayed.
use Rattle.std.specs.Prelude.{◌≡◌, ◌⊎◌, ℕ, ◌≤◌, List, [], length, Result, Ok, Err, MatchResult}
use Rattle.dp_outside.specs.Changes.{Change}
use Rattle.dp_outside.specs.Files.{Fetches}
use Rattle.dp_bundle.specs.Bundles.{Given}
use Rattle.dp_events.specs.declared.event.Event.{Event}
use Rattle.dp_events.specs.Lists.{IsList}
use Rattle.dp_bundle.specs.declared.errors.BundleError.{BundleError}
use Rattle.dp_program.specs.Programs.{AreFetched, Files, FilesMake}
use Rattle.dp_tree.specs.declared.bundle.Bundle.{Bundle}
use Rattle.dp_world.specs.declared.errors.ReplayError.TheVariants as ends
use Rattle.dp_top.specs.Engines.{engines_of}
use Rattle.dp_world.specs.Replays.{Replays}
use Rattle.dp_top.specs.declared.failures.Failure.TheVariants as failure
use Rattle.dp_top.specs.declared.failures.Refused.{Refused}
use Rattle.dp_top.specs.Replay.{DoesReplay, IsListFile, ReplayFails}
use Rattle.dp_top.specs.Lines.{lines_limit}
use Rattle.dp_top.specs.inner.Completeness.{IsComplete}
use Rattle.dp_words.specs.Words.{Invocation}

-- the bytes are a list of events, and not too many
pub record IsWholeList (bytes : List ℕ) (events : List Event) : Type 0 where
  pub fits : length bytes ≤ lines_limit
  pub is_list : IsList bytes events

-- how a replay of this list over this program ends
abbrev pub EndsOver : Result ℕ Refused → List Event → Bundle → ℕ → Change → Type 0
EndsOver (Ok status) events program bound out =
    (status ≡ 0) × Replays (Ok tt) (engines_of program bound) events out
EndsOver (Err why) events program bound out =
    (why.name.now ≡ []) × (((why.failure ≡ failure.Output)
    × Replays (Err ends.OutFault) (engines_of program bound) events out)
    ⊎ ((why.failure ≡ failure.Memory)
    × Replays (Err ends.Memory) (engines_of program bound) events out))

-- how a replay ends
abbrev pub EndsReplay : Result ℕ Refused → List ℕ → Invocation → Files → ℕ → ℕ → Change → Type 0
EndsReplay result events ask files before after out =
    MatchResult result (λ status. DoesReplay status events ask files out)
    (λ why. ReplayFails why.failure why.name.now events ask files before after out)

-- what was fetched of a shelf that holds the list is no bad source, if the files make a program,
-- and one if they make none
abbrev pub CompleteFetched : Result ℕ Refused → List ℕ → List ℕ → List Given → Invocation → Type 0
CompleteFetched result events content fetched ask =
    (files : Files) (before after : ℕ) → Fetches files events lines_limit content
    → AreFetched files ask.names fetched → (asked : Result Bundle BundleError)
    → FilesMake files ask.names asked → (list : List Event) → IsListFile files events list
    → IsComplete asked result before after

-- likewise of what was fetched of any shelf that holds it
abbrev pub EndsFetched : Result ℕ Refused → List ℕ → List ℕ → List Given → Invocation → Change
    → Type 0
EndsFetched result events content fetched ask out =
    (files : Files) (before after : ℕ) → Fetches files events lines_limit content
    → AreFetched files ask.names fetched → EndsReplay result events ask files before after out
