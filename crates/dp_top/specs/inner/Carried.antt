-- What carrying out a command came to, by what the objects tell before and after.
use Rattle.std.specs.Prelude.{◌≡◌, ◌≤◌, ℕ, false, List, Some, Result, IfOk, MatchResult}
use Rattle.dp_words.specs.Words.{Invocation, Task, replay, invocation_in, uses_shelf, uses_spawner}
use Rattle.dp_top.specs.declared.failures.Refused.{Refused}
use Rattle.dp_top.specs.Seen.{Seen}
use Rattle.dp_top.specs.Statuses.{exit_limit}
use Rattle.dp_top.specs.Tasks.{Caused, Does, IsFetchedFor}
use Rattle.dp_top.specs.inner.Completeness.{AreComplete, AreCompleteWith}
use Rattle.dp_top.specs.inner.Kept.{Continues}

pub record IsCarriedOut (result : Result ℕ Refused) (task : Task) (old new : Seen) : Type 0 where
  pub ends : MatchResult result (λ status. Does status task old new)
      (λ why. Caused why.failure why.name.now task old new)
  pub status : IfOk result (λ status. status ≤ exit_limit)
  -- Files that make a program are no bad source, and those that make none are one, unless the shelf
  -- failed.
  pub held : (ask : Invocation) → invocation_in task ≡ Some ask → AreComplete ask result old new
  -- Likewise of a list of events, where it is one.
  pub replay_held : (events : List ℕ) (ask : Invocation) → task ≡ replay events ask
      → AreCompleteWith events ask result old new
  pub unshelved : uses_shelf task ≡ false → new.shelf ≡ old.shelf
  pub unspawned : uses_spawner task ≡ false → new.spawner ≡ old.spawner
  pub fetched : IsFetchedFor task old.shelf.fetched new.shelf.fetched
  pub goes_on : Continues old new
