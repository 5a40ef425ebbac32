-- What `async` tells of its program.
use Rattle.std.specs.Prelude.{◌≡◌, ◌≢◌, ℕ, List, [], Ok, Err}
use Rattle.dp_async.specs.declared.service.AsyncServed.{AsyncServed}
use Rattle.dp_async.specs.Served.{Input, IsHeard}
use Rattle.dp_async_laws.specs.Delivered.{ReportsRun}
use Rattle.dp_top.specs.Async.{IsServed, judged}
use Rattle.dp_top.specs.Failures.{status_of}
use Rattle.dp_top.specs.Seen.{Seen, changed}
use Rattle.dp_top.specs.Statuses.{memory_status, network_status, output_status}
use Rattle.dp_top.specs.Talk.{EndReport}
use Rattle.dp_words.specs.Words.{Address, Invocation}

-- no output and no link failed, and memory sufficed
abbrev pub IsSound : EndReport → Type 0
IsSound (Ok status) = Unit {0}
IsSound (Err why) =
    (status_of why.0 ≢ output_status) × (status_of why.0 ≢ network_status)
    × (status_of why.0 ≢ memory_status)

-- The session was served whole over what was heard, on the link that was dialled (`IsServed`,
-- `IsHeard`). What it sent, and what its program's own output has, tell the program's run with the
-- writes that were accepted (`ReportsRun`); where there are none, the run that nobody watches. What
-- is reported is how serving it ended.
pub record ShowsHeard (report : EndReport) (address : Address) (key : List ℕ) (ask : Invocation)
    (old new : Seen) : Type 0 where
  pub served : AsyncServed
  pub is : IsServed served address key ask old new
  pub input : Input
  pub whole : IsHeard served is.program ask.bound key input is.attends.input is.sink
      (changed old.out new.out)
  pub run : ReportsRun is.program ask.bound whole.state.writes whole.done whole.ended whole.state
  pub plain : whole.state.writes ≡ []
      → ReportsRun is.program ask.bound [] whole.done whole.ended whole.state
  pub reported : judged ask served ≡ report
