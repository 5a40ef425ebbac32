-- What an act on a link leads to, as far as each function comes.
use Rattle.std.specs.Prelude.{◌≡◌, ◌⊎◌, ℕ, true, false, List, [], ◌∷◌, ◌++◌, Option, Some, None, Result, Ok, Err}
use Rattle.std.specs.Prelude.{Contains}
use Rattle.dp_registry.specs.declared.entry.Entry.{Entry}
use Rattle.dp_registry.specs.Journal.{live}
use Rattle.dp_wire.specs.Frames.{has_no_nul}
use Rattle.dp_proxy.specs.declared.input.Hearing.{Hearing}
use Rattle.dp_proxy.specs.declared.input.Hearing.TheVariants.{More, Silence, Asked}
use Rattle.dp_proxy.specs.declared.errors.ProxyError.{ProxyError}
use Rattle.dp_proxy.specs.declared.errors.ProxyError.TheVariants.{BadInit, BadFrame, Memory}
use Rattle.dp_proxy.specs.declared.events.Act.{Act}
use Rattle.dp_proxy.specs.declared.events.Effect.{Effect}
use Rattle.dp_proxy.specs.declared.events.Effect.TheVariants.{Nothing, Admitted}
use Rattle.dp_registry.specs.declared.pass.Pass.{Pass}
use Rattle.dp_lanes.specs.declared.lane.Lane.{Lane}
use Rattle.dp_lanes.specs.declared.lane.LaneKind.TheVariants.{Up, Down}
use Rattle.dp_lanes.specs.Places.{Follows}
use Rattle.dp_proxy.specs.declared.kept.Kept.TheVariants as keep
use Rattle.dp_proxy.specs.declared.kept.Kept.{Kept}
use Rattle.dp_proxy.specs.declared.kept.Step.{Step}
use Rattle.dp_proxy.specs.declared.passes.Passing.{Passing}
use Rattle.dp_proxy.specs.declared.passes.Passing.TheVariants.{Answered, Closed, Broken}
use Rattle.dp_proxy.specs.Links.{passed, ends}
use Rattle.dp_proxy.specs.Pasts.{Link, Asking, Settled, lead, question, listening}
use Rattle.dp_proxy.specs.Places.{BreaksAt}
use Rattle.dp_proxy.specs.Invariant.{IsKept, session_in}
use Rattle.dp_proxy.specs.Steps.{AnswersAt}

-- ---- an IDE that asks

-- whether a command is asked with this act, after these bytes; what is kept then is it
abbrev pub Hears : List ℕ → Act → Hearing → List ℕ → Type 0
Hears heard act More now =
    (question heard act ≡ None) × (has_no_nul now ≡ true)
    × ((host : List ℕ) → listening host heard act ≡ Asking host now)
Hears heard act Silence now =
    (question heard act ≡ None) × ((host : List ℕ) → listening host heard act ≡ Settled host [])
Hears heard act Asked now = question heard act ≡ Some now

-- ---- a session

-- what an act is answered after these
abbrev pub Passes : List Act → Act → Passing → Type 0
Passes acts act (Answered effect) = (passed acts act ≡ Some effect) × (ends acts act ≡ false)
Passes acts act Closed = (passed acts act ≡ Some Nothing) × (ends acts act ≡ true)
Passes acts act (Broken offset) =
    (passed acts act ≡ None) × (ends acts act ≡ true) × BreaksAt (acts ++ act ∷ []) offset

-- ---- one act

-- the journal and what is kept of the link stand for what the act leads to
abbrev pub Moves : List Entry → Link → Act → List Entry → Option Kept → Result Effect ProxyError
    → Type 0
Moves journal link act next kept (Ok effect) =
    (next ≡ (lead journal link act).journal) × IsKept kept (lead journal link act).link
Moves journal link act next kept (Err BadInit) = (next ≡ journal) × (kept ≡ None)
Moves journal link act next kept (Err (BadFrame offset)) =
    (next ≡ (lead journal link act).journal) × IsKept kept (lead journal link act).link
Moves journal link act next kept (Err Memory) = ⊥

pub record Leads (journal : List Entry) (link : Link) (act : Act) (next : List Entry) (step : Step)
    : Type 0 where
  pub answers : AnswersAt journal link act step.answer
  pub moves : Moves journal link act next step.kept step.answer

-- each live session but the one that was kept is still live
abbrev pub LeavesOthers : List Entry → List Entry → Option Kept → Type 0
LeavesOthers journal next kept =
    (session : ℕ) → Contains (live journal) session → (session_in kept ≡ Some session → ⊥)
    → Contains (live next) session

-- the session that is kept is the one that was kept, or was not live
abbrev pub IsOwn : List Entry → Option Kept → Option Kept → Type 0
IsOwn journal kept after =
    (session : ℕ) → session_in after ≡ Some session
    → (session_in kept ≡ Some session) ⊎ (Contains (live journal) session → ⊥)

-- the step gives an engine this pass, and lanes in which nothing came
pub record Welcomes (pass : Pass) (step : Step) : Type 0 where
  pub up : Lane
  pub down : Lane
  pub packets : Follows Up up []
  pub commands : Follows Down down []
  pub is : step ≡ record {
    kept = Some (keep.Joined pass up down);
    answer = Ok (Admitted pass.session pass.host pass.port);
  }
