-- The own variables of a frame, as frames and a state lend them.
use Rattle.std.specs.Prelude.{ℕ, List}
use Rattle.std.specs.Borrow.{Fml, Lends, MutBor}
use Rattle.dp_state.specs.contracts.state.Frames as frames
use Rattle.dp_state.specs.contracts.state.State as state
use Rattle.dp_state.specs.contracts.vars.Vars as vars
use Rattle.dp_state.specs.declared.state.Frame.{Frame}
use Rattle.dp_state.specs.declared.state.State.{State}
use Rattle.dp_state.specs.Places.{with_own, with_vars}
use Rattle.dp_state.specs.Variables.{Variables}

-- the frame at this position ends with the variables that are left
abbrev pub LendsVars : MutBor (List Frame) → ℕ → MutBor Variables → Fml
LendsVars fs at r = Lends frames.the_row vars.the_row fs r (λ vs. with_vars at vs fs.now)

-- the state ends with the variables that are left for the frame at this position
abbrev pub LendsOwn : MutBor State → ℕ → MutBor Variables → Fml
LendsOwn s at r = Lends state.the_row vars.the_row s r (λ vs. with_own at vs s.now)
