-- What a machine lends.
use Rattle.std.specs.Prelude.{[]}
use Rattle.std.specs.Borrow.{Fml, Lends, MutBor}
use mir.Syntax.{named}
use Rattle.dp_state.specs.declared.state.State.{State}
use Rattle.dp_state.specs.contracts.state.State as state
use Rattle.dp_step.specs.declared.machine.Machine.{Machine}
use Rattle.dp_step.specs.contracts.machine.Machine.{the_row}

-- once the borrow is over, the machine is as it was, with the state that is left behind r
abbrev pub LendsState : MutBor Machine → MutBor State → Fml
LendsState m r =
    Lends (the_row (record { mir = named 1; lft = [] })) state.the_row m r
    (λ s. record m.now { state = s })
