-- The value of an expression that changes nothing.
use Rattle.std.specs.Prelude.{◌≡◌, Option, Some, None}
use Rattle.dp_tree.specs.declared.bundle.Bundle.{Bundle}
use Rattle.dp_state.specs.declared.moments.FatalKind.{FatalKind}
use Rattle.dp_state.specs.declared.state.State.{State}
use Rattle.dp_tree.specs.declared.tree.Expression.{Expression}
use Rattle.dp_value.specs.declared.value.Value.{Value}
use Rattle.dp_actions.specs.Expressions.{evaluation}
use Rattle.dp_actions.specs.Run.{Done, fatal}
use Rattle.dp_meaning.specs.Writes.{evaluation_setting}

-- its evaluation in a state gives this value, or is fatal, at once, with no moment, and leaves the
-- state as it is
abbrev pub IsValueIn : Bundle → Expression → State → Option Value → Type 0
IsValueIn bundle e s (Some v) = evaluation e (evaluation_setting bundle) s ≡ Done v s
IsValueIn bundle e s None =
    (kind : FatalKind) × (evaluation e (evaluation_setting bundle) s ≡ fatal kind s)
