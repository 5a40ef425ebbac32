-- The bodies of functions and files, what they give, and what is left where they are done.
use Rattle.std.specs.Prelude.{ℕ, pos, List, [], slice_get}
use Rattle.std.specs.Option.{option_map_or}
use Rattle.dp_tree.specs.declared.tree.Statement.{Statement}
use Rattle.dp_tree.specs.declared.bundle.Bundle.{Bundle}
use Rattle.dp_state.specs.declared.moments.MomentKind.TheVariants.{Leave}
use Rattle.dp_state.specs.declared.state.State.{State}
use Rattle.dp_state.specs.States.{left, line_of}
use Rattle.dp_value.specs.declared.value.Value.{Value}
use Rattle.dp_value.specs.declared.value.Value.TheVariants.{Null, Int}
use Rattle.dp_actions.specs.declared.signal.Signal.{Signal}
use Rattle.dp_actions.specs.declared.signal.Signal.TheVariants.{Next, Break, Continue, Return}
use Rattle.dp_actions.specs.Run.{Run, Done, At}

-- what a body gives: its return value, or this where it has none
abbrev pub returned : Value → Signal → Value
returned none Next = none
returned none (Break loops) = none
returned none (Continue loop) = none
returned none (Return v) = v

-- the statements of the file of this number
abbrev pub statements_of : Bundle → ℕ → List Statement
statements_of bundle file = option_map_or (λ f. f.tree.body) (slice_get bundle.files file) []

-- what is left of a call that has left: its frame goes, and it gives what its body gave, or null
abbrev pub left_call : Signal → State → Run Value
left_call g s = Done (returned Null g) (left s)

-- a call whose body is done leaves, on the line of its last moment, before its frame goes
abbrev pub leaving : Signal → State → Run Value
leaving g s = At Leave (line_of s) s (left_call g)

-- what is left of an included file that is done: its frame goes, and it gives what its body gave,
-- or 1
abbrev pub left_file : Signal → State → Run Value
left_file g s = Done (returned (Int (pos 1)) g) (left s)
