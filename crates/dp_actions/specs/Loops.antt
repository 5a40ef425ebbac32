-- What loops do. Each turn of one but `foreach` has a moment, so a loop of more turns than a run
-- may have moments is over by the bound. Source: the PHP manual, "Control Structures".
use Rattle.std.specs.Prelude.{ℕ, zero, suc, ◌-◌, nat_le, Bool, true, false, if◌then◌else◌, List, [], ◌∷◌, length, slice_get, Option, Some, None}
use Rattle.std.specs.Option.{option_map_or}
use Rattle.dp_value.specs.declared.key.Key.{Key}
use Rattle.dp_value.specs.declared.value.Value.{Value}
use Rattle.dp_value.specs.declared.value.Value.TheVariants.{Null, Bool as Truth, Int, Text, Array}
use Rattle.dp_value.specs.Data.{Data, data_of_key}
use Rattle.dp_value.specs.Value.{value_of}
use Rattle.dp_tree.specs.declared.tree.Binding.{Binding}
use Rattle.dp_state.specs.declared.moments.MomentKind.TheVariants.{Place}
use Rattle.dp_state.specs.declared.moments.Outcome.TheVariants.{Bound}
use Rattle.dp_state.specs.declared.state.State.{State}
use Rattle.dp_state.specs.Places.{assigned}
use Rattle.dp_actions.specs.declared.signal.Signal.{Signal}
use Rattle.dp_actions.specs.declared.signal.Signal.TheVariants.{Next, Break, Continue, Return}
use Rattle.dp_actions.specs.declared.turns.LoopStep.{LoopStep}
use Rattle.dp_actions.specs.declared.turns.LoopStep.TheVariants as turn
use Rattle.dp_actions.specs.Run.{Run, Done, Over, At, taken, ◌>>=◌}
use Rattle.dp_actions.specs.Values.{holds}

-- after the body of a loop: on with the loop, or out of it
abbrev pub after_body : Signal → (State → Run Signal) → State → Run Signal
after_body Next next s = next s
after_body (Break loops) next s = if nat_le loops 1 then Done Next s else Done (Break (loops - 1)) s
after_body (Continue loop) next s = if nat_le loop 1 then next s else Done (Continue (loop - 1)) s
after_body (Return v) next s = Done (Return v) s

-- the same as a value
abbrev pub step_after : Signal → LoopStep
step_after Next = turn.On
step_after (Break loops) = if nat_le loops 1 then turn.Out Next else turn.Out (Break (loops - 1))
step_after (Continue loop) = if nat_le loop 1 then turn.On else turn.Out (Continue (loop - 1))
step_after (Return v) = turn.Out (Return v)

-- whether the last of the values of a test holds; without a test there is no end
abbrev pub last_holds : List Value → Bool
last_holds values = option_map_or holds (slice_get values (length values - 1)) true

-- `while` and `for`: at most so many turns, each with a moment before its test, and with what comes
-- after its body
abbrev pub turns : ℕ → ℕ → (State → Run (List Value)) → (State → Run (List Value))
    → (State → Run Signal) → State → Run Signal
turns zero line test next body s = Over Bound s
turns (suc n) line test next body s =
    At Place line s (λ t. test t >>= λ values u.
    if last_holds values
    then (body u >>= λ g v. after_body g (λ w. next w >>= λ _ x. turns n line test next body x) v)
    else Done Next u)

-- `do`: at most so many turns, each with a moment between its body and its test
abbrev pub do_turns : ℕ → ℕ → (State → Run Value) → (State → Run Signal) → State → Run Signal
do_turns zero line test body s = Over Bound s
do_turns (suc n) line test body s =
    body s >>= λ g t. after_body g
    (λ u. At Place line u (λ v. test v >>= λ tested w.
    if holds tested then do_turns n line test body w else Done Next w)) t

-- the entries that a `foreach` walks
abbrev pub entries : Value → List (Key × Data)
entries Null = []
entries (Truth b) = []
entries (Int n) = []
entries (Text bytes) = []
entries (Array t) = t.pairs

-- a variable gets a value
abbrev pub bind_name : List ℕ → Value → State → Run Unit
bind_name name v s = taken (assigned 0 name [] false v s) s

abbrev pub bind_key : Option (List ℕ) → Key → State → Run Unit
bind_key None key s = Done tt s
bind_key (Some name) key s = bind_name name (value_of (data_of_key key)) s

-- an entry is bound: its value, then its key
abbrev pub bind : Binding → Key × Data → State → Run Unit
bind binding entry s =
    bind_name binding.value (value_of entry.1) s >>= λ _ t. bind_key binding.key entry.0 t

-- `foreach`: a turn for each entry, with a moment before it is bound
abbrev pub each_run : ℕ → Binding → List (Key × Data) → (State → Run Signal) → State → Run Signal
each_run line binding [] body s = Done Next s
each_run line binding (entry ∷ more) body s =
    At Place line s (λ t. bind binding entry t >>= λ _ u. body u
    >>= λ g v. after_body g (each_run line binding more body) v)
