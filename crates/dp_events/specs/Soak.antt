-- Large lists of events, drawn by a generator: eight IDEs, each of which registers a key of its own
-- for several sessions, and so many engines, each of which comes with one of nine keys.
use Rattle.std.specs.Prelude.{ℕ, zero, suc, ◌+◌, ◌*◌, ◌/◌, ◌%◌, ◌^◌, List, [], ◌∷◌, ◌++◌, length, take, drop}
use Rattle.std.specs.Prelude.{codes}
use Rattle.std.specs.Fmt.{decimal}
use Rattle.dp_events.specs.declared.event.Act.{Act}
use Rattle.dp_events.specs.declared.event.Act.TheVariants.{Ide, Engine, Give, Move, Close}
use Rattle.dp_events.specs.declared.event.Event.{Event}

-- ---- draws

-- the state of the generator behind this one, and behind so many draws
unfoldable pub next_state : ℕ → ℕ
next_state state = (state * 6364136223846793005 + 1442695040888963407) % 2 ^ 64

abbrev pub state_after : ℕ → ℕ → ℕ
state_after zero state = state
state_after (suc draws) state = state_after draws (next_state state)

-- a number below this one: what is drawn in this state
unfoldable pub drawn : ℕ → ℕ → ℕ
drawn below state = next_state state / 2 ^ 33 % below

-- ---- IDEs

abbrev pub on : ℕ → Act → Event
on link act = record { link = link; act = act }

abbrev pub key : ℕ → List ℕ
key number = codes "K" ++ decimal number

-- an IDE connects and asks for its key
abbrev pub registration : ℕ → List Event
registration link =
    on link (Ide (codes "10.0.0." ++ decimal link))
    ∷ on link (Give (codes "proxyinit -p 9000 -k " ++ key link ++ codes " -m 1" ++ 0 ∷ [])) ∷ []

-- so many IDEs, of which the first comes on this link
abbrev pub registrations : ℕ → ℕ → List Event
registrations link zero = []
registrations link (suc count) = registration link ++ registrations (link + 1) count

-- ---- engines

abbrev pub command_name : ℕ → List ℕ
command_name zero = codes "step_into"
command_name (suc zero) = codes "stack_get"
command_name (suc (suc zero)) = codes "context_get"
command_name (suc (suc (suc number))) = codes "run"

abbrev pub command : ℕ → ℕ → List ℕ
command state number =
    command_name (drawn 4 state) ++ codes " -i " ++ decimal number ++ 0 ∷ []

-- the IDE gives these bytes in two pieces
abbrev pub in_two : ℕ → List ℕ → ℕ → List Event
in_two link bytes cut = on link (Give (take cut bytes)) ∷ on link (Give (drop cut bytes)) ∷ []

-- a command, cut before, in or behind it
abbrev pub given_command : ℕ → ℕ → ℕ → List Event
given_command link number state =
    in_two link (command state number)
    (drawn (length (command state number) + 1) (next_state state))

-- so many commands, of which the first has this number
abbrev pub commands : ℕ → ℕ → ℕ → ℕ → List Event
commands link zero number state = []
commands link (suc count) number state =
    given_command link number state ++ commands link count (number + 1) (state_after 2 state)

-- what is read of the engine, at the last all that it has sent; and the link closes
abbrev pub last_reads : ℕ → ℕ → List Event
last_reads link state =
    on link (Move (1 + drawn 4000 state)) ∷ on link (Move 4294967295) ∷ on link Close ∷ []

-- an engine comes with a key, is given at most three commands, and is read
abbrev pub session : ℕ → ℕ → List Event
session link state =
    let count = drawn 4 (next_state state) in
    on link (Engine (key (1 + drawn 9 state))) ∷ []
    ++ commands link count 1 (state_after 2 state)
    ++ last_reads link (state_after (2 * count) (state_after 2 state))

-- the state behind its draws
abbrev pub behind_session : ℕ → ℕ
behind_session state =
    next_state (state_after (2 * drawn 4 (next_state state)) (state_after 2 state))

-- so many engines, of which the first comes on this link
abbrev pub sessions : ℕ → ℕ → ℕ → List Event
sessions link zero state = []
sessions link (suc count) state =
    session link state ++ sessions (link + 1) count (behind_session state)

-- ---- all events

-- the most engines
abbrev pub soak_limit : ℕ
soak_limit = 10000

abbrev pub soak : ℕ → ℕ → List Event
soak count seed = registrations 1 8 ++ sessions 9 count seed
