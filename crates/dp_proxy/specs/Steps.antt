-- What one step of a proxy answers, by all events before it.
use Rattle.std.specs.Prelude.{◌≡◌, ℕ, List, [], ◌∷◌, ◌++◌, Some, None, Result, Ok, Err}
use Rattle.dp_registry.specs.declared.entry.Entry.{Entry}
use Rattle.dp_outside.specs.Names.{IsHost, IsKey}
use Rattle.dp_proxy.specs.declared.events.Act.{Act}
use Rattle.dp_proxy.specs.declared.events.Act.TheVariants.{Ide, Engine}
use Rattle.dp_proxy.specs.declared.events.Effect.{Effect}
use Rattle.dp_proxy.specs.declared.events.Event.{Event}
use Rattle.dp_proxy.specs.declared.errors.ProxyError.{ProxyError}
use Rattle.dp_proxy.specs.declared.errors.ProxyError.TheVariants.{BadInit, BadFrame, Memory}
use Rattle.dp_proxy.specs.Places.{BreaksAt}
use Rattle.dp_proxy.specs.Pasts.{Link, New, Joined, Past, lead}

-- the condition of a step: an IDE has a host
abbrev pub HasHost : Act → Type 0
HasHost (Ide host) = IsHost host
HasHost act = Unit {0}

-- an engine that comes has a key
abbrev pub ComesWithKey : Link → Act → Type 0
ComesWithKey New (Engine key) = IsKey key
ComesWithKey link act = Unit {0}

-- the acts of a session with this one; one that closes brings no bytes
abbrev pub acts_with : Link → Act → List Act
acts_with (Joined key pass acts) act = acts ++ act ∷ []
acts_with link act = []

-- Each answer has its cause: an effect is that of the table; an engine has no key exactly where it
-- is answered BadInit; a link is broken exactly where it is answered BadFrame, with the place.
abbrev pub AnswersAt : List Entry → Link → Act → Result Effect ProxyError → Type 0
AnswersAt journal link act (Ok effect) =
    ComesWithKey link act × ((lead journal link act).effect ≡ Some effect)
AnswersAt journal link act (Err BadInit) = ComesWithKey link act → ⊥
AnswersAt journal link act (Err (BadFrame offset)) =
    ComesWithKey link act × ((lead journal link act).effect ≡ None)
    × BreaksAt (acts_with link act) offset
AnswersAt journal link act (Err Memory) = Unit {0}

abbrev pub Answers : Past → ℕ → Act → Result Effect ProxyError → Type 0
Answers past number act answer = AnswersAt past.journal (past.link number) act answer

-- the events that count after a step: an engine without a key is none
abbrev pub counted : List Event → Event → Result Effect ProxyError → List Event
counted events event (Err BadInit) = events
counted events event answer = events ++ event ∷ []
