-- What a program does, moment by moment. At a moment the state may be changed from outside, so what
-- follows is a function of the state.
use Rattle.std.specs.Prelude.{ℕ, Result, Ok, Err}
use Rattle.dp_state.specs.declared.moments.FatalKind.{FatalKind}
use Rattle.dp_state.specs.declared.moments.MomentKind.{MomentKind}
use Rattle.dp_state.specs.declared.moments.Outcome.{Outcome}
use Rattle.dp_state.specs.declared.moments.Outcome.TheVariants.{Fatal}
use Rattle.dp_state.specs.declared.state.State.{State}
use Rattle.dp_state.specs.States.{file_of, line_of}

pub data Run (A : Type 0) : Type 0 where
  -- it is finished, and gives this
  Done : A → State → Run A
  -- the whole program is over
  Over : Outcome → State → Run A
  -- a moment of this kind comes, on this line of the top frame; then it goes on
  At : MomentKind → ℕ → State → (State → Run A) → Run A

-- one after the other
unfoldable pub and_then : {A B : Type 0} → Run A → (A → State → Run B) → Run B
and_then (Done a s) next = next a s
and_then (Over outcome s) next = Over outcome s
and_then (At kind line s go) next = At kind line s (λ t. and_then (go t) next)

infixr 10 ◌>>=◌
abbrev pub ◌>>=◌ : {A B : Type 0} → Run A → (A → State → Run B) → Run B
run >>= next = and_then run next

-- the value of a part is given up
abbrev pub given_up : {A : Type 0} → A → State → Run Unit
given_up a s = Done tt s

-- a fatal fault, in the file and on the line of the top frame
abbrev pub fatal : {A : Type 0} → FatalKind → State → Run A
fatal kind s = Over (Fatal kind (file_of s) (line_of s)) s

-- a step on a state; where it is refused, the fault is in the state before it
abbrev pub taken : Result State FatalKind → State → Run Unit
taken (Ok t) s = Done tt t
taken (Err kind) s = fatal kind s
